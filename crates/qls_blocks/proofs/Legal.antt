-- The records of a batch are legal, and each is that of its entry.
use Rattle.std.proofs.Common.{◌≡◌, ℕ, zero, suc, List, [], ◌∷◌, map, length, Option, Some, None, refl, sym, ap, ◌∙◌, IsTrue}
use Rattle.std.specs.Prelude.{slice_get}
use Rattle.std.specs.List.{AllByRecursion}
use Rattle.qls_shape.specs.declared.Version.TheVariants.{Two}
use Rattle.qls_record.specs.Record.{Record, is_legal}
use Rattle.qls_record.proofs.Assembled.{record_is_legal}
use Rattle.qls_blocks.specs.declared.entry.Entry.{Entry}
use Rattle.qls_blocks.specs.Entries.{record_of}

pub all_legal : (es : List Entry) → AllByRecursion (λ r. IsTrue (is_legal Two r)) (map record_of es)
all_legal [] = tt
all_legal (e ∷ es) = (record_is_legal e.head e.xid e.body e.legal e.xid_size e.body_size, all_legal es)
