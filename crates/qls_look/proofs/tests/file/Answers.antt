use Rattle.std.proofs.Common.{◌≡◌, ℕ, ◌<◌, ◌^◌, true, ◌&&◌, ltb, List, arith}
use Rattle.std.proofs.lemmas.Bool.Decides.{nat_tests}
use Rattle.qls_model.specs.Limits.{is_partition, is_kib}
use Rattle.qls_filehdr.specs.declared.JournalKind.{JournalKind}
use Rattle.qls_filehdr.specs.Limits.{is_first_place, is_counter, is_name, is_legal_header}
use Rattle.qls_look.proofs.tests.file.Goals as goal

less : (m n : ℕ) → m < n → ltb m n ≡ true
less m n l = grind (arith, nat_tests)

legal : (id rid : ℕ) (kind : JournalKind) (name : List ℕ) → id < 2 ^ 64 → rid < 2 ^ 62 → is_name kind name ≡ true
    → is_legal_header (record { serial = id; rid = rid; part = 1; kib = 4; first = 4096; number = 3; epoch = 2; kind = kind; name = name }) ≡ true
legal id rid kind name a b n = λ k. less id (2 ^ 64) a k && less rid (2 ^ 62) b k && is_partition 1 && is_kib 4 && is_first_place 4 4096 && is_counter 3 && is_counter 2 && n k

pub encode_into-requires-clause-legal : goal.encode_into-requires-clause-legal
encode_into-requires-clause-legal c = legal c.args.id c.args.rids.0 c.args.kind c.args.name (omega (arith, c.ranges.id.fits)) c.requires.rid c.requires.name
