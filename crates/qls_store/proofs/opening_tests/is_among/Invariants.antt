use Rattle.std.proofs.Common.{◌≡◌, None, drop}
use Rattle.qls_memsite.specs.Seen.{seen_of}
use Rattle.qls_store.proofs.opening_tests.is_among.Given as goal

abbrev pub invariant-loop-file : goal.invariant-loop-file
invariant-loop-file l = seen_of l.id (drop l.file-index l.files) ≡ None → seen_of l.id l.files ≡ None
