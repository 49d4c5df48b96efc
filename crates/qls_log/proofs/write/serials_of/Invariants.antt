use Rattle.std.proofs.Common.{◌≡◌, ◌++◌, drop}
use Rattle.qls_log.specs.Logs.{serials}
use Rattle.qls_log.proofs.write.serials_of.Given as goal

-- those so far, and those to come
abbrev pub invariant-loop-file : goal.invariant-loop-file
invariant-loop-file l = l.list ++ serials (drop l.file-index l.files) ≡ serials l.files
