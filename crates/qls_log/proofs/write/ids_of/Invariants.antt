use Rattle.std.proofs.Common.{◌≡◌, ◌++◌, drop}
use Rattle.qls_log.specs.Logs.{ids}
use Rattle.qls_log.proofs.write.ids_of.Given as goal

-- those so far, and those to come
abbrev pub invariant-loop-file : goal.invariant-loop-file
invariant-loop-file l = l.list ++ ids (drop l.file-index l.files) ≡ ids l.files
