use Rattle.std.proofs.Common.{◌≡◌, take}
use Rattle.qls_memsite.proofs.memory.copy_files.Given as goal

abbrev pub invariant-loop-file : goal.invariant-loop-file
invariant-loop-file l = l.copied ≡ take l.file-index l.files
