use Rattle.std.proofs.Common.{◌≡◌, take, map}
use Rattle.qls_memsite.specs.Seen.{listed_seen}
use Rattle.qls_memsite.proofs.files.list.Given as goal

abbrev pub invariant-loop-file : goal.invariant-loop-file
invariant-loop-file l = l.listed ≡ map listed_seen (take l.file-index l.files)
