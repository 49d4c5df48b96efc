use Rattle.std.proofs.Common.{◌≡◌, take}
use Rattle.qls_site.specs.Disk.{at_rest}
use Rattle.qls_memsite.specs.Scenes.{disk_of}
use Rattle.qls_memsite.proofs.past.at_rest.Given as goal

abbrev pub invariant-loop-file : goal.invariant-loop-file
invariant-loop-file l = disk_of l.files.items ≡ at_rest (take l.file-index l.start)
