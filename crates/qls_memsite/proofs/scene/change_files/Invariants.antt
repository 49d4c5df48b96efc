use Rattle.std.proofs.Common.{◌≡◌}
use Rattle.qls_memsite.specs.Scenes.{changed_by, disk_of}
use Rattle.qls_memsite.proofs.Lists.{first_mapped}
use Rattle.qls_memsite.proofs.scene.change_files.Given as goal

abbrev pub invariant-loop-file : goal.invariant-loop-file
invariant-loop-file l = disk_of l.files ≡ first_mapped (changed_by l.call) l.file-index (disk_of l.initial.files)
