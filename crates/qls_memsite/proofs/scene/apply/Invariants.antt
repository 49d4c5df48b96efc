use Rattle.std.proofs.Common.{◌≡◌, drop, map}
use Rattle.qls_site.specs.Disk.{all_written}
use Rattle.qls_memsite.specs.Scenes.{write_of}
use Rattle.qls_memsite.proofs.scene.apply.Given as goal

abbrev pub invariant-loop-write : goal.invariant-loop-write
invariant-loop-write l = all_written (map write_of (drop l.write-index l.pending)) l.bytes.items ≡ all_written (map write_of l.pending) l.initial.bytes.items
