use Rattle.std.proofs.Common.{◌≡◌, ◌+◌, drop}
use Rattle.qls_memsite.specs.Scenes.{disk_of, place_in}
use Rattle.qls_memsite.proofs.scene.place_of.Given as goal

abbrev pub invariant-loop-place : goal.invariant-loop-place
invariant-loop-place l = place_in l.id (disk_of l.files) ≡ l.place + place_in l.id (disk_of (drop l.place l.files))
