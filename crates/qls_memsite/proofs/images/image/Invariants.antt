use Rattle.std.proofs.Common.{◌≡◌, ◌++◌, drop, length}
use Rattle.qls_site.specs.Chosen.{chosen_image}
use Rattle.qls_memsite.specs.Scenes.{disk_of}
use Rattle.qls_memsite.proofs.images.image.Given as goal

abbrev pub invariant-loop-file : goal.invariant-loop-file
invariant-loop-file l = l.out.items ++ chosen_image l.rest (disk_of (drop (length l.yielded) l.fn.files.items)) ≡ chosen_image l.choice (disk_of l.fn.files.items)
