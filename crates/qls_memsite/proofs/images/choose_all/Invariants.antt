use Rattle.std.proofs.Common.{◌≡◌, drop, map}
use Rattle.qls_site.specs.Chosen.{all_chosen, all_sectors}
use Rattle.qls_memsite.specs.Scenes.{write_of}
use Rattle.qls_memsite.proofs.images.choose_all.Given as goal

abbrev pub invariant-loop-write : goal.invariant-loop-write
invariant-loop-write l = record {
  file : all_chosen l.rest (map write_of (drop l.write-index l.pending)) l.file.items ≡ all_chosen l.choice (map write_of l.pending) l.initial.file.items;
  rest : drop (all_sectors (map write_of (drop l.write-index l.pending))) l.rest ≡ drop (all_sectors (map write_of l.pending)) l.choice;
}
