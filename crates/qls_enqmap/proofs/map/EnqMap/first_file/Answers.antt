use Rattle.std.proofs.Common.{ap, ◌∙◌}
use Rattle.qls_enqmap.specs.Records.{least_file}
use Rattle.qls_enqmap.proofs.Counted.{least_at}
use Rattle.qls_enqmap.proofs.map.EnqMap.first_file.Goals as goal

pub returns-then-self : goal.returns-then-self
returns-then-self c = record {
  least = c.file_at_place.ensures.file
      ∙ least_at c.self.inside.slots.entries c.self.inside.start c.self.invariant.holes c.self.invariant.first (c.self.invariant.files c.if-self.true)
      ∙ ap least_file c.self.view_is;
}
