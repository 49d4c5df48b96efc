use Rattle.std.proofs.Common.{slice_get, sym, ap, ◌∙◌}
use Rattle.qls_enqmap.proofs.Counted.{at_place}
use Rattle.qls_enqmap.proofs.map.EnqMap.at.Goals as goal

pub returns : goal.returns
returns c = record {
  there = c.held_at_place.ensures.there
      ∙ sym (at_place c.self.inside.slots.entries c.place_of-place.result c.args.at c.place_of-place.ensures.place.before c.place_of-place.ensures.place.first)
      ∙ ap (λ hs. slice_get hs c.args.at) c.self.view_is;
}
