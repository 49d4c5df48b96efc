use Rattle.std.proofs.Common.{subst, ◌∙◌, IsPermutation}
use Rattle.qls_replay.proofs.Placing.{sorted}
use Rattle.qls_replay.proofs.list.ListReplay.finish.Goals as goal

pub returns : goal.returns
returns c = record {
  entries =
      let ps = c.self.inside.entries.entries in
      let es = c.sort.new.list.items in
      c.from_vec.ensures.same
      ∙ sorted ps es c.listed-list.ensures.once (subst (λ l. IsPermutation l es) c.listed-list.ensures.listed c.sort.ensures.same) c.sort.ensures.sorted
      ∙ c.self.view_is;
}
