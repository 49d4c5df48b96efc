use Rattle.std.proofs.Common.{[], ap, ◌∙◌}
use Rattle.qls_meaning.specs.Replay.{entries_after}
use Rattle.qls_look.proofs.Lists.{whats}
use Rattle.qls_look.proofs.Whole.{entries_told}
use Rattle.qls_look.proofs.list.entries_in.Goals as goal

pub returns-clause-says : goal.returns-clause-says
returns-clause-says g c =
    entries_told (g.S.Site.told c.args.site.now) c.args.files c.in_ok-reads.field-0-0 c.in_ok-reads.reads c.in_ok-entries_left.field-0 c.in_ok-reads.ensures.says
    (c.in_ok-entries_left.ensures.left ∙ ap (λ gs. entries_after (whats gs) []) c.as_slice.ensures.same)
