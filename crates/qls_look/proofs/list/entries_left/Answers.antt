use Rattle.std.proofs.Common.{subst, sym, ◌∙◌}
use Rattle.qls_look.specs.Seen.{XidsRise}
use Rattle.qls_look.proofs.Lists.{whats, entries_rise, all_entries}
use Rattle.qls_look.proofs.list.entries_left.Goals as goal

pub returns-clause-rise : goal.returns-clause-rise
returns-clause-rise c =
    subst XidsRise (sym (c.finish.ensures.entries ∙ all_entries c.args.reads.now c.loop-got.got-index c.loop-got.replay _ c.loop-got-test.false c.loop-got.invariant)) (entries_rise (whats c.args.reads.now))
