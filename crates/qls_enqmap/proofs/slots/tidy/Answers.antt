use Rattle.std.proofs.Common.{◌≡◌, ◌≤◌, length, ap, sym, subst, true, ◌∙◌}
use Rattle.qls_enqmap.specs.Slots.{held_in, occupied, first_of, last_of, all_of, RisesFrom}
use Rattle.qls_enqmap.proofs.Ends.{held-closed, rises-closed, first-closed, last-closed, shorter-closed, all-closed}
use Rattle.qls_enqmap.proofs.Blocking.{counts_same}
use Rattle.qls_enqmap.proofs.slots.tidy.Goals as goal

pub returns-then-were-count-clause-held : goal.returns-then-were-count-clause-held
returns-then-were-count-clause-held c = ap held_in c.close_up.ensures.closed ∙ held-closed c.trim_end.new.slots.entries ∙ c.trim_end.ensures.held

pub returns-then-were-count-clause-rises : goal.returns-then-were-count-clause-rises
returns-then-were-count-clause-rises c = λ r. subst (λ es. RisesFrom 0 es) (sym c.close_up.ensures.closed) (rises-closed 0 c.trim_end.new.slots.entries (c.trim_end.ensures.rises r))

pub returns-then-were-count-clause-first : goal.returns-then-were-count-clause-first
returns-then-were-count-clause-first c = subst (λ es. first_of (occupied es) ≡ true) (sym c.close_up.ensures.closed) (first-closed c.trim_end.new.slots.entries)

pub returns-then-were-count-clause-last : goal.returns-then-were-count-clause-last
returns-then-were-count-clause-last c = subst (λ es. last_of (occupied es) ≡ true) (sym c.close_up.ensures.closed) (last-closed c.trim_end.new.slots.entries)

pub returns-then-were-count-clause-counted : goal.returns-then-were-count-clause-counted
returns-then-were-count-clause-counted c = λ a.
    let es = c.trim_end.new.slots.entries in
    let us = c.close_up.new.slots.entries in
    let b = counts_same c.args.blocks.now c.args.slots.now.entries es a c.trim_end.ensures.before c.trim_end.ensures.shorter in
    c.count_all.ensures.counted es us b (sym c.len-were.ensures.len) (subst (λ x. length x ≤ length es) (sym c.close_up.ensures.closed) (shorter-closed es)) (sym c.len.ensures.len)
    (subst (λ x. all_of (occupied x) ≡ true) (sym c.close_up.ensures.closed) (all-closed es))
