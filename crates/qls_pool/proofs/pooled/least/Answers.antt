use Rattle.std.proofs.Common.{sym, ◌∙◌}
use Rattle.qls_pool.proofs.Order.{none_found, first_found, other_found}
use Rattle.qls_pool.proofs.pooled.least.Goals as goal

pub returns-in_err-found : goal.returns-in_err-found
returns-in_err-found c =
    record { exact = c.from_residual.ensures ∙ none_found c.args.home c.args.files.now c.range.result (c.range.ensures.in_range tt) c.in_err-found.ensures.steps.0 }

pub returns-then-is_in : goal.returns-then-is_in
returns-then-is_in c =
    record { exact = first_found c.args.home c.args.files.now c.range.result c.in_ok-found.found.now _ (c.range.ensures.in_range tt) c.in_ok-found.ensures.steps (sym c.is_in.ensures.exact ∙ c.if-is_in.true) }

pub returns-else-is_in : goal.returns-else-is_in
returns-else-is_in c =
    record { exact = other_found c.args.home c.args.files.now c.range.result c.in_ok-found.found.now _ (c.range.ensures.in_range tt) c.in_ok-found.ensures.steps (sym c.is_in.ensures.exact ∙ c.if-is_in.false) }
