use Rattle.std.proofs.Common.{true, refl}
use Rattle.qls_model.specs.declared.machine.Reply.TheVariants.{Refused}
use Rattle.qls_model.specs.declared.machine.Refusal.TheVariants as refusal
use Rattle.qls_pool.proofs.Serials.{drawn_none}
use Rattle.qls_top.specs.Serials.{is_exact}
use Rattle.qls_top.proofs.Chains.{tells_none}
use Rattle.qls_top.proofs.LineDiscipline.{none_leaves, none_written_err}
use Rattle.qls_top.proofs.Lines.{none_written}
use Rattle.qls_top.proofs.line.reply_to_line.Goals as goal

pub returns-in-Bad-clause-writes : goal.returns-in-Bad-clause-writes
returns-in-Bad-clause-writes g c = none_written c.args.store (Refused refusal.Line) (g.S.Site.told c.args.site.now)

pub returns-in-Bad-clause-drawn : goal.returns-in-Bad-clause-drawn
returns-in-Bad-clause-drawn g c = drawn_none true _ _ _ _ (tells_none (g.S.Site.told c.args.site.now)) refl

pub returns-in-Bad-clause-leaves : goal.returns-in-Bad-clause-leaves
returns-in-Bad-clause-leaves g c = none_leaves c.args.store (g.S.Site.told c.args.site.now)

pub returns-in_err-parse_line-clause-drawn : goal.returns-in_err-parse_line-clause-drawn
returns-in_err-parse_line-clause-drawn g c = drawn_none (is_exact c.from_residual.result) _ _ _ _ (tells_none (g.S.Site.told c.args.site.now)) refl

pub returns-in_err-parse_line-clause-leaves : goal.returns-in_err-parse_line-clause-leaves
returns-in_err-parse_line-clause-leaves g c = none_leaves c.args.store (g.S.Site.told c.args.site.now)

pub returns-in_err-parse_line-clause-writes : goal.returns-in_err-parse_line-clause-writes
returns-in_err-parse_line-clause-writes g c = none_written_err c.from_residual.result (λ r. r.0.journals) c.args.store (g.S.Site.told c.args.site.now) c.from_residual.ensures.0
