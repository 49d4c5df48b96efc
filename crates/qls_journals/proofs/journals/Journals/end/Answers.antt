use Rattle.std.proofs.Common.{◌≡◌, ◌∷◌, ℕ, List, [], ap, ◌∙◌, ◌++◌}
use Rattle.qls_journals.specs.Answers.{is_exact}
use Rattle.qls_journals.proofs.ListEnds.{ends_one, one_is_distinct, not_ok}
use Rattle.qls_journals.proofs.Resting.{drawn_none, leaves_none, writes_none}
use Rattle.qls_journals.proofs.journals.Journals.end.Goals as goal

pub returns-in_err-push-clause-drawn : goal.returns-in_err-push-clause-drawn
returns-in_err-push-clause-drawn g c =
    drawn_none (is_exact c.from_residual.result) (g.S.Site.told c.args.site.now) (g.N.Serials.drawn c.args.serials.now)

pub returns-in_err-push-clause-leaves : goal.returns-in_err-push-clause-leaves
returns-in_err-push-clause-leaves g c =
    leaves_none c.args.self (g.S.Site.told c.args.site.now)

pub returns-in_err-push-clause-writes : goal.returns-in_err-push-clause-writes
returns-in_err-push-clause-writes g c =
    writes_none c.from_residual.result (λ x. x) c.args.self (g.S.Site.told c.args.site.now) (not_ok (λ x. x ≡ c.args.self) c.from_residual.result c.from_residual.ensures.0)

pub end_all-requires-clause-once : goal.end_all-requires-clause-once
end_all-requires-clause-once g c =
    let one : c.push.new.self ≡ c.args.xid ∷ [] = c.in_ok-push.ensures.pushed ∙ ap (λ (xs : List (List ℕ)). xs ++ c.args.xid ∷ []) c.new-xids.ensures.empty in
    one_is_distinct c.args.xid c.push.new.self one

pub returns-clause-entries : goal.returns-clause-entries
returns-clause-entries g c =
    let one : c.push.new.self ≡ c.args.xid ∷ [] = c.in_ok-push.ensures.pushed ∙ ap (λ (xs : List (List ℕ)). xs ++ c.args.xid ∷ []) c.new-xids.ensures.empty in
    ends_one c.end_all.result c.args.xid c.push.new.self c.args.self.list.entries one c.end_all.ensures.entries
