use Rattle.std.proofs.Common.{◌≡◌, ◌++◌, ◌∷◌, [], List, Option, None, Some, Result, Ok, option_to_list, sym, ap, ◌∙◌}
use Rattle.std.specs.Result.{result_ok}
use Rattle.qls_enqmap.specs.declared.Held.{Held}
use Rattle.qls_enqmap.specs.declared.EnqFault.{EnqFault}
use Rattle.qls_look.proofs.Settling.{none_first, takes_first}
use Rattle.qls_look.proofs.settle.take_first.Goals as goal

pub returns-in_err-rid-clause-none : goal.returns-in_err-rid-clause-none
returns-in_err-rid-clause-none c = λ e. none_first c.args.held.now c.in_err-rid.ensures.there

handed : (h : Held) (hs new : List Held) (r : Result Held EnqFault) (o : Option Held) → o ≡ result_ok r → (r ≡ Ok h) × (hs ≡ h ∷ new) → hs ≡ option_to_list o ++ new
handed h hs new r o e both = both.1 ∙ ap (λ (p : Option Held). option_to_list p ++ new) (sym (e ∙ ap result_ok both.0))

never : (h : Held) (new : List Held) (r : Result Held EnqFault) (o : Option Held) → o ≡ result_ok r → r ≡ Ok h → o ≡ None → new ≡ []
never h new r o e is n = let found : Some h ≡ None = sym (e ∙ ap result_ok is) ∙ n in absurd (cc)

pub returns-clause-first : goal.returns-clause-first
returns-clause-first c =
    let h = c.in_ok-rid.field-0.now in
    handed h c.args.held.now c.remove.new.self c.remove.result c.ok.result c.ok.ensures.value
    (takes_first c.args.held.now c.remove.new.self h c.remove.result c.in_ok-rid.ensures.there c.requires.rising c.remove.ensures.answer c.remove.ensures.left)

pub returns-clause-none : goal.returns-clause-none
returns-clause-none c =
    let h = c.in_ok-rid.field-0.now in
    never h c.remove.new.self c.remove.result c.ok.result c.ok.ensures.value
    (takes_first c.args.held.now c.remove.new.self h c.remove.result c.in_ok-rid.ensures.there c.requires.rising c.remove.ensures.answer c.remove.ensures.left).0
