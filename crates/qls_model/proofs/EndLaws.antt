-- The messages that a verdict leaves are those whose status stays, each with the status that is left.
use Rattle.std.proofs.Common.{◌≡◌, ℕ, cond, List, [], ◌∷◌, map, filter, Option, Some, None, is_some, refl, sym, ap, ◌∙◌}
use Rattle.std.specs.List.{cons_option}
use Rattle.std.specs.Option.{option_map}
use Rattle.qls_model.specs.Messages.{left_by, after_coming, after_going}
use Rattle.qls_model.specs.Ends.{coming_left, going_left, status_left, with_status, with_status_left, stays, messages_left}
use Rattle.qls_model.specs.declared.machine.Status.{Status}
use Rattle.qls_model.specs.declared.machine.Status.TheVariants.{Ready, Coming, Going}
use Rattle.qls_model.specs.declared.machine.Message.{Message}
use Rattle.qls_model.specs.declared.machine.Verdict.{Verdict}
use Rattle.qls_model.specs.declared.machine.Verdict.TheVariants.{Commit, Abort, Doubt}

abbrev renewed : Message → Option Status → Option Message
renewed m o = option_map (λ s. record m { status = s }) o

left_is : (v : List ℕ → Verdict) (m : Message) (s : Status) → m.status ≡ s → left_by v s m ≡ renewed m (status_left v s)
left_is v m Ready e = λ i. Some (record m { status = e i })
left_is v m (Coming x) e =
    elim (v x) as (λ d. after_coming d m ≡ renewed m (coming_left x d)) [
      | Commit ↦ refl
      | Abort ↦ refl
      | Doubt ↦ λ i. Some (record m { status = e i })
    ]
left_is v m (Going x) e =
    elim (v x) as (λ d. after_going d m ≡ renewed m (going_left x d)) [
      | Commit ↦ refl
      | Abort ↦ refl
      | Doubt ↦ λ i. Some (record m { status = e i })
    ]

one_more : (f : Message → Message) (m : Message) (ms rest : List Message) (o : Option Status) → f m ≡ with_status m o → map f ms ≡ rest
    → map f (cond (is_some o) (m ∷ ms) ms) ≡ cons_option (renewed m o) rest
one_more f m ms rest None head h = h
one_more f m ms rest (Some s) head h = λ i. head i ∷ h i

pub messages_left-staying : (v : List ℕ → Verdict) (ms : List Message) → map (with_status_left v) (filter (stays v) ms) ≡ messages_left v ms
messages_left-staying v [] = refl
messages_left-staying v (m ∷ ms) =
    one_more (with_status_left v) m (filter (stays v) ms) (messages_left v ms) (status_left v m.status) refl (messages_left-staying v ms)
    ∙ sym (ap (λ o. cons_option o (messages_left v ms)) (left_is v m m.status refl))
