-- What an unlock or a removal leaves, whether the record is there or not.
use Rattle.std.proofs.Common.{◌≡◌, ℕ, List, [], ◌∷◌, Option, Some, None, Result, Ok, Err, IfOk, IfErr, refl, sym, ◌∙◌}
use Rattle.qls_model.specs.declared.machine.Status.TheVariants.{Ready}
use Rattle.qls_enqmap.specs.declared.Held.{Held}
use Rattle.qls_enqmap.specs.declared.EnqFault.{EnqFault}
use Rattle.qls_enqmap.specs.Records.{held_at, with_status, without, unlock_answer, removed}
use Rattle.qls_enqmap.proofs.Rising.{status_none}
use Rattle.qls_enqmap.proofs.Writes.{without_none}
use Rattle.qls_txnmap.specs.declared.Op.{Op}
use Rattle.qls_txnmap.specs.Pending.{if_any}

unlocked_by : (o : Option Held) (rid : ℕ) (hs us : List Held) (r : Result (Unit {0}) EnqFault) → o ≡ held_at rid hs → r ≡ unlock_answer o
    → IfOk r (λ _. us ≡ with_status rid Ready hs) → IfErr r (λ _. us ≡ hs) → us ≡ with_status rid Ready hs
unlocked_by None rid hs us (Ok x) e a f g = absurd (cc)
unlocked_by None rid hs us (Err x) e a f g = g ∙ sym (status_none rid Ready hs (sym e))
unlocked_by (Some h) rid hs us (Ok x) e a f g = f
unlocked_by (Some h) rid hs us (Err x) e a f g = absurd (cc)

pub unlocked : (rid : ℕ) (hs us : List Held) (r : Result (Unit {0}) EnqFault) → r ≡ unlock_answer (held_at rid hs)
    → IfOk r (λ _. us ≡ with_status rid Ready hs) → IfErr r (λ _. us ≡ hs) → us ≡ with_status rid Ready hs
unlocked rid hs us r a f g = unlocked_by (held_at rid hs) rid hs us r refl a f g

gone_by : (o : Option Held) (rid : ℕ) (hs us : List Held) (r : Result Held EnqFault) → o ≡ held_at rid hs → r ≡ removed o
    → IfOk r (λ _. us ≡ without rid hs) → IfErr r (λ _. us ≡ hs) → us ≡ without rid hs
gone_by None rid hs us (Ok x) e a f g = absurd (cc)
gone_by None rid hs us (Err x) e a f g = g ∙ sym (without_none rid hs (sym e))
gone_by (Some h) rid hs us (Ok x) e a f g = f
gone_by (Some h) rid hs us (Err x) e a f g = absurd (cc)

pub gone : (rid : ℕ) (hs us : List Held) (r : Result Held EnqFault) → r ≡ removed (held_at rid hs)
    → IfOk r (λ _. us ≡ without rid hs) → IfErr r (λ _. us ≡ hs) → us ≡ without rid hs
gone rid hs us r a f g = gone_by (held_at rid hs) rid hs us r refl a f g

-- ---- what was handed out

pub handed_is : (ops os : List Op) → Some ops ≡ if_any os → ops ≡ os
handed_is ops [] e = absurd (cc)
handed_is ops (o ∷ os) e = let q : ops ≡ o ∷ os = (cc) in q

pub handed_none : (os : List Op) → None ≡ if_any os → [] ≡ os
handed_none [] e = refl
handed_none (o ∷ os) e = absurd (cc)
