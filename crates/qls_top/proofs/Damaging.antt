-- A run on a damaged store, and an opening that fails: what is answered, and that nothing changes.
use Rattle.std.proofs.Common.{◌≡◌, ℕ, Bool, true, false, List, [], Option, Some, None, IfSome, IsErr, Result, Ok, Err, refl, sym, subst, arith, append-nil}
use Rattle.qls_model.specs.Machine.{MachineState}
use Rattle.qls_site.specs.Disk.{IdsRise, full}
use Rattle.qls_site.specs.Content.{Content, Moment, Tells, OnlyLooks}
use Rattle.qls_site.proofs.Told.{Tells-weaken}
use Rattle.qls_meaning.specs.Damage.{Damage}
use Rattle.qls_meaning.specs.Meaning.{meaning}
use Rattle.qls_pool.specs.Files.{IdsDiffer, OnDisk}
use Rattle.qls_pool.specs.Moments.{Arrives, Passes}
use Rattle.qls_pool.specs.Serials.{DrawsTaken, TakesNone}
use Rattle.qls_pool.proofs.Serials.{drawn_then, drawn_none}
use Rattle.qls_look.specs.declared.fault.OpenFault.{OpenFault}
use Rattle.qls_look.specs.declared.fault.OpenFault.TheVariants as opening
use Rattle.qls_store.specs.Opening.{OpensAs, LooksIfDamaged, is_exact_opening}
use Rattle.qls_store.specs.Stores.{StoreState}
use Rattle.qls_top.specs.declared.fault.Fault.{Fault}
use Rattle.qls_top.specs.declared.fault.Fault.TheVariants as fault
use Rattle.qls_top.specs.Serials.{is_exact}
use Rattle.qls_top.specs.Shows.{OnlyAnswers, OnlyShows, TellsDamage, is_damaged_status, shown_text}
use Rattle.qls_top.specs.Status.{fault_of_opening}
use Rattle.qls_top.specs.Run.{ReadsBytes, ShowsIfDamaged, is_too_long, status_of_result}
use Rattle.qls_top.proofs.Discipline.{SameDisk}
use Rattle.qls_top.proofs.Shown.{looks_again, after_looks, as_before, shows_none, shows_same}
use Rattle.qls_top.proofs.Starting.{Means, differ_of}

-- ---- what the opening says of the start

-- where the files are damaged nothing changed
pub looks_damaged : (damage : Damage) (a b : Option Content) → IfSome a (Means (Err damage)) → Tells LooksIfDamaged a b → Tells OnlyLooks a b
looks_damaged damage None None bad h = tt
looks_damaged damage None (Some y) bad h = absurd h
looks_damaged damage (Some x) None bad h = absurd h
looks_damaged damage (Some x) (Some y) bad h = h damage bad

-- ---- the opening failed otherwise

only_looks : (text : List ℕ) (x y : Content) → OnlyLooks x y → OnlyAnswers text x y
only_looks text x y looks = after_looks text x y y looks (record { now = as_before text y.now; since = []; moments = sym (append-nil y.moments); each = tt })

pub opening_untouched : (a b : Option Content) → Tells LooksIfDamaged a b → Tells ShowsIfDamaged a b
opening_untouched a b h = Tells-weaken LooksIfDamaged ShowsIfDamaged a b h (λ x y k damage bad. only_looks (shown_text (meaning (full x.now.disk))) x y (k damage bad))

-- the status is one of a damaged start, where the start is damaged
opening_tells_in : (m : Result MachineState Damage) (e : OpenFault) → OpensAs m (Err e) → IsErr m → is_damaged_status (status_of_result (Err (fault_of_opening e))) ≡ true
opening_tells_in m opening.Failed h bad = refl
opening_tells_in m opening.Memory h bad = refl
opening_tells_in m (opening.Damaged file rule) h bad = refl
opening_tells_in m opening.Draw h bad = absurd (not_ok m h.0 h.1 bad)
  where
    not_ok : (m : Result MachineState Damage) (S : MachineState) → m ≡ Ok S → IsErr m → ⊥
    not_ok m S e bad = cc
opening_tells_in m opening.Spent h bad = absurd (not_ok m h.0 h.1 bad)
  where
    not_ok : (m : Result MachineState Damage) (S : MachineState) → m ≡ Ok S → IsErr m → ⊥
    not_ok m S e bad = cc

pub opening_tells : (e : OpenFault) (a : Option Content) → IfSome a (OnDisk (λ d. OpensAs (meaning (full d)) (Err e))) → IfSome a (TellsDamage (status_of_result (Err (fault_of_opening e))))
opening_tells e None h = tt
opening_tells e (Some x) h = opening_tells_in (meaning (full x.now.disk)) e h

pub exact_opening : (e : OpenFault) → is_exact_opening {X = StoreState} (Err e) ≡ is_exact {X = Unit {0}} (Err (fault_of_opening e))
exact_opening opening.Failed = refl
exact_opening opening.Draw = refl
exact_opening opening.Spent = refl
exact_opening opening.Memory = refl
exact_opening (opening.Damaged file rule) = refl

pub spent_opening : (e : OpenFault) → ◌≡◌ {A = Result (Unit {0}) Fault} (Err (fault_of_opening e)) (Err fault.Spent) → e ≡ opening.Spent
spent_opening opening.Spent same = refl
spent_opening opening.Failed same = absurd (cc)
spent_opening opening.Draw same = absurd (cc)
spent_opening opening.Memory same = absurd (cc)
spent_opening (opening.Damaged file rule) same = absurd (cc)

pub failed_opening : (e : OpenFault) → ◌≡◌ {A = Result (Unit {0}) Fault} (Err (fault_of_opening e)) (Err fault.Site) → e ≡ opening.Failed
failed_opening opening.Failed same = refl
failed_opening opening.Spent same = absurd (cc)
failed_opening opening.Draw same = absurd (cc)
failed_opening opening.Memory same = absurd (cc)
failed_opening (opening.Damaged file rule) same = absurd (cc)

pub drew_opening : (e : OpenFault) → ◌≡◌ {A = Result (Unit {0}) Fault} (Err (fault_of_opening e)) (Err fault.Draw) → e ≡ opening.Draw
drew_opening opening.Draw same = refl
drew_opening opening.Failed same = absurd (cc)
drew_opening opening.Spent same = absurd (cc)
drew_opening opening.Memory same = absurd (cc)
drew_opening (opening.Damaged file rule) same = absurd (cc)

-- nothing of the script was read
pub reads_none : (f : Fault) (a : Option (List ℕ)) → is_too_long (Err f) ≡ false → ReadsBytes (is_too_long (Err f)) a a
reads_none f None short = tt
reads_none f (Some l) short = subst (λ (b : Bool). ReadsBytes b (Some l) (Some l)) (sym short) (omega arith)

pub opening_short : (e : OpenFault) → is_too_long (Err (fault_of_opening e)) ≡ false
opening_short opening.Failed = refl
opening_short opening.Draw = refl
opening_short opening.Spent = refl
opening_short opening.Memory = refl
opening_short (opening.Damaged file rule) = refl

-- ---- the line of the damage was answered

pub shows_if_damaged : (a b : Option Content) → Tells OnlyShows a b → Tells ShowsIfDamaged a b
shows_if_damaged a b h = Tells-weaken OnlyShows ShowsIfDamaged a b h (λ x y k damage bad. k)

-- numbers drawn by the opening, and none by the answer
answer_none : (text : List ℕ) (y z : Content) → IdsDiffer y.now.disk → OnlyAnswers text y z → TakesNone y z
answer_none text y z differ h = shows_none text y z h differ

pub damaged_drawn : (exact : Bool) (text : List ℕ) (a b c : Option Content) (x y : Option (List ℕ)) → IfSome a (λ k. IdsRise (full k.now.disk)) → Tells OnlyLooks a b → Tells (OnlyAnswers text) b c → DrawsTaken true a b x y → DrawsTaken exact a c x y
damaged_drawn exact text a b c x y rise looks told drawn =
    drawn_then SameDisk SameDisk exact a b c x y y (Tells-weaken OnlyLooks (Arrives SameDisk) a b looks looks_again)
    (Tells-weaken (OnlyAnswers text) (Passes SameDisk) b c told (shows_same text)) drawn (drawn_none exact b c y y (none a b c rise looks told) refl)
  where
    none : (a b c : Option Content) → IfSome a (λ k. IdsRise (full k.now.disk)) → Tells OnlyLooks a b → Tells (OnlyAnswers text) b c → Tells TakesNone b c
    none None None None rise looks told = tt
    none None None (Some z) rise looks told = absurd told
    none None (Some y) c rise looks told = absurd looks
    none (Some x) None c rise looks told = absurd looks
    none (Some x) (Some y) None rise looks told = absurd told
    none (Some x) (Some y) (Some z) rise looks told = answer_none text y z (subst (λ (m : Moment). IdsDiffer m.disk) (sym looks.now) (differ_of (full x.now.disk) rise)) told
