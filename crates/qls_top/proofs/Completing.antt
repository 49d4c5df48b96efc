-- A run that ended early did so for one of its causes.
use Rattle.std.proofs.Common.{◌≡◌, inr, ℕ, true, List, Option, Some, None, Result, Err, IsOk, refl, arith}
use Rattle.qls_model.specs.declared.machine.PoolId.{PoolId}
use Rattle.qls_model.specs.Machine.{MachineState}
use Rattle.qls_site.specs.Disk.{full}
use Rattle.qls_site.specs.Content.{Content, Tells, Rose}
use Rattle.qls_meaning.specs.Damage.{Damage}
use Rattle.qls_meaning.specs.Meaning.{meaning}
use Rattle.qls_top.specs.declared.fault.Fault.{Fault}
use Rattle.qls_top.specs.declared.fault.Fault.TheVariants as fault
use Rattle.qls_top.specs.Status.{status_of}
use Rattle.qls_top.specs.Run.{EndsSpent, ReadsBytes, is_too_long}
use Rattle.qls_top.specs.Shows.{AnswersDamage}
use Rattle.qls_top.specs.Complete.{NoneRose, MeansSome, IsShort, Completes}

-- ---- no damage, and no byte too many

not_damaged : (r : Result MachineState Damage) (d : Damage) → IsOk r → r ≡ Err d → ⊥
not_damaged r d ok e = cc

undamaged : (old new : Option Content) → MeansSome old → Tells AnswersDamage old new → ⊥
undamaged None new means h = means
undamaged (Some x) None means h = h
undamaged (Some x) (Some y) means h = not_damaged (meaning (full x.now.disk)) h.damage means h.means

within : (script left : Option (List ℕ)) → IsShort script → ReadsBytes true script left → ⊥
within None left short h = short
within (Some l) None short h = h
within (Some l) (Some m) short h = omega (arith, short, h)

-- ---- each fault has its cause

-- the run ended by this fault
abbrev IsBy : Fault → Fault → Type 0
IsBy f g = ◌≡◌ {A = Result (Unit {0}) Fault} (Err f) (Err g)

pub run_completes : (f : Fault) (home : PoolId) (old new : Option Content) (script left : Option (List ℕ)) (s t r u d e : ℕ) → (IsBy f fault.Source → Rose r u) → (IsBy f fault.Site → Rose s t) → (IsBy f fault.Draw → Rose d e)
    → ReadsBytes (is_too_long (Err f)) script left → (IsBy f fault.Damaged → Tells AnswersDamage old new) → (IsBy f fault.Spent → EndsSpent home old new script) → NoneRose s t r u d e → Completes (status_of f) home old new script
run_completes fault.Damaged home old new script left s t r u d e source site draw long damaged spent none means short ended = absurd (undamaged old new means (damaged refl))
run_completes fault.Source home old new script left s t r u d e source site draw long damaged spent none means short ended = absurd (none.source (source refl))
run_completes fault.Site home old new script left s t r u d e source site draw long damaged spent none means short ended = absurd (none.site (site refl))
run_completes fault.Memory home old new script left s t r u d e source site draw long damaged spent none means short ended = inr refl
run_completes fault.TooLong home old new script left s t r u d e source site draw long damaged spent none means short ended = absurd (within script left short long)
run_completes fault.Draw home old new script left s t r u d e source site draw long damaged spent none means short ended = absurd (none.serials (draw refl))
run_completes fault.Spent home old new script left s t r u d e source site draw long damaged spent none means short ended = absurd (ended (spent refl))
