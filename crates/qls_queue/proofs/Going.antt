-- By the answer of a queue's call: the moments that it added, what it drew and what it wrote.
use Rattle.std.proofs.Common.{◌≡◌, ℕ, Bool, true, false, List, Option, Result, Ok, Err, IsErr, IfOk, refl, ap, ◌∙◌, subst}
use Rattle.qls_site.specs.Content.{Moment, Content, Tells}
use Rattle.qls_site.proofs.Told.{Tells-then, Tells-weaken}
use Rattle.qls_meaning.specs.History.{History, FreeArea}
use Rattle.qls_pool.specs.Moments.{Passes, Arrives}
use Rattle.qls_pool.specs.Serials.{DrawsTaken}
use Rattle.qls_pool.proofs.Moments.{Arrives-then, Arrives-passes, Passes-of, told_same}
use Rattle.qls_pool.proofs.Serials.{drawn_none, tells_none}
use Rattle.qls_log.specs.declared.fault.LogError.{LogError}
use Rattle.qls_log.specs.declared.fault.LogError.TheVariants as log
use Rattle.qls_log.specs.Steps as steps
use Rattle.qls_log.specs.Unwritten.{IsWrittenTo}
use Rattle.qls_queue.specs.declared.fault.QueueError.{QueueError}
use Rattle.qls_queue.specs.Faults.{fault_of_log}
use Rattle.qls_queue.specs.Live.{LiveState}
use Rattle.qls_queue.specs.Moments.{is_exact, is_exact_error, ArrivesOr, GoesBy, BeginsWritten}
use Rattle.qls_queue.proofs.Then.{Writes, Whatever}

module _ (R : Moment → Moment → Type 0) where
  or_passes : (exact : Bool) (a b : Content) → ArrivesOr exact R a b → Passes R a b
  or_passes true a b h = Passes-of R a b h
  or_passes false a b h = h

  or_on : (exact : Bool) (a b c : Content) → Arrives R a b → ArrivesOr exact R b c → ArrivesOr exact R a c
  or_on true a b c h k = Arrives-then R a b c h k
  or_on false a b c h k = Arrives-passes R a b c h k

  or_arrived : (exact : Bool) (a b : Content) → Arrives R a b → ArrivesOr exact R a b
  or_arrived true a b h = h
  or_arrived false a b h = Passes-of R a b h

  pub told_passes : {X : Type 0} (r : Result X QueueError) (a b : Option Content) → Tells (GoesBy R r) a b → Tells (Passes R) a b
  told_passes r a b h = Tells-weaken (GoesBy R r) (Passes R) a b h (or_passes (is_exact r))

  pub told_on : {X : Type 0} (r : Result X QueueError) (a b c : Option Content) → Tells (Arrives R) a b → Tells (GoesBy R r) b c → Tells (GoesBy R r) a c
  told_on r a b c h k = Tells-then (Arrives R) (GoesBy R r) (GoesBy R r) a b c h k (or_on (is_exact r))

  pub told_arrived : {X : Type 0} (r : Result X QueueError) (a b : Option Content) → Tells (Arrives R) a b → Tells (GoesBy R r) a b
  told_arrived r a b h = Tells-weaken (Arrives R) (GoesBy R r) a b h (or_arrived (is_exact r))

  -- no call was made
  pub goes_nowhere : {X : Type 0} (r : Result X QueueError) (a : Option Content) → Tells (GoesBy R r) a a
  goes_nowhere r a = told_arrived r a a (told_same R a)

  -- the error is handed on
  pub told_error : (X : Type 0) {Y : Type 0} (e : QueueError) (r : Result Y QueueError) (a b : Option Content) → Err e ≡ r → Tells (GoesBy {X = X} R (Err e)) a b → Tells (GoesBy R r) a b
  told_error X {Y} e r a b is h = subst (λ (q : Result Y QueueError). Tells (GoesBy R q) a b) is h

  goes_fault : (X : Type 0) (e : LogError) (a b : Content) → steps.GoesBy {X = X} R (Err e) a b → ArrivesOr (is_exact_error (fault_of_log e)) R a b
  goes_fault X log.Spent a b h = h
  goes_fault X log.Failed a b h = h
  goes_fault X log.Draw a b h = h
  goes_fault X log.Memory a b h = h

  -- the error of a log
  pub told_fault : (X : Type 0) {Y : Type 0} (e : LogError) (r : Result Y QueueError) (a b : Option Content) → Err (fault_of_log e) ≡ r → Tells (steps.GoesBy {X = X} R (Err e)) a b → Tells (GoesBy R r) a b
  told_fault X {Y} e r a b is h =
      subst (λ (q : Result Y QueueError). Tells (GoesBy R q) a b) is (Tells-weaken (steps.GoesBy {X = X} R (Err e)) (ArrivesOr (is_exact_error (fault_of_log e)) R) a b h (goes_fault X e))

-- ---- what was drawn

pub draws_error : (X : Type 0) {Y : Type 0} (e : QueueError) (r : Result Y QueueError) (a b : Option Content) (x y : Option (List ℕ)) → Err e ≡ r → DrawsTaken (is_exact {X = X} (Err e)) a b x y → DrawsTaken (is_exact r) a b x y
draws_error X {Y} e r a b x y is h = subst (λ (q : Result Y QueueError). DrawsTaken (is_exact q) a b x y) is h

exact_fault : (X : Type 0) (e : LogError) → steps.is_exact {X = X} (Err e) ≡ is_exact_error (fault_of_log e)
exact_fault X log.Spent = refl
exact_fault X log.Failed = refl
exact_fault X log.Draw = refl
exact_fault X log.Memory = refl

pub draws_fault : (X : Type 0) {Y : Type 0} (e : LogError) (r : Result Y QueueError) (a b : Option Content) (x y : Option (List ℕ)) → Err (fault_of_log e) ≡ r → DrawsTaken (steps.is_exact {X = X} (Err e)) a b x y → DrawsTaken (is_exact r) a b x y
draws_fault X {Y} e r a b x y is h = subst (λ exact. DrawsTaken exact a b x y) (exact_fault X e ∙ ap is_exact is) h

-- no call was made, and nothing drawn
pub draws_nothing : (exact : Bool) (a : Option Content) (x : Option (List ℕ)) → DrawsTaken exact a a x x
draws_nothing exact a x = drawn_none exact a a x x (tells_none (λ m n. Unit {0}) a) refl

-- ---- what was written

pub writes_err : {X E : Type 0} (P Q : List FreeArea → History → Type 0) (r : Result X E) (a b : Option Content) → IsErr r → Tells (Writes P Whatever) a b → Tells (Writes P (λ areas h. IfOk r (λ _. Q areas h))) a b
writes_err {X} {E} P Q (Ok x) a b e h = absurd (not_ok x e)
  where
    not_ok : (x : X) → IsErr {T = X} {E = E} (Ok x) → ⊥
    not_ok x e = cc
writes_err P Q (Err f) a b e h = h

begun_err : (X : Type 0) (e : LogError) (r : Result LiveState QueueError) (log : X → Rattle.qls_log.specs.Logs.LogState) (a b : Content) → IsErr r
    → Rattle.qls_log.specs.Unwritten.BeginsWritten {X = X} (Err e) log a b → BeginsWritten r a b
begun_err X e (Ok q) log a b i h = absurd (not_ok q i)
  where
    not_ok : (q : LiveState) → IsErr {T = LiveState} {E = QueueError} (Ok q) → ⊥
    not_ok q i = cc
begun_err X e (Err f) log a b i h = h

pub told_begun_err : (X : Type 0) (e : LogError) (r : Result LiveState QueueError) (log : X → Rattle.qls_log.specs.Logs.LogState) (a b : Option Content) → IsErr r
    → Tells (Rattle.qls_log.specs.Unwritten.BeginsWritten {X = X} (Err e) log) a b → Tells (BeginsWritten r) a b
told_begun_err X e r log a b i h = Tells-weaken (Rattle.qls_log.specs.Unwritten.BeginsWritten {X = X} (Err e) log) (BeginsWritten r) a b h (λ x y. begun_err X e r log x y i)
