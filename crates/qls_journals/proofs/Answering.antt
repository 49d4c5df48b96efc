-- What a put and a take answer, by what the queue answered.
use Rattle.std.proofs.Common.{◌≡◌, ◌⊎◌, inl, inr, ℕ, Bool, true, false, cond, ◌+◌, ◌-◌, ◌^◌, ◌==◌, List, [], ◌∷◌, Option, Some, None, Result, Ok, Err, IfErr, refl, sym, ap, subst, ◌∙◌, eq-eqb}
use Rattle.std.specs.Prelude.{is_err}
use Rattle.std.proofs.lemmas.Bool.{eqb-true}
use Rattle.qls_model.specs.Machine.{is_ready, taken}
use Rattle.qls_model.specs.declared.machine.Message.{Message}
use Rattle.qls_model.specs.declared.machine.QueueState.{QueueState}
use Rattle.qls_model.specs.declared.machine.Refusal.{Refusal}
use Rattle.qls_model.specs.declared.machine.Refusal.TheVariants as refusal
use Rattle.qls_site.specs.Content.{Content}
use Rattle.qls_decide.specs.declared.End.{End}
use Rattle.qls_pool.specs.Serials.{DrawsTaken}
use Rattle.qls_queue.specs.Answers.{take_answer}
use Rattle.qls_queue.specs.Faults.{is_fault, QueueCauses}
use Rattle.qls_queue.specs.Moments.{is_exact_error}
use Rattle.qls_queue.specs.Records.{ended_by}
use Rattle.qls_queue.specs.declared.fault.QueueError.{QueueError}
use Rattle.qls_queue.specs.declared.fault.QueueError.TheVariants as queue
use Rattle.qls_journals.specs.declared.cause.Cause.{Cause}
use Rattle.qls_journals.specs.declared.cause.Cause.TheVariants as cause
use Rattle.qls_journals.specs.Answers.{put_answer, take_by, is_exact, StoreCauses}
use Rattle.qls_journals.specs.Errors.{by_error}
use Rattle.qls_journals.proofs.Placed.{isnt_last}

-- what holds, holds where a call fails
pub if_err : {X E : Type 0} (P : Type 0) (r : Result X E) → P → IfErr r (λ _. P)
if_err P (Ok x) h = tt
if_err P (Err e) h = h

-- ---- a put

pub put_done : (q : QueueState) (n : ℕ) → n ≡ q.last + 1 → (q.last ≡ 2 ^ 62 - 1 → ⊥) → ◌≡◌ {A = Result ℕ Refusal} (Ok n) (put_answer q)
put_done q n is more = ap (λ k. Ok k) is ∙ ap (λ b. cond b (Err refusal.Spent) (Ok (q.last + 1))) (sym (isnt_last q.last more))

pub put_spent : (q : QueueState) → q.last ≡ 2 ^ 62 - 1 → ◌≡◌ {A = Result ℕ Refusal} (put_answer q) (Err refusal.Spent)
put_spent q last = ap (λ b. cond b (Err refusal.Spent) (Ok (q.last + 1))) (eq-eqb q.last (2 ^ 62 - 1) last)

pub put_no_err : (q : QueueState) → (q.last ≡ 2 ^ 62 - 1 → ⊥) → is_err (put_answer q) ≡ false
put_no_err q more = ap (λ (r : Result ℕ Refusal). is_err r) (sym (put_done q (q.last + 1) refl more))

pub put_at_last : (q : QueueState) → is_err (put_answer q) ≡ true → q.last ≡ 2 ^ 62 - 1
put_at_last q e = by (q.last == 2 ^ 62 - 1) refl e
  where
    by : (b : Bool) → (q.last == 2 ^ 62 - 1) ≡ b → is_err (cond b (Err refusal.Spent) (Ok (q.last + 1))) ≡ true → q.last ≡ 2 ^ 62 - 1
    by true is h = eqb-true q.last (2 ^ 62 - 1) is
    by false is h = absurd (cc)

-- the error of a refused put
pub numbers_of : (f : QueueError) (why : Refusal) → ◌≡◌ {A = Result Refusal Cause} (Ok why) (by_error f) → (f ≡ queue.Unknown → ⊥) → (f ≡ queue.Locked → ⊥) → (f ≡ queue.Numbers) × (why ≡ refusal.Spent)
numbers_of queue.Unknown why e unknown locked = absurd (unknown refl)
numbers_of queue.Locked why e unknown locked = absurd (locked refl)
numbers_of queue.Numbers why e unknown locked = (refl, ok_is e)
  where
    ok_is : ◌≡◌ {A = Result Refusal Cause} (Ok why) (Ok refusal.Spent) → why ≡ refusal.Spent
    ok_is e = cc
numbers_of queue.Failed why e unknown locked = absurd (cc)
numbers_of queue.Draw why e unknown locked = absurd (cc)
numbers_of queue.Spent why e unknown locked = absurd (cc)
numbers_of queue.Memory why e unknown locked = absurd (cc)

-- a fault is no refusal
abbrev Ends : QueueError → Cause → Type 0
Ends f k = ◌≡◌ {A = Result Refusal Cause} (Err k) (by_error f)

pub ends_numbers : (f : QueueError) (k : Cause) → Ends f k → f ≡ queue.Numbers → ⊥
ends_numbers f k e is = differ (e ∙ ap by_error is)
  where
    differ : Ends queue.Numbers k → ⊥
    differ h = cc

cause_is : {k l : Cause} → ◌≡◌ {A = Result Refusal Cause} (Err k) (Err l) → k ≡ l
cause_is h = cc

-- ---- a take

abbrev Took : Type 0
Took = Result (Unit {0}) QueueError

abbrev TookOr : Type 0
TookOr = Result (Unit {0}) Refusal

-- a message that is there, by whether it is ready
take_some : (b : Bool) → ◌≡◌ {A = Took} (cond b (Ok tt) (Err queue.Locked)) (Ok tt) → ◌≡◌ {A = TookOr} (cond b (Ok tt) (Err refusal.Locked)) (Ok tt)
take_some true e = refl
take_some false e = absurd (cc)

pub take_done : (o : Option Message) → take_answer o ≡ Ok tt → ◌≡◌ {A = TookOr} (Ok tt) (take_by o)
take_done None e = absurd (cc)
take_done (Some m) e = sym (take_some (is_ready m.status) e)

ok_is : (x y : Refusal) → ◌≡◌ {A = Result Refusal Cause} (Ok x) (Ok y) → x ≡ y
ok_is x y e = cc

took_err : (f g : QueueError) → ◌≡◌ {A = Took} (Err f) (Err g) → g ≡ f
took_err f g e = cc

pub take_refused : (o : Option Message) (f : QueueError) (why : Refusal) → take_answer o ≡ Err f → ◌≡◌ {A = Result Refusal Cause} (Ok why) (by_error f) → ◌≡◌ {A = TookOr} (Err why) (take_by o)
take_refused None f why e is = ap (λ x. Err x) (ok_is why refusal.Message (is ∙ ap by_error (took_err queue.Unknown f e)))
take_refused (Some m) f why e is = by (is_ready m.status) e
  where
    by : (b : Bool) → ◌≡◌ {A = Took} (cond b (Ok tt) (Err queue.Locked)) (Err f) → ◌≡◌ {A = TookOr} (Err why) (cond b (Ok tt) (Err refusal.Locked))
    by true k = absurd (cc)
    by false k = ap (λ x. Err x) (ok_is why refusal.Locked (is ∙ ap by_error (took_err queue.Locked f k)))

-- what the journals refuse, the queue refuses
pub record TakeRefused (o : Option Message) : Type 0 where
  pub error : QueueError
  pub answer : take_answer o ≡ Err error
  pub refusal : is_fault error ≡ false

pub take_not : (o : Option Message) → is_err (take_by o) ≡ true → TakeRefused o
take_not None e = record { error = queue.Unknown; answer = refl; refusal = refl }
take_not (Some m) e = by (is_ready m.status) refl e
  where
    by : (b : Bool) → is_ready m.status ≡ b → is_err {T = Unit {0}} {E = Refusal} (cond b (Ok tt) (Err refusal.Locked)) ≡ true → TakeRefused (Some m)
    by true is k = absurd (cc)
    by false is k = record { error = queue.Locked; answer = ap (λ b. cond b (Ok (tt {0})) (Err queue.Locked)) is; refusal = refl }

-- the answer of a take that wasn't refused
pub take_ready : (o : Option Message) → ((e : QueueError) → take_answer o ≡ Err e → ⊥) → take_answer o ≡ Ok tt
take_ready o none = by (take_answer o) refl
  where
    by : (r : Took) → take_answer o ≡ r → r ≡ Ok tt
    by (Ok x) e = refl
    by (Err f) e = absurd (none f e)

-- a fault leaves a take that isn't refused
pub ends_take : (f : QueueError) (k : Cause) (o : Option Message) → Ends f k → ((e : QueueError) → take_answer o ≡ Err e → f ≡ e) → take_answer o ≡ Ok tt
ends_take f k o e refusals = take_ready o (λ g h. by o g h (refusals g h))
  where
    no : (g : QueueError) → is_fault g ≡ false → f ≡ g → ⊥
    no queue.Unknown h is = unknown (e ∙ ap by_error is)
      where
        unknown : Ends queue.Unknown k → ⊥
        unknown i = cc
    no queue.Locked h is = locked (e ∙ ap by_error is)
      where
        locked : Ends queue.Locked k → ⊥
        locked i = cc
    no queue.Numbers h is = ends_numbers f k e is
    no queue.Failed h is = absurd (cc)
    no queue.Draw h is = absurd (cc)
    no queue.Spent h is = absurd (cc)
    no queue.Memory h is = absurd (cc)

    refuses : (o : Option Message) (g : QueueError) → take_answer o ≡ Err g → is_fault g ≡ false
    refuses None g h = ap is_fault (took_err queue.Unknown g h)
    refuses (Some m) g h = at (is_ready m.status) h
      where
        at : (b : Bool) → ◌≡◌ {A = Took} (cond b (Ok tt) (Err queue.Locked)) (Err g) → is_fault g ≡ false
        at true i = absurd (cc)
        at false i = ap is_fault (took_err queue.Locked g i)

    by : (o : Option Message) (g : QueueError) → take_answer o ≡ Err g → f ≡ g → ⊥
    by o g h is = no g (refuses o g h) is

-- ---- names

pub taken_name : (n : ℕ) (xid : Option (List ℕ)) (q : QueueState) → (taken n xid q).name ≡ q.name
taken_name n None q = refl
taken_name n (Some x) q = refl

pub ended_name : (es : List End) (q : QueueState) → (ended_by es q).name ≡ q.name
ended_name [] q = refl
ended_name (e ∷ es) q = ended_name es _

-- ---- answers of the queue

pub no_end : {X : Type 0} (x : X) → (◌≡◌ {A = Result X QueueError} (Ok x) (Err queue.Spent)) ⊎ (◌≡◌ {A = Result X QueueError} (Ok x) (Err queue.Memory)) → ⊥
no_end x (inl e) = cc
no_end x (inr e) = cc

pub no_err : {X : Type 0} (x : X) (e : QueueError) → ◌≡◌ {A = Result X QueueError} (Ok x) (Err e) → ⊥
no_err x e h = cc

pub err_is : {X : Type 0} {e f : QueueError} → ◌≡◌ {A = Result X QueueError} (Err e) (Err f) → e ≡ f
err_is h = cc

pub no_both : true ≡ false → ⊥
no_both e = cc

-- ---- what was drawn

-- by the cause that the error is
pub drawn_of : (Y : Type 0) (e : QueueError) (k : Cause) (a b : Option Content) (x y : Option (List ℕ)) → Ends e k → DrawsTaken (is_exact_error e) a b x y → DrawsTaken (is_exact {X = Y} (Err k)) a b x y
drawn_of Y queue.Failed k a b x y h d = subst (λ c. DrawsTaken (is_exact {X = Y} (Err c)) a b x y) (sym (cause_is h)) d
drawn_of Y queue.Draw k a b x y h d = subst (λ c. DrawsTaken (is_exact {X = Y} (Err c)) a b x y) (sym (cause_is h)) d
drawn_of Y queue.Spent k a b x y h d = subst (λ c. DrawsTaken (is_exact {X = Y} (Err c)) a b x y) (sym (cause_is h)) d
drawn_of Y queue.Memory k a b x y h d = subst (λ c. DrawsTaken (is_exact {X = Y} (Err c)) a b x y) (sym (cause_is h)) d
drawn_of Y queue.Unknown k a b x y h d = absurd (cc)
drawn_of Y queue.Locked k a b x y h d = absurd (cc)
drawn_of Y queue.Numbers k a b x y h d = absurd (cc)

-- ---- counts of faults

-- an answer of the journals, whatever the queue answered
pub causes_answered : {X Y : Type 0} (r : Result X QueueError) (y : Y) (sites sites_now draws draws_now : ℕ) → QueueCauses {X = X} sites sites_now draws draws_now r → StoreCauses {X = Y} sites sites_now draws draws_now (Ok y)
causes_answered {X} {Y} r y sites sites_now draws draws_now h = record {
  sites_kept = h.sites_kept;
  draws_kept = h.draws_kept;
  failed = λ e. absurd (answers cause.Failed e);
  draw = λ e. absurd (answers cause.Draw e);
}
  where
    answers : (k : Cause) → ◌≡◌ {A = Result Y Cause} (Ok y) (Err k) → ⊥
    answers k e = cc
