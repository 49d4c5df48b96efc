-- A call on the queue at a place: what it did, in the words of the journals.
use Rattle.std.proofs.Common.{◌≡◌, ℕ, zero, suc, Bool, true, false, ◌-◌, ◌<◌, ◌^◌, ◌==◌, List, [], ◌∷◌, length, get_or, Option, Some, None, IfSome, Result, Ok, Err, IsErr, IsTrue, refl, sym, ap, subst, ◌∙◌, arith}
use Rattle.std.proofs.Math.ListN.{set}
use Rattle.std.specs.List.{slice_get}
use Rattle.std.proofs.lemmas.Bool.{eqb-true}
use Rattle.std.proofs.lemmas.Option.{slice_get_read}
use Rattle.qls_model.specs.Limits.{is_queue_name}
use Rattle.qls_model.specs.declared.machine.Refusal.{Refusal}
use Rattle.qls_record.specs.Record.{Record}
use Rattle.qls_site.specs.Disk.{Disk}
use Rattle.qls_site.specs.Content.{Moment, Content, Tells}
use Rattle.qls_filehdr.specs.declared.JournalKind.TheVariants.{Queue}
use Rattle.qls_blocks.specs.Batching.{length_of, block_length}
use Rattle.qls_pool.specs.Files.{OnDisk, Carries}
use Rattle.qls_pool.specs.Moments.{EndsIn, Passes, Arrives}
use Rattle.qls_pool.specs.Pools.{PoolState}
use Rattle.qls_log.specs.Leaving.{NoneLeaves}
use Rattle.qls_log.specs.Logs.{IsSound as IsSoundLog}
use Rattle.qls_log.specs.Steps.{IsLogStep, KeepsRoom, MeetsEndWith}
use Rattle.qls_log.specs.Taking.{MeetsEnd}
use Rattle.qls_queue.specs.Faults.{is_fault}
use Rattle.qls_queue.specs.Live.{LiveState, IsSound, QueueThere}
use Rattle.qls_queue.specs.Moments.{GoesBy}
use Rattle.qls_queue.specs.Releasing.{IsQueueWhole}
use Rattle.qls_queue.specs.declared.fault.QueueError.{QueueError}
use Rattle.qls_queue.specs.declared.fault.QueueError.TheVariants as queue
use Rattle.qls_journals.specs.declared.cause.Cause.{Cause}
use Rattle.qls_journals.specs.declared.cause.Cause.TheVariants as cause
use Rattle.qls_journals.specs.Ends.{StopsAtEnd, HadRoom, batch_at_end}
use Rattle.qls_journals.specs.Errors.{by_error}
use Rattle.qls_journals.specs.Homes.{home_by, home_for, homes_of, SameHomes}
use Rattle.qls_journals.specs.Moments.{Changes, StaysWritten}
use Rattle.qls_journals.specs.State.{JournalsState, queue_held, IsKept, AreJournals, Fits, IsListAlive}
use Rattle.qls_journals.proofs.Ending.{HasItsRoom, fresh_of, batch_had, batch_ends}
use Rattle.qls_journals.proofs.Names.{all_at, held_at}
use Rattle.qls_journals.proofs.Others.{store_arrival}
use Rattle.qls_journals.proofs.Resting.{told_none, alive_none, writes_none}
use Rattle.qls_journals.proofs.Writing.{NextQueue, home_is}

-- ---- the queue at a place

pub record Placed (s : JournalsState) (at : ℕ) (q : LiveState) : Type 0 where
  pub all : AreJournals s
  pub place : slice_get s.queues at ≡ Some q
  pub held : queue_held q.queue.name s.queues ≡ Some q

pub placed : (s : JournalsState) (at : ℕ) (q : LiveState) → AreJournals s → at < length s.queues → q ≡ get_or s.queues at q → Placed s at q
placed s at q all within found = record {
  all = all;
  place = slice_get_read s.queues (length s.queues) at q refl within found;
  held = held_at s.queues at q within found all.rising;
}

pub placed_kept : (s : JournalsState) (at : ℕ) (q : LiveState) → Placed s at q → IsKept q
placed_kept s at q p = all_at IsKept s.queues at q p.all.kept p.place

pub placed_there : (s : JournalsState) (at : ℕ) (q : LiveState) → Placed s at q → (a : Option Content) → IfSome a (OnDisk (Fits s)) → IfSome a (OnDisk (QueueThere q))
placed_there s at q p None fits = tt
placed_there s at q p (Some a) fits = all_at (λ u. QueueThere u a.now.disk) s.queues at q fits.queues p.place

-- what is said of the queue at the place
pub if_placed : (s : JournalsState) (at : ℕ) (q : LiveState) (P : LiveState → Type 0) → Placed s at q → P q → IfSome (slice_get s.queues at) P
if_placed s at q P p h = subst (λ o. IfSome o P) (sym p.place) h

-- ---- the queue behind a call

pub next_queue : (q r : LiveState) → IsKept q → r.log.opening ≡ q.log.opening → r.queue.name ≡ q.queue.name → r.ended ≡ false → IsSound r → IsSoundLog r.log → NextQueue q r
next_queue q r kept opening name unended sound log = record {
  opening = opening;
  name = name;
  kept = record {
    unended = unended;
    sound = sound;
    log = log;
    name = subst (λ n. IsTrue (is_queue_name n)) (sym name) kept.name;
  };
}

-- ---- numbers

pub below_last : (n : ℕ) → n < 2 ^ 62 → (n ≡ 2 ^ 62 - 1 → ⊥) → n < 2 ^ 62 - 1
below_last n h ne = omega (arith, h, ne)

pub isnt_last : (n : ℕ) → (n ≡ 2 ^ 62 - 1 → ⊥) → (n == 2 ^ 62 - 1) ≡ false
isnt_last n ne = by (n == 2 ^ 62 - 1) refl
  where
    by : (b : Bool) → (n == 2 ^ 62 - 1) ≡ b → b ≡ false
    by false e = refl
    by true e = absurd (ne (eqb-true n (2 ^ 62 - 1) e))

-- ---- answers

pub ends_err : {X E : Type 0} (R : Moment → Moment → Type 0) (done : X → Content → Content → Type 0) (r : Result X E) (a b : Option Content) → IsErr r → Tells (Passes R) a b → Tells (EndsIn done (Passes R) r) a b
ends_err {X} {E} R done (Ok x) a b e h = absurd (not_err x e)
  where
    not_err : (x : X) → IsErr {T = X} {E = E} (Ok x) → ⊥
    not_err x e = cc
ends_err R done (Err f) a b e h = h

-- the cause is Spent where the queue's error is
pub spent_of : {Y : Type 0} (f : QueueError) (x : Cause) (r : Result Y Cause) → ◌≡◌ {A = Result Refusal Cause} (Err x) (by_error f) → Err x ≡ r → r ≡ Err cause.Spent → f ≡ queue.Spent
spent_of {Y} f x r is given spent = spent_by f (sym is ∙ ap (λ y. Err y) (err_is (given ∙ spent)))
  where
    err_is : ◌≡◌ {A = Result Y Cause} (Err x) (Err cause.Spent) → x ≡ cause.Spent
    err_is e = cc

    spent_by : (f : QueueError) → ◌≡◌ {A = Result Refusal Cause} (by_error f) (Err cause.Spent) → f ≡ queue.Spent
    spent_by queue.Unknown e = cc
    spent_by queue.Locked e = cc
    spent_by queue.Numbers e = cc
    spent_by queue.Failed e = cc
    spent_by queue.Draw e = cc
    spent_by queue.Spent e = refl
    spent_by queue.Memory e = cc

-- a refusal is no fault
pub refused_by : (f : QueueError) (refusal : Refusal) → ◌≡◌ {A = Result Refusal Cause} (Ok refusal) (by_error f) → is_fault f ≡ false
refused_by queue.Unknown refusal e = refl
refused_by queue.Locked refusal e = refl
refused_by queue.Numbers refusal e = refl
refused_by queue.Failed refusal e = cc
refused_by queue.Draw refusal e = cc
refused_by queue.Spent refusal e = cc
refused_by queue.Memory refusal e = cc

-- ---- a refusal: the journals and the site are as before

pub same_set : (qs : List LiveState) (at : ℕ) (q : LiveState) → slice_get qs at ≡ Some q → set qs at q ≡ qs
same_set [] at q e = absurd (cc)
same_set (u ∷ us) zero q e = ap (λ (v : LiveState). v ∷ us) (some_is e)
  where
    some_is : Some u ≡ Some q → q ≡ u
    some_is e = cc
same_set (u ∷ us) (suc at) q e = ap (λ vs. u ∷ vs) (same_set us at q e)

pub same_journals : (s : JournalsState) (at : ℕ) (q r : LiveState) (left : PoolState) → Placed s at q → r ≡ q → left ≡ s.pool → ◌≡◌ {A = JournalsState} (record { home = s.home; pool = left; queues = set s.queues at r; list = s.list }) s
same_journals s at q r left p is pool =
    (λ i. record { home = s.home; pool = pool i; queues = set s.queues at (is i); list = s.list }) ∙ ap with_queues (same_set s.queues at q p.place)
  where
    with_queues : List LiveState → JournalsState
    with_queues qs = record { home = s.home; pool = s.pool; queues = qs; list = s.list }

pub told_refused : (s w : JournalsState) (a b : Option Content) → w ≡ s → b ≡ a → IfSome a (OnDisk (Fits s)) → Tells (Changes s w) a b
told_refused s w a b same stays fits =
    subst (λ o. Tells (Changes s w) a o) (sym stays) (subst (λ v. Tells (Changes s v) a a) (sym same) (told_none s a fits))

pub alive_refused : (s w : JournalsState) (a b : Option Content) → w ≡ s → b ≡ a → Carries (IsListAlive s) (IsListAlive w) a b
alive_refused s w a b same stays =
    subst (λ o. Carries (IsListAlive s) (IsListAlive w) a o) (sym stays) (subst (λ v. Carries (IsListAlive s) (IsListAlive v) a a) (sym same) (alive_none s a))

pub same_homes : (w s : JournalsState) → w ≡ s → SameHomes (homes_of w) (homes_of s)
same_homes w s same = record {
  default = ap (λ (v : JournalsState). v.home) same;
  queue = λ name. ap (λ (v : JournalsState). (homes_of v).queue name) same;
  list = ap (λ (v : JournalsState). (homes_of v).list) same;
}

pub writes_refused : {Y : Type 0} (s : JournalsState) (answer : Y) (journals : Y → JournalsState) (a b : Option Content) → journals answer ≡ s → b ≡ a → Tells (StaysWritten {X = Y} {E = Cause} (Ok answer) journals s) a b
writes_refused {Y} s answer journals a b same stays =
    subst (λ o. Tells (StaysWritten {X = Y} {E = Cause} (Ok answer) journals s) a o) (sym stays) (writes_none {X = Y} {E = Cause} (Ok answer) journals s a same)

-- ---- the records of a call

module _ (s : JournalsState) (at : ℕ) (q : LiveState) (p : Placed s at q) (rs : List Record) where
  kept : IsKept q
  kept = placed_kept s at q p

  -- the end of the queue's journal is that of its log
  own_end : (d : Disk) → batch_at_end (homes_of s) Queue q.queue.name rs d ≡ batch_at_end (homes_of s) q.log.opening.kind q.log.opening.name rs d
  own_end d = λ i. batch_at_end (homes_of s) (sym kept.sound.kind i) (kept.sound.name i) rs d

  own_home : home_by q.log.opening.kind q.log.opening.name (homes_of s) ≡ Some (home_for q.log.opening)
  own_home = home_is s p.all at q p.place p.held

  had_room : HasItsRoom → (0 < length (fresh_of q.log rs) → MeetsEnd q.log.opening q.log.newest 1 s.pool → ⊥) → (a b : Content) → Fits s a.now.disk → HadRoom s Queue q.queue.name rs a b
  had_room law had a b fits whole e =
      let read = (all_at (λ u. IsQueueWhole u a.now.disk) s.queues at q whole.queues p.place).read in
      batch_had (homes_of s) q.log kept.log own_home rs law s.pool a.now.disk read.reads (all_at (λ u. QueueThere u a.now.disk) s.queues at q fits.queues p.place) fits.pool read.read had (sym (own_end a.now.disk) ∙ e)

  pub told_had : HasItsRoom → (0 < length (fresh_of q.log rs) → MeetsEnd q.log.opening q.log.newest 1 s.pool → ⊥) → (a b : Option Content) → IfSome a (OnDisk (Fits s)) → Tells (Arrives (IsLogStep q.log.opening)) a b → Tells (HadRoom s Queue q.queue.name rs) a b
  told_had law had None None fits went = tt
  told_had law had None (Some y) fits went = absurd went
  told_had law had (Some x) None fits went = absurd went
  told_had law had (Some x) (Some y) fits went = had_room law had x y fits

  stops : (a b : Content) → Fits s a.now.disk → Arrives (IsLogStep q.log.opening) a b → Passes NoneLeaves a b → KeepsRoom q.log a b → MeetsEndWith q.log (block_length (length_of rs)) b.now.disk → StopsAtEnd s Queue q.queue.name rs a b
  stops a b fits went stays keeps meets = record {
    arrives = store_arrival q.log.opening a b went;
    meets = λ unmarked whole.
        let read = (all_at (λ u. IsQueueWhole u a.now.disk) s.queues at q whole.queues p.place).read in
        own_end b.now.disk ∙ batch_ends (homes_of s) q.log kept.log own_home rs a b read.reads went stays (all_at (λ u. QueueThere u a.now.disk) s.queues at q fits.queues p.place) keeps unmarked read.read meets;
  }

  pub told_stops : (a b : Option Content) → IfSome a (OnDisk (Fits s)) → Tells (Arrives (IsLogStep q.log.opening)) a b → Tells (Passes NoneLeaves) a b → Tells (KeepsRoom q.log) a b
      → IfSome b (OnDisk (MeetsEndWith q.log (block_length (length_of rs)))) → Tells (StopsAtEnd s Queue q.queue.name rs) a b
  told_stops None None fits went stays keeps meets = tt
  told_stops None (Some y) fits went stays keeps meets = absurd went
  told_stops (Some x) None fits went stays keeps meets = absurd went
  told_stops (Some x) (Some y) fits went stays keeps meets = stops x y fits went stays keeps meets

pub arrives_if_exact : (X : Type 0) (R : Moment → Moment → Type 0) (f : QueueError) (a b : Option Content) → f ≡ queue.Spent → Tells (GoesBy {X = X} R (Err f)) a b → Tells (Arrives R) a b
arrives_if_exact X R f a b e h = subst (λ g. Tells (GoesBy {X = X} R (Err g)) a b) e h
