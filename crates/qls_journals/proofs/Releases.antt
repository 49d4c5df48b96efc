-- Dead files that go back in one call, and then in the next: what holds of both.
use Rattle.std.proofs.Common.{◌≡◌, inl, inr, ℕ, ◌+◌, ◌≤◌, List, [], ◌∷◌, ◌++◌, map, length, take, Option, Some, None, IfSome, Result, Ok, Err, IfOk, IsErr, refl, sym, ap, ◌∙◌, subst, arith}
use Rattle.std.proofs.Math.Seq.{take-length}
use Rattle.std.proofs.lemmas.List.{length-map}
use Rattle.std.specs.List.{AllByRecursion}
use Rattle.qls_model.specs.declared.machine.QueueState.{QueueState}
use Rattle.qls_site.specs.Content.{Moment, Content, Rose, Tells, moments_since}
use Rattle.qls_site.proofs.Told.{Tells-then, Tells-weaken}
use Rattle.qls_meaning.specs.History.{AllUnmarked, IsUnmarked, newly_used}
use Rattle.qls_meaning.specs.Journals.{Headed}
use Rattle.qls_pool.specs.Files.{OnDisk}
use Rattle.qls_pool.specs.Moments.{Chain, Passes, Arrives}
use Rattle.qls_pool.specs.Serials.{TakesNone, serials_taken}
use Rattle.qls_pool.proofs.Moments.{Arrives-then, Arrives-passes, Passes-of, chain-append}
use Rattle.qls_pool.proofs.Serials.{taken_then}
use Rattle.qls_log.specs.Leaving.{LeavesInOrder}
use Rattle.qls_queue.specs.Live.{LiveState}
use Rattle.qls_queue.proofs.Then.{last_since, since_both, told_writes}
use Rattle.qls_journals.specs.declared.cause.Cause.{Cause}
use Rattle.qls_journals.specs.Answers.{SiteCauses}
use Rattle.qls_journals.specs.Moments.{AreWritten, Changes, IsStoreStep, LeavesDead, StaysWritten}
use Rattle.qls_journals.specs.Releasing.{AreAliveUpTo, AreSame, GivesBack, HasGivenBack, ListComesAlive, NextComesAlive}
use Rattle.qls_journals.specs.State.{AreQueuesAlive, Fits, IsClean, IsWhole, JournalsState}
use Rattle.qls_journals.proofs.Names.{held_of}

-- ---- no file came into use

front_none : (xs ys : List ℕ) → xs ++ ys ≡ [] → xs ≡ []
front_none [] ys e = refl
front_none (x ∷ xs) ys e = absurd (cc)

rest_none : (xs ys : List ℕ) → xs ++ ys ≡ [] → ys ≡ []
rest_none [] ys e = e
rest_none (x ∷ xs) ys e = absurd (cc)

all_unmarked : (fs : List Headed) → map (λ f. f.header.serial) fs ≡ [] → AllByRecursion IsUnmarked fs
all_unmarked [] e = tt
all_unmarked (f ∷ fs) e = absurd (cc)

unmarked_all : (m : Moment) (ms : List Moment) → serials_taken m ms ≡ [] → AllUnmarked m ms
unmarked_all m [] e = tt
unmarked_all m (n ∷ ns) e =
    let new : List ℕ = map (λ f. f.header.serial) (newly_used m n) in
    (all_unmarked (newly_used m n) (front_none new (serials_taken n ns) e), unmarked_all n ns (rest_none new (serials_taken n ns) e))

-- then none came that was marked
pub unmarked_none : (a b : Content) → TakesNone a b → AllUnmarked a.now (moments_since a b)
unmarked_none a b none = unmarked_all a.now (moments_since a b) none

none_then : (a b c : Content) → Arrives IsStoreStep a b → Passes IsStoreStep b c → TakesNone a b → TakesNone b c → TakesNone a c
none_then a b c h k x y = taken_then IsStoreStep IsStoreStep a b c h k ∙ (λ i. x i ++ y i)

-- ---- the same journals

pub same_then : (s t u : JournalsState) → AreSame s t → AreSame t u → AreSame s u
same_then s t u h k = record {
  queues = k.queues ∙ h.queues;
  entries = k.entries ∙ h.entries;
  rid = k.rid ∙ h.rid;
  homes = record { default = k.homes.default ∙ h.homes.default; queue = λ name. k.homes.queue name ∙ h.homes.queue name; list = k.homes.list ∙ h.homes.list };
}

-- ---- one call after another

clean_behind : (s t : JournalsState) (a b : Content) → HasGivenBack s t a b → IsClean s a.now.disk → IsClean t b.now.disk
clean_behind s t a b h clean = record { whole = h.whole clean.whole; queues = h.queues clean.whole clean.queues; list = h.list clean.whole clean.list }

gives_then : (s t : JournalsState) (a b c : Content) → HasGivenBack s t a b → GivesBack t b c → GivesBack s a c
gives_then s t a b c h k = record {
  passes = Arrives-passes IsStoreStep a b c h.arrives k.passes;
  none = none_then a b c h.arrives k.passes h.back.none k.none;
  leaves = λ quiet whole.
      subst (Chain LeavesInOrder a.now) (sym (since_both IsStoreStep IsStoreStep a b c (Passes-of IsStoreStep a b h.arrives) k.passes))
      (chain-append LeavesInOrder a.now (moments_since a b) (moments_since b c) (h.back.leaves quiet whole)
      (subst (λ (m : Moment). Chain LeavesInOrder m (moments_since b c)) (last_since IsStoreStep a b h.arrives) (k.leaves (h.quiet quiet) (h.whole whole))));
}

given_then : (s t u : JournalsState) (a b c : Content) → HasGivenBack s t a b → HasGivenBack t u b c → HasGivenBack s u a c
given_then s t u a b c h k = record {
  back = gives_then s t a b c h k.back;
  arrives = Arrives-then IsStoreStep a b c h.arrives k.arrives;
  quiet = λ quiet. k.quiet (h.quiet quiet);
  fits = k.fits;
  whole = λ whole. k.whole (h.whole whole);
  queues = λ whole alive. k.queues (h.whole whole) (h.queues whole alive);
  list = λ whole alive. k.list (h.whole whole) (h.list whole alive);
  still = λ clean. k.still (clean_behind s t a b h clean) ∙ h.still clean;
}

-- ---- so many queues are through

-- the list's files went back, and those of the first n queues
pub record GivenUpTo (n : ℕ) (was s : JournalsState) (a b : Content) : Type 0 where
  pub done : HasGivenBack was s a b
  pub alive : IsWhole was a.now.disk → AreAliveUpTo n s b.now.disk

told_both : (R Q : Content → Content → Type 0) (a b : Option Content) → Tells R a b → Tells Q a b → Tells (λ x y. R x y × Q x y) a b
told_both R Q None None h k = tt
told_both R Q None (Some y) h k = absurd h
told_both R Q (Some x) None h k = absurd h
told_both R Q (Some x) (Some y) h k = (h, k)

pub given_first : (s t : JournalsState) (a b : Option Content) → Tells (HasGivenBack s t) a b → Tells (ListComesAlive s t) a b → Tells (GivenUpTo 0 s t) a b
given_first s t a b h k =
    Tells-weaken (λ x y. HasGivenBack s t x y × ListComesAlive s t x y) (GivenUpTo 0 s t) a b (told_both (HasGivenBack s t) (ListComesAlive s t) a b h k)
    (λ x y both. record { done = both.0; alive = λ whole. (both.1 whole, tt) })

next_by : (n : ℕ) (s t u : JournalsState) (a b c : Content) → GivenUpTo n s t a b → HasGivenBack t u b c → NextComesAlive n t u b c → GivenUpTo (n + 1) s u a c
next_by n s t u a b c h k next = record { done = given_then s t u a b c h.done k; alive = λ whole. next (h.done.whole whole) (h.alive whole) }

pub given_next : (n : ℕ) (s t u : JournalsState) (a b c : Option Content) → Tells (GivenUpTo n s t) a b → Tells (HasGivenBack t u) b c → Tells (NextComesAlive n t u) b c → Tells (GivenUpTo (n + 1) s u) a c
given_next n s t u a b c h k next =
    Tells-then (GivenUpTo n s t) (λ x y. HasGivenBack t u x y × NextComesAlive n t u x y) (GivenUpTo (n + 1) s u) a b c h (told_both (HasGivenBack t u) (NextComesAlive n t u) b c k next)
    (λ x y z first both. next_by n s t u x y z first both.0 both.1)

-- after an error
pub gives_next : (n : ℕ) (s t : JournalsState) (a b c : Option Content) → Tells (GivenUpTo n s t) a b → Tells (GivesBack t) b c → Tells (GivesBack s) a c
gives_next n s t a b c h k = Tells-then (GivenUpTo n s t) (GivesBack t) (GivesBack s) a b c h k (λ x y z first next. gives_then s t x y z first.done next)

-- ---- writes

pub writes_next : (n : ℕ) (s t : JournalsState) (r : Result JournalsState Cause) (a b c : Option Content) → Tells (GivenUpTo n s t) a b → Tells (GivesBack t) b c
    → Tells (StaysWritten {X = JournalsState} {E = Cause} (Ok t) (λ x. x) s) a b → Tells (StaysWritten r (λ x. x) t) b c → Tells (StaysWritten r (λ x. x) s) a c
writes_next n s t r a b c h k w v =
    told_writes (λ areas g. AreWritten areas g s) (λ areas g. AreWritten areas g t) (λ areas g. IfOk r (λ x. AreWritten areas g x)) IsStoreStep IsStoreStep a b c
    (Tells-weaken (GivenUpTo n s t) (Arrives IsStoreStep) a b h (λ x y first. first.done.arrives)) (Tells-weaken (GivesBack t) (Passes IsStoreStep) b c k (λ x y next. next.passes)) w v

-- ---- all are through

pub changes_all : (n : ℕ) (s t : JournalsState) (a b : Option Content) → Tells (GivenUpTo n s t) a b → Tells (Changes s t) a b
changes_all n s t a b h =
    Tells-weaken (GivenUpTo n s t) (Changes s t) a b h (λ x y given. record {
      arrives = given.done.arrives;
      quiet = given.done.quiet;
      fits = given.done.fits;
      whole = λ unmarked whole. given.done.whole whole;
      alive = λ unmarked whole alive. given.done.queues whole alive;
    })

clean_by : (n : ℕ) (s t : JournalsState) (a b : Content) → n ≡ length t.queues → GivenUpTo n s t a b → IsWhole s a.now.disk → IsClean t b.now.disk
clean_by n s t a b all given whole =
    let alive : AreAliveUpTo n t b.now.disk = given.alive whole in
    record {
      whole = given.done.whole whole;
      queues = subst (λ (qs : List LiveState). AreQueuesAlive qs b.now.disk) (ap (λ k. take k t.queues) all ∙ take-length t.queues) alive.1;
      list = alive.0;
    }

pub clean_all : (n : ℕ) (s t : JournalsState) (a b : Option Content) → n ≡ length t.queues → Tells (GivenUpTo n s t) a b → Tells (λ x y. IsWhole s x.now.disk → IsClean t y.now.disk) a b
clean_all n s t a b all h = Tells-weaken (GivenUpTo n s t) (λ x y. IsWhole s x.now.disk → IsClean t y.now.disk) a b h (λ x y given. clean_by n s t x y all given)

pub still_all : (n : ℕ) (s t : JournalsState) (a b : Option Content) → Tells (GivenUpTo n s t) a b → Tells (λ x y. IsClean s x.now.disk → y ≡ x) a b
still_all n s t a b h = Tells-weaken (GivenUpTo n s t) (λ x y. IsClean s x.now.disk → y ≡ x) a b h (λ x y given. given.done.still)

pub given_back : (n : ℕ) (s t : JournalsState) (a b : Option Content) → Tells (GivenUpTo n s t) a b → Tells (GivesBack s) a b
given_back n s t a b h = Tells-weaken (GivenUpTo n s t) (GivesBack s) a b h (λ x y given. given.done.back)

-- ---- whatever was answered

pub passes_back : (s : JournalsState) (a b : Option Content) → Tells (GivesBack s) a b → Tells (Passes IsStoreStep) a b
passes_back s a b h = Tells-weaken (GivesBack s) (Passes IsStoreStep) a b h (λ x y back. back.passes)

pub takes_back : (s : JournalsState) (a b : Option Content) → Tells (GivesBack s) a b → Tells TakesNone a b
takes_back s a b h = Tells-weaken (GivesBack s) TakesNone a b h (λ x y back. back.none)

pub leaves_back : (s : JournalsState) (a b : Option Content) → Tells (GivesBack s) a b → Tells (LeavesDead s) a b
leaves_back s a b h = Tells-weaken (GivesBack s) (LeavesDead s) a b h (λ x y back quiet unmarked whole. back.leaves quiet whole)

-- the journals fit the site
pub fits_all : (n : ℕ) (s t : JournalsState) (a b : Option Content) → Tells (GivenUpTo n s t) a b → IfSome b (OnDisk (Fits t))
fits_all n s t None None h = tt
fits_all n s t None (Some y) h = absurd h
fits_all n s t (Some x) None h = tt
fits_all n s t (Some x) (Some y) h = h.done.fits

-- ---- counts of faults

rose_later : (x y z : ℕ) → x ≤ y → Rose y z → Rose x z
rose_later x y z kept (inl less) = inl (omega (arith, kept, less))
rose_later x y z kept (inr last) = inr last

-- the count hadn't fallen before
pub causes_later : (x y z : ℕ) (r : Result JournalsState Cause) → x ≤ y → SiteCauses y z r → SiteCauses x z r
causes_later x y z r kept h = record {
  kept = omega (arith, kept, h.kept);
  failed = λ e. rose_later x y z kept (h.failed e);
  no_draw = h.no_draw;
  no_end = h.no_end;
}

-- ---- as many queues as before

pub as_many : (s t : JournalsState) → AreSame s t → length t.queues ≡ length s.queues
as_many s t same = sym (length-map t.queues held_of) ∙ ap (λ (qs : List QueueState). length qs) same.queues ∙ length-map s.queues held_of

-- ---- after an error

not_err : {P : Type 0} (x : JournalsState) → IsErr {T = JournalsState} {E = Cause} (Ok x) → P
not_err x e = absurd (cc)

pub writes_err : (v r : Result JournalsState Cause) (s : JournalsState) (a b : Option Content) → IsErr r → Tells (StaysWritten v (λ x. x) s) a b → Tells (StaysWritten r (λ x. x) s) a b
writes_err v (Ok x) s a b e h = not_err x e
writes_err v (Err f) s a b e h =
    Tells-weaken (StaysWritten v (λ x. x) s) (StaysWritten {X = JournalsState} {E = Cause} (Err f) (λ x. x) s) a b h (λ x y k areas g is written. ((k areas g is written).0, tt))
