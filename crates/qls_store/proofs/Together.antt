-- Two calls on the journals in a row: what each of them has, both together have.
use Rattle.std.proofs.Common.{◌≡◌, ℕ, true, false, List, [], ◌∷◌, Option, Some, None, Result, Ok, Err, IfOk, IfSome, refl, sym, ap, ◌∙◌, subst, arith, append-nil}
use Rattle.std.specs.List.{AllByRecursion}
use Rattle.qls_site.specs.Disk.{Disk, FileState, file_of}
use Rattle.qls_site.specs.Content.{Moment, Content, Tells, moments_since}
use Rattle.qls_site.proofs.Told.{Tells-then, Tells-weaken, IfSome-after}
use Rattle.qls_filehdr.specs.declared.JournalKind.{JournalKind}
use Rattle.qls_filehdr.specs.declared.JournalKind.TheVariants as journal
use Rattle.qls_meaning.specs.History.{History, AllUnmarked}
use Rattle.qls_pool.specs.Files.{OnDisk}
use Rattle.qls_pool.specs.Moments.{Chain, Passes, Arrives, EndsIn}
use Rattle.qls_pool.proofs.Moments.{Arrives-then, Arrives-passes, Arrives-same, Passes-of, Passes-weaken, chain-append, since_of, told_same, told_of}
use Rattle.qls_pool.proofs.Serials.{drawn_then, drawn_none, tells_none}
use Rattle.qls_log.specs.Leaving.{LeavesInOrder}
use Rattle.qls_log.specs.Unwritten.{history_with}
use Rattle.qls_queue.proofs.Then.{since_both, last_since, unmarked_front, unmarked_rest, told_passes_by, told_writes, writes_none}
use Rattle.qls_queue.proofs.Writes.{rose_later}
use Rattle.qls_journals.specs.declared.cause.Cause.{Cause}
use Rattle.qls_journals.specs.declared.cause.Cause.TheVariants.{Failed, Draw, Memory}
use Rattle.qls_journals.specs.Answers.{is_exact, StoreCauses}
use Rattle.qls_journals.specs.Homes.{Homes, homes_of, home_by, SameHomes, TakesFrom, TakesFromHome}
use Rattle.qls_journals.specs.Moments.{IsStoreStep, Changes, LeavesDead, AreWritten, StaysWritten}
use Rattle.qls_journals.specs.State.{JournalsState, AreReleased, Fits}
use Rattle.qls_store.specs.Calls.{Calls}

-- ---- the moments

pub changes_then : (was mid s : JournalsState) (a b c : Content) → Changes was mid a b → Changes mid s b c → Changes was s a c
changes_then was mid s a b c h k = record {
  arrives = Arrives-then IsStoreStep a b c h.arrives k.arrives;
  quiet = λ q. k.quiet (h.quiet q);
  fits = k.fits;
  whole = λ u w.
      k.whole (unmarked_rest IsStoreStep IsStoreStep a b c h.arrives (Passes-of IsStoreStep b c k.arrives) u)
      (h.whole (unmarked_front IsStoreStep IsStoreStep a b c (Passes-of IsStoreStep a b h.arrives) (Passes-of IsStoreStep b c k.arrives) u) w);
  alive = λ u w q.
      let front : AllUnmarked a.now (moments_since a b) = unmarked_front IsStoreStep IsStoreStep a b c (Passes-of IsStoreStep a b h.arrives) (Passes-of IsStoreStep b c k.arrives) u in
      k.alive (unmarked_rest IsStoreStep IsStoreStep a b c h.arrives (Passes-of IsStoreStep b c k.arrives) u) (h.whole front w) (h.alive front w q);
}

-- by the answer of the second one
pub ends_then : (was mid : JournalsState) (r : Result JournalsState Cause) (a b c : Content) → Changes was mid a b → EndsIn (λ s. Changes mid s) (Passes IsStoreStep) r b c → EndsIn (λ s. Changes was s) (Passes IsStoreStep) r a c
ends_then was mid (Ok s) a b c h k = changes_then was mid s a b c h k
ends_then was mid (Err e) a b c h k = Arrives-passes IsStoreStep a b c h.arrives k

pub ends_pass : (was : JournalsState) (r : Result JournalsState Cause) (a b : Content) → EndsIn (λ s. Changes was s) (Passes IsStoreStep) r a b → Passes IsStoreStep a b
ends_pass was (Ok s) a b h = Passes-of IsStoreStep a b h.arrives
ends_pass was (Err e) a b h = h

pub told_ends : (was mid : JournalsState) (r : Result JournalsState Cause) (a b c : Option Content) → Tells (Changes was mid) a b → Tells (EndsIn (λ s. Changes mid s) (Passes IsStoreStep) r) b c → Tells (EndsIn (λ s. Changes was s) (Passes IsStoreStep) r) a c
told_ends was mid r a b c h k = Tells-then (Changes was mid) (EndsIn (λ s. Changes mid s) (Passes IsStoreStep) r) (EndsIn (λ s. Changes was s) (Passes IsStoreStep) r) a b c h k (λ x y z. ends_then was mid r x y z)

pub told_arrives : (was s : JournalsState) (a b : Option Content) → Tells (Changes was s) a b → Tells (Arrives IsStoreStep) a b
told_arrives was s a b h = Tells-weaken (Changes was s) (Arrives IsStoreStep) a b h (λ x y k. k.arrives)

pub told_passes : (was : JournalsState) (r : Result JournalsState Cause) (a b : Option Content) → Tells (EndsIn (λ s. Changes was s) (Passes IsStoreStep) r) a b → Tells (Passes IsStoreStep) a b
told_passes was r a b h = Tells-weaken (EndsIn (λ s. Changes was s) (Passes IsStoreStep) r) (Passes IsStoreStep) a b h (ends_pass was r)

-- ---- files that leave use

leaves_then : (was mid : JournalsState) (a b c : Content) → Changes was mid a b → Passes IsStoreStep b c → LeavesDead was a b → LeavesDead mid b c → LeavesDead was a c
leaves_then was mid a b c h p l m = λ q u w.
    let front : AllUnmarked a.now (moments_since a b) = unmarked_front IsStoreStep IsStoreStep a b c (Passes-of IsStoreStep a b h.arrives) p u in
    let second : Chain LeavesInOrder b.now (moments_since b c) = m (h.quiet q) (unmarked_rest IsStoreStep IsStoreStep a b c h.arrives p u) (h.whole front w) in
    subst (Chain LeavesInOrder a.now) (sym (since_both IsStoreStep IsStoreStep a b c (Passes-of IsStoreStep a b h.arrives) p))
    (chain-append LeavesInOrder a.now (moments_since a b) (moments_since b c) (l q front w) (subst (λ (n : Moment). Chain LeavesInOrder n (moments_since b c)) (last_since IsStoreStep a b h.arrives) second))

pub told_leaves : (was mid : JournalsState) (a b c : Option Content) → Tells (Changes was mid) a b → Tells (Passes IsStoreStep) b c → Tells (LeavesDead was) a b → Tells (LeavesDead mid) b c → Tells (LeavesDead was) a c
told_leaves was mid None None None h p l m = tt
told_leaves was mid None None (Some z) h p l m = absurd p
told_leaves was mid None (Some y) c h p l m = absurd h
told_leaves was mid (Some x) None c h p l m = absurd h
told_leaves was mid (Some x) (Some y) None h p l m = absurd p
told_leaves was mid (Some x) (Some y) (Some z) h p l m = leaves_then was mid x y z h p l m

-- ---- what was written

pub told_written : (was mid : JournalsState) (r : Result JournalsState Cause) (a b c : Option Content) → Tells (Changes was mid) a b → Tells (Passes IsStoreStep) b c
    → Tells (StaysWritten {X = JournalsState} {E = Cause} (Ok mid) (λ s. s) was) a b → Tells (StaysWritten r (λ s. s) mid) b c → Tells (StaysWritten r (λ s. s) was) a c
told_written was mid r a b c h p w v =
    told_writes (λ areas h. AreWritten areas h was) (λ areas h. AreWritten areas h mid) (λ areas h. IfOk r (λ s. AreWritten areas h s)) IsStoreStep IsStoreStep a b c
    (told_arrives was mid a b h) p w v

-- ---- the pools of the journals

pub home_same : (h k : Homes) → SameHomes h k → (kind : JournalKind) (name : List ℕ) → home_by kind name h ≡ home_by kind name k
home_same h k s journal.Queue name = s.queue name
home_same h k s journal.List name = ap (λ p. Some p) s.list

of_home : (h k : Homes) → SameHomes h k → (d : Disk) (o : Option FileState) (g : FileState) → TakesFrom h d o g → TakesFrom k d o g
of_home h k s d None g t = tt
of_home h k s d (Some f) g t = λ unused used.
    let r = t unused used in
    (r.0, record { legal = r.1.legal; home = sym (home_same h k s r.0.kind r.0.name) ∙ r.1.home; due = r.1.due; number = r.1.number })

all_weaken : {A : Type 0} (P Q : A → Type 0) → ((x : A) → P x → Q x) → (xs : List A) → AllByRecursion P xs → AllByRecursion Q xs
all_weaken P Q w [] h = tt
all_weaken P Q w (x ∷ xs) h = (w x h.0, all_weaken P Q w xs h.1)

takes_same : (h k : Homes) → SameHomes h k → (m n : Moment) → TakesFromHome h m n → TakesFromHome k m n
takes_same h k s m n t = all_weaken (λ g. TakesFrom h m.disk (file_of g.id m.disk) g) (λ g. TakesFrom k m.disk (file_of g.id m.disk) g) (λ g. of_home h k s m.disk (file_of g.id m.disk) g) n.disk t

pub told_homes : (h k : Homes) → SameHomes h k → (a b : Option Content) → Tells (Passes (TakesFromHome h)) a b → Tells (Passes (TakesFromHome k)) a b
told_homes h k s a b t = Tells-weaken (Passes (TakesFromHome h)) (Passes (TakesFromHome k)) a b t (Passes-weaken (TakesFromHome h) (TakesFromHome k) (takes_same h k s))

pub same_homes : (h k l : Homes) → SameHomes k h → SameHomes l k → SameHomes l h
same_homes h k l s t = record { default = t.default ∙ s.default; queue = λ name. t.queue name ∙ s.queue name; list = t.list ∙ s.list }

pub same_home : (h : Homes) → SameHomes h h
same_home h = record { default = refl; queue = λ name. refl; list = refl }

ok_homes : (h k : Homes) (r : Result JournalsState Cause) → SameHomes k h → IfOk r (λ s. SameHomes (homes_of s) k) → IfOk r (λ s. SameHomes (homes_of s) h)
ok_homes h k (Ok s) t u = same_homes h k (homes_of s) t u
ok_homes h k (Err e) t u = tt

-- ---- dead files that went back

ok_released : (was mid : JournalsState) (r : Result JournalsState Cause) → (AreReleased was.queues → AreReleased mid.queues) → IfOk r (λ s. AreReleased mid.queues → AreReleased s.queues) → IfOk r (λ s. AreReleased was.queues → AreReleased s.queues)
ok_released was mid (Ok s) h k = λ q. k (h q)
ok_released was mid (Err e) h k = tt

-- queues that stay
pub same_released : (was : JournalsState) (r : Result JournalsState Cause) → IfOk r (λ s. s.queues ≡ was.queues) → IfOk r (λ s. AreReleased was.queues → AreReleased s.queues)
same_released was (Ok s) h = λ q. subst AreReleased (sym h) q
same_released was (Err e) h = tt

-- ---- the faults

pub caused_then : {X Y : Type 0} (v : X) (r : Result Y Cause) (s t u d e f : ℕ) → StoreCauses {X = X} s t d e (Ok v) → StoreCauses t u e f r → StoreCauses s u d f r
caused_then v r s t u d e f h k = record {
  sites_kept = omega (arith, h.sites_kept, k.sites_kept);
  draws_kept = omega (arith, h.draws_kept, k.draws_kept);
  failed = λ i. rose_later s t u h.sites_kept (k.failed i);
  draw = λ i. rose_later d e f h.draws_kept (k.draw i);
}

-- ---- both calls

pub calls_then : (was mid : JournalsState) (r : Result JournalsState Cause) (a b c : Option Content) (x y z : Option (List ℕ)) (s t u d e f : ℕ) → Calls (Ok mid) was a b x y s t d e → Calls r mid b c y z t u e f
    → Calls r was a c x z s u d f
calls_then was mid r a b c x y z s t u d e f h k = record {
  told = told_ends was mid r a b c h.told k.told;
  drawn = drawn_then IsStoreStep IsStoreStep (is_exact r) a b c x y z (told_arrives was mid a b h.told) (told_passes mid r b c k.told) h.drawn k.drawn;
  leaves = told_leaves was mid a b c h.told (told_passes mid r b c k.told) h.leaves k.leaves;
  writes = told_written was mid r a b c h.told (told_passes mid r b c k.told) h.writes k.writes;
  homes = ok_homes (homes_of was) (homes_of mid) r h.homes k.homes;
  released = ok_released was mid r h.released k.released;
  pools = told_passes_by (TakesFromHome (homes_of was)) IsStoreStep a b c (told_arrives was mid a b h.told) h.pools (told_homes (homes_of mid) (homes_of was) h.homes b c k.pools);
  causes = caused_then mid r s t u d e f h.causes k.causes;
}

-- ---- no call

no_moments : (c : Content) → moments_since c c ≡ []
no_moments c = since_of (λ m n. Unit {0}) c c (Arrives-same (λ m n. Unit {0}) c c refl)

fits_still : (was : JournalsState) (a : Option Content) → IfSome a (OnDisk (Fits was)) → Tells (Changes was was) a a
fits_still was None h = tt
fits_still was (Some c) h = record { arrives = Arrives-same IsStoreStep c c refl; quiet = λ q. q; fits = h; whole = λ u w. w; alive = λ u w q. q }

passes_still : (R : Moment → Moment → Type 0) (a : Option Content) → Tells (Passes R) a a
passes_still R a = told_of R a a (told_same R a)

leaves_still : (was : JournalsState) (a : Option Content) → Tells (LeavesDead was) a a
leaves_still was None = tt
leaves_still was (Some c) = λ q u w. subst (Chain LeavesInOrder c.now) (sym (no_moments c)) tt

history_still : (h : History) (c : Content) → h ≡ history_with h (moments_since c c)
history_still h c = ap (λ (ms : List Moment). record h { since = ms }) (sym (append-nil h.since)) ∙ ap (history_with h) (sym (no_moments c))

written_still : (was : JournalsState) (a : Option Content) → Tells (StaysWritten {X = JournalsState} {E = Cause} (Ok was) (λ s. s) was) a a
written_still was None = tt
written_still was (Some c) = λ areas h n w.
    let none = writes_none (λ areas g. AreWritten areas g was) (Some c) in
    ((none areas h n w).0, subst (λ (g : History). AreWritten areas g was) (history_still h c) w)

still_caused : {X : Type 0} (s d : ℕ) (r : Result X Cause) → (r ≡ Err Failed → ⊥) → (r ≡ Err Draw → ⊥) → StoreCauses s s d d r
still_caused s d r f g = record { sites_kept = omega arith; draws_kept = omega arith; failed = λ e. absurd (f e); draw = λ e. absurd (g e) }

pub calls_none : (was : JournalsState) (a : Option Content) (x : Option (List ℕ)) (s d : ℕ) → IfSome a (OnDisk (Fits was)) → Calls (Ok was) was a a x x s s d d
calls_none was a x s d h = record {
  told = fits_still was a h;
  drawn = drawn_none true a a x x (tells_none (λ m n. Unit {0}) a) refl;
  leaves = leaves_still was a;
  writes = written_still was a;
  homes = same_home (homes_of was);
  released = λ q. q;
  pools = passes_still (TakesFromHome (homes_of was)) a;
  causes = still_caused s d (Ok was) not_failed not_draw;
}
  where
    not_failed : ◌≡◌ {A = Result JournalsState Cause} (Ok was) (Err Failed) → ⊥
    not_failed e = cc

    not_draw : ◌≡◌ {A = Result JournalsState Cause} (Ok was) (Err Draw) → ⊥
    not_draw e = cc

-- memory was wanting
pub calls_memory : (was : JournalsState) (r : Result JournalsState Cause) (a : Option Content) (x : Option (List ℕ)) (s d : ℕ) → Err Memory ≡ r → Calls r was a a x x s s d d
calls_memory was r a x s d e = subst (λ (q : Result JournalsState Cause). Calls q was a a x x s s d d) e (record {
  told = passes_still IsStoreStep a;
  drawn = drawn_none false a a x x (tells_none (λ m n. Unit {0}) a) refl;
  leaves = leaves_still was a;
  writes = writes_none (λ areas g. AreWritten areas g was) a;
  homes = tt;
  released = tt;
  pools = passes_still (TakesFromHome (homes_of was)) a;
  causes = still_caused s d (Err Memory) not_failed not_draw;
})
  where
    not_failed : ◌≡◌ {A = Result JournalsState Cause} (Err Memory) (Err Failed) → ⊥
    not_failed e = cc

    not_draw : ◌≡◌ {A = Result JournalsState Cause} (Err Memory) (Err Draw) → ⊥
    not_draw e = cc

-- the error of the first one is handed on
pub calls_error : (was : JournalsState) (e : Cause) (r : Result JournalsState Cause) (a b : Option Content) (x y : Option (List ℕ)) (s t d f : ℕ) → Err e ≡ r → Calls (Err e) was a b x y s t d f → Calls r was a b x y s t d f
calls_error was e r a b x y s t d f is h = subst (λ (q : Result JournalsState Cause). Calls q was a b x y s t d f) is h

-- ---- what the next call asks

pub fits_then : (was s : JournalsState) (a b : Option Content) → Tells (Changes was s) a b → IfSome a (OnDisk (Fits was)) → IfSome b (OnDisk (Fits s))
fits_then was s a b h f = IfSome-after (Changes was s) (OnDisk (Fits was)) (OnDisk (Fits s)) a b h f (λ x y k p. k.fits)
