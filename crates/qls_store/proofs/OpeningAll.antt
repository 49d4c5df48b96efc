-- What is to be shown of the opening of a store, and what its calls give of it.
use Rattle.std.proofs.Common.{◌≡◌, inl, inr, ℕ, ◌≤◌, Bool, true, false, List, [], ◌∷◌, ◌++◌, map, Option, Some, None, IfSome, Result, Ok, Err, IfOk, refl, sym, ap, ◌∙◌, subst, arith}
use Rattle.std.specs.List.{AllByRecursion}
use Rattle.qls_model.specs.Machine.{MachineState}
use Rattle.qls_model.specs.Messages.{decided}
use Rattle.qls_model.specs.Sound.{IsNumbered}
use Rattle.qls_model.specs.declared.machine.PoolId.{PoolId}
use Rattle.qls_model.specs.declared.machine.QueueState.{QueueState}
use Rattle.qls_model.specs.declared.machine.Verdict.TheVariants.{Doubt}
use Rattle.qls_site.specs.Disk.{Disk, IdsRise, Image, full}
use Rattle.qls_site.specs.Content.{Content, Moment, Tells, moments_since}
use Rattle.qls_site.proofs.Told.{Tells-then, Tells-weaken}
use Rattle.qls_decide.specs.declared.ListEntry.{ListEntry}
use Rattle.qls_decide.specs.declared.ListState.TheVariants.{Prepared}
use Rattle.qls_decide.specs.Entries.{verdict_by}
use Rattle.qls_meaning.specs.Damage.{Damage}
use Rattle.qls_meaning.specs.Dead.{NoneDead, has_dead_oldest}
use Rattle.qls_meaning.specs.History.{AllUnmarked, last_of}
use Rattle.qls_meaning.specs.Journals.{Journal, journals_of}
use Rattle.qls_meaning.specs.Meaning.{entries_of, meaning, meaning_of, queues_of as queues_in}
use Rattle.qls_meaning.specs.Spent.{list_rid}
use Rattle.qls_pool.specs.Files.{OnDisk}
use Rattle.qls_pool.specs.Moments.{EndsIn, Passes}
use Rattle.qls_pool.specs.Serials.{DrawsTaken, TakesNone}
use Rattle.qls_pool.proofs.Moments.{Passes-of, since_of}
use Rattle.qls_pool.proofs.Serials.{drawn_none}
use Rattle.qls_log.specs.Leaving.{LeavesInOrder}
use Rattle.qls_log.specs.Logs.{LogState}
use Rattle.qls_queue.specs.Answers.{is_pending}
use Rattle.qls_queue.proofs.Then.{chain_since, unmarked_rest}
use Rattle.qls_queue.proofs.Writes.{rose_later}
use Rattle.qls_prepared.specs.Lists.{AliveBy, rid_of as rid_of_list}
use Rattle.qls_journals.specs.declared.cause.Cause.{Cause}
use Rattle.qls_journals.specs.declared.cause.Cause.TheVariants as cause
use Rattle.qls_journals.specs.Answers.{StoreCauses, is_exact}
use Rattle.qls_journals.specs.Homes.{SameHomes, TakesFromHome, homes_on}
use Rattle.qls_journals.specs.Moments.{Changes, IsStoreStep, StaysWritten}
use Rattle.qls_journals.specs.Opening.{Opens, OpensWritten}
use Rattle.qls_journals.specs.State.{JournalsState, AreJournals, AreQueuesAlive, AreReleased, IsClean as AreClean, IsWhole, queues_of}
use Rattle.qls_journals.proofs.AllJournals.{all_journals, journal_of, list_part}
use Rattle.qls_journals.proofs.Dropping.{pools_untaken}
use Rattle.qls_look.specs.declared.fault.OpenFault.{OpenFault}
use Rattle.qls_look.specs.declared.fault.OpenFault.TheVariants.{Failed, Draw, Spent, Memory, Damaged}
use Rattle.qls_look.specs.Looking.{NeverTakes}
use Rattle.qls_store.specs.Calls.{Calls}
use Rattle.qls_store.specs.Homes.{homes_of}
use Rattle.qls_store.specs.Opened.{Begins, FindsAs, StaysIfNonePast, fault_by}
use Rattle.qls_store.specs.Opening.{IsSettled, LooksIfDamaged, OpensAs, OpensLeaving, OpensStore, OpeningCauses, OpeningStops, StaysIfSettled, is_exact_opening}
use Rattle.qls_store.specs.Settling.{EndsClean, IsDoubted, IsSettledSo, StaysIfClean, StopsSettling, entries_kept}
use Rattle.qls_store.specs.Stores.{IsClean, IsStore, StoreState, home_of, rid_of, state_of}
use Rattle.qls_store.proofs.Resting.{drawn_weaken}
use Rattle.qls_store.proofs.Together.{told_passes}
use Rattle.qls_store.proofs.OpeningBegins.{IsUndamaged, Rises, damage_means, means, told_with, undamaged_looks}
use Rattle.qls_store.proofs.OpeningStore.{opened_store, state_is, store_of}
use Rattle.qls_store.proofs.OpeningThen.{Opening, OpensTo, opening_stops, opening_then}

pub record OpensSo (home : PoolId) (r : Result StoreState OpenFault) (a b : Option Content) (x y : Option (List ℕ)) (f g m n : ℕ) : Type 0 where
  pub meaning : IfSome a (OnDisk (λ d. OpensAs (meaning (full d)) r))
  pub rising : IfSome a (λ c. IdsRise (full c.now.disk))
  pub looks : Tells LooksIfDamaged a b
  pub homed : IfOk r (λ s. home_of s ≡ home)
  pub store : IfOk r IsStore
  pub rid : IfOk r (λ s. IfSome a (OnDisk (λ d. rid_of s ≡ list_rid d)))
  pub homes : IfOk r (λ s. IfSome a (OnDisk (λ d. SameHomes (homes_of s) (homes_on home d))))
  pub told : Tells (EndsIn OpensStore (Passes IsStoreStep) r) a b
  pub pools : Tells (λ p q. Passes (TakesFromHome (homes_on home p.now.disk)) p q) a b
  pub leaves : Tells OpensLeaving a b
  pub writes : Tells (OpensWritten r (λ s. s.journals)) a b
  pub drawn : DrawsTaken (is_exact_opening r) a b x y
  pub still : IfOk r (λ _. Tells StaysIfSettled a b)
  pub spent : r ≡ Err Spent → Tells (OpeningStops home) a b
  pub causes : OpeningCauses f g m n r

-- ---- where told

some_from : (P Q : Content → Type 0) (a : Option Content) → IfSome a P → ((x : Content) → P x → Q x) → IfSome a Q
some_from P Q None h f = tt
some_from P Q (Some x) h f = f x h

some_of : (R : Content → Content → Type 0) (P : Content → Type 0) (a b : Option Content) → Tells R a b → ((x y : Content) → R x y → P x) → IfSome a P
some_of R P None b t f = tt
some_of R P (Some x) None t f = absurd t
some_of R P (Some x) (Some y) t f = f x y t

err_is : {X : Type 0} {x y : OpenFault} → ◌≡◌ {A = Result X OpenFault} (Err x) (Err y) → x ≡ y
err_is e = cc

-- ---- the journals weren't opened

says_as : (i : Image) (fault : OpenFault) → FindsAs i (Err fault) → OpensAs (meaning i) (Err fault)
says_as i Failed h = tt
says_as i Memory h = tt
says_as i Draw h = absurd h
says_as i Spent h = absurd h
says_as i (Damaged file rule) h = damage_means i (file, rule) h

takes_some : (fault : OpenFault) → NeverTakes {X = JournalsState} (Err fault) → (fault ≡ Draw → ⊥) × (fault ≡ Spent → ⊥)
takes_some Failed h = ((λ e. cc), (λ e. cc))
takes_some Memory h = ((λ e. cc), (λ e. cc))
takes_some Draw h = absurd h
takes_some Spent h = absurd h
takes_some (Damaged file rule) h = ((λ e. cc), (λ e. cc))

untaken_on : (home : PoolId) (a b : Option Content) → Tells (Passes IsStoreStep) a b → Tells TakesNone a b → Tells (λ p q. Passes (TakesFromHome (homes_on home p.now.disk)) p q) a b
untaken_on home None None h n = tt
untaken_on home None (Some y) h n = absurd h
untaken_on home (Some x) None h n = absurd h
untaken_on home (Some x) (Some y) h n = pools_untaken (homes_on home x.now.disk) IsStoreStep (Some x) (Some y) h n

pub opens_failed : (home : PoolId) (fault : OpenFault) (a b : Option Content) (x : Option (List ℕ)) (f g m : ℕ) → Begins home (Err fault) a b f g → OpensSo home (Err fault) a b x x f g m m
opens_failed home fault a b x f g m h = record {
  meaning = some_from (λ c. FindsAs (full c.now.disk) (Err fault)) (OnDisk (λ d. OpensAs (meaning (full d)) (Err fault))) a h.found (λ c k. says_as (full c.now.disk) fault k);
  rising = h.rising;
  looks = h.looks;
  homed = tt;
  store = tt;
  rid = tt;
  homes = tt;
  told = h.told;
  pools = untaken_on home a b h.told h.none;
  leaves = Tells-weaken (Passes LeavesInOrder) OpensLeaving a b h.leaves (λ p q k u. chain_since LeavesInOrder p q k);
  writes = h.writes;
  drawn = drawn_none (is_exact_opening {X = StoreState} (Err fault)) a b x x h.none refl;
  still = tt;
  spent = λ e. absurd ((takes_some fault h.never).1 (err_is e));
  causes = record {
    sites_kept = h.causes.kept;
    draws_kept = omega arith;
    failed = λ e. h.causes.failed (ap (λ (y : OpenFault). Err y) (err_is e));
    draw = λ e. absurd ((takes_some fault h.never).0 (err_is e));
  };
}

-- ---- a later call failed

cause_failed : (k : Cause) → fault_by k ≡ Failed → k ≡ cause.Failed
cause_failed cause.Failed e = refl
cause_failed cause.Draw e = absurd (cc)
cause_failed cause.Spent e = absurd (cc)
cause_failed cause.Memory e = absurd (cc)

cause_draw : (k : Cause) → fault_by k ≡ Draw → k ≡ cause.Draw
cause_draw cause.Failed e = absurd (cc)
cause_draw cause.Draw e = refl
cause_draw cause.Spent e = absurd (cc)
cause_draw cause.Memory e = absurd (cc)

cause_spent : (k : Cause) → fault_by k ≡ Spent → k ≡ cause.Spent
cause_spent cause.Failed e = absurd (cc)
cause_spent cause.Draw e = absurd (cc)
cause_spent cause.Spent e = refl
cause_spent cause.Memory e = absurd (cc)

exact_same : (k : Cause) → is_exact {X = JournalsState} (Err k) ≡ is_exact_opening {X = StoreState} (Err (fault_by k))
exact_same cause.Failed = refl
exact_same cause.Draw = refl
exact_same cause.Spent = refl
exact_same cause.Memory = refl

opens_as : (i : Image) (k : Cause) (S : MachineState) → meaning i ≡ Ok S → OpensAs (meaning i) (Err (fault_by k))
opens_as i cause.Failed S e = tt
opens_as i cause.Draw S e = (S, e)
opens_as i cause.Spent S e = (S, e)
opens_as i cause.Memory S e = tt

module _ (home : PoolId) (j : JournalsState) (a b c : Option Content) (x y : Option (List ℕ)) (f g h m n : ℕ) (begins : Begins home (Ok j) a b f g) where
  pub opens_stopped : (k : Cause) → Calls (Err k) j b c x y g h m n → (k ≡ cause.Spent → Tells (StopsSettling j) b c) → OpensSo home (Err (fault_by k)) a c x y f h m n
  opens_stopped k calls spent =
      let all : Opening home (Err k) a c x y = opening_then home j begins.homed (Err k) a b c x y g h m n begins.told begins.none begins.leaves begins.writes calls in
      record {
        meaning = some_from IsUndamaged (OnDisk (λ d. OpensAs (meaning (full d)) (Err (fault_by k)))) a begins.found (λ p e. opens_as (full p.now.disk) k (meaning_of (journals_of (full p.now.disk))) (means (full p.now.disk) e));
        rising = begins.rising;
        looks = undamaged_looks (Passes IsStoreStep) a c begins.found all.told;
        homed = tt;
        store = tt;
        rid = tt;
        homes = tt;
        told = all.told;
        pools = all.pools;
        leaves = all.leaves;
        writes = all.writes;
        drawn = subst (λ e. DrawsTaken e a c x y) (exact_same k) all.drawn;
        still = tt;
        spent = λ e. opening_stops home j begins.homed a b c begins.told (spent (cause_spent k (err_is e)));
        causes = record {
          sites_kept = omega (arith, begins.causes.kept, calls.causes.sites_kept);
          draws_kept = calls.causes.draws_kept;
          failed = λ e. rose_later f g h begins.causes.kept (calls.causes.failed (ap (λ (z : Cause). Err z) (cause_failed k (err_is e))));
          draw = λ e. calls.causes.draw (ap (λ (z : Cause). Err z) (cause_draw k (err_is e)));
        };
      }

  -- memory was wanting for the transactions
  lost_failed : ◌≡◌ {A = Result JournalsState Cause} (Err cause.Memory) (Err cause.Failed) → ⊥
  lost_failed e = cc

  lost_draw : ◌≡◌ {A = Result JournalsState Cause} (Err cause.Memory) (Err cause.Draw) → ⊥
  lost_draw e = cc

  not_spent : cause.Memory ≡ cause.Spent → ⊥
  not_spent e = cc

  calls_lost : (s : JournalsState) → Calls (Ok s) j b c x y g h m n → Calls (Err cause.Memory) j b c x y g h m n
  calls_lost s calls = record {
    told = told_passes j (Ok s) b c calls.told;
    drawn = drawn_weaken false b c x y calls.drawn;
    leaves = calls.leaves;
    writes = Tells-weaken (StaysWritten {X = JournalsState} {E = Cause} (Ok s) (λ t. t) j) (StaysWritten {X = JournalsState} {E = Cause} (Err cause.Memory) (λ t. t) j) b c calls.writes (λ p q w areas k e v. ((w areas k e v).0, tt));
    homes = tt;
    released = tt;
    pools = calls.pools;
    causes = record { sites_kept = calls.causes.sites_kept; draws_kept = calls.causes.draws_kept; failed = λ e. absurd (lost_failed e); draw = λ e. absurd (lost_draw e) };
  }

  pub opens_wanting : (s : JournalsState) → Calls (Ok s) j b c x y g h m n → OpensSo home (Err Memory) a c x y f h m n
  opens_wanting s calls = opens_stopped cause.Memory (calls_lost s calls) (λ e. absurd (not_spent e))

-- ---- a settled disk

last_same : (k : Moment) (ms : List Moment) → AllByRecursion (λ m. m ≡ k) ms → last_of k ms ≡ k
last_same k [] h = refl
last_same k (m ∷ ms) h = ap (λ (l : Moment). last_of l ms) h.0 ∙ last_same k ms h.1

split_front : {A : Type 0} (P : A → Type 0) (xs ys : List A) → AllByRecursion P (xs ++ ys) → AllByRecursion P xs × AllByRecursion P ys
split_front P [] ys h = (tt, h)
split_front P (x ∷ xs) ys h = let rest = split_front P xs ys h.1 in ((h.0, rest.0), rest.1)

unmapped : {A B : Type 0} (P : B → Type 0) (f : A → B) (xs : List A) → AllByRecursion P (map f xs) → AllByRecursion (λ a. P (f a)) xs
unmapped P f [] h = tt
unmapped P f (x ∷ xs) h = (h.0, unmapped P f xs h.1)

list_alive : (d : Disk) (log : Option LogState) → AllByRecursion (λ k. has_dead_oldest k ≡ false) (list_part d log) → AliveBy log d
list_alive d None h = tt
list_alive d (Some l) h = h.0

module _ (j : JournalsState) (are : AreJournals j) where
  clean_on : (p q : Content) → Opens j p q → q.now ≡ p.now → NoneDead (full p.now.disk) → AreClean j q.now.disk
  clean_on p q h same none =
      let d : Disk = q.now.disk in
      let there : NoneDead (full d) = subst (λ (k : Moment). NoneDead (full k.disk)) (sym same) none in
      let parts = split_front (λ k. has_dead_oldest k ≡ false) (list_part d j.list.log) (map (journal_of d) j.queues) (subst (AllByRecursion (λ (k : Journal). has_dead_oldest k ≡ false)) (all_journals j d are h.fits) there) in
      record { whole = h.whole; queues = unmapped (λ k. has_dead_oldest k ≡ false) (journal_of d) j.queues parts.1; list = list_alive d j.list.log parts.0 }

  settled_so : (p q : Content) → Opens j p q → IsSettled p.now.disk → IsSettledSo j
  settled_so p q h s = record {
    queues = subst (λ (qs : List QueueState). AllByRecursion (IsDoubted (verdict_by j.list.entries)) qs) (sym h.queues)
        (subst (λ (es : List ListEntry). AllByRecursion (IsDoubted (verdict_by es)) (queues_in (journals_of (full p.now.disk)))) (sym h.entries) s.queues);
    entries = subst (AllByRecursion (λ (e : ListEntry). e.state ≡ Prepared)) (sym h.entries) s.entries;
  }

  stays_settled : (p q z : Content) → Opens j p q → StaysIfNonePast p q → (IsSettledSo j → StaysIfClean j q z) → StaysIfSettled p z
  stays_settled p q z h first second = λ s.
      let all : AllByRecursion (λ m. m ≡ p.now) (moments_since p q) = first s.past in
      let same : q.now ≡ p.now = h.arrives.last ∙ ap (last_of p.now) (sym (since_of IsStoreStep p q h.arrives)) ∙ last_same p.now (moments_since p q) all in
      let rests : z ≡ q = second (settled_so p q h s) (clean_on p q h same s.alive) in
      subst (λ (w : Content). AllByRecursion (λ m. m ≡ p.now) (moments_since p w)) (sym rests) all

-- ---- the store is open

two : (P Q R U : Content → Content → Type 0) (a b c : Option Content) → Tells P a b → Tells Q a b → Tells R b c → ((x y z : Content) → P x y → Q x y → R y z → U x z) → Tells U a c
two P Q R U None None None p q r f = tt
two P Q R U None None (Some z) p q r f = absurd r
two P Q R U None (Some y) c p q r f = absurd p
two P Q R U (Some x) None c p q r f = absurd p
two P Q R U (Some x) (Some y) None p q r f = absurd r
two P Q R U (Some x) (Some y) (Some z) p q r f = f x y z p q r

pair : (R T : Content → Content → Type 0) (a b : Option Content) → Tells R a b → Tells T a b → Tells (λ x y. R x y × T x y) a b
pair R T None None r t = tt
pair R T None (Some y) r t = absurd r
pair R T (Some x) None r t = absurd r
pair R T (Some x) (Some y) r t = (r, t)

implied : {Z : Type 0} (R : Content → Content → Type 0) (b c : Option Content) → Tells (Passes IsStoreStep) b c → (Z → Tells R b c) → Tells (λ p q. Z → R p q) b c
implied R None None t f = tt
implied R None (Some y) t f = absurd t
implied R (Some x) None t f = absurd t
implied R (Some x) (Some y) t f = f

opens_store : (j s : JournalsState) (p q z : Content) → Opens j p q → Changes j s q z → EndsClean j s q z → (home : PoolId) → OpensTo home s p z → OpensStore (opened_store s) p z
opens_store j s p q z h k clean home all = record {
  arrives = all.arrives;
  quiet = all.quiet;
  fits = all.fits;
  clean = λ u. clean (unmarked_rest IsStoreStep IsStoreStep p q z h.arrives (Passes-of IsStoreStep q z k.arrives) u) h.whole;
}

not_failed : (s : StoreState) → ◌≡◌ {A = Result StoreState OpenFault} (Ok s) (Err Failed) → ⊥
not_failed s e = cc

not_draw : (s : StoreState) → ◌≡◌ {A = Result StoreState OpenFault} (Ok s) (Err Draw) → ⊥
not_draw s e = cc

not_stopped : (s : StoreState) → ◌≡◌ {A = Result StoreState OpenFault} (Ok s) (Err Spent) → ⊥
not_stopped s e = cc

module _ (home : PoolId) (j s : JournalsState) (a b c : Option Content) (x y : Option (List ℕ)) (f g h m n : ℕ) (begins : Begins home (Ok j) a b f g) (calls : Calls (Ok s) j b c x y g h m n) where
  pub opens_done : (queues : queues_of s ≡ map (decided (verdict_by j.list.entries)) (queues_of j)) (entries : s.list.entries ≡ entries_kept j.list.entries) (rid : rid_of_list s.list ≡ rid_of_list j.list) (are : AreJournals s) (released : AreReleased s.queues)
      (clean : Tells (EndsClean j s) b c) (still : IsSettledSo j → Tells (StaysIfClean j) b c) → OpensSo home (Ok (opened_store s)) a c x y f h m n
  opens_done queues entries rid are released clean still =
      let all : Opening home (Ok s) a c x y = opening_then home j begins.homed (Ok s) a b c x y g h m n begins.told begins.none begins.leaves begins.writes calls in
      let went : Tells (Passes IsStoreStep) b c = told_passes j (Ok s) b c calls.told in
      record {
        meaning = two_meanings (pair (Opens j) (λ p q. IsUndamaged p) a b begins.told (told_with IsUndamaged (Opens j) (λ p q. IsUndamaged p) a b begins.found begins.told (λ p q e k. e))) queues entries are released;
        rising = begins.rising;
        looks = undamaged_looks (OpensTo home s) a c begins.found all.told;
        homed = home_same;
        store = store_of s are released j.list.entries (queues_of j) queues entries begins.numbered;
        rid = some_of (Opens j) (OnDisk (λ d. rid_of (opened_store s) ≡ list_rid d)) a b begins.told (λ p q k. rid ∙ k.rid);
        homes = some_of (OpensTo home s) (OnDisk (λ d. SameHomes (homes_of (opened_store s)) (homes_on home d))) a c all.told (λ p q k. k.homes);
        told = stored all.told clean;
        pools = all.pools;
        leaves = all.leaves;
        writes = all.writes;
        drawn = all.drawn;
        still = two (Opens j) StaysIfNonePast (λ p q. IsSettledSo j → StaysIfClean j p q) StaysIfSettled a b c begins.told begins.still (implied (StaysIfClean j) b c went still) (stays_settled j begins.kept);
        spent = λ e. absurd (not_stopped (opened_store s) e);
        causes = record {
          sites_kept = omega (arith, begins.causes.kept, calls.causes.sites_kept);
          draws_kept = calls.causes.draws_kept;
          failed = λ e. absurd (not_failed (opened_store s) e);
          draw = λ e. absurd (not_draw (opened_store s) e);
        };
      }
    where
      home_same : s.home ≡ home
      home_same = calls.homes.default ∙ begins.homed

      stored : Tells (OpensTo home s) a c → Tells (EndsClean j s) b c → Tells (OpensStore (opened_store s)) a c
      stored t clean = by a b c begins.told calls.told clean t
        where
          by : (a b c : Option Content) → Tells (Opens j) a b → Tells (Changes j s) b c → Tells (EndsClean j s) b c → Tells (OpensTo home s) a c → Tells (OpensStore (opened_store s)) a c
          by None None None o k e t = tt
          by None None (Some z) o k e t = absurd k
          by None (Some y) c o k e t = absurd o
          by (Some x) None c o k e t = absurd o
          by (Some x) (Some y) None o k e t = absurd k
          by (Some x) (Some y) (Some z) o k e t = opens_store j s x y z o k e home t

      two_meanings : Tells (λ p q. Opens j p q × IsUndamaged p) a b → queues_of s ≡ map (decided (verdict_by j.list.entries)) (queues_of j) → s.list.entries ≡ entries_kept j.list.entries → AreJournals s → AreReleased s.queues
          → IfSome a (OnDisk (λ d. OpensAs (meaning (full d)) (Ok (opened_store s))))
      two_meanings t qs es are released = some_of (λ p q. Opens j p q × IsUndamaged p) (OnDisk (λ d. OpensAs (meaning (full d)) (Ok (opened_store s)))) a b t (λ p q k.
          means (full p.now.disk) k.1
          ∙ ap (λ (S : MachineState). Ok S) (state_is s are released j.list.entries (queues_of j) qs es (journals_of (full p.now.disk)) k.0.entries k.0.queues))
