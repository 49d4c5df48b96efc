-- Calls on the journals behind their opening, seen from the first moment on.
use Rattle.std.proofs.Common.{◌≡◌, length, ◌<◌, ◌⊎◌, inl, inr, ℕ, ◌≤◌, Bool, true, false, List, [], ◌++◌, map, Option, Some, None, IfSome, Result, Ok, Err, IfOk, refl, sym, ap, ◌∙◌, subst, arith}
use Rattle.std.specs.List.{AllByRecursion, slice_get}
use Rattle.qls_model.specs.declared.machine.PoolId.{PoolId}
use Rattle.qls_model.specs.declared.machine.QueueState.{QueueState}
use Rattle.qls_model.specs.declared.machine.Verdict.TheVariants.{Doubt}
use Rattle.qls_site.specs.Disk.{Disk, IdsRise, IsQuiet, full}
use Rattle.qls_site.specs.Content.{Content, Moment, Tells, moments_since}
use Rattle.qls_site.proofs.Told.{Tells-then, Tells-weaken}
use Rattle.qls_decide.specs.declared.End.{End}
use Rattle.qls_decide.specs.declared.ListEntry.{ListEntry}
use Rattle.qls_decide.specs.declared.ListState.TheVariants.{Prepared}
use Rattle.qls_decide.specs.Entries.{verdict_by}
use Rattle.qls_filehdr.specs.declared.JournalKind.{JournalKind}
use Rattle.qls_filehdr.specs.declared.JournalKind.TheVariants as journal
use Rattle.qls_meaning.specs.History.{AllUnmarked, FreeArea, History}
use Rattle.qls_meaning.specs.Journals.{journals_of}
use Rattle.qls_meaning.specs.Meaning.{entries_of, queues_of as queues_in}
use Rattle.qls_meaning.specs.Orderly.{journal_on}
use Rattle.qls_meaning.specs.Spent.{list_rid}
use Rattle.qls_record.specs.Record.{Record}
use Rattle.qls_blocks.specs.Batching.{block_length, length_of}
use Rattle.qls_pool.specs.Moments.{Arrives, Chain, EndsIn, Passes}
use Rattle.qls_pool.specs.Serials.{DrawsTaken, TakesNone}
use Rattle.qls_pool.proofs.Moments.{Arrives-passes, Arrives-then, Passes-of, chain-append}
use Rattle.qls_pool.proofs.Serials.{drawn_none, drawn_then}
use Rattle.qls_log.specs.Leaving.{LeavesInOrder, WritesInOrder}
use Rattle.qls_log.specs.Unwritten.{history_with}
use Rattle.qls_queue.specs.Answers.{is_pending}
use Rattle.qls_queue.specs.Records.{end_records}
use Rattle.qls_queue.proofs.Then.{arrives_by, chain_since, last_since, since_both, told_passes_by, told_writes, unmarked_front, unmarked_rest}
use Rattle.qls_prepared.specs.Lists.{rid_of}
use Rattle.qls_prepared.specs.Records.{end_records as list_ends}
use Rattle.qls_journals.specs.declared.cause.Cause.{Cause}
use Rattle.qls_journals.specs.declared.cause.Cause.TheVariants as cause
use Rattle.qls_journals.specs.Answers.{is_exact}
use Rattle.qls_journals.specs.Ends.{StopsAtEnd, at_end_by, batch_at_end}
use Rattle.qls_journals.specs.Homes.{Homes, SameHomes, TakesFromHome, homes_of, homes_on}
use Rattle.qls_journals.specs.Moments.{AreWritten, Changes, IsStoreStep, LeavesDead, StaysWritten}
use Rattle.qls_journals.specs.Opening.{Opens, OpensWritten, begun_at}
use Rattle.qls_journals.specs.State.{JournalsState, Fits, IsWhole, queues_of}
use Rattle.qls_journals.proofs.Dropping.{pools_untaken}
use Rattle.qls_store.specs.Calls.{Calls}
use Rattle.qls_store.specs.Opening.{AreItsEnds, NeedsEnds, OpeningStops, OpensLeaving, settled_xids}
use Rattle.qls_store.specs.Settling.{StopsInList, StopsInQueues, StopsSettling}
use Rattle.qls_store.proofs.Together.{home_same, same_homes, told_homes, told_passes}

-- ---- three contents, of which two calls tell

two : (P Q R U : Content → Content → Type 0) (a b c : Option Content) → Tells P a b → Tells Q a b → Tells R b c → ((x y z : Content) → P x y → Q x y → R y z → U x z) → Tells U a c
two P Q R U None None None p q r f = tt
two P Q R U None None (Some z) p q r f = absurd r
two P Q R U None (Some y) c p q r f = absurd p
two P Q R U (Some x) None c p q r f = absurd p
two P Q R U (Some x) (Some y) None p q r f = absurd r
two P Q R U (Some x) (Some y) (Some z) p q r f = f x y z p q r

pair : (R T : Content → Content → Type 0) (a b : Option Content) → Tells R a b → Tells T a b → Tells (λ x y. R x y × T x y) a b
pair R T None None r t = tt
pair R T None (Some y) r t = absurd r
pair R T (Some x) None r t = absurd r
pair R T (Some x) (Some y) r t = (r, t)

-- ---- the journals that were opened, and those after the calls

-- the journals fit the site, and have the homes that the disk at the start gives; where the files that came into use were unmarked they are whole
pub record OpensTo (home : PoolId) (s : JournalsState) (old new : Content) : Type 0 where
  pub arrives : Arrives IsStoreStep old new
  pub quiet : IsQuiet new.now.disk
  pub fits : Fits s new.now.disk
  pub whole : AllUnmarked old.now (moments_since old new) → IsWhole s new.now.disk
  pub homes : SameHomes (homes_of s) (homes_on home old.now.disk)

pub record Opening (home : PoolId) (r : Result JournalsState Cause) (a b : Option Content) (x y : Option (List ℕ)) : Type 0 where
  pub told : Tells (EndsIn (OpensTo home) (Passes IsStoreStep) r) a b
  pub drawn : DrawsTaken (is_exact r) a b x y
  pub leaves : Tells OpensLeaving a b
  pub writes : Tells (OpensWritten r (λ s. s)) a b
  pub pools : Tells (λ p q. Passes (TakesFromHome (homes_on home p.now.disk)) p q) a b

module _ (home : PoolId) (j : JournalsState) (homed : j.home ≡ home) (r : Result JournalsState Cause) where
  homes_at : (x y : Content) → Opens j x y → SameHomes (homes_of j) (homes_on home x.now.disk)
  homes_at x y h = subst (λ p. SameHomes (homes_of j) (homes_on p x.now.disk)) homed h.homes

  opens_to : (s : JournalsState) (x y z : Content) → Opens j x y → SameHomes (homes_of s) (homes_of j) → Changes j s y z → OpensTo home s x z
  opens_to s x y z h same k = record {
    arrives = Arrives-then IsStoreStep x y z h.arrives k.arrives;
    quiet = k.quiet h.quiet;
    fits = k.fits;
    whole = λ u. k.whole (unmarked_rest IsStoreStep IsStoreStep x y z h.arrives (Passes-of IsStoreStep y z k.arrives) u) h.whole;
    homes = same_homes (homes_on home x.now.disk) (homes_of j) (homes_of s) (homes_at x y h) same;
  }

  ends_to : (x y z : Content) → Opens j x y → IfOk r (λ s. SameHomes (homes_of s) (homes_of j)) → EndsIn (λ s. Changes j s) (Passes IsStoreStep) r y z → EndsIn (OpensTo home) (Passes IsStoreStep) r x z
  ends_to x y z h same k = by r same k
    where
      by : (q : Result JournalsState Cause) → IfOk q (λ s. SameHomes (homes_of s) (homes_of j)) → EndsIn (λ s. Changes j s) (Passes IsStoreStep) q y z → EndsIn (OpensTo home) (Passes IsStoreStep) q x z
      by (Ok s) same k = opens_to s x y z h same k
      by (Err e) same k = Arrives-passes IsStoreStep x y z h.arrives k

  leaves_to : (x y z : Content) → Opens j x y → Passes LeavesInOrder x y → Passes IsStoreStep y z → LeavesDead j y z → OpensLeaving x z
  leaves_to x y z h p q l = λ u.
      let second : Chain LeavesInOrder y.now (moments_since y z) = l h.quiet (unmarked_rest IsStoreStep IsStoreStep x y z h.arrives q u) h.whole in
      subst (Chain LeavesInOrder x.now) (sym (since_both IsStoreStep IsStoreStep x y z (Passes-of IsStoreStep x y h.arrives) q))
      (chain-append LeavesInOrder x.now (moments_since x y) (moments_since y z) (chain_since LeavesInOrder x y p) (subst (λ (n : Moment). Chain LeavesInOrder n (moments_since y z)) (last_since IsStoreStep x y h.arrives) second))

  -- the history begins here, and no area is free
  abbrev From : Content → List FreeArea → History → Type 0
  From c areas h = (areas ≡ []) × (h ≡ begun_at c)

  writes_from : (x y : Content) → OpensWritten {X = JournalsState} {E = Cause} (Ok j) (λ s. s) x y
      → (areas : List FreeArea) (h : History) → From x areas h → WritesInOrder areas h (moments_since x y) × AreWritten areas (history_with h (moments_since x y)) j
  writes_from x y w areas h e =
      subst (λ (k : History). WritesInOrder areas k (moments_since x y) × AreWritten areas (history_with k (moments_since x y)) j) (sym e.1)
      (subst (λ (fs : List FreeArea). WritesInOrder fs (begun_at x) (moments_since x y) × AreWritten fs (history_with (begun_at x) (moments_since x y)) j) (sym e.0) w)

  writes_to : (x y z : Content) → Opens j x y → OpensWritten {X = JournalsState} {E = Cause} (Ok j) (λ s. s) x y → Passes IsStoreStep y z → StaysWritten r (λ s. s) j y z → OpensWritten r (λ s. s) x z
  writes_to x y z h w p k =
      told_writes (From x) (λ areas g. AreWritten areas g j) (λ areas g. IfOk r (λ s. AreWritten areas g s)) IsStoreStep IsStoreStep (Some x) (Some y) (Some z) h.arrives p (λ areas g at e. writes_from x y w areas g e) k [] (begun_at x) refl
      (refl, refl)

  pools_to : (x y z : Content) → Opens j x y → TakesNone x y → Passes (TakesFromHome (homes_of j)) y z → Passes (TakesFromHome (homes_on home x.now.disk)) x z
  pools_to x y z h none p =
      let homes : Homes = homes_on home x.now.disk in
      told_passes_by (TakesFromHome homes) IsStoreStep (Some x) (Some y) (Some z) h.arrives (pools_untaken homes IsStoreStep (Some x) (Some y) (Passes-of IsStoreStep x y h.arrives) none)
      (told_homes (homes_of j) homes (homes_at x y h) (Some y) (Some z) p)

  pub opening_then : (a b c : Option Content) (x y : Option (List ℕ)) (f g m n : ℕ) → Tells (Opens j) a b → Tells TakesNone a b → Tells (Passes LeavesInOrder) a b → Tells (OpensWritten {X = JournalsState} {E = Cause} (Ok j) (λ s. s)) a b
      → Calls r j b c x y f g m n → Opening home r a c x y
  opening_then a b c x y f g m n told none leaves writes k =
      let went : Tells (Passes IsStoreStep) b c = told_passes j r b c k.told in
      record {
        told = two (Opens j) TakesNone (EndsIn (λ s. Changes j s) (Passes IsStoreStep) r) (EndsIn (OpensTo home) (Passes IsStoreStep) r) a b c told none k.told (λ u v w h i l. ends_to u v w h k.homes l);
        drawn = drawn_then IsStoreStep IsStoreStep (is_exact r) a b c x x y (Tells-weaken (Opens j) (Arrives IsStoreStep) a b told (λ u v h. h.arrives)) went (drawn_none true a b x x none refl) k.drawn;
        leaves = two (Opens j) (Passes LeavesInOrder) (λ v w. Passes IsStoreStep v w × LeavesDead j v w) OpensLeaving a b c told leaves (pair (Passes IsStoreStep) (LeavesDead j) b c went k.leaves) (λ u v w h i l. leaves_to u v w h i l.0 l.1);
        writes = two (Opens j) (OpensWritten {X = JournalsState} {E = Cause} (Ok j) (λ s. s)) (λ v w. Passes IsStoreStep v w × StaysWritten r (λ s. s) j v w) (OpensWritten r (λ s. s)) a b c told writes
            (pair (Passes IsStoreStep) (StaysWritten r (λ s. s) j) b c went k.writes) (λ u v w h i l. writes_to u v w h i l.0 l.1);
        pools = two (Opens j) TakesNone (Passes (TakesFromHome (homes_of j))) (λ p q. Passes (TakesFromHome (homes_on home p.now.disk)) p q) a b c told none k.pools (λ u v w h i l. pools_to u v w h i l);
      }

-- ---- a batch of ends that can't be had

module _ (home : PoolId) (j : JournalsState) (homed : j.home ≡ home) where
  at_end_on : (x y : Content) → Opens j x y → (kind : JournalKind) (name : List ℕ) (rs : List Record) (d : Disk) → batch_at_end (homes_of j) kind name rs d ≡ true → batch_at_end (homes_on home x.now.disk) kind name rs d ≡ true
  at_end_on x y h kind name rs d e =
      ap (λ p. at_end_by p d (journal_on d kind name) (block_length (length_of rs))) (sym (home_same (homes_of j) (homes_on home x.now.disk) (subst (λ p. SameHomes (homes_of j) (homes_on p x.now.disk)) homed h.homes) kind name)) ∙ e

  -- what a batch needs that can't be had, the disk as it was gives
  needs_queue : (x y : Content) → Opens j x y → (z : Content) → (s : StopsInQueues j y z) → batch_at_end (homes_of j) journal.Queue s.queue.name (end_records s.queue.last s.stops.ends) z.now.disk ≡ true → NeedsEnds home x.now.disk z.now.disk
  needs_queue x y h z s e = inl (record {
    at = s.at;
    queue = s.queue;
    there = ap (λ (qs : List QueueState). slice_get qs s.at) (sym h.queues) ∙ s.there;
    ends = s.stops.ends;
    planned = subst (λ (es : List ListEntry). AreItsEnds es s.queue s.stops.ends) h.entries s.stops.planned;
    written = s.stops.written;
    spent = at_end_on x y h journal.Queue s.queue.name (end_records s.queue.last s.stops.ends) z.now.disk e;
  })

  needs_list : (x y : Content) → Opens j x y → (z : Content) → 0 < length (settled_xids j.list.entries) → batch_at_end (homes_of j) journal.List [] (list_ends (rid_of j.list) (settled_xids j.list.entries)) z.now.disk ≡ true → NeedsEnds home x.now.disk z.now.disk
  needs_list x y h z some e = inr (record {
    some = subst (λ (es : List ListEntry). 0 < length (settled_xids es)) h.entries some;
    spent = at_end_on x y h journal.List [] (list_ends (list_rid x.now.disk) (settled_xids (entries_of (journals_of (full x.now.disk))))) z.now.disk
        (subst (λ rs. batch_at_end (homes_of j) journal.List [] rs z.now.disk ≡ true) (λ i. list_ends (h.rid i) (settled_xids (h.entries i))) e);
  })

  stops_at : (x y z : Content) → Opens j x y → StopsSettling j y z → OpeningStops home x z
  stops_at x y z h (inl s) = record {
    arrives = Arrives-then IsStoreStep x y z h.arrives s.stops.stops.arrives;
    meets = λ u. needs_queue x y h z s (s.stops.stops.meets (unmarked_rest IsStoreStep IsStoreStep x y z h.arrives (Passes-of IsStoreStep y z s.stops.stops.arrives) u) h.whole);
  }
  stops_at x y z h (inr s) = record {
    arrives = Arrives-then IsStoreStep x y z h.arrives s.stops.arrives;
    meets = λ u. needs_list x y h z s.some (s.stops.meets (unmarked_rest IsStoreStep IsStoreStep x y z h.arrives (Passes-of IsStoreStep y z s.stops.arrives) u) h.whole);
  }

  pub opening_stops : (a b c : Option Content) → Tells (Opens j) a b → Tells (StopsSettling j) b c → Tells (OpeningStops home) a c
  opening_stops a b c h k = Tells-then (Opens j) (StopsSettling j) (OpeningStops home) a b c h k stops_at
