-- The calls by which a store is settled, one after another.
use Rattle.std.proofs.Common.{◌≡◌, ◌⊎◌, inl, inr, ℕ, ◌<◌, true, false, List, [], length, Option, Some, None, IfSome, Result, Ok, Err, IfOk, refl, sym, ap, subst, ◌∙◌, arith}
use Rattle.std.specs.List.{AllByRecursion}
use Rattle.qls_model.specs.declared.machine.QueueState.{QueueState}
use Rattle.qls_model.specs.Messages.{decided}
use Rattle.qls_site.specs.Content.{Content, Tells, moments_since}
use Rattle.qls_site.proofs.Told.{Tells-then, Tells-weaken}
use Rattle.qls_decide.specs.declared.ListEntry.{ListEntry}
use Rattle.qls_decide.specs.Entries.{verdict_by}
use Rattle.qls_filehdr.specs.declared.JournalKind.TheVariants as journal
use Rattle.qls_meaning.specs.History.{AllUnmarked}
use Rattle.qls_pool.specs.Moments.{EndsIn, Passes}
use Rattle.qls_pool.specs.Serials.{TakesNone}
use Rattle.qls_pool.proofs.Moments.{Passes-of}
use Rattle.qls_queue.proofs.Then.{unmarked_front, unmarked_rest}
use Rattle.qls_prepared.specs.Lists.{PreparedState, rid_of}
use Rattle.qls_prepared.specs.Records.{end_records as list_ends}
use Rattle.qls_journals.specs.declared.cause.Cause.{Cause}
use Rattle.qls_journals.specs.declared.cause.Cause.TheVariants.{Failed, Draw, Spent, Memory}
use Rattle.qls_journals.specs.Answers.{is_exact, SiteCauses, StoreCauses}
use Rattle.qls_journals.specs.Ends.{StopsAtEnd}
use Rattle.qls_journals.specs.Homes.{Homes, homes_of, SameHomes, TakesFromHome}
use Rattle.qls_journals.specs.Moments.{IsStoreStep, Changes, LeavesDead, StaysWritten}
use Rattle.qls_journals.specs.State.{JournalsState, AreReleased, queues_of, IsWhole, IsClean}
use Rattle.qls_store.specs.Calls.{Calls}
use Rattle.qls_store.specs.Opening.{settled_xids}
use Rattle.qls_store.specs.Settling.{EndsClean, IsDoubted, IsSettledSo, StaysIfClean, StopsInList, StopsInQueues, StopsSettling}
use Rattle.qls_store.proofs.Resting.{drawn_untaken}
use Rattle.qls_store.proofs.SettledQueues.{stops_later}

-- ---- the queues, and then the list

pub stops_first : (was : JournalsState) (a b : Option Content) → Tells (StopsInQueues was) a b → Tells (StopsSettling was) a b
stops_first was a b h = Tells-weaken (StopsInQueues was) (StopsSettling was) a b h (λ x y k. inl k)

pub stops_then : (was mid : JournalsState) → SameHomes (homes_of mid) (homes_of was) → mid.list ≡ was.list → (a b c : Option Content) → Tells (Changes was mid) a b → Tells (StopsInList mid) b c → Tells (StopsSettling was) a c
stops_then was mid homes list a b c h k =
    Tells-then (Changes was mid) (StopsInList mid) (StopsSettling was) a b c h k (λ x y z m n. inr (record {
      some = subst (λ (p : PreparedState). 0 < length (settled_xids p.entries)) list n.some;
      stops = stops_later was mid homes journal.List [] (list_ends (rid_of was.list) (settled_xids was.list.entries)) x y z m
          (subst (λ (p : PreparedState). StopsAtEnd mid journal.List [] (list_ends (rid_of p) (settled_xids p.entries)) y z) list n.stops);
    }))

-- the batch of the list stopped there
pub stops_in_list : (was : JournalsState) (xids : List (List ℕ)) (es : List ListEntry) (a b : Option Content) → xids ≡ settled_xids es → es ≡ was.list.entries → 0 < length xids
    → Tells (StopsAtEnd was journal.List [] (list_ends (rid_of was.list) xids)) a b → Tells (StopsInList was) a b
stops_in_list was xids es a b is of some h =
    let all : xids ≡ settled_xids was.list.entries = is ∙ ap settled_xids of in
    Tells-weaken (StopsAtEnd was journal.List [] (list_ends (rid_of was.list) xids)) (StopsInList was) a b h (λ x y k. record {
      some = subst (λ (ys : List (List ℕ)). 0 < length ys) all some;
      stops = subst (λ (ys : List (List ℕ)). StopsAtEnd was journal.List [] (list_ends (rid_of was.list) ys) x y) all k;
    })

pub entries_as : (p q : PreparedState) (es : List ListEntry) → p ≡ q → es ≡ q.entries → es ≡ p.entries
entries_as p q es e h = h ∙ ap (λ (l : PreparedState). l.entries) (sym e)

-- ---- the release

site_caused : (r : Result JournalsState Cause) (s t d : ℕ) → SiteCauses s t r → StoreCauses s t d d r
site_caused r s t d h = record { sites_kept = h.kept; draws_kept = omega arith; failed = h.failed; draw = λ e. absurd (h.no_draw e) }

-- a call without serials that takes no file
pub calls_released : (r : Result JournalsState Cause) (was : JournalsState) (a b : Option Content) (x : Option (List ℕ)) (s t d : ℕ) → Tells (EndsIn (λ s. Changes was s) (Passes IsStoreStep) r) a b → Tells TakesNone a b → Tells (LeavesDead was) a b
    → Tells (StaysWritten r (λ s. s) was) a b → IfOk r (λ s. SameHomes (homes_of s) (homes_of was)) → IfOk r (λ s. AreReleased s.queues) → ((homes : Homes) → Tells (Passes (TakesFromHome homes)) a b) → SiteCauses s t r
    → Calls r was a b x x s t d d
calls_released r was a b x s t d told none leaves writes homes released pools causes = record {
  told = told;
  drawn = drawn_untaken (is_exact r) a b x none;
  leaves = leaves;
  writes = writes;
  homes = homes;
  released = by r released;
  pools = pools (homes_of was);
  causes = site_caused r s t d causes;
}
  where
    by : (r : Result JournalsState Cause) → IfOk r (λ s. AreReleased s.queues) → IfOk r (λ s. AreReleased was.queues → AreReleased s.queues)
    by (Ok s) h = λ _. h
    by (Err e) h = tt

clean_by : (was mid s : JournalsState) (a b c : Content) → Changes was mid a b → Passes IsStoreStep b c → (IsWhole mid b.now.disk → IsClean s c.now.disk) → EndsClean was s a c
clean_by was mid s a b c h p k = λ u w. k (h.whole (unmarked_front IsStoreStep IsStoreStep a b c (Passes-of IsStoreStep a b h.arrives) p u) w)

-- journals that were whole are clean then
pub told_clean : (was mid s : JournalsState) (a b c : Option Content) → Tells (Changes was mid) a b → Tells (Passes IsStoreStep) b c → Tells (λ x y. IsWhole mid x.now.disk → IsClean s y.now.disk) b c → Tells (EndsClean was s) a c
told_clean was mid s None None None h p k = tt
told_clean was mid s None None (Some z) h p k = absurd p
told_clean was mid s None (Some y) c h p k = absurd h
told_clean was mid s (Some x) None c h p k = absurd h
told_clean was mid s (Some x) (Some y) None h p k = absurd p
told_clean was mid s (Some x) (Some y) (Some z) h p k = clean_by was mid s x y z h p k

pub ok_clean : (was mid : JournalsState) (r : Result JournalsState Cause) (a b c : Option Content) → Tells (Changes was mid) a b → Tells (Passes IsStoreStep) b c → IfOk r (λ s. Tells (λ x y. IsWhole mid x.now.disk → IsClean s y.now.disk) b c)
    → IfOk r (λ s. Tells (EndsClean was s) a c)
ok_clean was mid (Ok s) a b c h p k = told_clean was mid s a b c h p k
ok_clean was mid (Err e) a b c h p k = tt

-- where nothing was to end and nothing is dead no call was made
still_by : {X : Type 0} (tell : X → Option Content) (was mid : JournalsState) (a b : X) (c : Option Content) → mid ≡ was → b ≡ a → Tells (StaysIfClean mid) (tell b) c → Tells (StaysIfClean was) (tell a) c
still_by {X} tell was mid a b c e i h = subst (λ (s : JournalsState). Tells (StaysIfClean s) (tell a) c) e (subst (λ (y : X). Tells (StaysIfClean mid) (tell y) c) i h)

pub ok_still : {X : Type 0} (tell : X → Option Content) (was mid : JournalsState) (r : Result JournalsState Cause) (a b : X) (c : Option Content) → (IsSettledSo was → (mid ≡ was) × (b ≡ a)) → IfOk r (λ _. Tells (StaysIfClean mid) (tell b) c)
    → IfOk r (λ _. IsSettledSo was → Tells (StaysIfClean was) (tell a) c)
ok_still tell was mid (Ok s) a b c f h = λ z. let e = f z in still_by tell was mid a b c e.0 e.1 h
ok_still tell was mid (Err e) a b c f h = tt

pub no_spent : {X : Type 0} (s t : ℕ) (r : Result X Cause) → SiteCauses s t r → r ≡ Err Spent → ⊥
no_spent s t r h e = h.no_end e
