-- What the tests rest on: journals without a queue fit a site without files, the list's first entry is found by its xid, and what is pending
-- in queues is looked for in each.
use Rattle.std.proofs.Common.{◌≡◌, ℕ, zero, suc, ◌+◌, false, cond, ◌<◌, ◌^◌, List, [], ◌∷◌, map, length, take, add-one, Option, Some, None, IfSome, refl, sym, ap, ◌∙◌, subst, arith}
use Rattle.std.specs.List.{AllByRecursion, slice_get}
use Rattle.qls_model.proofs.XidKeys.{same_self}
use Rattle.qls_model.specs.declared.machine.PoolId.{PoolId}
use Rattle.qls_model.specs.declared.machine.QueueState.{QueueState}
use Rattle.qls_site.specs.Disk.{Disk, FileState, file_of}
use Rattle.qls_site.specs.Content.{Content}
use Rattle.qls_decide.specs.declared.ListEntry.{ListEntry}
use Rattle.qls_decide.specs.Entries.{entry_of, state_of}
use Rattle.qls_meaning.specs.Spent.{greatest_id}
use Rattle.qls_pool.specs.Pools.{PoolState}
use Rattle.qls_pool.specs.Files.{IsWholePool, OnDisk}
use Rattle.qls_log.specs.Standing.{files_on}
use Rattle.qls_prepared.specs.Lists.{opening_of}
use Rattle.qls_queue.specs.Answers.{is_pending}
use Rattle.qls_queue.specs.Live.{LiveState}
use Rattle.qls_journals.specs.State.{JournalsState, queues_of, IsReleased, AreReleased, Fits}
use Rattle.qls_journals.specs.Deciding.{NonePending}
use Rattle.qls_journals.proofs.FitPools.{IsFitDisk, fit_pool}

-- ---- on a site without files

abbrev pub nothing : PoolId → PoolState → JournalsState
nothing home pool = record { home = home; pool = pool; queues = []; list = record { home = home; log = None; entries = []; held = []; ended = false } }

nothing_there : (home : PoolId) (pool : PoolState) (d : Disk) → IsWholePool pool d → d ≡ [] → Fits (nothing home pool) d
nothing_there home pool d whole empty = record {
  pool = whole;
  limit = subst (λ n. n < 2 ^ 62) (sym (whole.1.greatest ∙ ap greatest_id empty)) (omega arith);
  fit = fit_pool pool d whole (subst IsFitDisk (sym empty) tt);
  ids = subst (AllByRecursion (λ (f : FileState). 0 < f.id)) (sym empty) tt;
  queues = tt;
  list = subst (λ (e : Disk). files_on (opening_of home) e ≡ []) (sym empty) refl;
  own = λ id f there used. absurd (no_file f (ap (file_of id) (sym empty) ∙ there));
}
  where
    no_file : (f : FileState) → None ≡ Some f → ⊥
    no_file f e = cc

pub nothing_fits : (home : PoolId) (pool : PoolState) (a : Option Content) → IfSome a (OnDisk (IsWholePool pool)) → IfSome a (OnDisk (λ d. d ≡ [])) → IfSome a (OnDisk (Fits (nothing home pool)))
nothing_fits home pool None whole empty = tt
nothing_fits home pool (Some a) whole empty = nothing_there home pool a.now.disk whole empty

-- ---- the queue at a place

pub released_at : (qs : List LiveState) (at : ℕ) → AreReleased qs → IfSome (slice_get qs at) IsReleased
released_at [] at h = tt
released_at (q ∷ qs) zero h = h.0
released_at (q ∷ qs) (suc at) h = released_at qs at h.1

-- ---- the list's first entry

pub first_state : (es : List ListEntry) (e : ListEntry) → slice_get es 0 ≡ Some e → state_of (entry_of e.xid es) ≡ Some e.state
first_state [] e h = absurd (cc)
first_state (d ∷ es) e h =
    subst (λ (x : ListEntry). state_of (entry_of x.xid (d ∷ es)) ≡ Some x.state) (some_is h)
    (ap (λ b. state_of (cond b (Some d) (entry_of d.xid es))) (same_self d.xid))
  where
    some_is : Some d ≡ Some e → d ≡ e
    some_is h = cc

pub no_first : (es : List ListEntry) → slice_get es 0 ≡ None → es ≡ []
no_first [] h = refl
no_first (e ∷ es) h = absurd (cc)

-- ---- nothing is pending in the first queues

pub none_in_next : (x : List ℕ) (qs : List QueueState) (i : ℕ) (q : QueueState) → slice_get qs i ≡ Some q → is_pending x q ≡ false → NonePending x (take i qs) → NonePending x (take (i + 1) qs)
none_in_next x qs i q e n h = subst (λ k. NonePending x (take k qs)) (sym (add-one i)) (by qs i e h)
  where
    some_is : {p : QueueState} → Some p ≡ Some q → p ≡ q
    some_is e = cc

    by : (qs : List QueueState) (i : ℕ) → slice_get qs i ≡ Some q → NonePending x (take i qs) → NonePending x (take (suc i) qs)
    by [] i e h = absurd (cc)
    by (p ∷ qs) zero e h = (subst (λ (r : QueueState). is_pending x r ≡ false) (sym (some_is e)) n, tt)
    by (p ∷ qs) (suc i) e h = (h.0, by qs i e h.1)

pub none_in_all : (x : List ℕ) (s : JournalsState) (n : ℕ) → n ≡ length s.queues → NonePending x (take n (queues_of s)) → NonePending x (queues_of s)
none_in_all x s n e h = subst (NonePending x) (all s.queues n e) h
  where
    all : (qs : List LiveState) (n : ℕ) → n ≡ length qs → take n (map (λ q. q.queue) qs) ≡ map (λ q. q.queue) qs
    all qs n e = ap (λ k. take k (map (λ q. q.queue) qs)) e ∙ whole qs
      where
        whole : (qs : List LiveState) → take (length qs) (map (λ q. q.queue) qs) ≡ map (λ q. q.queue) qs
        whole [] = refl
        whole (q ∷ qs) = ap (λ (rs : List QueueState). q.queue ∷ rs) (whole qs)
