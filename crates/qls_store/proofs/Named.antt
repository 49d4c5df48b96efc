-- Queues by name, and after an end in one of them.
use Rattle.std.proofs.Common.{◌≡◌, ℕ, ◌<◌, Bool, true, false, cond, List, [], ◌∷◌, map, length, Option, Some, IsSome, IfSome, is_some, refl, sym, ap, ◌∙◌, subst}
use Rattle.std.specs.List.{AllByRecursion, slice_get}
use Rattle.std.proofs.lemmas.Option.{slice_get_within}
use Rattle.qls_model.specs.Bytes.{same}
use Rattle.qls_model.specs.Machine.{queue_named, change_queue}
use Rattle.qls_model.specs.declared.machine.QueueState.{QueueState}
use Rattle.qls_decide.specs.declared.End.{End}
use Rattle.qls_queue.specs.Live.{LiveState}
use Rattle.qls_queue.specs.Records.{ended_by}
use Rattle.qls_journals.specs.Places.{StandsAt, WouldStandAt}
use Rattle.qls_journals.specs.State.{JournalsState, queues_of, queue_held}

-- ---- held, and named

some_named : (name : List ℕ) (qs : List LiveState) → is_some (queue_named name (map (λ q. q.queue) qs)) ≡ is_some (queue_held name qs)
some_named name [] = refl
some_named name (q ∷ qs) = by (same q.queue.name name) (some_named name qs)
  where
    by : (b : Bool) → is_some (queue_named name (map (λ q. q.queue) qs)) ≡ is_some (queue_held name qs)
        → is_some (cond b (Some q.queue) (queue_named name (map (λ q. q.queue) qs))) ≡ is_some (cond b (Some q) (queue_held name qs))
    by true h = refl
    by false h = h

-- a queue that is named doesn't lack
pub not_missing : (name : List ℕ) (s : JournalsState) (at : ℕ) → IsSome (queue_named name (queues_of s)) → WouldStandAt s.queues name at → ⊥
not_missing name s at h w = true_false (sym h ∙ some_named name s.queues ∙ ap is_some w.none)
  where
    true_false : true ≡ false → ⊥
    true_false e = cc

pub stands_within : (name : List ℕ) (qs : List LiveState) (at : ℕ) → StandsAt qs name at → at < length qs
stands_within name qs at w = slice_get_within qs at w.queue w.there

-- what is said of the queue at the place is said of it
pub at_place : (name : List ℕ) (qs : List LiveState) (at : ℕ) (P : LiveState → Type 0) → (w : StandsAt qs name at) → IfSome (slice_get qs at) P → P w.queue
at_place name qs at P w h = subst (λ (o : Option LiveState). IfSome o P) w.there h

-- ---- queues whose names stay

abbrev pub AreNamed : List (List ℕ) → List QueueState → Type 0
AreNamed ns qs = AllByRecursion (λ n. IsSome (queue_named n qs)) ns

named_changed : (n m : List ℕ) (f : QueueState → QueueState) → ((q : QueueState) → (f q).name ≡ q.name) → (qs : List QueueState) → is_some (queue_named n (change_queue m f qs)) ≡ is_some (queue_named n qs)
named_changed n m f keeps [] = refl
named_changed n m f keeps (q ∷ qs) =
    ap (λ k. is_some (cond (same k n) (Some (cond (same q.name m) (f q) q)) (queue_named n (change_queue m f qs)))) (kept (same q.name m)) ∙ by (same q.name n) (named_changed n m f keeps qs)
  where
    kept : (b : Bool) → (cond b (f q) q).name ≡ q.name
    kept true = keeps q
    kept false = refl

    by : (b : Bool) → is_some (queue_named n (change_queue m f qs)) ≡ is_some (queue_named n qs) → is_some (cond b (Some (cond (same q.name m) (f q) q)) (queue_named n (change_queue m f qs))) ≡ is_some (cond b (Some q) (queue_named n qs))
    by true h = refl
    by false h = h

pub ended_name : (es : List End) (q : QueueState) → (ended_by es q).name ≡ q.name
ended_name [] q = refl
ended_name (e ∷ es) q = ended_name es (Rattle.qls_model.specs.Messages.decided (Rattle.qls_model.specs.Messages.only e.xid (Rattle.qls_replay.specs.Ops.verdict_if e.commit)) q)

pub named_still : (ns : List (List ℕ)) (m : List ℕ) (es : List End) (qs : List QueueState) → AreNamed ns qs → AreNamed ns (change_queue m (ended_by es) qs)
named_still [] m es qs h = tt
named_still (n ∷ ns) m es qs h = (named_changed n m (ended_by es) (ended_name es) qs ∙ h.0, named_still ns m es qs h.1)
