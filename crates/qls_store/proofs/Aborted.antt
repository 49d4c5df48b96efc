-- The abort of an open transaction in its queues alone, and that of a prepared one.
use Rattle.std.proofs.Common.{◌≡◌, ℕ, ◌+◌, false, not, cond, List, [], ◌∷◌, map, length, Option, Result, Ok, Err, IfOk, sym, ap, subst, ◌∙◌}
use Rattle.std.specs.List.{AllByRecursion}
use Rattle.qls_model.specs.Machine.{is_prepared}
use Rattle.qls_model.specs.declared.machine.Phase.{Phase}
use Rattle.qls_model.specs.declared.machine.Phase.TheVariants.{Open, Prepared}
use Rattle.qls_model.specs.declared.machine.QueueState.{QueueState}
use Rattle.qls_site.specs.Content.{Content, Tells}
use Rattle.qls_decide.specs.declared.End.{End}
use Rattle.qls_decide.specs.Entries.{entry_of, state_of, without_entry}
use Rattle.qls_pool.specs.Files.{Carries}
use Rattle.qls_pool.specs.Moments.{EndsIn, Passes}
use Rattle.qls_queue.specs.Records.{IsXid}
use Rattle.qls_prepared.specs.Lists.{PreparedState, rid_of}
use Rattle.qls_journals.specs.declared.cause.Cause.{Cause}
use Rattle.qls_journals.specs.Moments.{IsStoreStep, Changes, BecomesClean}
use Rattle.qls_journals.specs.State.{JournalsState, queues_of, IsListAlive}
use Rattle.qls_store.specs.Ends.{Need, all_needs, end_need}
use Rattle.qls_store.specs.Calls.{StaysClean, HadFirst, StopsInOne, ended_in, state_by}
use Rattle.qls_store.proofs.Entries.{ok_map, open_none}
use Rattle.qls_store.proofs.EndedStore.{none_gone}
use Rattle.qls_store.proofs.Running.{clean_alive, clean_becomes}

pub one_of : (e : End) (es : List End) → es ≡ e ∷ [] → length es ≡ 1
one_of e es is = ap length is

pub xids_of : (e : End) (es : List End) → es ≡ e ∷ [] → IsXid e.xid → AllByRecursion (λ f. IsXid f.xid) es
xids_of e es is h = subst (AllByRecursion (λ (f : End). IsXid f.xid)) (sym is) (h, tt)

pub queues_by : (e : End) (es : List End) → es ≡ e ∷ [] → (names : List (List ℕ)) (qs : List QueueState) (r : Result JournalsState Cause) → IfOk r (λ s. queues_of s ≡ ended_in names es qs) → IfOk r (λ s. queues_of s ≡ ended_in names (e ∷ []) qs)
queues_by e es is names qs r h = subst (λ fs. IfOk r (λ s. queues_of s ≡ ended_in names fs qs)) is h

pub list_stays : (x : List ℕ) (p : Phase) (l : PreparedState) → p ≡ Open → state_of (entry_of x l.entries) ≡ state_by p → (r : Result JournalsState Cause) → IfOk r (λ s. s.list ≡ l) → IfOk r (λ s. s.list.entries ≡ without_entry x l.entries)
list_stays x p l i h r k =
    ok_map (λ s. s.list ≡ l) (λ s. s.list.entries ≡ without_entry x l.entries) (λ s e. ap (λ (m : PreparedState). m.entries) e ∙ sym (none_gone x l.entries (open_none p x l.entries i h))) r k

pub rid_stays : (l : PreparedState) (r : Result JournalsState Cause) → IfOk r (λ s. s.list ≡ l) → IfOk r (λ s. rid_of s.list ≡ rid_of l)
rid_stays l r k = ok_map (λ s. s.list ≡ l) (λ s. rid_of s.list ≡ rid_of l) (λ s e. ap rid_of e) r k

pub alive_clean : (was : JournalsState) (r : Result JournalsState Cause) (a b : Option Content) → Tells (EndsIn (λ s. Changes was s) (Passes IsStoreStep) r) a b → IfOk r (λ s. Carries (IsListAlive was) (IsListAlive s) a b) → IfOk r (λ s. Tells (StaysClean was s) a b)
alive_clean was (Ok s) a b t k = clean_alive was s a b t k
alive_clean was (Err e) a b t k = tt

pub becomes_clean : (was : JournalsState) (r : Result JournalsState Cause) (a b : Option Content) → IfOk r (λ s. Tells (BecomesClean was s) a b) → IfOk r (λ s. Tells (StaysClean was s) a b)
becomes_clean was r a b k = ok_map (λ s. Tells (BecomesClean was s) a b) (λ s. Tells (StaysClean was s) a b) (λ s h. clean_becomes was s a b h) r k

pub rid_decided : (p : Phase) → p ≡ Prepared → (m : ℕ) (r : Result JournalsState Cause) → IfOk r (λ s. rid_of s.list ≡ cond (is_prepared p) m (m + 1)) → IfOk r (λ s. rid_of s.list ≡ m)
rid_decided p i m r k = subst (λ q. IfOk r (λ s. rid_of s.list ≡ cond (is_prepared q) m (m + 1))) i k

-- what it needs, by its phase
abbrev pub by_phase : Phase → List (List ℕ) → List Need
by_phase p names = cond (is_prepared p) (all_needs names) (map end_need names)

pub open_needs : (p : Phase) → p ≡ Open → (names : List (List ℕ)) → map end_need names ≡ by_phase p names
open_needs p i names = ap (λ q. by_phase q names) (sym i)

pub decided_had : (was : JournalsState) (p : Phase) → p ≡ Prepared → (names : List (List ℕ)) (r : Result JournalsState Cause) (a b : Option Content) → IfOk r (λ _. Tells (HadFirst was (not (is_prepared p)) (all_needs names)) a b)
    → IfOk r (λ _. Tells (HadFirst was false (by_phase p names)) a b)
decided_had was p i names r a b k = subst (λ q. IfOk r (λ _. Tells (HadFirst was false (by_phase q names)) a b)) (sym i) (subst (λ q. IfOk r (λ _. Tells (HadFirst was (not (is_prepared q)) (all_needs names)) a b)) i k)

pub decided_stops : (was : JournalsState) (p : Phase) → p ≡ Prepared → (names : List (List ℕ)) (a b : Option Content) → Tells (StopsInOne was (not (is_prepared p)) (all_needs names)) a b → Tells (StopsInOne was false (by_phase p names)) a b
decided_stops was p i names a b k = subst (λ q. Tells (StopsInOne was false (by_phase q names)) a b) (sym i) (subst (λ q. Tells (StopsInOne was (not (is_prepared q)) (all_needs names)) a b) i k)
