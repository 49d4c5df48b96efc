-- The order of a transaction's end: the list decides first, queues follow by name, and the entry goes when no queue has a message by it.
use Rattle.std.proofs.Common.{◌≡◌, ℕ, zero, suc, ◌+◌, ◌<◌, Bool, true, false, ◌||◌, cond, List, [], ◌∷◌, map, filter, length, take, drop, get_or, Some, Result, IfOk, IfSome, option_map, refl, sym, ap, ◌∙◌, subst, arith}
use Rattle.std.specs.List.{AllByRecursion, filter_map, cons_option, list_any, slice_get}
use Rattle.std.proofs.lemmas.Option.{slice_get-map}
use Rattle.qls_model.specs.Bytes.{same, comes_before}
use Rattle.qls_model.proofs.XidKeys.{same_self}
use Rattle.qls_model.specs.Machine.{change_queue}
use Rattle.qls_model.specs.Messages.{left_by, after_coming, after_going, only}
use Rattle.qls_model.specs.declared.machine.Phase.{Phase}
use Rattle.qls_model.specs.declared.machine.Phase.TheVariants.{Open, Prepared}
use Rattle.qls_model.specs.declared.machine.Status.{Status}
use Rattle.qls_model.specs.declared.machine.Status.TheVariants.{Ready, Coming, Going}
use Rattle.qls_model.specs.declared.machine.Message.{Message}
use Rattle.qls_model.specs.declared.machine.QueueState.{QueueState}
use Rattle.qls_model.specs.declared.machine.Verdict.TheVariants.{Doubt}
use Rattle.qls_decide.specs.declared.End.{End}
use Rattle.qls_decide.specs.declared.ListEntry.{ListEntry}
use Rattle.qls_decide.specs.declared.ListState.TheVariants as listed
use Rattle.qls_decide.specs.Entries.{entry_of, state_of, verdict_for, with_entry}
use Rattle.qls_meaning.specs.Replay.{decision}
use Rattle.qls_replay.specs.Ops.{is_moved, verdict_if}
use Rattle.qls_queue.specs.Answers.{is_pending}
use Rattle.qls_queue.specs.Live.{LiveState}
use Rattle.qls_queue.specs.Records.{ended_by}
use Rattle.qls_journals.specs.declared.cause.Cause.{Cause}
use Rattle.qls_journals.specs.Deciding.{AreEndedBefore, MayCarryOut, NonePending}
use Rattle.qls_journals.specs.Places.{StandsAt}
use Rattle.qls_journals.specs.State.{JournalsState, NamesRise, names_of, queues_of}
use Rattle.qls_store.specs.Stores.{touched}
use Rattle.qls_store.specs.Table.{Rises}
use Rattle.qls_store.specs.Calls.{ComesFirst, ended_in, state_by}
use Rattle.qls_store.proofs.Keys.{all_at, all_weaken, before_differs, lacks_behind}
use Rattle.qls_store.proofs.States.{name_of, rises_by}
use Rattle.qls_store.proofs.Each.{drop_next}
use Rattle.qls_store.proofs.Ended.{ends, ends_none, touched_ended}
use Rattle.qls_store.proofs.Entries.{ok_map, with_found, found_xid, open_none, the_entry, decided_as}

-- ---- what the list says

-- the end of x
abbrev pub one_end : List ℕ → Bool → List End
one_end x commit = record { xid = x; commit = commit } ∷ []

carried : (x : List ℕ) (es fs : List ListEntry) (e : ListEntry) (commit : Bool) → e.xid ≡ x → verdict_for (state_of (Some e)) ≡ verdict_if commit → fs ≡ with_entry e es → MayCarryOut fs (one_end x commit)
carried x es fs e commit i v k = (ap (λ o. verdict_for (state_of o)) (ap (entry_of x) k ∙ with_found x e es i) ∙ v, tt)

-- an open transaction commits in one phase
pub carried_open : (x : List ℕ) (es : List ListEntry) (rid : ℕ) (commit : Bool) → commit ≡ true → (r : Result JournalsState Cause)
    → IfOk r (λ s. s.list.entries ≡ with_entry (record { xid = x; rid = rid; state = listed.DecidedCommit }) es) → IfOk r (λ s. MayCarryOut s.list.entries (one_end x commit))
carried_open x es rid commit c r h =
    let e : ListEntry = record { xid = x; rid = rid; state = listed.DecidedCommit } in
    ok_map (λ s. s.list.entries ≡ with_entry e es) (λ s. MayCarryOut s.list.entries (one_end x commit)) (λ s k. carried x es s.list.entries e commit refl (ap verdict_if (sym c)) k) r h

decided_so : (commit : Bool) → verdict_for (Some (decision commit)) ≡ verdict_if commit
decided_so true = refl
decided_so false = refl

-- a prepared one as it is decided
pub carried_prepared : (p : Phase) (x : List ℕ) (es : List ListEntry) (commit : Bool) → p ≡ Prepared → state_of (entry_of x es) ≡ state_by p → (r : Result JournalsState Cause)
    → IfOk r (λ s. IfSome (entry_of x es) (λ f. s.list.entries ≡ with_entry (record f { state = decision commit }) es)) → IfOk r (λ s. MayCarryOut s.list.entries (one_end x commit))
carried_prepared p x es commit i h r k =
    let e = the_entry p x es i h in
    let d : ListEntry = record e.0 { state = decision commit } in
    ok_map (λ s. s.list.entries ≡ with_entry d es) (λ s. MayCarryOut s.list.entries (one_end x commit)) (λ s l. carried x es s.list.entries d commit (found_xid x es e.0 e.1) (decided_so commit) l) r (decided_as x es commit e.0 e.1 r k)

-- the abort of an open one needs no entry
pub carried_none : (p : Phase) (x : List ℕ) (es : List ListEntry) (ends : List End) → p ≡ Open → state_of (entry_of x es) ≡ state_by p → ends ≡ one_end x false → MayCarryOut es ends
carried_none p x es ends i h one = subst (MayCarryOut es) (sym one) (ap (λ o. verdict_for (state_of o)) (open_none p x es i h), tt)

pub carries : (s : JournalsState) (x : List ℕ) (commit : Bool) (ends : List End) → ends ≡ one_end x commit → MayCarryOut s.list.entries (one_end x commit) → MayCarryOut s.list.entries ends
carries s x commit ends one h = subst (MayCarryOut s.list.entries) (sym one) h

pub not_open : (p : Phase) → p ≡ Prepared → p ≡ Open → false ≡ true
not_open p i j = absurd (apart (sym i ∙ j))
  where
    apart : Prepared ≡ Open → ⊥
    apart e = cc

-- ---- nothing is left of it in the queues

module _ (x : List ℕ) (commit : Bool) where
  abbrev moved : List Message → Bool
  moved ms = list_any (λ m. is_moved x m.status) ms

  gone_by : (m : Message) (rest : List Message) (s : Status) → m.status ≡ s → moved rest ≡ false → moved (cons_option (left_by (only x (verdict_if commit)) s m) rest) ≡ false
  gone_by m rest Ready e h = ap (λ s. is_moved x s || moved rest) e ∙ h
  gone_by m rest (Coming y) e h = by (same x y) refl
    where
      by : (b : Bool) → same x y ≡ b → moved (cons_option (after_coming (cond b (verdict_if commit) Doubt) m) rest) ≡ false
      by true is = elim commit as (λ d. moved (cons_option (after_coming (verdict_if d) m) rest) ≡ false) [ true ↦ h | false ↦ h ]
      by false is = ap (λ s. is_moved x s || moved rest) e ∙ ap (λ b. b || moved rest) is ∙ h
  gone_by m rest (Going y) e h = by (same x y) refl
    where
      by : (b : Bool) → same x y ≡ b → moved (cons_option (after_going (cond b (verdict_if commit) Doubt) m) rest) ≡ false
      by true is = elim commit as (λ d. moved (cons_option (after_going (verdict_if d) m) rest) ≡ false) [ true ↦ h | false ↦ h ]
      by false is = ap (λ s. is_moved x s || moved rest) e ∙ ap (λ b. b || moved rest) is ∙ h

  gone_all : (ms : List Message) → moved (filter_map (λ m. left_by (only x (verdict_if commit)) m.status m) ms) ≡ false
  gone_all [] = refl
  gone_all (m ∷ ms) = gone_by m (filter_map (λ m. left_by (only x (verdict_if commit)) m.status m) ms) m.status refl (gone_all ms)

  gone : (qs : List QueueState) → NonePending x (map (ends x commit) qs)
  gone [] = tt
  gone (q ∷ qs) = (gone_all q.messages, gone qs)

  pub none_left : (names : List (List ℕ)) (qs rs ss : List QueueState) → names ≡ touched x qs → rs ≡ qs → (es : List End) → es ≡ one_end x commit → ss ≡ ended_in names es rs → NonePending x ss
  none_left names qs rs ss all is es one left =
      let e : ss ≡ map (ends x commit) qs = left ∙ (λ i. ended_in (all i) (one i) (is i)) ∙ touched_ended x commit qs in
      subst (NonePending x) (sym e) (gone qs)

-- ---- one queue after another, in order of their names

head_is : {a b : List ℕ} {us vs : List (List ℕ)} → ◌≡◌ {A = List (List ℕ)} (a ∷ us) (b ∷ vs) → a ≡ b
head_is e = cc

tail_is : {a b : List ℕ} {us vs : List (List ℕ)} → ◌≡◌ {A = List (List ℕ)} (a ∷ us) (b ∷ vs) → us ≡ vs
tail_is e = cc

true_false : true ≡ false → ⊥
true_false e = cc

-- the names of those of which it is true, and of the rest
abbrev names_if : Bool → QueueState → List QueueState → List (List ℕ)
names_if b q qs = map (λ q. q.name) (cond b (q ∷ qs) qs)

-- no queue before the first that is touched is touched
done_before : (x n : List ℕ) (ns : List (List ℕ)) (qs : List QueueState) (at : ℕ) (q : QueueState) → Rises name_of qs → touched x qs ≡ n ∷ ns → slice_get qs at ≡ Some q → q.name ≡ n → NonePending x (take at qs)
done_before x n ns [] at q r t e is = absurd (cc)
done_before x n ns (p ∷ qs) zero q r t e is = tt
done_before x n ns (p ∷ qs) (suc at) q r t e is = by (is_pending x p) refl t (λ k. done_before x n ns qs at q r.1 k e is)
  where
    differs : same p.name n ≡ false
    differs = subst (λ m. same p.name m ≡ false) is (before_differs p.name q.name (all_at (λ b. comes_before p.name (name_of b) ≡ true) qs at q r.0 e))

    by : (b : Bool) → is_pending x p ≡ b → names_if b p (filter (is_pending x) qs) ≡ n ∷ ns → (touched x qs ≡ n ∷ ns → NonePending x (take at qs)) → (is_pending x p ≡ false) × NonePending x (take at qs)
    by true i t next = absurd (true_false (sym (same_self p.name) ∙ ap (same p.name) (head_is t) ∙ differs))
    by false i t next = (i, next t)

pub first_at : (x n : List ℕ) (s : JournalsState) (at : ℕ) → NamesRise (names_of s.queues) → StandsAt s.queues n at → ComesFirst n (touched x (queues_of s)) → NonePending x (take at (queues_of s))
first_at x n s at r w h = by (touched x (queues_of s)) refl h
  where
    by : (ns : List (List ℕ)) → touched x (queues_of s) ≡ ns → ComesFirst n ns → NonePending x (take at (queues_of s))
    by [] t h = absurd h
    by (m ∷ ms) t h =
        done_before x n ms (queues_of s) at w.queue.queue (rises_by s.queues r) (t ∙ ap (λ k. k ∷ ms) h)
        (slice_get-map (λ (q : LiveState). q.queue) s.queues at ∙ ap (option_map (λ (q : LiveState). q.queue)) w.there) w.named

pub firsts_at : (n : List ℕ) (s : JournalsState) (at : ℕ) (es : List End) → NamesRise (names_of s.queues) → StandsAt s.queues n at → AllByRecursion (λ e. ComesFirst n (touched e.xid (queues_of s))) es → AreEndedBefore at (queues_of s) es
firsts_at n s at es r w h = all_weaken (λ e. ComesFirst n (touched e.xid (queues_of s))) (λ e. NonePending e.xid (take at (queues_of s))) (λ e k. first_at e.xid n s at r w k) es h

-- where no queue has the name, all stay
others_stay : (n : List ℕ) (f : QueueState → QueueState) (qs : List QueueState) → AllByRecursion (λ q. same (name_of q) n ≡ false) qs → change_queue n f qs ≡ qs
others_stay n f [] h = refl
others_stay n f (q ∷ qs) h = λ i. cond (h.0 i) (f q) q ∷ others_stay n f qs h.1 i

-- after its end there the next is the first
next_touched : (x : List ℕ) (commit : Bool) (n : List ℕ) (ns : List (List ℕ)) (qs : List QueueState) → Rises name_of qs → touched x qs ≡ n ∷ ns → touched x (change_queue n (ends x commit) qs) ≡ ns
next_touched x commit n ns [] r t = absurd (cc)
next_touched x commit n ns (q ∷ qs) r t = by (is_pending x q) refl t (λ k. next_touched x commit n ns qs r.1 k)
  where
    stays : is_pending x q ≡ false → (b : Bool) → cond b (ends x commit q) q ≡ q
    stays i true = ends_none x commit q i
    stays i false = refl

    by : (b : Bool) → is_pending x q ≡ b → names_if b q (filter (is_pending x) qs) ≡ n ∷ ns → (touched x qs ≡ n ∷ ns → touched x (change_queue n (ends x commit) qs) ≡ ns) → touched x (cond (same q.name n) (ends x commit q) q ∷ change_queue n (ends x commit) qs) ≡ ns
    by true i t next =
        let named : q.name ≡ n = head_is t in
        let is : same q.name n ≡ true = ap (same q.name) (sym named) ∙ same_self q.name in
        let lacks : AllByRecursion (λ p. same (name_of p) n ≡ false) qs = lacks_behind name_of n qs (subst (λ m. AllByRecursion (λ p. comes_before m (name_of p) ≡ true) qs) named r.0) in
        ap (λ b. touched x (cond b (ends x commit q) q ∷ change_queue n (ends x commit) qs)) is ∙ ap (λ (us : List QueueState). touched x (ends x commit q ∷ us)) (others_stay n (ends x commit) qs lacks)
        ∙ ap (λ b. names_if b (ends x commit q) (filter (is_pending x) qs)) (gone_all x commit q.messages) ∙ tail_is t
    by false i t next =
        ap (λ (p : QueueState). touched x (p ∷ change_queue n (ends x commit) qs)) (stays i (same q.name n)) ∙ ap (λ b. names_if b q (filter (is_pending x) (change_queue n (ends x commit) qs))) i
        ∙ next t

pub next_left : (es : List End) → length es ≡ 1 → (names : List (List ℕ)) (i : ℕ) (n : List ℕ) → i < length names → n ≡ get_or names i n → (s : JournalsState) (rs : List QueueState) → NamesRise (names_of s.queues)
    → AllByRecursion (λ e. touched e.xid (queues_of s) ≡ drop i names) es → rs ≡ change_queue n (ended_by es) (queues_of s) → AllByRecursion (λ e. touched e.xid rs ≡ drop (i + 1) names) es
next_left [] one names i n h is s rs r t now = tt
next_left (e ∷ []) one names i n h is s rs r t now =
    (ap (touched e.xid) now ∙ next_touched e.xid e.commit n (drop (i + 1) names) (queues_of s) (rises_by s.queues r) (t.0 ∙ drop_next names i n h is), tt)
next_left (e ∷ f ∷ es) one names i n h is s rs r t now = absurd (omega (arith, one))

pub next_first : (es : List End) (names : List (List ℕ)) (i : ℕ) (n : List ℕ) → i < length names → n ≡ get_or names i n → (qs : List QueueState) → AllByRecursion (λ e. touched e.xid qs ≡ drop i names) es → AllByRecursion (λ e. ComesFirst n (touched e.xid qs)) es
next_first es names i n h is qs t =
    all_weaken (λ e. touched e.xid qs ≡ drop i names) (λ e. ComesFirst n (touched e.xid qs)) (λ e k. subst (ComesFirst n) (sym (k ∙ drop_next names i n h is)) refl) es t

pub all_touched : (x : List ℕ) (commit : Bool) (es : List End) → es ≡ one_end x commit → (names : List (List ℕ)) (qs rs : List QueueState) → names ≡ touched x qs → rs ≡ qs → AllByRecursion (λ e. touched e.xid rs ≡ names) es
all_touched x commit es one names qs rs all is = subst (AllByRecursion (λ (e : End). touched e.xid rs ≡ names)) (sym one) (ap (touched x) is ∙ sym all, tt)
