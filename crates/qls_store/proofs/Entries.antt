-- An entry that is put into the list, and the entries without it.
use Rattle.std.proofs.Common.{◌≡◌, ℕ, Bool, true, false, not, cond, List, [], ◌∷◌, Option, Some, None, Result, Ok, Err, IfOk, IfSome, refl, sym, ap, ◌∙◌, subst}
use Rattle.std.specs.List.{AllByRecursion}
use Rattle.qls_model.specs.Bytes.{same, comes_before}
use Rattle.qls_model.proofs.XidKeys.{same_true, same_self}
use Rattle.qls_model.specs.declared.machine.Phase.{Phase}
use Rattle.qls_model.specs.declared.machine.Phase.TheVariants.{Open, Prepared}
use Rattle.qls_decide.specs.declared.ListEntry.{ListEntry}
use Rattle.qls_decide.specs.declared.ListState.{ListState}
use Rattle.qls_decide.specs.declared.ListState.TheVariants as listed
use Rattle.qls_decide.specs.Entries.{entry_of, state_of, with_entry, placed_entry, without_entry}
use Rattle.qls_meaning.specs.Replay.{decision}
use Rattle.qls_prepared.specs.Lists.{MayEnd, MayEndBy}
use Rattle.qls_journals.specs.declared.cause.Cause.{Cause}
use Rattle.qls_journals.specs.State.{JournalsState}
use Rattle.qls_store.specs.Calls.{state_by}

pub ok_map : {X : Type 0} (P Q : X → Type 0) → ((x : X) → P x → Q x) → (r : Result X Cause) → IfOk r P → IfOk r Q
ok_map P Q f (Ok x) h = f x h
ok_map P Q f (Err e) h = tt

-- ---- put, and taken out

placed_gone : (e : ListEntry) (es : List ListEntry) → without_entry e.xid (placed_entry e es) ≡ without_entry e.xid es
placed_gone e [] = ap (λ b. cond (not b) (e ∷ []) []) (same_self e.xid)
placed_gone e (f ∷ es) = by (comes_before e.xid f.xid) (placed_gone e es)
  where
    by : (b : Bool) → without_entry e.xid (placed_entry e es) ≡ without_entry e.xid es → without_entry e.xid (cond b (e ∷ f ∷ es) (f ∷ placed_entry e es)) ≡ without_entry e.xid (f ∷ es)
    by true h = ap (λ b. cond (not b) (e ∷ without_entry e.xid (f ∷ es)) (without_entry e.xid (f ∷ es))) (same_self e.xid)
    by false h = ap (λ (fs : List ListEntry). cond (not (same f.xid e.xid)) (f ∷ fs) fs) h

gone_twice : (x : List ℕ) (es : List ListEntry) → without_entry x (without_entry x es) ≡ without_entry x es
gone_twice x [] = refl
gone_twice x (e ∷ es) = by (same e.xid x) refl (gone_twice x es)
  where
    by : (b : Bool) → same e.xid x ≡ b → without_entry x (without_entry x es) ≡ without_entry x es → without_entry x (cond (not b) (e ∷ without_entry x es) (without_entry x es)) ≡ cond (not b) (e ∷ without_entry x es) (without_entry x es)
    by true i h = h
    by false i h = ap (λ b. cond (not b) (e ∷ without_entry x (without_entry x es)) (without_entry x (without_entry x es))) i ∙ ap (λ (fs : List ListEntry). e ∷ fs) h

pub with_gone : (x : List ℕ) (e : ListEntry) (es : List ListEntry) → e.xid ≡ x → without_entry x (with_entry e es) ≡ without_entry x es
with_gone x e es i = subst (λ y. without_entry y (with_entry e es) ≡ without_entry y es) i (placed_gone e (without_entry e.xid es) ∙ gone_twice e.xid es)

-- ---- put, and found

gone_lacks : (x : List ℕ) (es : List ListEntry) → AllByRecursion (λ e. same e.xid x ≡ false) (without_entry x es)
gone_lacks x [] = tt
gone_lacks x (e ∷ es) = by (same e.xid x) refl (gone_lacks x es)
  where
    by : (b : Bool) → same e.xid x ≡ b → AllByRecursion (λ e. same e.xid x ≡ false) (without_entry x es) → AllByRecursion (λ e. same e.xid x ≡ false) (cond (not b) (e ∷ without_entry x es) (without_entry x es))
    by true i h = h
    by false i h = (i, h)

placed_found : (e : ListEntry) (es : List ListEntry) → AllByRecursion (λ f. same f.xid e.xid ≡ false) es → entry_of e.xid (placed_entry e es) ≡ Some e
placed_found e [] h = ap (λ b. cond b (Some e) None) (same_self e.xid)
placed_found e (f ∷ es) h = by (comes_before e.xid f.xid) (placed_found e es h.1)
  where
    by : (b : Bool) → entry_of e.xid (placed_entry e es) ≡ Some e → entry_of e.xid (cond b (e ∷ f ∷ es) (f ∷ placed_entry e es)) ≡ Some e
    by true k = ap (λ b. cond b (Some e) (entry_of e.xid (f ∷ es))) (same_self e.xid)
    by false k = ap (λ b. cond b (Some f) (entry_of e.xid (placed_entry e es))) h.0 ∙ k

pub with_found : (x : List ℕ) (e : ListEntry) (es : List ListEntry) → e.xid ≡ x → entry_of x (with_entry e es) ≡ Some e
with_found x e es i = subst (λ y. entry_of y (with_entry e es) ≡ Some e) i (placed_found e (without_entry e.xid es) (gone_lacks e.xid es))

pub found_xid : (x : List ℕ) (es : List ListEntry) (e : ListEntry) → entry_of x es ≡ Some e → e.xid ≡ x
found_xid x [] e i = absurd (cc)
found_xid x (f ∷ es) e i = by (same f.xid x) refl (found_xid x es e) i
  where
    by : (b : Bool) → same f.xid x ≡ b → (entry_of x es ≡ Some e → e.xid ≡ x) → cond b (Some f) (entry_of x es) ≡ Some e → e.xid ≡ x
    by true s ih i = let is : f ≡ e = cc in ap (λ (g : ListEntry). g.xid) (sym is) ∙ same_true f.xid x s
    by false s ih i = ih i

-- ---- by phase

none_by : (p : Phase) (o : Option ListEntry) → p ≡ Open → state_of o ≡ state_by p → o ≡ None
none_by Open None i h = refl
none_by Open (Some e) i h = absurd (cc)
none_by Prepared o i h = absurd (not_open i)
  where
    not_open : Prepared ≡ Open → ⊥
    not_open e = cc

pub open_none : (p : Phase) (x : List ℕ) (es : List ListEntry) → p ≡ Open → state_of (entry_of x es) ≡ state_by p → entry_of x es ≡ None
open_none p x es i h = none_by p (entry_of x es) i h

pub prepared_state : (p : Phase) (o : Option ListState) → p ≡ Prepared → o ≡ state_by p → o ≡ Some listed.Prepared
prepared_state p o i h = h ∙ ap state_by i

some_by : (o : Option ListEntry) → state_of o ≡ Some listed.Prepared → (e : ListEntry) × (o ≡ Some e)
some_by None h = absurd (cc)
some_by (Some e) h = (e, refl)

-- ---- after a decision

decided_may_end : (commit : Bool) → MayEndBy (decision commit)
decided_may_end true = tt
decided_may_end false = tt

abbrev pub Entered : List ℕ → List ListEntry → ListEntry → JournalsState → Type 0
Entered x es e s = s.list.entries ≡ with_entry e es

pub entered_gone : (x : List ℕ) (es : List ListEntry) (e : ListEntry) → e.xid ≡ x → (r : Result JournalsState Cause) → IfOk r (λ s. s.list.entries ≡ with_entry e es) → IfOk r (λ s. without_entry x s.list.entries ≡ without_entry x es)
entered_gone x es e i r h = ok_map (λ s. s.list.entries ≡ with_entry e es) (λ s. without_entry x s.list.entries ≡ without_entry x es) (λ s k. ap (without_entry x) k ∙ with_gone x e es i) r h

pub entered_ends : (x : List ℕ) (es : List ListEntry) (e : ListEntry) → e.xid ≡ x → MayEndBy e.state → (r : Result JournalsState Cause) → IfOk r (λ s. s.list.entries ≡ with_entry e es) → IfOk r (λ s. MayEnd (entry_of x s.list.entries))
entered_ends x es e i m r h =
    ok_map (λ s. s.list.entries ≡ with_entry e es) (λ s. MayEnd (entry_of x s.list.entries)) (λ s k. subst MayEnd (sym (ap (entry_of x) k ∙ with_found x e es i)) m) r h

-- the entry that is decided
pub at_entry : (x : List ℕ) (es : List ListEntry) (P : ListEntry → Type 0) → (e : ListEntry) → entry_of x es ≡ Some e → IfSome (entry_of x es) P → P e
at_entry x es P e i h = subst (λ (o : Option ListEntry). IfSome o P) i h

pub the_entry : (p : Phase) (x : List ℕ) (es : List ListEntry) → p ≡ Prepared → state_of (entry_of x es) ≡ state_by p → (e : ListEntry) × (entry_of x es ≡ Some e)
the_entry p x es i h = some_by (entry_of x es) (prepared_state p (state_of (entry_of x es)) i h)

pub decided_as : (x : List ℕ) (es : List ListEntry) (commit : Bool) (e : ListEntry) → entry_of x es ≡ Some e → (r : Result JournalsState Cause)
    → IfOk r (λ s. IfSome (entry_of x es) (λ f. s.list.entries ≡ with_entry (record f { state = decision commit }) es)) → IfOk r (λ s. s.list.entries ≡ with_entry (record e { state = decision commit }) es)
decided_as x es commit e i r h =
    ok_map (λ s. IfSome (entry_of x es) (λ f. s.list.entries ≡ with_entry (record f { state = decision commit }) es)) (λ s. s.list.entries ≡ with_entry (record e { state = decision commit }) es)
    (λ s k. at_entry x es (λ f. s.list.entries ≡ with_entry (record f { state = decision commit }) es) e i k) r h

pub decided_gone : (p : Phase) (x : List ℕ) (es : List ListEntry) (commit : Bool) → p ≡ Prepared → state_of (entry_of x es) ≡ state_by p → (r : Result JournalsState Cause)
    → IfOk r (λ s. IfSome (entry_of x es) (λ f. s.list.entries ≡ with_entry (record f { state = decision commit }) es)) → IfOk r (λ s. without_entry x s.list.entries ≡ without_entry x es)
decided_gone p x es commit i h r k =
    let e = the_entry p x es i h in
    entered_gone x es (record e.0 { state = decision commit }) (found_xid x es e.0 e.1) r (decided_as x es commit e.0 e.1 r k)

pub decided_ends : (p : Phase) (x : List ℕ) (es : List ListEntry) (commit : Bool) → p ≡ Prepared → state_of (entry_of x es) ≡ state_by p → (r : Result JournalsState Cause)
    → IfOk r (λ s. IfSome (entry_of x es) (λ f. s.list.entries ≡ with_entry (record f { state = decision commit }) es)) → IfOk r (λ s. MayEnd (entry_of x s.list.entries))
decided_ends p x es commit i h r k =
    let e = the_entry p x es i h in
    entered_ends x es (record e.0 { state = decision commit }) (found_xid x es e.0 e.1) (decided_may_end commit) r (decided_as x es commit e.0 e.1 r k)
