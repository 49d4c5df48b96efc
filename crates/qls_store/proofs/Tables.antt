-- The table of transactions as the machine sees it, and the prepared list beside it.
use Rattle.std.proofs.Common.{◌≡◌, ℕ, Bool, true, false, not, cond, List, [], ◌∷◌, map, Option, Some, None, refl, ap, sym, subst, ◌∙◌}
use Rattle.std.specs.List.{AllByRecursion, filter}
use Rattle.std.specs.Cmp.Lexicographic.{slice_cmp}
use Rattle.std.specs.Ordering.{nat_cmp, is_lt}
use Rattle.qls_model.specs.Bytes.{same, comes_before}
use Rattle.qls_model.specs.Machine.{XidState, xid_named, with_xid, without_xid, is_prepared, prepared as prepared_xid, doubts}
use Rattle.qls_model.specs.declared.machine.Phase.TheVariants.{Prepared}
use Rattle.qls_model.specs.declared.machine.Status.{Status}
use Rattle.qls_model.specs.declared.machine.Status.TheVariants.{Ready, Coming, Going}
use Rattle.qls_model.proofs.XidKeys.{same_true, same_self}
use Rattle.qls_laws.proofs.EntryOrder.{behind}
use Rattle.qls_decide.specs.declared.ListEntry.{ListEntry}
use Rattle.qls_decide.specs.Entries.{entry_of, with_entry, without_entry, placed_entry}
use Rattle.qls_store.specs.Stores.{TransactionState, xids_of, XidsRise, IsKnown}
use Rattle.qls_store.specs.Table.{named, change, placed, with_name, with_queue, touched_by, prepared, prepared_in, prepared_xids, without}
use Rattle.qls_store.proofs.Keys.{Before, not_both, all_weaken, all_filter, before_all}
use Rattle.qls_store.proofs.Placed.{xid_of, rises}
use Rattle.qls_store.proofs.Marking.{only_found, passing_marked}
use Rattle.qls_store.proofs.Machines.{entry_of as state_of_transaction}

-- ---- the machine's table

xids_changed : (x : List ℕ) (f : TransactionState → TransactionState) → ((t : TransactionState) → state_of_transaction (f t) ≡ state_of_transaction t) → (ts : List TransactionState) → xids_of (change x f ts) ≡ xids_of ts
xids_changed x f k [] = refl
xids_changed x f k (t ∷ ts) =
    let here : state_of_transaction (cond (same t.xid x) (f t) t) ≡ state_of_transaction t = elim (same t.xid x) as (λ b. state_of_transaction (cond b (f t) t) ≡ state_of_transaction t) [ true ↦ k t | false ↦ refl ] in
    λ i. here i ∷ xids_changed x f k ts i

pub xids_touched : (xid : Option (List ℕ)) (name : List ℕ) (ts : List TransactionState) → xids_of (touched_by xid name ts) ≡ xids_of ts
xids_touched None name ts = refl
xids_touched (Some x) name ts = xids_changed x (with_queue name) (λ t. refl) ts

pub xids_prepared : (x : List ℕ) (ts : List TransactionState) → xids_of (prepared_in x ts) ≡ map (prepared_xid x) (xids_of ts)
xids_prepared x [] = refl
xids_prepared x (t ∷ ts) =
    let here : state_of_transaction (cond (same t.xid x) (prepared t) t) ≡ prepared_xid x (state_of_transaction t) =
    elim (same t.xid x) as (λ b. state_of_transaction (cond b (prepared t) t) ≡ cond b (record (state_of_transaction t) { phase = Prepared }) (state_of_transaction t)) [ true ↦ refl | false ↦ refl ] in
    λ i. here i ∷ xids_prepared x ts i

pub xids_placed : (t : TransactionState) (ts : List TransactionState) → xids_of (placed t ts) ≡ with_xid (state_of_transaction t) (xids_of ts)
xids_placed t [] = refl
xids_placed t (u ∷ ts) =
    elim (comes_before t.xid u.xid) as (λ b. xids_of (cond b (t ∷ u ∷ ts) (u ∷ placed t ts)) ≡ cond b (state_of_transaction t ∷ state_of_transaction u ∷ xids_of ts) (state_of_transaction u ∷ with_xid (state_of_transaction t) (xids_of ts))) [
      | true ↦ refl
      | false ↦ ap (λ xs. state_of_transaction u ∷ xs) (xids_placed t ts)
    ]

pub xids_without : (x : List ℕ) (ts : List TransactionState) → xids_of (without x ts) ≡ without_xid x (xids_of ts)
xids_without x [] = refl
xids_without x (t ∷ ts) =
    elim (same t.xid x) as (λ b. xids_of (cond (not b) (t ∷ without x ts) (without x ts)) ≡ cond (not b) (state_of_transaction t ∷ without_xid x (xids_of ts)) (without_xid x (xids_of ts))) [
      | true ↦ xids_without x ts
      | false ↦ ap (λ xs. state_of_transaction t ∷ xs) (xids_without x ts)
    ]

pub doubts_are : (ts : List TransactionState) → doubts (xids_of ts) ≡ prepared_xids ts
doubts_are [] = refl
doubts_are (t ∷ ts) =
    elim (is_prepared t.phase) as (λ b. map (λ (e : XidState). e.xid) (cond b (state_of_transaction t ∷ filter (λ e. is_prepared e.phase) (xids_of ts)) (filter (λ e. is_prepared e.phase) (xids_of ts))) ≡ map xid_of (cond b (t ∷ filter (λ u. is_prepared u.phase) ts) (filter (λ u. is_prepared u.phase) ts))) [
      | true ↦ ap (λ xs. t.xid ∷ xs) (doubts_are ts)
      | false ↦ doubts_are ts
    ]

-- ---- an xid that there is stays there

abbrev There : List XidState → List ℕ → Type 0
There xs y = (e : XidState) × (xid_named y xs ≡ Some e)

pub known_more : (xs ys : List XidState) → ((y : List ℕ) → (e : XidState) → xid_named y xs ≡ Some e → (f : XidState) × (xid_named y ys ≡ Some f)) → (s : Status) → IsKnown xs s → IsKnown ys s
known_more xs ys f Ready h = tt
known_more xs ys f (Coming y) h = f y h.0 h.1
known_more xs ys f (Going y) h = f y h.0 h.1

pub there_with : (e : XidState) (xs : List XidState) (y : List ℕ) (f : XidState) → xid_named y xs ≡ Some f → (g : XidState) × (xid_named y (with_xid e xs) ≡ Some g)
there_with e [] y f h = absurd (cc)
there_with e (k ∷ xs) y f h = elim (comes_before e.xid k.xid) as (λ b. There (cond b (e ∷ k ∷ xs) (k ∷ with_xid e xs)) y) [ true ↦ first (same e.xid y) | false ↦ later (λ l. there_with e xs y f l) (same k.xid y) h ]
  where
    first : (b : Bool) → (g : XidState) × (cond b (Some e) (xid_named y (k ∷ xs)) ≡ Some g)
    first true = (e, refl)
    first false = (f, h)

    later : (xid_named y xs ≡ Some f → There (with_xid e xs) y) → (b : Bool) → cond b (Some k) (xid_named y xs) ≡ Some f → (g : XidState) × (cond b (Some k) (xid_named y (with_xid e xs)) ≡ Some g)
    later rest true h = (k, refl)
    later rest false h = rest h

pub there_prepared : (x : List ℕ) (xs : List XidState) (y : List ℕ) (f : XidState) → xid_named y xs ≡ Some f → (g : XidState) × (xid_named y (map (prepared_xid x) xs) ≡ Some g)
there_prepared x [] y f h = absurd (cc)
there_prepared x (k ∷ xs) y f h = subst (λ n. (g : XidState) × (cond (same n y) (Some (prepared_xid x k)) (xid_named y (map (prepared_xid x) xs)) ≡ Some g)) (sym keeps) (by (λ l. there_prepared x xs y f l) (same k.xid y) h)
  where
    keeps : (prepared_xid x k).xid ≡ k.xid
    keeps = elim (same k.xid x) as (λ b. (cond b (record k { phase = Prepared }) k).xid ≡ k.xid) [ true ↦ refl | false ↦ refl ]

    by : (xid_named y xs ≡ Some f → There (map (prepared_xid x) xs) y) → (b : Bool) → cond b (Some k) (xid_named y xs) ≡ Some f → (g : XidState) × (cond b (Some (prepared_xid x k)) (xid_named y (map (prepared_xid x) xs)) ≡ Some g)
    by rest true h = (prepared_xid x k, refl)
    by rest false h = rest h

-- ---- what holds of each transaction

pub all_change : (P : TransactionState → Type 0) (x : List ℕ) (f : TransactionState → TransactionState) (ts : List TransactionState) → ((t : TransactionState) → same t.xid x ≡ true → P t → P (f t)) → AllByRecursion P ts → AllByRecursion P (change x f ts)
all_change P x f [] k h = tt
all_change P x f (t ∷ ts) k h = (by (same t.xid x) refl, all_change P x f ts k h.1)
  where
    by : (b : Bool) → same t.xid x ≡ b → P (cond b (f t) t)
    by true is = k t is h.0
    by false is = h.0

pub all_placed : (P : TransactionState → Type 0) (t : TransactionState) (ts : List TransactionState) → P t → AllByRecursion P ts → AllByRecursion P (placed t ts)
all_placed P t [] k h = (k, tt)
all_placed P t (u ∷ ts) k h = elim (comes_before t.xid u.xid) as (λ b. AllByRecursion P (cond b (t ∷ u ∷ ts) (u ∷ placed t ts))) [ true ↦ (k, h) | false ↦ (h.0, all_placed P t ts k h.1) ]

pub rise_change : (x : List ℕ) (f : TransactionState → TransactionState) → ((t : TransactionState) → (f t).xid ≡ t.xid) → (ts : List TransactionState) → XidsRise ts → XidsRise (change x f ts)
rise_change x f k [] h = tt
rise_change x f k (t ∷ ts) h =
    let here : (cond (same t.xid x) (f t) t).xid ≡ t.xid = elim (same t.xid x) as (λ b. (cond b (f t) t).xid ≡ t.xid) [ true ↦ k t | false ↦ refl ] in (
      subst (λ n. AllByRecursion (λ u. comes_before n u.xid ≡ true) (change x f ts)) (sym here)
          (all_change (λ u. comes_before t.xid u.xid ≡ true) x f ts (λ u is b. ap (comes_before t.xid) (k u) ∙ b) h.0),
      rise_change x f k ts h.1,
    )

none_first : (x : List ℕ) (t : TransactionState) (ts : List TransactionState) → named x (t ∷ ts) ≡ None → (same t.xid x ≡ false) × (named x ts ≡ None)
none_first x t ts e = by (same t.xid x) e
  where
    clash : Some t ≡ None → ⊥
    clash k = cc

    by : (b : Bool) → cond b (Some t) (named x ts) ≡ None → (b ≡ false) × (named x ts ≡ None)
    by true k = absurd (clash k)
    by false k = (refl, k)

turned : (a b : List ℕ) → same a b ≡ false → same b a ≡ false
turned a b h = by (same b a) refl
  where
    by : (c : Bool) → same b a ≡ c → c ≡ false
    by true is = absurd (not_both (sym (ap (same a) (same_true b a is) ∙ same_self a) ∙ h))
    by false is = refl

-- of two xids that differ, the one that doesn't come first comes behind
comes_behind : (a b : List ℕ) → comes_before a b ≡ false → same b a ≡ false → Before b a
comes_behind a b l n = ap is_lt (behind a b (slice_cmp nat_cmp a b) refl l (turned b a n))

pub rise_placed : (t : TransactionState) (ts : List TransactionState) → named t.xid ts ≡ None → XidsRise ts → XidsRise (placed t ts)
rise_placed t [] e h = (tt, tt)
rise_placed t (u ∷ ts) e h = by (rise_placed t ts none.1 h.1) (comes_before t.xid u.xid) refl
  where
    none : (same u.xid t.xid ≡ false) × (named t.xid ts ≡ None)
    none = none_first t.xid u ts e

    by : XidsRise (placed t ts) → (b : Bool) → comes_before t.xid u.xid ≡ b → XidsRise (cond b (t ∷ u ∷ ts) (u ∷ placed t ts))
    by rest true is = ((is, all_weaken (λ v. comes_before u.xid v.xid ≡ true) (λ v. comes_before t.xid v.xid ≡ true) (λ v b. before_all t.xid u.xid v.xid is b) ts h.0), h)
    by rest false is = (all_placed (λ v. comes_before u.xid v.xid ≡ true) t ts (comes_behind t.xid u.xid is none.0) h.0, rest)

-- ---- those that are prepared, and the list's entries

abbrev passing : List TransactionState → List TransactionState
passing vs = filter (λ v. is_prepared v.phase) vs

pub prepared_placed : (t : TransactionState) (ts : List TransactionState) → is_prepared t.phase ≡ false → prepared_xids (placed t ts) ≡ prepared_xids ts
prepared_placed t [] e = ap (λ b. map xid_of (cond b (t ∷ []) [])) e
prepared_placed t (u ∷ ts) e = by (prepared_placed t ts e) (comes_before t.xid u.xid)
  where
    under : prepared_xids (placed t ts) ≡ prepared_xids ts → (b : Bool) → map xid_of (cond b (u ∷ passing (placed t ts)) (passing (placed t ts))) ≡ map xid_of (cond b (u ∷ passing ts) (passing ts))
    under rest true = ap (λ xs. u.xid ∷ xs) rest
    under rest false = rest

    by : prepared_xids (placed t ts) ≡ prepared_xids ts → (b : Bool) → prepared_xids (cond b (t ∷ u ∷ ts) (u ∷ placed t ts)) ≡ prepared_xids (u ∷ ts)
    by rest true = ap (λ b. map xid_of (cond b (t ∷ passing (u ∷ ts)) (passing (u ∷ ts)))) e
    by rest false = under rest (is_prepared u.phase)

pub prepared_more_by : (x : List ℕ) (ts : List TransactionState) (t : TransactionState) → XidsRise ts → named x ts ≡ Some t → prepared_xids (prepared_in x ts) ≡ with_name x (prepared_xids ts)
prepared_more_by x ts t r e = passing_marked xid_of x prepared (λ u. is_prepared u.phase) ts t (rises ts r) e refl refl

-- an open transaction isn't among those that are prepared
pub open_lacks : (x : List ℕ) (ts : List TransactionState) (t : TransactionState) → XidsRise ts → named x ts ≡ Some t → is_prepared t.phase ≡ false → AllByRecursion (λ m. same m x ≡ false) (prepared_xids ts)
open_lacks x ts t r e opened = go ts (only_found xid_of x prepared ts t (rises ts r) e)
  where
    go : (us : List TransactionState) → AllByRecursion (λ u. same u.xid x ≡ true → u ≡ t) us → AllByRecursion (λ m. same m x ≡ false) (prepared_xids us)
    go [] h = tt
    go (u ∷ us) h = by (is_prepared u.phase) refl (go us h.1)
      where
        apart : is_prepared u.phase ≡ true → (b : Bool) → same u.xid x ≡ b → b ≡ false
        apart p true is = absurd (not_both (sym p ∙ ap (λ (v : TransactionState). is_prepared v.phase) (h.0 is) ∙ opened))
        apart p false is = refl

        by : (b : Bool) → is_prepared u.phase ≡ b → AllByRecursion (λ m. same m x ≡ false) (prepared_xids us) → AllByRecursion (λ m. same m x ≡ false) (map xid_of (cond b (u ∷ filter (λ v. is_prepared v.phase) us) (filter (λ v. is_prepared v.phase) us)))
        by true p rest = (apart p (same u.xid x) refl, rest)
        by false p rest = rest

abbrev pub entry_xid : ListEntry → List ℕ
entry_xid e = e.xid

abbrev LacksEntry : List ℕ → List ListEntry → Type 0
LacksEntry x es = AllByRecursion (λ e. same e.xid x ≡ false) es

lacks_entry : (x : List ℕ) (es : List ListEntry) → AllByRecursion (λ m. same m x ≡ false) (map entry_xid es) → LacksEntry x es
lacks_entry x [] h = tt
lacks_entry x (e ∷ es) h = (h.0, lacks_entry x es h.1)

no_entry : (x : List ℕ) (es : List ListEntry) → LacksEntry x es → entry_of x es ≡ None
no_entry x [] h = refl
no_entry x (e ∷ es) h = ap (λ b. cond b (Some e) (entry_of x es)) h.0 ∙ no_entry x es h.1

without_no_entry : (x : List ℕ) (es : List ListEntry) → LacksEntry x es → without_entry x es ≡ es
without_no_entry x [] h = refl
without_no_entry x (e ∷ es) h = ap (λ b. cond (not b) (e ∷ without_entry x es) (without_entry x es)) h.0 ∙ ap (λ fs. e ∷ fs) (without_no_entry x es h.1)

placed_xids : (e : ListEntry) (es : List ListEntry) → LacksEntry e.xid es → map entry_xid (placed_entry e es) ≡ with_name e.xid (map entry_xid es)
placed_xids e [] h = refl
placed_xids e (f ∷ es) h = by (placed_xids e es h.1) (comes_before e.xid f.xid) ∙ sym (ap (λ b. cond b (f.xid ∷ map entry_xid es) (cond (comes_before e.xid f.xid) (e.xid ∷ f.xid ∷ map entry_xid es) (f.xid ∷ with_name e.xid (map entry_xid es)))) h.0)
  where
    by : map entry_xid (placed_entry e es) ≡ with_name e.xid (map entry_xid es) → (b : Bool) → map entry_xid (cond b (e ∷ f ∷ es) (f ∷ placed_entry e es)) ≡ cond b (e.xid ∷ f.xid ∷ map entry_xid es) (f.xid ∷ with_name e.xid (map entry_xid es))
    by rest true = refl
    by rest false = ap (λ xs. f.xid ∷ xs) rest

all_placed_entry : (P : ListEntry → Type 0) (e : ListEntry) (es : List ListEntry) → P e → AllByRecursion P es → AllByRecursion P (placed_entry e es)
all_placed_entry P e [] k h = (k, tt)
all_placed_entry P e (f ∷ es) k h = elim (comes_before e.xid f.xid) as (λ b. AllByRecursion P (cond b (e ∷ f ∷ es) (f ∷ placed_entry e es))) [ true ↦ (k, h) | false ↦ (h.0, all_placed_entry P e es k h.1) ]

pub all_with_entry : (P : ListEntry → Type 0) (e : ListEntry) (es : List ListEntry) → P e → AllByRecursion P es → AllByRecursion P (with_entry e es)
all_with_entry P e es k h = all_placed_entry P e (without_entry e.xid es) k (all_filter P (λ f. not (same f.xid e.xid)) es h)

module _ (x : List ℕ) (ts : List TransactionState) (t : TransactionState) (rise : XidsRise ts) (found : named x ts ≡ Some t) (opened : is_prepared t.phase ≡ false) (es : List ListEntry) (listed : map entry_xid es ≡ prepared_xids ts) where
  lacks : LacksEntry x es
  lacks = lacks_entry x es (subst (λ xs. AllByRecursion (λ m. same m x ≡ false) xs) (sym listed) (open_lacks x ts t rise found opened))

  -- the list has no entry of an open transaction
  pub open_unlisted : entry_of x es ≡ None
  open_unlisted = no_entry x es lacks

  -- and has one once it is prepared
  pub prepared_listed : (e : ListEntry) → e.xid ≡ x → map entry_xid (with_entry e es) ≡ prepared_xids (prepared_in x ts)
  prepared_listed e is =
      let here : LacksEntry e.xid es = subst (λ n. LacksEntry n es) (sym is) lacks in
      ap (λ fs. map entry_xid (placed_entry e fs)) (without_no_entry e.xid es here) ∙ placed_xids e es here ∙ (λ i. with_name (is i) (listed i)) ∙ sym (prepared_more_by x ts t rise found)
