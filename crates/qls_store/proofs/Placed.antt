-- A transaction that stands at a place of the table, or would: what a write there makes of the table.
use Rattle.std.proofs.Common.{◌≡◌, ℕ, zero, suc, ◌<◌, true, false, not, cond, List, [], ◌∷◌, ◌++◌, map, length, take, drop, get_or, set, Some, None, option_map, refl, ap, sym, subst, ◌∙◌}
use Rattle.std.specs.List.{AllByRecursion, slice_get, filter, insert, remove}
use Rattle.qls_model.specs.Bytes.{same, comes_before}
use Rattle.qls_model.specs.Machine.{is_prepared}
use Rattle.qls_model.proofs.XidKeys.{same_self}
use Rattle.qls_store.specs.Stores.{TransactionState, XidsRise}
use Rattle.qls_store.specs.Table.{Rises, StandsAt, WouldStandAt, named, change, phase_in, placed, with_name, without, prepared_xids}
use Rattle.qls_store.proofs.Keys.{Before, AllBefore, AllBehind, Lacks, lacks_behind, lacks_between, before_differs, not_before, behind_differs, all_at, found_at, none_at, at_is, at_within}
use Rattle.std.proofs.lemmas.Option.{slice_get_read}

abbrev pub xid_of : TransactionState → List ℕ
xid_of t = t.xid

abbrev pub name_of : List ℕ → List ℕ
name_of n = n

pub rises : (ts : List TransactionState) → XidsRise ts → Rises xid_of ts
rises [] h = tt
rises (t ∷ ts) h = (h.0, rises ts h.1)

some_is : {A : Type 0} {a b : A} → Some a ≡ Some b → a ≡ b
some_is e = cc

-- the first of a list in order of a key isn't one that follows
others : (u : TransactionState) (ts : List TransactionState) (i : ℕ) (t : TransactionState) → AllBehind xid_of u.xid ts → slice_get ts i ≡ Some t → same u.xid t.xid ≡ false
others u ts i t r e = before_differs u.xid t.xid (all_at (λ v. comes_before u.xid v.xid ≡ true) ts i t r e)

first_is : (u t : TransactionState) → u ≡ t → same u.xid t.xid ≡ true
first_is u t is = ap (λ (v : TransactionState). same u.xid v.xid) (sym is) ∙ same_self u.xid

rest_lacks : (u t : TransactionState) (ts : List TransactionState) → AllBehind xid_of u.xid ts → u ≡ t → Lacks xid_of t.xid ts
rest_lacks u t ts r is = subst (λ (v : TransactionState). Lacks xid_of v.xid ts) is (lacks_behind xid_of u.xid ts r)

-- ---- a transaction changes

pub change_none : (x : List ℕ) (f : TransactionState → TransactionState) (ts : List TransactionState) → Lacks xid_of x ts → change x f ts ≡ ts
change_none x f [] h = refl
change_none x f (t ∷ ts) h = λ i. cond (h.0 i) (f t) t ∷ change_none x f ts h.1 i

change_there : (f : TransactionState → TransactionState) (ts : List TransactionState) (i : ℕ) (t : TransactionState) → Rises xid_of ts → slice_get ts i ≡ Some t → change t.xid f ts ≡ set ts i (f t)
change_there f [] i t r e = absurd (cc)
change_there f (u ∷ ts) zero t r e =
    let is : u ≡ t = some_is e in
    let first : same u.xid t.xid ≡ true = first_is u t is in
    let rest : change t.xid f ts ≡ ts = change_none t.xid f ts (rest_lacks u t ts r.0 is) in
    (λ i. cond (first i) (f u) u ∷ rest i) ∙ ap (λ v. f v ∷ ts) is
change_there f (u ∷ ts) (suc i) t r e =
    let other : same u.xid t.xid ≡ false = others u ts i t r.0 e in
    let rest : change t.xid f ts ≡ set ts i (f t) = change_there f ts i t r.1 e in
    λ j. cond (other j) (f u) u ∷ rest j

pub change_at : (x : List ℕ) (f : TransactionState → TransactionState) (ts : List TransactionState) (i : ℕ) → XidsRise ts → (w : StandsAt xid_of ts x i) → change x f ts ≡ set ts i (f w.item)
change_at x f ts i r w = subst (λ y. change y f ts ≡ set ts i (f w.item)) w.keyed (change_there f ts i w.item (rises ts r) w.there)

-- ---- a transaction goes

without_none : (x : List ℕ) (ts : List TransactionState) → Lacks xid_of x ts → without x ts ≡ ts
without_none x [] h = refl
without_none x (t ∷ ts) h = (λ i. cond (not (h.0 i)) (t ∷ without x ts) (without x ts)) ∙ ap (λ us. t ∷ us) (without_none x ts h.1)

without_there : (ts : List TransactionState) (i : ℕ) (t : TransactionState) → Rises xid_of ts → slice_get ts i ≡ Some t → without t.xid ts ≡ remove ts i
without_there [] i t r e = absurd (cc)
without_there (u ∷ ts) zero t r e =
    let is : u ≡ t = some_is e in
    let first : same u.xid t.xid ≡ true = first_is u t is in
    (λ i. cond (not (first i)) (u ∷ without t.xid ts) (without t.xid ts)) ∙ without_none t.xid ts (rest_lacks u t ts r.0 is)
without_there (u ∷ ts) (suc i) t r e =
    let other : same u.xid t.xid ≡ false = others u ts i t r.0 e in
    (λ j. cond (not (other j)) (u ∷ without t.xid ts) (without t.xid ts)) ∙ ap (λ us. u ∷ us) (without_there ts i t r.1 e)

pub without_at : (x : List ℕ) (ts : List TransactionState) (i : ℕ) → XidsRise ts → (w : StandsAt xid_of ts x i) → without x ts ≡ remove ts i
without_at x ts i r w = subst (λ y. without y ts ≡ remove ts i) w.keyed (without_there ts i w.item (rises ts r) w.there)

pub without_lacks : (x : List ℕ) (ts : List TransactionState) (i : ℕ) → WouldStandAt xid_of ts x i → without x ts ≡ ts
without_lacks x ts i w = without_none x ts (lacks_between xid_of x ts i w.before w.behind)

pub change_lacks : (x : List ℕ) (f : TransactionState → TransactionState) (ts : List TransactionState) (i : ℕ) → WouldStandAt xid_of ts x i → change x f ts ≡ ts
change_lacks x f ts i w = change_none x f ts (lacks_between xid_of x ts i w.before w.behind)

-- ---- a transaction comes

placed_there : (t : TransactionState) (ts : List TransactionState) (i : ℕ) → AllBefore xid_of t.xid (take i ts) → AllBehind xid_of t.xid (drop i ts) → placed t ts ≡ insert ts i t
placed_there t [] zero b a = refl
placed_there t [] (suc i) b a = refl
placed_there t (u ∷ ts) zero b a = λ j. cond (a.0 j) (t ∷ u ∷ ts) (u ∷ placed t ts)
placed_there t (u ∷ ts) (suc i) b a = (λ j. cond (not_before t.xid u.xid b.0 j) (t ∷ u ∷ ts) (u ∷ placed t ts)) ∙ ap (λ us. u ∷ us) (placed_there t ts i b.1 a)

pub placed_at : (t : TransactionState) (ts : List TransactionState) (i : ℕ) → WouldStandAt xid_of ts t.xid i → placed t ts ≡ insert ts i t
placed_at t ts i w = placed_there t ts i w.before w.behind

-- ---- names

named_there : (ns : List (List ℕ)) (i : ℕ) (n : List ℕ) → Rises name_of ns → slice_get ns i ≡ Some n → with_name n ns ≡ ns
named_there [] i n r e = absurd (cc)
named_there (m ∷ ns) zero n r e =
    let first : same m n ≡ true = ap (same m) (sym (some_is e)) ∙ same_self m in
    λ j. cond (first j) (m ∷ ns) (cond (comes_before n m) (n ∷ m ∷ ns) (m ∷ with_name n ns))
named_there (m ∷ ns) (suc i) n r e =
    let b : Before m n = all_at (λ k. comes_before m k ≡ true) ns i n r.0 e in
    (λ j. cond (before_differs m n b j) (m ∷ ns) (cond (not_before n m b j) (n ∷ m ∷ ns) (m ∷ with_name n ns))) ∙ ap (λ ms. m ∷ ms) (named_there ns i n r.1 e)

pub with_name_there : (n : List ℕ) (ns : List (List ℕ)) (i : ℕ) → Rises name_of ns → StandsAt name_of ns n i → with_name n ns ≡ ns
with_name_there n ns i r w = subst (λ m. with_name m ns ≡ ns) w.keyed (named_there ns i w.item r w.there)

name_inserted : (n : List ℕ) (ns : List (List ℕ)) (i : ℕ) → AllBefore name_of n (take i ns) → AllBehind name_of n (drop i ns) → with_name n ns ≡ insert ns i n
name_inserted n [] zero b a = refl
name_inserted n [] (suc i) b a = refl
name_inserted n (m ∷ ns) zero b a = λ j. cond (behind_differs m n a.0 j) (m ∷ ns) (cond (a.0 j) (n ∷ m ∷ ns) (m ∷ with_name n ns))
name_inserted n (m ∷ ns) (suc i) b a =
    (λ j. cond (before_differs m n b.0 j) (m ∷ ns) (cond (not_before n m b.0 j) (n ∷ m ∷ ns) (m ∷ with_name n ns))) ∙ ap (λ ms. m ∷ ms) (name_inserted n ns i b.1 a)

pub with_name_at : (n : List ℕ) (ns : List (List ℕ)) (i : ℕ) → WouldStandAt name_of ns n i → with_name n ns ≡ insert ns i n
with_name_at n ns i w = name_inserted n ns i w.before w.behind

-- ---- those that are prepared, one more at a time

pub prepared_more : (ts us : List TransactionState) (t : TransactionState) → prepared_xids (ts ++ t ∷ us) ≡ prepared_xids ts ++ prepared_xids (t ∷ us)
prepared_more [] us t = refl
prepared_more (u ∷ ts) us t =
    elim (is_prepared u.phase) as (λ b. map xid_of (cond b (u ∷ filter (λ v. is_prepared v.phase) (ts ++ t ∷ us)) (filter (λ v. is_prepared v.phase) (ts ++ t ∷ us))) ≡ map xid_of (cond b (u ∷ filter (λ v. is_prepared v.phase) ts) (filter (λ v. is_prepared v.phase) ts)) ++ prepared_xids (t ∷ us)) [
      | true ↦ ap (λ xs. u.xid ∷ xs) (prepared_more ts us t)
      | false ↦ prepared_more ts us t
    ]

-- ---- what is read of a vector that holds the table

module _ (x : List ℕ) (ds ts : List TransactionState) (e : ds ≡ ts) (i : ℕ) where
  stands : StandsAt xid_of ds x i → StandsAt xid_of ts x i
  stands w = subst (λ us. StandsAt xid_of us x i) e w

  wanting : WouldStandAt xid_of ds x i → WouldStandAt xid_of ts x i
  wanting w = subst (λ us. WouldStandAt xid_of us x i) e w

  pub named_in : XidsRise ts → StandsAt xid_of ds x i → (t : TransactionState) → t ≡ get_or ts i t → named x ts ≡ Some t
  named_in r w t is = found_at xid_of x ts i (rises ts r) (stands w) ∙ ap (λ (u : TransactionState). Some u) (sym (at_is xid_of x ts i t (stands w) is))

  pub none_in : WouldStandAt xid_of ds x i → named x ts ≡ None
  none_in w = none_at xid_of x ts i (wanting w)

  pub within_in : StandsAt xid_of ds x i → i < length ts
  within_in w = at_within xid_of x ts i (stands w)

  pub changed_in : (f : TransactionState → TransactionState) → XidsRise ts → StandsAt xid_of ds x i → (t : TransactionState) → t ≡ get_or ts i t → set ts i (f t) ≡ change x f ts
  changed_in f r w t is = ap (λ u. set ts i (f u)) (at_is xid_of x ts i t (stands w) is) ∙ sym (change_at x f ts i r (stands w))

  pub unchanged_in : (f : TransactionState → TransactionState) → WouldStandAt xid_of ds x i → ts ≡ change x f ts
  unchanged_in f w = sym (change_lacks x f ts i (wanting w))

  pub removed_in : XidsRise ts → StandsAt xid_of ds x i → remove ts i ≡ without x ts
  removed_in r w = sym (without_at x ts i r (stands w))

  pub kept_in : WouldStandAt xid_of ds x i → ts ≡ without x ts
  kept_in w = sym (without_lacks x ts i (wanting w))

pub placed_in : (t : TransactionState) (ds ts : List TransactionState) → ds ≡ ts → (i : ℕ) → WouldStandAt xid_of ds t.xid i → insert ts i t ≡ placed t ts
placed_in t ds ts e i w = sym (placed_at t ts i (subst (λ us. WouldStandAt xid_of us t.xid i) e w))

pub names_at : (ts : List TransactionState) (i : ℕ) (t : TransactionState) → i < length ts → t ≡ get_or ts i t → AllByRecursion (λ t. Rises name_of t.queues) ts → Rises name_of t.queues
names_at ts i t h is names = all_at (λ t. Rises name_of t.queues) ts i t names (slice_get_read ts (length ts) i t refl h is)

-- where an xid has no phase it doesn't stand in the table
pub isnt_there : (x : List ℕ) (ds ts : List TransactionState) → ds ≡ ts → (i : ℕ) → XidsRise ts → phase_in x ts ≡ None → StandsAt xid_of ds x i → ⊥
isnt_there x ds ts e i r none w =
    let v : StandsAt xid_of ts x i = subst (λ us. StandsAt xid_of us x i) e w in
    differ v.item (sym none ∙ ap (option_map (λ (t : TransactionState). t.phase)) (found_at xid_of x ts i (rises ts r) v))
  where
    differ : (t : TransactionState) → None ≡ Some t.phase → ⊥
    differ t e = cc
