-- A table of entries: what an insert, a removal and a look-up are for the entries in byte order, and that a sort gives these.
use Rattle.std.proofs.Common.{◌≡◌, ℕ, suc, Bool, true, false, cond, List, [], ◌∷◌, map, Option, Some, None, is_some, refl, ap, sym, subst, ◌∙◌, arith, add-one, IsPermutation}
use Rattle.std.specs.List.{AllByRecursion, IsDistinct}
use Rattle.std.specs.List.Sorted.{IsSortedBy}
use Rattle.std.specs.Map.{lookup, keys_of}
use Rattle.std.specs.Option.{option_map}
use Rattle.std.specs.Ordering.{nat_cmp}
use Rattle.std.specs.Cmp.Lexicographic.{slice_cmp}
use Rattle.std.proofs.lemmas.List.Elements.{recursion_from_All, All-from_recursion}
use Rattle.std.proofs.lemmas.List.Sorted.{All-permutation, IsPermutation-sym, IsPermutation-map}
use Rattle.std.proofs.lemmas.Map.Keys.{IsDistinct-IsPermutation}
use Rattle.qls_model.specs.Bytes.{same, comes_before}
use Rattle.qls_model.proofs.XidKeys.{same_true, xid_eq, xid_eq_is}
use Rattle.qls_decide.specs.declared.ListState.{ListState}
use Rattle.qls_decide.specs.declared.ListEntry.{ListEntry}
use Rattle.qls_decide.specs.Entries.{entry_of, without_entry, with_entry}
use Rattle.qls_replay.specs.Entries.{Pair, entry_for, entries_of}
use Rattle.qls_replay.proofs.Agreeing.{same_turned}
use Rattle.qls_replay.proofs.Ordered.{InOrder, behind, later, found_with, found_without, ordered_with, ordered_without, same_entries}

pub in_order : (ps : List Pair) → InOrder (entries_of ps)
in_order [] = tt
in_order (p ∷ ps) = ordered_with (entry_for p) (entries_of ps) (in_order ps)

-- ---- a look-up

abbrev at_xid : List ℕ → Option (ℕ × ListState) → Option ListEntry
at_xid x o = option_map (λ v. entry_for (x, v)) o

looked_by : (b c : Bool) (x : List ℕ) (p : Pair) (ps : List Pair) → b ≡ same p.0 x → c ≡ b → cond b (Some (entry_for p)) (at_xid x (lookup (same x) ps)) ≡ at_xid x (cond c (Some p.1) (lookup (same x) ps))
looked_by true true x p ps h e = ap (λ z. Some (entry_for (z, p.1))) (same_true p.0 x (sym h))
looked_by true false x p ps h e = absurd (cc)
looked_by false true x p ps h e = absurd (cc)
looked_by false false x p ps h e = refl

looked_at : (x : List ℕ) (p : Pair) (ps : List Pair) → cond (same p.0 x) (Some (entry_for p)) (at_xid x (lookup (same x) ps)) ≡ at_xid x (lookup (same x) (p ∷ ps))
looked_at x p ps = looked_by (same p.0 x) (same x p.0) x p ps refl (same_turned x p.0)

pub looked_up : (x : List ℕ) (ps : List Pair) → entry_of x (entries_of ps) ≡ at_xid x (lookup (same x) ps)
looked_up x [] = refl
looked_up x (p ∷ ps) = found_with x (entry_for p) (entries_of ps) ∙ ap (cond (same p.0 x) (Some (entry_for p))) (looked_up x ps) ∙ looked_at x p ps

-- ---- an insert and a removal

-- the table is as before, but for what k has
abbrev pub Changes : List ℕ → Option (ℕ × ListState) → List Pair → List Pair → Type 0
Changes k w ps qs = (x : List ℕ) → lookup (same x) qs ≡ cond (same k x) w (lookup (same x) ps)

-- keys that compare as derived
pub as_bytes : (k : List ℕ) (w : Option (ℕ × ListState)) (ps qs : List Pair) → ((q : List ℕ) → lookup (xid_eq q) qs ≡ cond (xid_eq k q) w (lookup (xid_eq q) ps)) → Changes k w ps qs
as_bytes k w ps qs h = subst (λ f. (q : List ℕ) → lookup (f q) qs ≡ cond (f k q) w (lookup (f q) ps)) xid_eq_is h

set_by : (b : Bool) (k x : List ℕ) (v : ℕ × ListState) (o : Option (ℕ × ListState)) → b ≡ same k x → at_xid x (cond b (Some v) o) ≡ cond b (Some (entry_for (k, v))) (at_xid x o)
set_by true k x v o h = ap (λ z. Some (entry_for (z, v))) (sym (same_true k x (sym h)))
set_by false k x v o h = refl

pub inserted : (k : List ℕ) (v : ℕ × ListState) (ps qs : List Pair) → Changes k (Some v) ps qs → entries_of qs ≡ with_entry (entry_for (k, v)) (entries_of ps)
inserted k v ps qs c =
    let e = entry_for (k, v) in
    same_entries (entries_of qs) (with_entry e (entries_of ps)) (in_order qs) (ordered_with e (entries_of ps) (in_order ps))
    (λ x. looked_up x qs ∙ ap (at_xid x) (c x) ∙ set_by (same k x) k x v (lookup (same x) ps) refl ∙ ap (cond (same k x) (Some e)) (sym (looked_up x ps)) ∙ sym (found_with x e (entries_of ps)))

gone_by : (b : Bool) (x : List ℕ) (o : Option (ℕ × ListState)) → at_xid x (cond b None o) ≡ cond b None (at_xid x o)
gone_by true x o = refl
gone_by false x o = refl

pub taken_out : (k : List ℕ) (ps qs : List Pair) → Changes k None ps qs → entries_of qs ≡ without_entry k (entries_of ps)
taken_out k ps qs c =
    same_entries (entries_of qs) (without_entry k (entries_of ps)) (in_order qs) (ordered_without k (entries_of ps) (in_order ps))
    (λ x. looked_up x qs ∙ ap (at_xid x) (c x) ∙ gone_by (same k x) x (lookup (same x) ps) ∙ ap (cond (same k x) None) (sym (looked_up x ps)) ∙ sym (found_without k x (entries_of ps)))

some_mapped : {A B : Type 0} (f : A → B) (o : Option A) → is_some (option_map f o) ≡ is_some o
some_mapped f None = refl
some_mapped f (Some a) = refl

pub found_same : (x : List ℕ) (ps : List Pair) → is_some (entry_of x (entries_of ps)) ≡ is_some (lookup (same x) ps)
found_same x ps = ap is_some (looked_up x ps) ∙ some_mapped (λ v. entry_for (x, v)) (lookup (same x) ps)

-- ---- a sort

abbrev pub xids_of : List ListEntry → List (List ℕ)
xids_of es = map (λ e. e.xid) es

abbrev pub earlier : ListEntry → ListEntry → Bool
earlier e f = comes_before e.xid f.xid

listed_xids : (ps : List Pair) → xids_of (map entry_for ps) ≡ keys_of ps
listed_xids [] = refl
listed_xids (p ∷ ps) = ap (λ l. p.0 ∷ l) (listed_xids ps)

listed : (x : List ℕ) (ps : List Pair) → entry_of x (map entry_for ps) ≡ at_xid x (lookup (same x) ps)
listed x [] = refl
listed x (p ∷ ps) = ap (cond (same p.0 x) (Some (entry_for p))) (listed x ps) ∙ looked_at x p ps

-- in order and none twice
strict : (es : List ListEntry) → IsSortedBy earlier es → IsDistinct same (xids_of es) → InOrder es
unfolding IsDistinct
strict [] s d = tt
strict (e ∷ []) s d = (tt, tt)
strict (e ∷ f ∷ es) s d =
    let tail : IsSortedBy earlier (f ∷ es) = λ k z p q. rw add-one (rw add-one at (s (suc k) z (omega arith) (omega arith))) in
    let up = strict (f ∷ es) tail d.1 in
    let l = behind f.xid e.xid (slice_cmp nat_cmp f.xid e.xid) refl (s 0 e (omega arith) (omega arith)) (same_turned f.xid e.xid ∙ d.0.0) in
    ((l, later e.xid f.xid es l up.0), up)

-- whatever is of this xid is the answer
abbrev Answers : List ℕ → Option ListEntry → ListEntry → Type 0
Answers x o e = same e.xid x ≡ true → o ≡ Some e

answers_on : (x : List ℕ) (e : ListEntry) (o : Option ListEntry) (fs : List ListEntry) → AllByRecursion (λ y. same e.xid y ≡ false) (xids_of fs) → AllByRecursion (Answers x o) fs
    → AllByRecursion (Answers x (cond (same e.xid x) (Some e) o)) fs
answers_on x e o [] d a = tt
answers_on x e o (f ∷ fs) d a =
    (λ h. ap (λ b. cond b (Some e) o) (ap (same e.xid) (sym (same_true f.xid x h)) ∙ d.0) ∙ a.0 h, answers_on x e o fs d.1 a.1)

answers : (x : List ℕ) (es : List ListEntry) → IsDistinct same (xids_of es) → AllByRecursion (Answers x (entry_of x es)) es
unfolding IsDistinct
answers x [] d = tt
answers x (e ∷ es) d = (λ h. ap (λ b. cond b (Some e) (entry_of x es)) h, answers_on x e (entry_of x es) es d.0 (answers x es d.1))

answered_by : (b : Bool) (x : List ℕ) (o : Option ListEntry) (e f : ListEntry) (q : Option ListEntry) → b ≡ same e.xid x → Answers x o e → (q ≡ Some f → o ≡ Some f) → cond b (Some e) q ≡ Some f → o ≡ Some f
answered_by true x o e f q h a r s = a (sym h) ∙ s
answered_by false x o e f q h a r s = r s

-- what is found is the answer
answered : (x : List ℕ) (o : Option ListEntry) (es : List ListEntry) (f : ListEntry) → AllByRecursion (Answers x o) es → entry_of x es ≡ Some f → o ≡ Some f
answered x o [] f a s = absurd (cc)
answered x o (e ∷ es) f a s = answered_by (same e.xid x) x o e f (entry_of x es) refl a.0 (answered x o es f a.1) s

alike : (o q : Option ListEntry) → ((f : ListEntry) → o ≡ Some f → q ≡ Some f) → ((f : ListEntry) → q ≡ Some f → o ≡ Some f) → o ≡ q
alike None None h g = refl
alike None (Some f) h g = g f refl
alike (Some f) q h g = sym (h f refl)

found_permuted : (x : List ℕ) (es fs : List ListEntry) → IsPermutation es fs → IsDistinct same (xids_of es) → IsDistinct same (xids_of fs) → entry_of x es ≡ entry_of x fs
found_permuted x es fs p d g =
    let there = recursion_from_All (Answers x (entry_of x es)) fs (All-permutation (Answers x (entry_of x es)) es fs p (All-from_recursion (Answers x (entry_of x es)) es (answers x es d))) in
    let back = recursion_from_All (Answers x (entry_of x fs)) es (All-permutation (Answers x (entry_of x fs)) fs es (IsPermutation-sym es fs p) (All-from_recursion (Answers x (entry_of x fs)) fs (answers x fs g))) in
    alike (entry_of x es) (entry_of x fs) (λ f s. answered x (entry_of x fs) es f back s) (λ f s. answered x (entry_of x es) fs f there s)

-- the table's entries in any order, once sorted
pub sorted : (ps : List Pair) (es : List ListEntry) → IsDistinct same (keys_of ps) → IsPermutation (map entry_for ps) es → IsSortedBy earlier es → es ≡ entries_of ps
sorted ps es d p s =
    let e = subst (IsDistinct same) (sym (listed_xids ps)) d in
    let f = IsDistinct-IsPermutation same same_turned (xids_of (map entry_for ps)) (xids_of es) (IsPermutation-map (λ z. z.xid) (map entry_for ps) es p) e in
    same_entries es (entries_of ps) (strict es s f) (in_order ps) (λ x. sym (found_permuted x (map entry_for ps) es p e f) ∙ listed x ps ∙ sym (looked_up x ps))
