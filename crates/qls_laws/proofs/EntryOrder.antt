-- Entries of the prepared list in byte order of xid, none twice, and those of them that pass a test.
use Rattle.std.proofs.Common.{◌≡◌, ℕ, Bool, true, false, not, cond, List, [], ◌∷◌, Option, Some, None, refl, ap, sym, subst, ◌∙◌}
use Rattle.std.specs.List.{AllByRecursion, filter}
use Rattle.std.specs.declared.cmp.Ordering.{Ordering}
use Rattle.std.specs.declared.cmp.Ordering.TheVariants.{Less, Equal, Greater}
use Rattle.std.specs.Ordering.{nat_cmp, is_eq, is_lt, ordering_reverse}
use Rattle.std.specs.Cmp.Lexicographic.{slice_cmp}
use Rattle.std.proofs.lemmas.Cmp.{nat_list_cmp_total}
use Rattle.std.proofs.lemmas.Map.Text.{is_eq-slice_cmp}
use Rattle.qls_model.specs.Bytes.{same}
use Rattle.qls_model.proofs.XidKeys.{same_true, same_self}
use Rattle.qls_decide.specs.declared.ListEntry.{ListEntry}
use Rattle.qls_decide.specs.Entries.{entry_of, without_entry, placed_entry, with_entry}

-- each entry is behind this xid
abbrev pub AllAfter : List ℕ → List ListEntry → Type 0
AllAfter x es = AllByRecursion (λ e. slice_cmp nat_cmp x e.xid ≡ Less) es

abbrev pub Sorted : List ListEntry → Type 0
Sorted [] = Unit {0}
Sorted (e ∷ es) = AllAfter e.xid es × Sorted es

-- no entry has this xid
abbrev pub Lacks : List ℕ → List ListEntry → Type 0
Lacks x es = AllByRecursion (λ e. same e.xid x ≡ false) es

-- ---- xids

same_by : (b c : Bool) (x y : List ℕ) → same x y ≡ b → same y x ≡ c → b ≡ c
same_by true true x y e f = refl
same_by true false x y e f = let t : same y x ≡ true = ap (λ z. same z x) (sym (same_true x y e)) ∙ same_self x in absurd (cc)
same_by false true x y e f = let t : same x y ≡ true = ap (λ z. same z y) (sym (same_true y x f)) ∙ same_self y in absurd (cc)
same_by false false x y e f = refl

same_turned : (x y : List ℕ) → same x y ≡ same y x
same_turned x y = same_by (same x y) (same y x) x y refl refl

pub less_differs : (x y : List ℕ) → slice_cmp nat_cmp x y ≡ Less → same y x ≡ false
less_differs x y e = same_turned y x ∙ sym (is_eq-slice_cmp x y) ∙ ap is_eq e

-- of two xids that differ, the one that isn't less is behind
pub behind : (x y : List ℕ) (c : Ordering) → c ≡ slice_cmp nat_cmp x y → is_lt c ≡ false → same x y ≡ false → slice_cmp nat_cmp y x ≡ Less
behind x y Less e l n = absurd (cc)
behind x y Equal e l n = let t : same x y ≡ true = sym (is_eq-slice_cmp x y) ∙ ap is_eq (sym e) in absurd (cc)
behind x y Greater e l n = nat_list_cmp_total.antisymm y x ∙ ap ordering_reverse (sym e)

pub is_less : (c : Ordering) → is_lt c ≡ true → c ≡ Less
is_less Less h = refl
is_less Equal h = absurd (cc)
is_less Greater h = absurd (cc)

later : (x y : List ℕ) (es : List ListEntry) → slice_cmp nat_cmp x y ≡ Less → AllAfter y es → AllAfter x es
later x y [] l a = tt
later x y (e ∷ es) l a = (nat_list_cmp_total.trans x y e.xid l a.0, later x y es l a.1)

-- ---- filters

all_filtered : (P : ListEntry → Type 0) (t : ListEntry → Bool) (es : List ListEntry) → AllByRecursion P es → AllByRecursion P (filter t es)
all_filtered P t [] h = tt
all_filtered P t (e ∷ es) h = elim (t e) as (λ b. AllByRecursion P (cond b (e ∷ filter t es) (filter t es))) [ true ↦ (h.0, all_filtered P t es h.1) | false ↦ all_filtered P t es h.1 ]

pub sorted_filtered : (t : ListEntry → Bool) (es : List ListEntry) → Sorted es → Sorted (filter t es)
sorted_filtered t [] h = tt
sorted_filtered t (e ∷ es) h =
    elim (t e) as (λ b. Sorted (cond b (e ∷ filter t es) (filter t es))) [ true ↦ (all_filtered (λ f. slice_cmp nat_cmp e.xid f.xid ≡ Less) t es h.0, sorted_filtered t es h.1) | false ↦ sorted_filtered t es h.1 ]

swap_step : (e : ListEntry) (b c : Bool) (t u : ListEntry → Bool) (es : List ListEntry) → t e ≡ b → u e ≡ c → filter t (filter u es) ≡ filter u (filter t es)
    → filter t (cond c (e ∷ filter u es) (filter u es)) ≡ filter u (cond b (e ∷ filter t es) (filter t es))
swap_step e true true t u es h k r =
    ap (λ x. cond x (e ∷ filter t (filter u es)) (filter t (filter u es))) h ∙ ap (λ (xs : List ListEntry). e ∷ xs) r ∙ sym (ap (λ x. cond x (e ∷ filter u (filter t es)) (filter u (filter t es))) k)
swap_step e true false t u es h k r = r ∙ sym (ap (λ x. cond x (e ∷ filter u (filter t es)) (filter u (filter t es))) k)
swap_step e false true t u es h k r = ap (λ x. cond x (e ∷ filter t (filter u es)) (filter t (filter u es))) h ∙ r
swap_step e false false t u es h k r = r

pub filters_swap : (t u : ListEntry → Bool) (es : List ListEntry) → filter t (filter u es) ≡ filter u (filter t es)
filters_swap t u [] = refl
filters_swap t u (e ∷ es) = swap_step e (t e) (u e) t u es refl refl (filters_swap t u es)

lacks_step : (x : List ℕ) (e : ListEntry) (b : Bool) (es : List ListEntry) → same e.xid x ≡ b → Lacks x es → Lacks x (cond (not b) (e ∷ es) es)
lacks_step x e true es h l = l
lacks_step x e false es h l = (h, l)

lacks_without : (x : List ℕ) (es : List ListEntry) → Lacks x (without_entry x es)
lacks_without x [] = tt
lacks_without x (e ∷ es) = lacks_step x e (same e.xid x) (without_entry x es) refl (lacks_without x es)

pub without_lacking : (x : List ℕ) (es : List ListEntry) → Lacks x es → without_entry x es ≡ es
without_lacking x [] h = refl
without_lacking x (e ∷ es) h = ap (λ b. cond (not b) (e ∷ without_entry x es) (without_entry x es)) h.0 ∙ ap (λ (xs : List ListEntry). e ∷ xs) (without_lacking x es h.1)

pub none_lacking : (x : List ℕ) (es : List ListEntry) → Lacks x es → entry_of x es ≡ None
none_lacking x [] h = refl
none_lacking x (e ∷ es) h = ap (λ b. cond b (Some e) (entry_of x es)) h.0 ∙ none_lacking x es h.1

-- ---- an entry put in its place

after_placed : (x : List ℕ) (e : ListEntry) (es : List ListEntry) → slice_cmp nat_cmp x e.xid ≡ Less → AllAfter x es → AllAfter x (placed_entry e es)
after_placed x e [] l a = (l, tt)
after_placed x e (f ∷ es) l a =
    elim (is_lt (slice_cmp nat_cmp e.xid f.xid)) as (λ b. AllAfter x (cond b (e ∷ f ∷ es) (f ∷ placed_entry e es))) [ true ↦ (l, a) | false ↦ (a.0, after_placed x e es l a.1) ]

placed_step : (e f : ListEntry) (es : List ListEntry) (b : Bool) → is_lt (slice_cmp nat_cmp e.xid f.xid) ≡ b → same f.xid e.xid ≡ false → Sorted (f ∷ es) → Sorted (placed_entry e es) → Sorted (cond b (e ∷ f ∷ es) (f ∷ placed_entry e es))
placed_step e f es true h n o p = let l = is_less (slice_cmp nat_cmp e.xid f.xid) h in ((l, later e.xid f.xid es l o.0), o)
placed_step e f es false h n o p = (after_placed f.xid e es (behind e.xid f.xid (slice_cmp nat_cmp e.xid f.xid) refl h (same_turned e.xid f.xid ∙ n)) o.0, p)

sorted_placed : (e : ListEntry) (es : List ListEntry) → Lacks e.xid es → Sorted es → Sorted (placed_entry e es)
sorted_placed e [] n o = (tt, tt)
sorted_placed e (f ∷ es) n o = placed_step e f es (is_lt (slice_cmp nat_cmp e.xid f.xid)) refl n.0 o (sorted_placed e es n.1 o.1)

pub sorted_with : (e : ListEntry) (es : List ListEntry) → Sorted es → Sorted (with_entry e es)
sorted_with e es o = sorted_placed e (without_entry e.xid es) (lacks_without e.xid es) (sorted_filtered (λ f. not (same f.xid e.xid)) es o)

-- before all that are behind it
placed_first : (e : ListEntry) (es : List ListEntry) → AllAfter e.xid es → placed_entry e es ≡ e ∷ es
placed_first e [] a = refl
placed_first e (f ∷ es) a = ap (λ c. cond (is_lt c) (e ∷ f ∷ es) (f ∷ placed_entry e es)) a.0

in_step : (t : ListEntry → Bool) (e f : ListEntry) (es : List ListEntry) (b c : Bool) → t e ≡ true → is_lt (slice_cmp nat_cmp e.xid f.xid) ≡ b → t f ≡ c → AllAfter f.xid es → filter t (placed_entry e es) ≡ placed_entry e (filter t es)
    → filter t (cond b (e ∷ f ∷ es) (f ∷ placed_entry e es)) ≡ placed_entry e (cond c (f ∷ filter t es) (filter t es))
in_step t e f es true true h k j a r =
    ap (λ x. cond x (e ∷ filter t (f ∷ es)) (filter t (f ∷ es))) h ∙ ap (λ x. e ∷ cond x (f ∷ filter t es) (filter t es)) j ∙ sym (ap (λ x. cond x (e ∷ f ∷ filter t es) (f ∷ placed_entry e (filter t es))) k)
in_step t e f es true false h k j a r =
    ap (λ x. cond x (e ∷ filter t (f ∷ es)) (filter t (f ∷ es))) h ∙ ap (λ x. e ∷ cond x (f ∷ filter t es) (filter t es)) j
    ∙ sym (placed_first e (filter t es) (all_filtered (λ g. slice_cmp nat_cmp e.xid g.xid ≡ Less) t es (later e.xid f.xid es (is_less (slice_cmp nat_cmp e.xid f.xid) k) a)))
in_step t e f es false true h k j a r =
    ap (λ x. cond x (f ∷ filter t (placed_entry e es)) (filter t (placed_entry e es))) j ∙ ap (λ (xs : List ListEntry). f ∷ xs) r
    ∙ sym (ap (λ x. cond x (e ∷ f ∷ filter t es) (f ∷ placed_entry e (filter t es))) k)
in_step t e f es false false h k j a r = ap (λ x. cond x (f ∷ filter t (placed_entry e es)) (filter t (placed_entry e es))) j ∙ r

placed_in : (t : ListEntry → Bool) (e : ListEntry) (es : List ListEntry) → t e ≡ true → Sorted es → filter t (placed_entry e es) ≡ placed_entry e (filter t es)
placed_in t e [] h o = ap (λ x. cond x (e ∷ []) []) h
placed_in t e (f ∷ es) h o = in_step t e f es (is_lt (slice_cmp nat_cmp e.xid f.xid)) (t f) h refl refl o.0 (placed_in t e es h o.1)

placed_out : (t : ListEntry → Bool) (e : ListEntry) (es : List ListEntry) → t e ≡ false → filter t (placed_entry e es) ≡ filter t es
placed_out t e [] h = ap (λ x. cond x (e ∷ []) []) h
placed_out t e (f ∷ es) h =
    elim (is_lt (slice_cmp nat_cmp e.xid f.xid)) as (λ b. filter t (cond b (e ∷ f ∷ es) (f ∷ placed_entry e es)) ≡ filter t (f ∷ es)) [
      | true ↦ ap (λ x. cond x (e ∷ filter t (f ∷ es)) (filter t (f ∷ es))) h
      | false ↦ ap (λ (xs : List ListEntry). cond (t f) (f ∷ xs) xs) (placed_out t e es h)
    ]

-- an entry that passes the test is put in its place among those that do
pub with_in : (t : ListEntry → Bool) (e : ListEntry) (es : List ListEntry) → t e ≡ true → Sorted es → filter t (with_entry e es) ≡ with_entry e (filter t es)
with_in t e es h o =
    placed_in t e (without_entry e.xid es) h (sorted_filtered (λ f. not (same f.xid e.xid)) es o) ∙ ap (placed_entry e) (filters_swap t (λ f. not (same f.xid e.xid)) es)

-- and another one only takes away those of its xid
pub with_out : (t : ListEntry → Bool) (e : ListEntry) (es : List ListEntry) → t e ≡ false → filter t (with_entry e es) ≡ without_entry e.xid (filter t es)
with_out t e es h = placed_out t e (without_entry e.xid es) h ∙ filters_swap t (λ f. not (same f.xid e.xid)) es

-- ---- look-ups

all_later : (x : List ℕ) (es : List ListEntry) → AllAfter x es → Lacks x es
all_later x [] a = tt
all_later x (e ∷ es) a = (less_differs x e.xid a.0, all_later x es a.1)

none_by : (x : List ℕ) (e : ListEntry) (es : List ListEntry) (b : Bool) → same e.xid x ≡ b → cond b (Some e) (entry_of x es) ≡ None → (entry_of x es ≡ None → Lacks x es) → Lacks x (e ∷ es)
none_by x e es true k h rest = absurd (cc)
none_by x e es false k h rest = (k, rest h)

pub lacks_if_none : (x : List ℕ) (es : List ListEntry) → entry_of x es ≡ None → Lacks x es
lacks_if_none x [] h = tt
lacks_if_none x (e ∷ es) h = none_by x e es (same e.xid x) refl h (lacks_if_none x es)

pub lacks_filtered : (x : List ℕ) (t : ListEntry → Bool) (es : List ListEntry) → Lacks x es → Lacks x (filter t es)
lacks_filtered x t es h = all_filtered (λ e. same e.xid x ≡ false) t es h

some_is : (e f : ListEntry) → Some e ≡ Some f → e ≡ f
some_is e f h = cc

-- what is found is of the xid
found_by : (x : List ℕ) (f e : ListEntry) (o : Option ListEntry) (b : Bool) → same f.xid x ≡ b → cond b (Some f) o ≡ Some e → (o ≡ Some e → e.xid ≡ x) → e.xid ≡ x
found_by x f e o true k h rest = ap (λ (g : ListEntry). g.xid) (sym (some_is f e h)) ∙ same_true f.xid x k
found_by x f e o false k h rest = rest h

pub found_xid : (x : List ℕ) (e : ListEntry) (es : List ListEntry) → entry_of x es ≡ Some e → e.xid ≡ x
found_xid x e [] h = absurd (cc)
found_xid x e (f ∷ es) h = found_by x f e (entry_of x es) (same f.xid x) refl h (found_xid x e es)

-- and is found among those that pass the test, if it does
in_by : (x : List ℕ) (t : ListEntry → Bool) (f e : ListEntry) (es : List ListEntry) (b c : Bool) → same f.xid x ≡ b → t f ≡ c → t e ≡ true → cond b (Some f) (entry_of x es) ≡ Some e → (entry_of x es ≡ Some e → entry_of x (filter t es) ≡ Some e)
    → entry_of x (cond c (f ∷ filter t es) (filter t es)) ≡ Some e
in_by x t f e es true true k j i h rest = ap (λ b. cond b (Some f) (entry_of x (filter t es))) k ∙ h
in_by x t f e es true false k j i h rest = let one : t f ≡ t e = ap t (some_is f e h) in absurd (cc)
in_by x t f e es false true k j i h rest = ap (λ b. cond b (Some f) (entry_of x (filter t es))) k ∙ rest h
in_by x t f e es false false k j i h rest = rest h

pub found_in : (x : List ℕ) (t : ListEntry → Bool) (e : ListEntry) (es : List ListEntry) → t e ≡ true → entry_of x es ≡ Some e → entry_of x (filter t es) ≡ Some e
found_in x t e [] i h = absurd (cc)
found_in x t e (f ∷ es) i h = in_by x t f e es (same f.xid x) (t f) refl refl i h (found_in x t e es i)

-- and if it doesn't, none of its xid does
out_by : (x : List ℕ) (t : ListEntry → Bool) (f e : ListEntry) (es : List ListEntry) (b c : Bool) → same f.xid x ≡ b → t f ≡ c → t e ≡ false → AllAfter f.xid es → cond b (Some f) (entry_of x es) ≡ Some e → (entry_of x es ≡ Some e → Lacks x (filter t es))
    → Lacks x (cond c (f ∷ filter t es) (filter t es))
out_by x t f e es true true k j i a h rest = let one : t f ≡ t e = ap t (some_is f e h) in absurd (cc)
out_by x t f e es true false k j i a h rest = lacks_filtered x t es (all_later x es (subst (λ z. AllAfter z es) (same_true f.xid x k) a))
out_by x t f e es false true k j i a h rest = (k, rest h)
out_by x t f e es false false k j i a h rest = rest h

pub lacks_out : (x : List ℕ) (t : ListEntry → Bool) (e : ListEntry) (es : List ListEntry) → t e ≡ false → Sorted es → entry_of x es ≡ Some e → Lacks x (filter t es)
lacks_out x t e [] i o h = absurd (cc)
lacks_out x t e (f ∷ es) i o h = out_by x t f e es (same f.xid x) (t f) refl refl i o.0 h (lacks_out x t e es i o.1)
