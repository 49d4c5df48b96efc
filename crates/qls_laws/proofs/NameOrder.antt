-- The names of queues are in byte order, each once, so that their members tell which they are.
use Rattle.std.proofs.Common.{◌≡◌, ℕ, Bool, true, false, cond, ◌&&◌, ◌||◌, List, [], ◌∷◌, refl, ap, sym, subst, ◌∙◌}
use Rattle.std.specs.List.{AllByRecursion, list_any}
use Rattle.std.specs.declared.cmp.Ordering.{Ordering}
use Rattle.std.specs.declared.cmp.Ordering.TheVariants.{Less, Equal, Greater}
use Rattle.std.specs.Ordering.{nat_cmp, is_eq, is_lt, ordering_reverse}
use Rattle.std.specs.Cmp.Lexicographic.{slice_cmp}
use Rattle.std.proofs.lemmas.Cmp.{nat_list_cmp_total}
use Rattle.std.proofs.lemmas.Map.Text.{is_eq-slice_cmp}
use Rattle.qls_model.specs.Bytes.{same, comes_before, is_listed}
use Rattle.qls_model.proofs.XidKeys.{same_true, same_self}
use Rattle.qls_filehdr.specs.declared.JournalKind.TheVariants.{Queue}
use Rattle.qls_meaning.specs.Journals.{Headed, is_queue, is_of, with_name, queue_names}
use Rattle.qls_laws.proofs.EntryOrder.{behind, is_less}

abbrev AllBehind : List ℕ → List (List ℕ) → Type 0
AllBehind x ns = AllByRecursion (λ n. slice_cmp nat_cmp x n ≡ Less) ns

abbrev pub SortedNames : List (List ℕ) → Type 0
SortedNames [] = Unit {0}
SortedNames (n ∷ ns) = AllBehind n ns × SortedNames ns

later : (x y : List ℕ) (ns : List (List ℕ)) → slice_cmp nat_cmp x y ≡ Less → AllBehind y ns → AllBehind x ns
later x y [] l a = tt
later x y (n ∷ ns) l a = (nat_list_cmp_total.trans x y n l a.0, later x y ns l a.1)

behind_with : (x n : List ℕ) (ns : List (List ℕ)) → slice_cmp nat_cmp x n ≡ Less → AllBehind x ns → AllBehind x (with_name n ns)
behind_with x n [] l a = (l, tt)
behind_with x n (m ∷ ms) l a =
    elim (same n m) as (λ b. AllBehind x (cond b (m ∷ ms) (cond (comes_before n m) (n ∷ m ∷ ms) (m ∷ with_name n ms)))) [
      | true ↦ a
      | false ↦ elim (comes_before n m) as (λ b. AllBehind x (cond b (n ∷ m ∷ ms) (m ∷ with_name n ms))) [ true ↦ (l, a) | false ↦ (a.0, behind_with x n ms l a.1) ]
    ]

sorted_step : (n m : List ℕ) (ms : List (List ℕ)) (b c : Bool) → same n m ≡ b → is_lt (slice_cmp nat_cmp n m) ≡ c → SortedNames (m ∷ ms) → SortedNames (with_name n ms) → SortedNames (cond b (m ∷ ms) (cond c (n ∷ m ∷ ms) (m ∷ with_name n ms)))
sorted_step n m ms true c e l s r = s
sorted_step n m ms false true e l s r = let less = is_less (slice_cmp nat_cmp n m) l in ((less, later n m ms less s.0), s)
sorted_step n m ms false false e l s r = (behind_with m n ms (behind n m (slice_cmp nat_cmp n m) refl l e) s.0, r)

sorted_with : (n : List ℕ) (ns : List (List ℕ)) → SortedNames ns → SortedNames (with_name n ns)
sorted_with n [] s = (tt, tt)
sorted_with n (m ∷ ms) s = sorted_step n m ms (same n m) (comes_before n m) refl refl s (sorted_with n ms s.1)

pub sorted_names : (fs : List Headed) → SortedNames (queue_names fs)
sorted_names [] = tt
sorted_names (f ∷ fs) =
    elim (is_queue f.header.kind) as (λ b. SortedNames (cond b (with_name f.header.name (queue_names fs)) (queue_names fs))) [ true ↦ sorted_with f.header.name (queue_names fs) (sorted_names fs) | false ↦ sorted_names fs ]

-- ---- members

or_twice : (a b : Bool) → (a || b) ≡ (a || (a || b))
or_twice true b = refl
or_twice false b = refl

or_turn : (a b c : Bool) → (a || (b || c)) ≡ (b || (a || c))
or_turn true true c = refl
or_turn true false c = refl
or_turn false true c = refl
or_turn false false c = refl

listed_step : (x n m : List ℕ) (ms : List (List ℕ)) (b c : Bool) → same n m ≡ b → is_listed x (with_name n ms) ≡ (same x n || is_listed x ms)
    → is_listed x (cond b (m ∷ ms) (cond c (n ∷ m ∷ ms) (m ∷ with_name n ms))) ≡ (same x n || is_listed x (m ∷ ms))
listed_step x n m ms true c e h = or_twice (same x m) (is_listed x ms) ∙ ap (λ k. same x k || is_listed x (m ∷ ms)) (sym (same_true n m e))
listed_step x n m ms false true e h = refl
listed_step x n m ms false false e h = ap (λ b. same x m || b) h ∙ or_turn (same x m) (same x n) (is_listed x ms)

listed_with : (x n : List ℕ) (ns : List (List ℕ)) → is_listed x (with_name n ns) ≡ (same x n || is_listed x ns)
listed_with x n [] = refl
listed_with x n (m ∷ ms) = listed_step x n m ms (same n m) (comes_before n m) refl (listed_with x n ms)

-- a name is listed where a queue's file has it
listed_names : (x : List ℕ) (fs : List Headed) → is_listed x (queue_names fs) ≡ list_any (is_of Queue x) fs
listed_names x [] = refl
listed_names x (f ∷ fs) =
    elim (is_queue f.header.kind) as (λ b. is_listed x (cond b (with_name f.header.name (queue_names fs)) (queue_names fs)) ≡ ((b && same x f.header.name) || list_any (is_of Queue x) fs)) [
      | true ↦ listed_with x f.header.name (queue_names fs) ∙ ap (λ b. same x f.header.name || b) (listed_names x fs)
      | false ↦ listed_names x fs
    ]

-- ---- sorted names with the same members are the same

none_behind : (x : List ℕ) (ns : List (List ℕ)) → AllBehind x ns → is_listed x ns ≡ false
none_behind x [] a = refl
none_behind x (n ∷ ns) a = ap (λ b. b || is_listed x ns) (differs x n a.0) ∙ none_behind x ns a.1
  where
    differs : (x y : List ℕ) → slice_cmp nat_cmp x y ≡ Less → same x y ≡ false
    differs x y e = sym (is_eq-slice_cmp x y) ∙ ap is_eq e

first_listed : (n : List ℕ) (ns : List (List ℕ)) → is_listed n (n ∷ ns) ≡ true
first_listed n ns = ap (λ b. b || is_listed n ns) (same_self n)

not_both : (b : Bool) → b ≡ true → b ≡ false → ⊥
not_both b t f = cc

abbrev AsListed : List (List ℕ) → List (List ℕ) → Type 0
AsListed ns ms = (x : List ℕ) → is_listed x ns ≡ is_listed x ms

tails_step : (x n : List ℕ) (ns ms : List (List ℕ)) (b : Bool) → same x n ≡ b → AllBehind n ns → AllBehind n ms → (b || is_listed x ns) ≡ (b || is_listed x ms) → is_listed x ns ≡ is_listed x ms
tails_step x n ns ms true e a c h =
    let is = same_true x n e in ap (λ z. is_listed z ns) is ∙ none_behind n ns a ∙ sym (ap (λ z. is_listed z ms) is ∙ none_behind n ms c)
tails_step x n ns ms false e a c h = h

heads_same : (c : Ordering) (n m : List ℕ) (ns ms : List (List ℕ)) → c ≡ slice_cmp nat_cmp n m → AllBehind n ns → AllBehind m ms → AsListed (n ∷ ns) (m ∷ ms) → n ≡ m
heads_same Less n m ns ms e a b h =
    absurd (not_both (is_listed n (m ∷ ms)) (sym (h n) ∙ first_listed n ns) (none_behind n (m ∷ ms) (sym e, later n m ms (sym e) b)))
heads_same Equal n m ns ms e a b h = same_true n m (sym (is_eq-slice_cmp n m) ∙ ap is_eq (sym e))
heads_same Greater n m ns ms e a b h =
    let less : slice_cmp nat_cmp m n ≡ Less = nat_list_cmp_total.antisymm m n ∙ ap ordering_reverse (sym e) in
    absurd (not_both (is_listed m (n ∷ ns)) (h m ∙ first_listed m ms) (none_behind m (n ∷ ns) (less, later m n ns less a)))

pub same_names : (ns ms : List (List ℕ)) → SortedNames ns → SortedNames ms → AsListed ns ms → ns ≡ ms
same_names [] [] s t h = refl
same_names [] (m ∷ ms) s t h = absurd (not_both (is_listed m (m ∷ ms)) (first_listed m ms) (sym (h m)))
same_names (n ∷ ns) [] s t h = absurd (not_both (is_listed n (n ∷ ns)) (first_listed n ns) (h n))
same_names (n ∷ ns) (m ∷ ms) s t h =
    let head : n ≡ m = heads_same (slice_cmp nat_cmp n m) n m ns ms refl s.0 t.0 h in
    let after : AllBehind n ms = subst (λ z. AllBehind z ms) (sym head) t.0 in
    let tail : AsListed ns ms = λ x. tails_step x n ns ms (same x n) refl s.0 after (h x ∙ ap (λ z. same x z || is_listed x ms) (sym head)) in
    (λ i. head i ∷ same_names ns ms s.1 t.1 tail i)

-- files among which the same queues have one have the same names
pub names_by : (fs gs : List Headed) → ((x : List ℕ) → list_any (is_of Queue x) fs ≡ list_any (is_of Queue x) gs) → queue_names fs ≡ queue_names gs
names_by fs gs h = same_names (queue_names fs) (queue_names gs) (sorted_names fs) (sorted_names gs) (λ x. listed_names x fs ∙ h x ∙ sym (listed_names x gs))
