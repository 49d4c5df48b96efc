-- The names of the queues: each once, in byte order.
use Rattle.std.proofs.Common.{◌≡◌, ℕ, Bool, true, false, cond, ◌&&◌, ◌||◌, List, [], ◌∷◌, map, Some, None, refl, sym, ap, ◌∙◌, subst}
use Rattle.std.specs.declared.cmp.Ordering.{Ordering}
use Rattle.std.specs.declared.cmp.Ordering.TheVariants.{Less, Equal, Greater}
use Rattle.std.specs.Ordering.{nat_cmp, is_eq, is_lt, match_ordering, ordering_reverse}
use Rattle.std.specs.Cmp.Lexicographic.{slice_cmp}
use Rattle.std.specs.List.{AllByRecursion, list_any}
use Rattle.std.specs.BTreeMap.{insert_entry, is_at}
use Rattle.std.specs.Map.{lookup, set_value}
use Rattle.std.proofs.lemmas.Cmp.{nat_list_cmp_total, tied_itself}
use Rattle.std.proofs.lemmas.Map.Text.{is_eq-slice_cmp}
use Rattle.qls_model.specs.Bytes.{same, comes_before, is_listed}
use Rattle.qls_model.proofs.XidKeys.{same_true}
use Rattle.qls_filehdr.specs.declared.JournalKind.TheVariants.{Queue}
use Rattle.qls_meaning.specs.Journals.{Headed, is_queue, is_of, with_name, queue_names}

abbrev pub order : List ℕ → List ℕ → Ordering
order = slice_cmp nat_cmp

-- ---- one name and another

same_by : (m n : List ℕ) → same m n ≡ is_eq (order m n)
same_by m n = sym (is_eq-slice_cmp m n)

equal_names : (m n : List ℕ) → order m n ≡ Equal → m ≡ n
equal_names m n e = same_true m n (same_by m n ∙ ap is_eq e)

pub after_is_other : (m x : List ℕ) → order m x ≡ Less → same x m ≡ false
after_is_other m x l = by_test (same x m) refl
  where
    by_test : (b : Bool) → same x m ≡ b → b ≡ false
    by_test false e = refl
    by_test true e =
        let itself : order m m ≡ Less = subst (λ y. order m y ≡ Less) (same_true x m e) l in
        absurd (cc (itself, tied_itself nat_list_cmp_total m))

pub before_is_other : (m n : List ℕ) → order m n ≡ Greater → same n m ≡ false
before_is_other m n g = by_test (same n m) refl
  where
    by_test : (b : Bool) → same n m ≡ b → b ≡ false
    by_test false e = refl
    by_test true e =
        let itself : order m m ≡ Greater = subst (λ y. order m y ≡ Greater) (same_true n m e) g in
        absurd (cc (itself, tied_itself nat_list_cmp_total m))

with_name_at : (m n : List ℕ) (ns : List (List ℕ)) (o : Ordering) → order m n ≡ o → with_name m (n ∷ ns) ≡ match_ordering o (m ∷ n ∷ ns) (n ∷ ns) (n ∷ with_name m ns)
with_name_at m n ns o e =
    ap (λ b. cond b (n ∷ ns) (cond (comes_before m n) (m ∷ n ∷ ns) (n ∷ with_name m ns))) (same_by m n ∙ ap is_eq e)
    ∙ ap (λ p. cond (is_eq o) (n ∷ ns) (cond (is_lt p) (m ∷ n ∷ ns) (n ∷ with_name m ns))) e
    ∙ by_order o
  where
    by_order : (o : Ordering) → cond (is_eq o) (n ∷ ns) (cond (is_lt o) (m ∷ n ∷ ns) (n ∷ with_name m ns)) ≡ match_ordering o (m ∷ n ∷ ns) (n ∷ ns) (n ∷ with_name m ns)
    by_order Less = refl
    by_order Equal = refl
    by_order Greater = refl

-- ---- they rise

abbrev pub NamesRise : List (List ℕ) → Type 0
NamesRise [] = Unit {0}
NamesRise (n ∷ ns) = AllByRecursion (λ x. order n x ≡ Less) ns × NamesRise ns

all_after : (m n : List ℕ) (ns : List (List ℕ)) → order m n ≡ Less → AllByRecursion (λ x. order n x ≡ Less) ns → AllByRecursion (λ x. order m x ≡ Less) ns
all_after m n [] l h = tt
all_after m n (x ∷ ns) l h = (nat_list_cmp_total.trans m n x l h.0, all_after m n ns l h.1)

turned : (m n : List ℕ) → order m n ≡ Greater → order n m ≡ Less
turned m n g = nat_list_cmp_total.antisymm n m ∙ ap ordering_reverse g

still_after : (k m : List ℕ) (ns : List (List ℕ)) → order k m ≡ Less → AllByRecursion (λ x. order k x ≡ Less) ns → AllByRecursion (λ x. order k x ≡ Less) (with_name m ns)
still_after k m [] l h = (l, tt)
still_after k m (n ∷ ns) l h = by_order (order m n) refl (still_after k m ns l h.1)
  where
    by_order : (o : Ordering) → order m n ≡ o → AllByRecursion (λ x. order k x ≡ Less) (with_name m ns) → AllByRecursion (λ x. order k x ≡ Less) (with_name m (n ∷ ns))
    by_order Less e rest = subst (AllByRecursion (λ x. order k x ≡ Less)) (sym (with_name_at m n ns Less e)) (l, h)
    by_order Equal e rest = subst (AllByRecursion (λ x. order k x ≡ Less)) (sym (with_name_at m n ns Equal e)) h
    by_order Greater e rest = subst (AllByRecursion (λ x. order k x ≡ Less)) (sym (with_name_at m n ns Greater e)) (h.0, rest)

rise_with : (m : List ℕ) (ns : List (List ℕ)) → NamesRise ns → NamesRise (with_name m ns)
rise_with m [] h = (tt, tt)
rise_with m (n ∷ ns) h = by_order (order m n) refl (rise_with m ns h.1)
  where
    by_order : (o : Ordering) → order m n ≡ o → NamesRise (with_name m ns) → NamesRise (with_name m (n ∷ ns))
    by_order Less e rest = subst NamesRise (sym (with_name_at m n ns Less e)) ((e, all_after m n ns e h.0), h)
    by_order Equal e rest = subst NamesRise (sym (with_name_at m n ns Equal e)) h
    by_order Greater e rest = subst NamesRise (sym (with_name_at m n ns Greater e)) (still_after n m ns (turned m n e) h.0, rest)

pub names_rise : (fs : List Headed) → NamesRise (queue_names fs)
names_rise [] = tt
names_rise (f ∷ fs) = elim (is_queue f.header.kind) as (λ b. NamesRise (cond b (with_name f.header.name (queue_names fs)) (queue_names fs))) [
  | true ↦ rise_with f.header.name (queue_names fs) (names_rise fs)
  | false ↦ names_rise fs
]

-- ---- they are those of the files

or_twice : (a b : Bool) → (a || b) ≡ (a || (a || b))
or_twice true b = refl
or_twice false b = refl

or_turn : (a b c : Bool) → (a || (b || c)) ≡ (b || (a || c))
or_turn true true c = refl
or_turn true false c = refl
or_turn false true c = refl
or_turn false false c = refl

listed_with : (x m : List ℕ) (ns : List (List ℕ)) → is_listed x (with_name m ns) ≡ (same x m || is_listed x ns)
listed_with x m [] = refl
listed_with x m (n ∷ ns) = by_order (order m n) refl (listed_with x m ns)
  where
    by_order : (o : Ordering) → order m n ≡ o → is_listed x (with_name m ns) ≡ (same x m || is_listed x ns) → is_listed x (with_name m (n ∷ ns)) ≡ (same x m || is_listed x (n ∷ ns))
    by_order Less e rest = ap (is_listed x) (with_name_at m n ns Less e)
    by_order Equal e rest = ap (is_listed x) (with_name_at m n ns Equal e) ∙ or_twice (same x n) (is_listed x ns) ∙ ap (λ z. same x z || is_listed x (n ∷ ns)) (sym (equal_names m n e))
    by_order Greater e rest = ap (is_listed x) (with_name_at m n ns Greater e) ∙ ap (λ b. same x n || b) rest ∙ or_turn (same x n) (same x m) (is_listed x ns)

pub names_are : (x : List ℕ) (fs : List Headed) → is_listed x (queue_names fs) ≡ list_any (is_of Queue x) fs
names_are x [] = refl
names_are x (f ∷ fs) = elim (is_queue f.header.kind) as (λ b. is_listed x (cond b (with_name f.header.name (queue_names fs)) (queue_names fs)) ≡ ((b && same x f.header.name) || list_any (is_of Queue x) fs)) [
  | true ↦ listed_with x f.header.name (queue_names fs) ∙ ap (λ b. same x f.header.name || b) (names_are x fs)
  | false ↦ names_are x fs
]

none_listed : (m : List ℕ) (ns : List (List ℕ)) → AllByRecursion (λ x. order m x ≡ Less) ns → is_listed m ns ≡ true → ⊥
none_listed m [] h e = cc
none_listed m (n ∷ ns) h e = none_listed m ns h.1 (ap (λ b. b || is_listed m ns) (sym (same_by m n ∙ ap is_eq h.0)) ∙ e)

-- ---- entries by name

module _ {X : Type 0} (m : List ℕ) (old new : List ℕ → X) (others : (n : List ℕ) → same n m ≡ false → new n ≡ old n) where
  abbrev olds : List (List ℕ) → List (List ℕ × X)
  olds ns = map (λ n. (n, old n)) ns

  abbrev news : List (List ℕ) → List (List ℕ × X)
  news ns = map (λ n. (n, new n)) ns

  unchanged : (ns : List (List ℕ)) → AllByRecursion (λ x. order m x ≡ Less) ns → olds ns ≡ news ns
  unchanged [] h = refl
  unchanged (n ∷ ns) h = λ k. (n, sym (others n (after_is_other m n h.0)) k) ∷ unchanged ns h.1 k

  -- the name's value goes to its place
  pub inserted : (ns : List (List ℕ)) → NamesRise ns → insert_entry order (olds ns) m (new m) ≡ news (with_name m ns)
  inserted [] h = refl
  inserted (n ∷ ns) h = by_order (order m n) refl (inserted ns h.1)
    where
      by_order : (o : Ordering) → order m n ≡ o → insert_entry order (olds ns) m (new m) ≡ news (with_name m ns) → match_ordering o ((m, new m) ∷ olds (n ∷ ns)) ((n, new m) ∷ olds ns) ((n, old n) ∷ insert_entry order (olds ns) m (new m)) ≡ news (with_name m (n ∷ ns))
      by_order Less e rest = ap (λ es. (m, new m) ∷ es) (unchanged (n ∷ ns) (e, all_after m n ns e h.0)) ∙ ap news (sym (with_name_at m n ns Less e))
      by_order Equal e rest =
          let one = equal_names m n e in
          (λ k. (n, new (one k)) ∷ unchanged ns (subst (λ x. AllByRecursion (λ y. order x y ≡ Less) ns) (sym one) h.0) k) ∙ ap news (sym (with_name_at m n ns Equal e))
      by_order Greater e rest = (λ k. (n, sym (others n (before_is_other m n e)) k) ∷ rest k) ∙ ap news (sym (with_name_at m n ns Greater e))

  -- where it is there already, it is changed in its place
  pub replaced : (ns : List (List ℕ)) → NamesRise ns → is_listed m ns ≡ true → set_value (is_at (order m)) (olds ns) (new m) ≡ insert_entry order (olds ns) m (new m)
  replaced [] h there = absurd (cc)
  replaced (n ∷ ns) h there = by_order (order m n) refl (replaced ns h.1)
    where
      later : order m n ≡ Less → is_listed m ns ≡ true → ⊥
      later l e = none_listed m ns (all_after m n ns l h.0) e

      by_order : (o : Ordering) → order m n ≡ o → (is_listed m ns ≡ true → set_value (is_at (order m)) (olds ns) (new m) ≡ insert_entry order (olds ns) m (new m))
          → cond (is_eq o) ((n, new m) ∷ olds ns) ((n, old n) ∷ set_value (is_at (order m)) (olds ns) (new m)) ≡ match_ordering o ((m, new m) ∷ olds (n ∷ ns)) ((n, new m) ∷ olds ns) ((n, old n) ∷ insert_entry order (olds ns) m (new m))
      by_order Less e rest = absurd (later e (ap (λ b. b || is_listed m ns) (sym (same_by m n ∙ ap is_eq e)) ∙ there))
      by_order Equal e rest = refl
      by_order Greater e rest = ap (λ es. (n, old n) ∷ es) (rest (ap (λ b. b || is_listed m ns) (sym (same_by m n ∙ ap is_eq e)) ∙ there))

-- what is looked up is there exactly where the name is listed, and is the name's
pub looked_up : {X : Type 0} (m : List ℕ) (old : List ℕ → X) (ns : List (List ℕ)) → lookup (is_at (order m)) (map (λ n. (n, old n)) ns) ≡ cond (is_listed m ns) (Some (old m)) None
looked_up m old [] = refl
looked_up m old (n ∷ ns) = by_order (order m n) refl (looked_up m old ns)
  where
    by_order : (o : Ordering) → order m n ≡ o → lookup (is_at (order m)) (map (λ k. (k, old k)) ns) ≡ cond (is_listed m ns) (Some (old m)) None → cond (is_eq o) (Some (old n)) (lookup (is_at (order m)) (map (λ n. (n, old n)) ns)) ≡ cond (same m n || is_listed m ns) (Some (old m)) None
    by_order Less e rest = rest ∙ ap (λ b. cond (b || is_listed m ns) (Some (old m)) None) (sym (same_by m n ∙ ap is_eq e))
    by_order Equal e rest = ap (λ x. Some (old x)) (sym (equal_names m n e)) ∙ ap (λ b. cond (b || is_listed m ns) (Some (old m)) None) (sym (same_by m n ∙ ap is_eq e))
    by_order Greater e rest = rest ∙ ap (λ b. cond (b || is_listed m ns) (Some (old m)) None) (sym (same_by m n ∙ ap is_eq e))
