-- Slots by their places: the last, the one at an index, and what is left when holes go.
use Rattle.std.proofs.Common.{◌≡◌, ℕ, zero, suc, ◌+◌, ◌-◌, ◌<◌, ◌≤◌, Bool, true, false, not, nat_eq, cond, List, [], ◌∷◌, ◌++◌, length, take, drop, slice_get, Option, Some, None, is_some, option_to_list, refl, ap, sym, subst, ◌∙◌, append-nil, length-append, arith}
use Rattle.std.specs.List.{filter, cons_option}
use Rattle.std.specs.Map.{lookup}
use Rattle.qls_enqmap.specs.declared.Held.{Held}
use Rattle.qls_enqmap.specs.Slots.{Slots, held_in, occupied, none_of, first_of, last_of, all_of, last_file, slot_file, before, HasRid, RisesFrom, RidsBelow}

pub flip : (a b : Bool) → a ≡ not b → b ≡ not a
flip true true h = absurd (cc)
flip true false h = refl
flip false true h = refl
flip false false h = absurd (cc)

-- ---- the slot at an index

pub first_at : (es : Slots) (i k : ℕ) (v : Option Held) → Some (k, v) ≡ slice_get es i → is_some v ≡ first_of (drop i (occupied es))
first_at [] i k v h = absurd (cc)
first_at (e ∷ es) zero k v h = let q : (k, v) ≡ e = (cc) in ap (λ x. is_some x.1) q
first_at (e ∷ es) (suc i) k v h = first_at es i k v h

first_none : (i : ℕ) → first_of (drop i []) ≡ true
first_none zero = refl
first_none (suc i) = refl

pub first_past : (es : Slots) (i : ℕ) → None ≡ slice_get es i → first_of (drop i (occupied es)) ≡ true
first_past [] i h = first_none i
first_past (e ∷ es) zero h = absurd (cc)
first_past (e ∷ es) (suc i) h = first_past es i h

-- ---- the last slot

abbrev last_item : Slots → Option (ℕ × Option Held)
last_item [] = None
last_item (e ∷ []) = Some e
last_item (e ∷ f ∷ es) = last_item (f ∷ es)

last_is : (es : Slots) → slice_get es (length es - 1) ≡ last_item es
last_is [] = refl
last_is (e ∷ []) = refl
last_is (e ∷ f ∷ es) =
    let n : length (e ∷ f ∷ es) - 1 ≡ suc (length (f ∷ es) - 1) = omega arith in
    ap (λ k. slice_get (e ∷ f ∷ es) k) n ∙ last_is (f ∷ es)

last_by : (es : Slots) (k : ℕ) (v : Option Held) → Some (k, v) ≡ last_item es → is_some v ≡ last_of (occupied es)
last_by [] k v h = absurd (cc)
last_by (e ∷ []) k v h = let q : (k, v) ≡ e = (cc) in ap (λ x. is_some x.1) q
last_by (e ∷ f ∷ es) k v h = last_by (f ∷ es) k v h

pub last_at : (es : Slots) (k : ℕ) (v : Option Held) → Some (k, v) ≡ slice_get es (length es - 1) → is_some v ≡ last_of (occupied es)
last_at es k v h = last_by es k v (h ∙ last_is es)

file_by : (file : ℕ) (es : Slots) (k : ℕ) (h : Held) → Some (k, Some h) ≡ last_item es → h.file ≡ last_file file (held_in es)
file_by file [] k h l = absurd (cc)
file_by file (e ∷ []) k h l = let q : (k, Some h) ≡ e = (cc) in ap (λ (x : ℕ × Option Held). last_file file (cons_option x.1 [])) q
file_by file (e ∷ f ∷ es) k h l = file_skip e.1 file (f ∷ es) k h (λ g. file_by g (f ∷ es) k h l)
  where
    file_skip : (v : Option Held) (file : ℕ) (es : Slots) (k : ℕ) (h : Held) → ((g : ℕ) → h.file ≡ last_file g (held_in es)) → h.file ≡ last_file file (cons_option v (held_in es))
    file_skip None file es k h i = i file
    file_skip (Some g) file es k h i = i g.file

file_at : (es : Slots) (k : ℕ) (h : Held) → Some (k, Some h) ≡ slice_get es (length es - 1) → h.file ≡ last_file 0 (held_in es)
file_at es k h l = file_by 0 es k h (l ∙ last_is es)

pub file_of_last : (es : Slots) (k : ℕ) (v : Option Held) → Some (k, v) ≡ slice_get es (length es - 1) → last_of (occupied es) ≡ true → slot_file v ≡ last_file 0 (held_in es)
file_of_last es k None l t = let q : false ≡ true = last_at es k None l ∙ t in absurd (cc)
file_of_last es k (Some h) l t = file_at es k h l

-- no slot at all, where there is no last one
none_last : (es : Slots) → None ≡ last_item es → 0 ≡ last_file 0 (held_in es)
none_last [] h = refl
none_last (e ∷ []) h = absurd (cc)
none_last (e ∷ f ∷ es) h = some_last e f es h
  where
    some_last : (e f : ℕ × Option Held) (es : Slots) → None ≡ last_item (f ∷ es) → 0 ≡ last_file 0 (held_in (e ∷ f ∷ es))
    some_last e f [] h = absurd (cc)
    some_last e f (g ∷ es) h = absurd (never f g es h)
      where
        never : (f g : ℕ × Option Held) (es : Slots) → None ≡ last_item (f ∷ g ∷ es) → ⊥
        never f g [] h = cc
        never f g (x ∷ es) h = never g x es h

pub no_file : (es : Slots) → None ≡ slice_get es (length es - 1) → 0 ≡ last_file 0 (held_in es)
no_file es h = none_last es (h ∙ last_is es)

-- ---- a hole is passed over

pub record Passes (es : Slots) (at next : ℕ) : Type 0 where
  pub same : held_in (take next es) ≡ held_in (take at es)
  pub holes : none_of (take at (occupied es)) ≡ true → none_of (take next (occupied es)) ≡ true

hole_passed : (v : Option Held) (k : ℕ) (es : Slots) → is_some v ≡ false → Passes ((k, v) ∷ es) zero (suc zero)
hole_passed None k es h = record { same = refl; holes = λ n. refl }
hole_passed (Some g) k es h = absurd (cc)

pass_more : (v : Option Held) (k : ℕ) (es : Slots) (at : ℕ) → Passes es at (suc at) → Passes ((k, v) ∷ es) (suc at) (suc (suc at))
pass_more None k es at p = record { same = p.same; holes = p.holes }
pass_more (Some g) k es at p = record { same = ap (λ hs. g ∷ hs) p.same; holes = λ n. absurd (cc) }

none_left : (at : ℕ) → first_of (drop at []) ≡ false → ⊥
none_left zero h = cc
none_left (suc at) h = cc

passed : (es : Slots) (at : ℕ) → first_of (drop at (occupied es)) ≡ false → Passes es at (suc at)
passed [] at h = absurd (none_left at h)
passed (e ∷ es) zero h = hole_passed e.1 e.0 es h
passed (e ∷ es) (suc at) h = pass_more e.1 e.0 es at (passed es at h)

pub passes : (es : Slots) (at next : ℕ) → next ≡ at + 1 → first_of (drop at (occupied es)) ≡ false → Passes es at next
passes es at next e h = subst (λ n. Passes es at n) (let q : suc at ≡ next = omega arith in q) (passed es at h)

-- ---- the last slot goes

pub record Trims (es us : Slots) : Type 0 where
  pub before : (n : ℕ) → before us n ≡ before es n
  pub shorter : length us ≤ length es
  pub held : held_in us ≡ held_in es
  pub rises : RisesFrom 0 es → RisesFrom 0 us
  pub holes : (n : ℕ) → none_of (take n (occupied es)) ≡ true → none_of (take n (occupied us)) ≡ true

last_append : (us : Slots) (e : ℕ × Option Held) → last_of (occupied (us ++ e ∷ [])) ≡ is_some e.1
last_append [] e = refl
last_append (u ∷ []) e = refl
last_append (u ∷ x ∷ us) e = last_append (x ∷ us) e

held_append : (us : Slots) (k : ℕ) (v : Option Held) → is_some v ≡ false → held_in (us ++ (k, v) ∷ []) ≡ held_in us
held_append [] k None h = refl
held_append [] k (Some g) h = absurd (cc)
held_append (u ∷ us) k v h = ap (λ hs. cons_option u.1 hs) (held_append us k v h)

rises_front : (n : ℕ) (us vs : Slots) → RisesFrom n (us ++ vs) → RisesFrom n us
rises_front n [] vs r = tt
rises_front n (u ∷ us) vs r = (r.0, r.1, rises_front (u.0 + 1) us vs r.2)

none_cons : (b : Bool) (xs ys : List Bool) → (none_of xs ≡ true → none_of ys ≡ true) → none_of (b ∷ xs) ≡ true → none_of (b ∷ ys) ≡ true
none_cons true xs ys f h = absurd (cc)
none_cons false xs ys f h = f h

none_front : (n : ℕ) (us vs : Slots) → none_of (take n (occupied (us ++ vs))) ≡ true → none_of (take n (occupied us)) ≡ true
none_front zero us vs h = refl
none_front (suc n) [] vs h = refl
none_front (suc n) (u ∷ us) vs h = none_cons (is_some u.1) (take n (occupied (us ++ vs))) (take n (occupied us)) (λ g. none_front n us vs g) h

hole_first : (v : Option Held) (k n : ℕ) → is_some v ≡ false → before [] n ≡ before ((k, v) ∷ []) n
hole_first None k zero h = refl
hole_first None k (suc zero) h = refl
hole_first None k (suc (suc n)) h = refl
hole_first (Some g) k n h = absurd (cc)

before_by : (v : Option Held) (hs gs : List Held) → length hs ≡ length gs → length (cons_option v hs) ≡ length (cons_option v gs)
before_by None hs gs e = e
before_by (Some g) hs gs e = ap suc e

before_hole : (us : Slots) (k : ℕ) (v : Option Held) → is_some v ≡ false → (n : ℕ) → before us n ≡ before (us ++ (k, v) ∷ []) n
before_hole us k v h zero = refl
before_hole [] k v h (suc n) = hole_first v k (suc n) h
before_hole (u ∷ us) k v h (suc n) = before_by u.1 (held_in (take n us)) (held_in (take n (us ++ (k, v) ∷ []))) (before_hole us k v h n)

trims_last : (us : Slots) (k : ℕ) (v : Option Held) → is_some v ≡ false → Trims (us ++ (k, v) ∷ []) us
trims_last us k v h = record {
  before = λ n. before_hole us k v h n;
  shorter = omega (arith, length-append us ((k, v) ∷ []));
  held = sym (held_append us k v h);
  rises = λ r. rises_front 0 us ((k, v) ∷ []) r;
  holes = λ n g. none_front n us ((k, v) ∷ []) g;
}

same_trims : (es : Slots) → Trims es es
same_trims es = record { before = λ n. refl; shorter = omega arith; held = refl; rises = λ r. r; holes = λ n g. g }

pub trims : (es us : Slots) (o : Option (ℕ × Option Held)) → es ≡ us ++ option_to_list o → last_of (occupied es) ≡ false → Trims es us
trims es us None e h = subst (λ x. Trims x us) (sym (e ∙ append-nil us)) (same_trims us)
trims es us (Some x) e h =
    let q : last_of (occupied (us ++ x ∷ [])) ≡ false = subst (λ y. last_of (occupied y) ≡ false) e h in
    subst (λ y. Trims y us) (sym e) (trims_last us x.0 x.1 (sym (last_append us x) ∙ q))

-- ---- a new id is not there

apart : (k rid : ℕ) → k < rid → nat_eq rid k ≡ false
apart k rid l = grind arith

pub absent_above : (rid : ℕ) (es : Slots) → RidsBelow rid es → lookup (nat_eq rid) es ≡ None
absent_above rid [] b = refl
absent_above rid (e ∷ es) b = ap (λ t. cond t (Some e.1) (lookup (nat_eq rid) es)) (apart e.0 rid b.0) ∙ absent_above rid es b.1

-- ---- holes are closed up

abbrev pub closed : Slots → Slots
closed es = filter (λ e. is_some e.1) es

closed_held : (v : Option Held) (k : ℕ) (es : Slots) → held_in (cond (is_some v) ((k, v) ∷ closed es) (closed es)) ≡ cons_option v (held_in (closed es))
closed_held None k es = refl
closed_held (Some g) k es = refl

pub held-closed : (es : Slots) → held_in (closed es) ≡ held_in es
held-closed [] = refl
held-closed (e ∷ es) = closed_held e.1 e.0 es ∙ ap (λ hs. cons_option e.1 hs) (held-closed es)

rises_later : (m n : ℕ) (es : Slots) → m ≤ n → RisesFrom n es → RisesFrom m es
rises_later m n [] l r = tt
rises_later m n (e ∷ es) l r = (omega (arith, r.0), r.1, r.2)

closed_rises : (v : Option Held) (n k : ℕ) (es : Slots) → n ≤ k → HasRid k v → RisesFrom (k + 1) (closed es) → RisesFrom n (cond (is_some v) ((k, v) ∷ closed es) (closed es))
closed_rises None n k es l h r = rises_later n (k + 1) (closed es) (omega arith) r
closed_rises (Some g) n k es l h r = (l, h, r)

pub rises-closed : (n : ℕ) (es : Slots) → RisesFrom n es → RisesFrom n (closed es)
rises-closed n [] r = tt
rises-closed n (e ∷ es) r = closed_rises e.1 n e.0 es r.0 r.1 (rises-closed (e.0 + 1) es r.2)

closed_all : (v : Option Held) (k : ℕ) (es : Slots) → all_of (occupied (closed es)) ≡ true → all_of (occupied (cond (is_some v) ((k, v) ∷ closed es) (closed es))) ≡ true
closed_all None k es h = h
closed_all (Some g) k es h = h

pub all-closed : (es : Slots) → all_of (occupied (closed es)) ≡ true
all-closed [] = refl
all-closed (e ∷ es) = closed_all e.1 e.0 es (all-closed es)

closed_fewer : (v : Option Held) (k n : ℕ) (es : Slots) → length (closed es) ≤ n → length (cond (is_some v) ((k, v) ∷ closed es) (closed es)) ≤ suc n
closed_fewer None k n es l = omega arith
closed_fewer (Some g) k n es l = omega arith

pub shorter-closed : (es : Slots) → length (closed es) ≤ length es
shorter-closed [] = omega arith
shorter-closed (e ∷ es) = closed_fewer e.1 e.0 (length es) es (shorter-closed es)

first_of-all : (bs : List Bool) → all_of bs ≡ true → first_of bs ≡ true
first_of-all [] h = refl
first_of-all (true ∷ bs) h = refl
first_of-all (false ∷ bs) h = h

last_of-all : (bs : List Bool) → all_of bs ≡ true → last_of bs ≡ true
last_of-all [] h = refl
last_of-all (true ∷ []) h = refl
last_of-all (false ∷ []) h = h
last_of-all (true ∷ c ∷ bs) h = last_of-all (c ∷ bs) h
last_of-all (false ∷ c ∷ bs) h = absurd (cc)

pub first-closed : (es : Slots) → first_of (occupied (closed es)) ≡ true
first-closed es = first_of-all (occupied (closed es)) (all-closed es)

pub last-closed : (es : Slots) → last_of (occupied (closed es)) ≡ true
last-closed es = last_of-all (occupied (closed es)) (all-closed es)
