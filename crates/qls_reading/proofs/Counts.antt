-- How many files a reading has come to at a place.
use Rattle.std.proofs.Common.{◌≡◌, ◌⊎◌, inl, inr, ℕ, zero, suc, ◌+◌, ◌-◌, ◌<◌, ◌≤◌, true, false, cond, List, [], ◌∷◌, length, drop, refl, sym, ap, ◌∙◌, arith, ltb, length-append}
use Rattle.qls_meaning.specs.Journals.{Headed}
use Rattle.qls_meaning.specs.Reading.{stream}
use Rattle.qls_meaning.specs.Damage.{ends_in}
use Rattle.qls_meaning.specs.Dead.{after_end}
use Rattle.qls_reading.specs.Left.{start_at, end_id}
use Rattle.qls_reading.proofs.Behind.{not_less, is_less, before_or_not}

-- those that start at the place or before it
abbrev pub come_at : ℕ → List Headed → ℕ
come_at p [] = 0
come_at p (f ∷ fs) = suc (cond (ltb p (length f.area)) 0 (come_at (p - length f.area) fs))

abbrev pub id_at : ℕ → List Headed → ℕ
id_at n [] = 0
id_at zero (f ∷ fs) = f.id
id_at (suc n) (f ∷ fs) = id_at n fs

pub start_none : (fs : List Headed) → start_at zero fs ≡ 0
start_none [] = refl
start_none (f ∷ fs) = refl

pub drop_none : {A : Type 0} (n : ℕ) → let none : List A = [] in drop n none ≡ none
drop_none zero = refl
drop_none (suc n) = refl

more_before : (p : ℕ) (f : Headed) (fs : List Headed) → p < length f.area → come_at p (f ∷ fs) ≡ 1
more_before p f fs l = ap (λ b. suc (cond b 0 (come_at (p - length f.area) fs))) (is_less p (length f.area) l)

more_behind : (p : ℕ) (f : Headed) (fs : List Headed) → length f.area ≤ p → come_at p (f ∷ fs) ≡ suc (come_at (p - length f.area) fs)
more_behind p f fs l = ap (λ b. suc (cond b 0 (come_at (p - length f.area) fs))) (not_less p (length f.area) l)

-- ---- the files behind the end, and the one in which it lies

pub drop_after : (p : ℕ) (fs : List Headed) → drop (come_at p fs) fs ≡ after_end p fs
drop_after p [] = refl
drop_after p (f ∷ fs) = elim (ltb p (length f.area)) as (λ b. drop (cond b 0 (come_at (p - length f.area) fs)) fs ≡ cond b fs (after_end (p - length f.area) fs)) [
  | true ↦ refl
  | false ↦ drop_after (p - length f.area) fs
]

end_at : (p : ℕ) (f : Headed) (fs : List Headed) → id_at (cond (ltb p (length f.area)) 0 (come_at (p - length f.area) fs)) (f ∷ fs) ≡ (ends_in p f fs).id
end_at p f [] = elim (ltb p (length f.area)) as (λ b. id_at (cond b 0 0) (f ∷ []) ≡ f.id) [ true ↦ refl | false ↦ refl ]
end_at p f (g ∷ fs) = elim (ltb p (length f.area)) as (λ b. id_at (cond b 0 (come_at (p - length f.area) (g ∷ fs))) (f ∷ g ∷ fs) ≡ (cond b f (ends_in (p - length f.area) g fs)).id) [
  | true ↦ refl
  | false ↦ end_at (p - length f.area) g fs
]

-- the last of the files that were come to
pub last_come : (n p : ℕ) (fs : List Headed) → come_at p fs ≡ suc n → id_at n fs ≡ end_id p fs
last_come n p [] e = refl
last_come n p (f ∷ fs) e =
    ap (λ k. id_at k (f ∷ fs)) (omega (arith, e)) ∙ end_at p f fs

-- ---- counts and places

pub come_within : (p : ℕ) (fs : List Headed) → come_at p fs ≤ length fs
come_within p [] = omega arith
come_within p (f ∷ fs) = elim (ltb p (length f.area)) as (λ b. suc (cond b 0 (come_at (p - length f.area) fs)) ≤ suc (length fs)) [
  | true ↦ omega arith
  | false ↦ let rest = come_within (p - length f.area) fs in omega (arith, rest)
]

pub come_some : (p : ℕ) (fs : List Headed) → 0 < length fs → 1 ≤ come_at p fs
come_some p [] h = absurd (omega (arith, h))
come_some p (f ∷ fs) h = omega arith

pub come_rises : (p q : ℕ) (fs : List Headed) → p ≤ q → come_at p fs ≤ come_at q fs
come_rises p q [] l = omega arith
come_rises p q (f ∷ fs) l = by_order (before_or_not p (length f.area)) (come_rises (p - length f.area) (q - length f.area) fs (omega (arith, l)))
  where
    by_order : (p < length f.area) ⊎ (length f.area ≤ p) → come_at (p - length f.area) fs ≤ come_at (q - length f.area) fs → come_at p (f ∷ fs) ≤ come_at q (f ∷ fs)
    by_order (inl before) h = let one = more_before p f fs before in omega (arith, one)
    by_order (inr behind) h =
        let one = more_behind p f fs behind in
        let two = more_behind q f fs (omega (arith, behind, l)) in
        omega (arith, one, two, h)

pub length-stream : (f : Headed) (fs : List Headed) → length (stream (f ∷ fs)) ≡ length f.area + length (stream fs)
length-stream f fs = length-append f.area (stream fs)

-- a place of the stream lies before the first file that wasn't come to
pub come_beyond : (p : ℕ) (fs : List Headed) → p < length (stream fs) → p < start_at (come_at p fs) fs
come_beyond p [] l = l
come_beyond p (f ∷ fs) l = by_order (before_or_not p (length f.area)) (come_beyond (p - length f.area) fs)
  where
    by_order : (p < length f.area) ⊎ (length f.area ≤ p) → (p - length f.area < length (stream fs) → p - length f.area < start_at (come_at (p - length f.area) fs) fs) → p < start_at (come_at p (f ∷ fs)) (f ∷ fs)
    by_order (inl before) ih =
        let is : start_at (come_at p (f ∷ fs)) (f ∷ fs) ≡ length f.area + start_at 0 fs = ap (λ n. start_at n (f ∷ fs)) (more_before p f fs before) in
        omega (arith, is, before)
    by_order (inr behind) ih =
        let is : start_at (come_at p (f ∷ fs)) (f ∷ fs) ≡ length f.area + start_at (come_at (p - length f.area) fs) fs = ap (λ n. start_at n (f ∷ fs)) (more_behind p f fs behind) in
        let rest = ih (omega (arith, l, behind, length-stream f fs)) in
        omega (arith, is, rest, behind)

-- all files were come to at the end of the stream
pub come_all : (p : ℕ) (fs : List Headed) → length (stream fs) ≤ p → come_at p fs ≡ length fs
come_all p [] l = refl
come_all p (f ∷ fs) l =
    let size = length-stream f fs in
    more_behind p f fs (omega (arith, l, size)) ∙ ap suc (come_all (p - length f.area) fs (omega (arith, l, size)))

zero_more : (k : ℕ) → k ≡ zero + k
zero_more k = omega arith

more : (n k : ℕ) → suc (n + k) ≡ suc n + k
more n k = omega arith

-- from the files that start at the place or before it on
pub come_ahead : (n p : ℕ) (fs : List Headed) → start_at n fs ≤ p → n ≤ length fs → come_at p fs ≡ n + come_at (p - start_at n fs) (drop n fs)
come_ahead zero p fs l w =
    let none = start_none fs in
    let same : p ≡ p - start_at zero fs = omega (arith, none) in
    ap (λ q. come_at q fs) same ∙ zero_more (come_at (p - start_at zero fs) fs)
come_ahead (suc n) p [] l w = absurd (omega (arith, w))
come_ahead (suc n) p (f ∷ fs) l w =
    more_behind p f fs (omega (arith, l))
    ∙ ap suc (come_ahead n (p - length f.area) fs (omega (arith, l)) (omega (arith, w)))
    ∙ ap (λ q. suc (n + come_at q (drop n fs))) apart ∙ more n (come_at (p - (length f.area + start_at n fs)) (drop n fs))
  where
    apart : p - length f.area - start_at n fs ≡ p - (length f.area + start_at n fs)
    apart = omega arith

pub come_before : (n p : ℕ) (fs : List Headed) → p < start_at n fs → come_at p fs ≤ n
come_before n p [] l = omega arith
come_before zero p (f ∷ fs) l = absurd (omega (arith, l))
come_before (suc n) p (f ∷ fs) l = by_order (before_or_not p (length f.area)) (come_before n (p - length f.area) fs)
  where
    by_order : (p < length f.area) ⊎ (length f.area ≤ p) → (p - length f.area < start_at n fs → come_at (p - length f.area) fs ≤ n) → come_at p (f ∷ fs) ≤ suc n
    by_order (inl before) ih = let one = more_before p f fs before in omega (arith, one)
    by_order (inr behind) ih =
        let one = more_behind p f fs behind in
        let rest = ih (omega (arith, l, behind)) in
        omega (arith, one, rest)

pub id_at-drop : (n k : ℕ) (fs : List Headed) → id_at k (drop n fs) ≡ id_at (n + k) fs
id_at-drop zero k fs = ap (λ m. id_at m fs) (zero_more k)
id_at-drop (suc n) k [] = refl
id_at-drop (suc n) k (f ∷ fs) = id_at-drop n k fs ∙ ap (λ m. id_at m (f ∷ fs)) (more n k)

pub start_at-drop : (n k : ℕ) (fs : List Headed) → start_at n fs + start_at k (drop n fs) ≡ start_at (n + k) fs
start_at-drop zero k fs = ap (λ m. m + start_at k fs) (start_none fs) ∙ sym (zero_more (start_at k fs)) ∙ ap (λ m. start_at m fs) (zero_more k)
start_at-drop (suc n) k [] = refl
start_at-drop (suc n) k (f ∷ fs) =
    let rest = start_at-drop n k fs in
    let is : start_at (suc n + k) (f ∷ fs) ≡ length f.area + start_at (n + k) fs = ap (λ m. start_at m (f ∷ fs)) (sym (more n k)) in
    omega (arith, rest, is)
