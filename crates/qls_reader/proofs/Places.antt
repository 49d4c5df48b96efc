-- Places in files one behind another.
use Rattle.std.proofs.Common.{◌≡◌, ℕ, zero, suc, ◌+◌, ◌-◌, ◌<◌, ◌≤◌, true, false, cond, ltb, eqb, add-one, List, [], ◌∷◌, length, take, drop, get_or, refl, sym, ap, ◌∙◌, arith}
use Rattle.qls_reader.specs.declared.spot.FileSpot.{FileSpot}
use Rattle.qls_reader.specs.Spots.{data_length, all_length, first_spot, end_spot}
use Rattle.qls_reader.specs.Places.{IsWithin}

pub not_before : (p s : ℕ) → s ≤ p → ltb p s ≡ false
not_before p s h = grind arith

pub before : (p s : ℕ) → p < s → ltb p s ≡ true
before p s h = grind arith

-- ---- where a reading ends

pub end_spot-inside : (files : List FileSpot) (k w : ℕ) (d : FileSpot) → k < length files → IsWithin w (drop k files)
    → record { file = (get_or files k d).number; at = 4096 + w } ≡ end_spot files (all_length (take k files) + w)
end_spot-inside [] k w d l h = absurd (omega arith)
end_spot-inside (s ∷ []) zero w d l h = λ i. record { file = s.number; at = 4096 + same i }
  where
    same : w ≡ 0 + w
    same = omega arith
end_spot-inside (s ∷ []) (suc k) w d l h = absurd (omega arith)
end_spot-inside (s ∷ t ∷ ss) zero w d l h =
    ap (λ p. record { file = s.number; at = 4096 + p }) (zero_more w)
    ∙ ap (λ b. cond b (record { file = s.number; at = 4096 + (0 + w) }) (end_spot (t ∷ ss) (0 + w - data_length s))) (sym (before (0 + w) (data_length s) (omega arith)))
  where
    zero_more : (w : ℕ) → w ≡ 0 + w
    zero_more w = omega arith
end_spot-inside (s ∷ t ∷ ss) (suc k) w d l h =
    let p : ℕ = data_length s + all_length (take k (t ∷ ss)) + w in
    end_spot-inside (t ∷ ss) k w d (omega arith) h
    ∙ ap (end_spot (t ∷ ss)) (omega arith)
    ∙ ap (λ b. cond b (record { file = s.number; at = 4096 + p }) (end_spot (t ∷ ss) (p - data_length s))) (sym (not_before p (data_length s) (omega arith)))

pub end_spot-end : (files : List FileSpot) (d : FileSpot) (n i : ℕ) → i + 1 ≡ length files → n ≡ all_length files
    → record { file = (get_or files i d).number; at = 4096 + data_length (get_or files i d) } ≡ end_spot files n
end_spot-end [] d n i l e = absurd (omega arith)
end_spot-end (s ∷ []) d n zero l e = ap (λ k. record { file = s.number; at = 4096 + k }) (omega (arith, e))
end_spot-end (s ∷ []) d n (suc i) l e = absurd (omega arith)
end_spot-end (s ∷ t ∷ ss) d n zero l e = absurd (omega arith)
end_spot-end (s ∷ t ∷ ss) d n (suc i) l e =
    end_spot-end (t ∷ ss) d (n - data_length s) i (omega arith) (omega (arith, e))
    ∙ ap (λ b. cond b (record { file = s.number; at = 4096 + n }) (end_spot (t ∷ ss) (n - data_length s))) (sym (not_before n (data_length s) (omega (arith, e))))

pub all_of : (files : List FileSpot) (k w : ℕ) → length files ≤ k → IsWithin w (drop k files) → all_length (take k files) + w ≡ all_length files
all_of [] zero w l h = omega arith
all_of [] (suc k) w l h = omega arith
all_of (s ∷ ss) zero w l h = absurd (omega arith)
all_of (s ∷ ss) (suc k) w l h = omega (arith, all_of ss k w (omega arith) h)

pub at_most_all : (files : List FileSpot) (k w : ℕ) → k ≤ length files → IsWithin w (drop k files) → all_length (take k files) + w ≤ all_length files
at_most_all [] zero w l h = omega (arith, h)
at_most_all [] (suc k) w l h = absurd (omega arith)
at_most_all (s ∷ ss) zero w l h = omega (arith, h)
at_most_all (s ∷ ss) (suc k) w l h = omega (arith, at_most_all ss k w (omega arith) h)

-- ---- one file further

abbrev pub none : FileSpot
none = record { id = 0; number = 0; serial = 0; kib = 0; first = 0 }

pub all_length-take : (files : List FileSpot) (k : ℕ) → k < length files → all_length (take (suc k) files) ≡ all_length (take k files) + data_length (get_or files k none)
all_length-take [] k l = absurd (omega arith)
all_length-take (s ∷ ss) zero l = omega arith
all_length-take (s ∷ ss) (suc k) l = omega (arith, all_length-take ss k (omega arith))

pub all_length-drop : (files : List FileSpot) (k : ℕ) → k < length files → all_length (drop k files) ≡ data_length (get_or files k none) + all_length (drop (suc k) files)
all_length-drop [] k l = absurd (omega arith)
all_length-drop (s ∷ ss) zero l = refl
all_length-drop (s ∷ ss) (suc k) l = all_length-drop ss k (omega arith)

pub first_passed : (files : List FileSpot) (k : ℕ) → k < length files → (get_or files k none).first ≡ 0 → first_spot (drop k files) ≡ data_length (get_or files k none) + first_spot (drop (suc k) files)
first_passed [] k l e = absurd (omega arith)
first_passed (s ∷ ss) zero l e = ap (λ n. cond (eqb n 0) (data_length s + first_spot ss) (n - 4096)) e
first_passed (s ∷ ss) (suc k) l e = first_passed ss k (omega arith) e

pub settle_on : (files : List FileSpot) (k w n all : ℕ) → k < length files → n ≡ data_length (get_or files k none) → n ≤ w → w ≤ all_length (drop k files) → all_length (take k files) + w ≡ all
    → (w - n ≤ all_length (drop (k + 1) files)) × (all_length (take (k + 1) files) + (w - n) ≡ all)
settle_on files k w n all l size le within same =
    let one : k + 1 ≡ suc k = add-one k in
    let t : all_length (take (k + 1) files) ≡ all_length (take k files) + data_length (get_or files k none) = ap (λ j. all_length (take j files)) one ∙ all_length-take files k l in
    let d : all_length (drop k files) ≡ data_length (get_or files k none) + all_length (drop (k + 1) files) = all_length-drop files k l ∙ ap (λ j. data_length (get_or files k none) + all_length (drop j files)) (sym one) in
    (omega (arith, t, d, size, le, within), omega (arith, t, d, size, le, same))

pub pass_on : (files : List FileSpot) (k all : ℕ) → k < length files → (get_or files k none).first ≡ 0 → all_length (take k files) + first_spot (drop k files) ≡ all
    → all_length (take (k + 1) files) + first_spot (drop (k + 1) files) ≡ all
pass_on files k all l e same =
    let one : k + 1 ≡ suc k = add-one k in
    let t : all_length (take (k + 1) files) ≡ all_length (take k files) + data_length (get_or files k none) = ap (λ j. all_length (take j files)) one ∙ all_length-take files k l in
    let f : first_spot (drop k files) ≡ data_length (get_or files k none) + first_spot (drop (k + 1) files) = first_passed files k l e ∙ ap (λ j. data_length (get_or files k none) + first_spot (drop j files)) (sym one) in
    omega (arith, t, f, same)
