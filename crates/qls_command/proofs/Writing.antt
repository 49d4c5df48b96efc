-- Lines and hex, piece by piece.
use Rattle.std.proofs.Common.{◌≡◌, ℕ, zero, suc, List, [], ◌∷◌, ◌++◌, length, take, drop, refl, ap, sym, ◌∙◌, append_assoc, append-nil, arith}
use Rattle.std.proofs.lemmas.Grind.{common_steps}
use Rattle.hex.specs.Hex.{encode_with, encode_lower}

-- the hex of the first bytes, and of those behind them
pub encode_lower-split : (n : ℕ) (xs : List ℕ) → encode_lower xs ≡ encode_lower (take n xs) ++ encode_lower (drop n xs)
unfolding encode_with
encode_lower-split zero xs = refl
encode_lower-split (suc n) [] = refl
encode_lower-split (suc n) (x ∷ xs) = let rest = encode_lower-split n xs in grind (arith, common_steps, rest)

-- hex written in pieces: one piece more, and nothing left
pub chunk_step : (out new rest front back text : List ℕ) (n : ℕ) → out ++ encode_lower rest ≡ text → new ≡ out ++ encode_lower front
    → front ≡ take n rest → back ≡ drop n rest → new ++ encode_lower back ≡ text
chunk_step out new rest front back text n e put f b =
    let split = encode_lower-split n rest in
    rw (put, f, b) (append_assoc out (encode_lower (take n rest)) (encode_lower (drop n rest)) ∙ ap (λ k. out ++ k) (sym split) ∙ e)

pub chunks_done : (out rest text : List ℕ) → length rest ≡ 0 → out ++ encode_lower rest ≡ text → out ≡ text
unfolding encode_with
chunks_done out [] text h e = sym (append-nil out) ∙ e
chunks_done out (x ∷ rest) text h e = absurd (omega arith)
