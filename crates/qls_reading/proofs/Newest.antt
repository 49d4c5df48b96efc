-- The files at the end of a journal that have its newest epoch.
use Rattle.std.proofs.Common.{◌≡◌, ℕ, zero, suc, ◌+◌, ◌-◌, ◌<◌, ◌≤◌, Bool, true, false, cond, List, [], ◌∷◌, length, take, drop, sym, ap, ◌∙◌, subst, arith, eqb, length-drop}
use Rattle.std.proofs.lemmas.Bool.Decides.{nat_tests}
use Rattle.qls_scan.specs.declared.answers.HeadedFile.{HeadedFile}
use Rattle.qls_reading.specs.Groups.{run_of, first_run, last_run}
use Rattle.qls_reading.proofs.Runs.{rest_whole}

same_count : (m n : ℕ) → m ≡ n → eqb m n ≡ true
same_count m n e = grind (arith, nat_tests, e)

pub counted : (m n : ℕ) → eqb m n ≡ true → m ≡ n
counted m n e = grind (arith, nat_tests, e)

pub last_within : (hs : List HeadedFile) → length (last_run hs) ≤ length hs
last_within [] = omega arith
last_within (f ∷ fs) = by (eqb (length (run_of f.header.epoch fs)) (length fs)) (last_within fs)
  where
    by : (b : Bool) → length (last_run fs) ≤ length fs → length (cond b (f ∷ fs) (last_run fs)) ≤ suc (length fs)
    by true rest = omega arith
    by false rest = omega (arith, rest)

-- a run that goes to the end is part of the last one
pub last_least : (n : ℕ) (hs : List HeadedFile) → length (first_run (drop n hs)) ≡ length (drop n hs) → length (drop n hs) ≤ length (last_run hs)
last_least zero [] e = omega arith
last_least (suc n) [] e = omega arith
last_least zero (f ∷ fs) e =
    let whole : eqb (length (run_of f.header.epoch fs)) (length fs) ≡ true = same_count (length (run_of f.header.epoch fs)) (length fs) (omega (arith, e)) in
    subst (λ b. suc (length fs) ≤ length (cond b (f ∷ fs) (last_run fs))) (sym whole) (omega arith)
last_least (suc n) (f ∷ fs) e = by (eqb (length (run_of f.header.epoch fs)) (length fs)) (last_least n fs e)
  where
    by : (b : Bool) → length (drop n fs) ≤ length (last_run fs) → length (drop n fs) ≤ length (cond b (f ∷ fs) (last_run fs))
    by true rest = omega (arith, length-drop n fs)
    by false rest = rest

-- fewer files than the run from here on has, where it goes to the end
pub past_last : (hs : List HeadedFile) (from to past : ℕ) → to ≡ from + length (first_run (drop from hs)) → to ≡ length hs → past < length (take (to - from) (drop from hs)) → past < length (last_run hs)
past_last hs from to past run end less =
    let size = length-drop from hs in
    let whole : length (first_run (drop from hs)) ≡ length (drop from hs) = omega (arith, run, end, size) in
    let most = last_least from hs whole in
    let all : length (take (to - from) (drop from hs)) ≡ length (drop from hs) = ap (λ n. length (take (n - from) (drop from hs))) end ∙ ap length (rest_whole from hs) in
    omega (arith, less, all, most)
