-- A mix of sectors begins with one sector.
use Rattle.std.proofs.Common.{◌≡◌, ℕ, zero, suc, ◌-◌, ◌<◌, Bool, List, ◌++◌, take, drop, cond, ap, append_assoc, arith}
use Rattle.qls_site.specs.Chosen.{first_choice, mixed}

pub mixed_next : (n : ℕ) (cs : List Bool) (new old : List ℕ) → 0 < n → mixed n cs new old ≡ cond (first_choice cs) (take 512 new) (take 512 old) ++ mixed (n - 1) (drop 1 cs) (drop 512 new) (drop 512 old)
mixed_next zero cs new old h = absurd (omega arith)
mixed_next (suc n) cs new old h =
    let one_less : n ≡ suc n - 1 = omega arith in
    ap (λ m. cond (first_choice cs) (take 512 new) (take 512 old) ++ mixed m (drop 1 cs) (drop 512 new) (drop 512 old)) one_less

-- one sector more in the mix
pub mixed_more : (n : ℕ) (cs cs' : List Bool) (new new' old old' new_sector old_sector picked out out' whole : List ℕ) → 0 < n → out ++ mixed n cs new old ≡ whole
    → new_sector ≡ take 512 new → old_sector ≡ take 512 old → picked ≡ cond (first_choice cs) new_sector old_sector → out' ≡ out ++ picked
    → cs' ≡ drop 1 cs → new' ≡ drop 512 new → old' ≡ drop 512 old → out' ++ mixed (n - 1) cs' new' old' ≡ whole
mixed_more n cs cs' new new' old old' new_sector old_sector picked out out' whole some was first second pick more c a b =
    rw (more, pick, first, second, c, a, b, append_assoc out (cond (first_choice cs) (take 512 new) (take 512 old)) (mixed (n - 1) (drop 1 cs) (drop 512 new) (drop 512 old)), ← mixed_next n cs new old some) was
