-- The last of some files, and the end of their reading.
use Rattle.std.proofs.Common.{◌≡◌, ◌+◌, ◌-◌, ◌*◌, ◌<◌, List, [], ◌∷◌, length, get_or, refl, ap, ◌∙◌, arith}
use Rattle.qls_scan.specs.declared.answers.HeadedFile.{HeadedFile}
use Rattle.qls_reading.specs.declared.rules.Spot.{Spot}
use Rattle.qls_reading.specs.Groups.{last_spot}

abbrev pub end_spot_of : HeadedFile → Spot
end_spot_of f = record { file = f.header.number; at = 4096 + 1024 * f.header.kib }

last_of : (f : HeadedFile) (fs : List HeadedFile) (x : HeadedFile) → last_spot (f ∷ fs) ≡ end_spot_of (get_or (f ∷ fs) (length fs) x)
last_of f [] x = refl
last_of f (g ∷ fs) x = last_of g fs x

pub last_is : (fs : List HeadedFile) (x : HeadedFile) → 0 < length fs → last_spot fs ≡ end_spot_of (get_or fs (length fs - 1) x)
last_is [] x h = absurd (omega (arith, h))
last_is (f ∷ fs) x h = last_of f fs x ∙ ap (λ n. end_spot_of (get_or (f ∷ fs) n x)) (omega arith)
