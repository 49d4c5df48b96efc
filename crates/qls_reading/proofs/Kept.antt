-- What is left of a journal's files without those past the reading ends in the journal's newest epoch.
use Rattle.std.proofs.Common.{◌≡◌, ℕ, zero, suc, ◌+◌, ◌-◌, ◌<◌, Bool, true, false, cond, List, [], ◌∷◌, map, length, take, refl, sym, ◌∙◌, arith, eqb}
use Rattle.std.proofs.lemmas.Bool.Decides.{nat_tests}
use Rattle.std.proofs.lemmas.List.{length-map}
use Rattle.qls_log.specs.Trimming.{last_epoch, without_last}
use Rattle.qls_scan.specs.declared.answers.HeadedFile.{HeadedFile}
use Rattle.qls_scan.specs.declared.answers.JournalFiles.{JournalFiles}
use Rattle.qls_reading.specs.Groups.{run_of, last_run}
use Rattle.qls_reading.specs.ReadLogs.{linked, linked_files}
use Rattle.qls_reading.proofs.Newest.{last_within, counted}

same_epoch : (m n : ℕ) → eqb m n ≡ true → m ≡ n
same_epoch m n e = grind (arith, nat_tests, e)

-- in a run each file has its epoch, also the last of those in front
run_last : (epoch k : ℕ) (f : HeadedFile) (fs : List HeadedFile) → f.header.epoch ≡ epoch → length (run_of epoch fs) ≡ length fs → last_epoch (linked f ∷ take k (map linked fs)) ≡ epoch
run_last epoch zero f fs is e = is
run_last epoch (suc k) f [] is e = is
run_last epoch (suc k) f (g ∷ fs) is e = by (eqb g.header.epoch epoch) refl e (run_last epoch k g fs)
  where
    by : (b : Bool) → eqb g.header.epoch epoch ≡ b → length (cond b (g ∷ run_of epoch fs) []) ≡ suc (length fs)
        → (g.header.epoch ≡ epoch → length (run_of epoch fs) ≡ length fs → last_epoch (linked g ∷ take k (map linked fs)) ≡ epoch) → last_epoch (linked g ∷ take k (map linked fs)) ≡ epoch
    by true t e rest = rest (same_epoch g.header.epoch epoch t) (omega (arith, e))
    by false t e rest = absurd (omega (arith, e))

run_end : (epoch : ℕ) (f : HeadedFile) (fs : List HeadedFile) → f.header.epoch ≡ epoch → length (run_of epoch fs) ≡ length fs → last_epoch (linked f ∷ map linked fs) ≡ epoch
run_end epoch f [] is e = is
run_end epoch f (g ∷ fs) is e = by (eqb g.header.epoch epoch) refl e (run_end epoch g fs)
  where
    by : (b : Bool) → eqb g.header.epoch epoch ≡ b → length (cond b (g ∷ run_of epoch fs) []) ≡ suc (length fs)
        → (g.header.epoch ≡ epoch → length (run_of epoch fs) ≡ length fs → last_epoch (linked g ∷ map linked fs) ≡ epoch) → last_epoch (linked g ∷ map linked fs) ≡ epoch
    by true t e rest = rest (same_epoch g.header.epoch epoch t) (omega (arith, e))
    by false t e rest = absurd (omega (arith, e))

kept_epoch : (k : ℕ) (hs : List HeadedFile) → length hs < k + length (last_run hs) → last_epoch (take k (map linked hs)) ≡ last_epoch (map linked hs)
kept_epoch zero [] l = refl
kept_epoch (suc k) [] l = refl
kept_epoch zero (f ∷ fs) l = let within = last_within (f ∷ fs) in absurd (omega (arith, l, within))
kept_epoch (suc k) (f ∷ []) l = run_last f.header.epoch k f [] refl refl
kept_epoch (suc k) (f ∷ g ∷ fs) l = by (eqb (length (run_of f.header.epoch (g ∷ fs))) (length (g ∷ fs))) refl l (kept_epoch k (g ∷ fs))
  where
    further : (m : ℕ) → last_epoch (take m (map linked (g ∷ fs))) ≡ last_epoch (map linked (g ∷ fs)) → 0 < m → last_epoch (linked f ∷ take m (map linked (g ∷ fs))) ≡ last_epoch (map linked (g ∷ fs))
    further zero e l = absurd (omega (arith, l))
    further (suc m) e l = e

    by : (b : Bool) → eqb (length (run_of f.header.epoch (g ∷ fs))) (length (g ∷ fs)) ≡ b → suc (length (g ∷ fs)) < suc k + length (cond b (f ∷ g ∷ fs) (last_run (g ∷ fs)))
        → (length (g ∷ fs) < k + length (last_run (g ∷ fs)) → last_epoch (take k (map linked (g ∷ fs))) ≡ last_epoch (map linked (g ∷ fs)))
        → last_epoch (linked f ∷ take k (map linked (g ∷ fs))) ≡ last_epoch (linked f ∷ map linked (g ∷ fs))
    by true t l rest =
        let run = counted (length (run_of f.header.epoch (g ∷ fs))) (length (g ∷ fs)) t in
        run_last f.header.epoch k f (g ∷ fs) refl run ∙ sym (run_end f.header.epoch f (g ∷ fs) refl run)
    by false t l rest =
        let within = last_within (g ∷ fs) in
        further k (rest (omega (arith, l))) (omega (arith, l, within))

pub epoch_kept : (j : JournalFiles) (past : ℕ) → past < length (last_run j.files) → last_epoch (without_last past (linked_files j)) ≡ last_epoch (linked_files j)
epoch_kept j past l =
    let size : length (map linked j.files) ≡ length j.files = length-map j.files linked in
    let within = last_within j.files in
    kept_epoch (length (map linked j.files) - past) j.files (omega (arith, l, size, within))

pub fewer : (j : JournalFiles) (past : ℕ) → past < length (last_run j.files) → past < length (linked_files j)
fewer j past l =
    let size : length (map linked j.files) ≡ length j.files = length-map j.files linked in
    let within = last_within j.files in
    omega (arith, l, size, within)
