-- The journal of a log without damage is whole, and of one epoch where the log has no files of earlier openings.
use Rattle.std.proofs.Common.{◌≡◌, ◌⊎◌, inl, inr, ℕ, suc, ◌+◌, ◌-◌, ◌*◌, ◌%◌, ◌<◌, ◌≤◌, Bool, true, false, cond, ◌&&◌, ◌||◌, ◌==◌, nat_le, ltb, List, [], ◌∷◌, length, drop, IsTrue, refl, ap, ◌∙◌, subst, arith}
use Rattle.std.proofs.lemmas.Bool.{and_parts}
use Rattle.std.proofs.lemmas.Bool.Decides.{nat_tests}
use Rattle.std.specs.List.{AllByRecursion}
use Rattle.qls_model.specs.Limits.{file_size}
use Rattle.qls_site.specs.Disk.{Disk}
use Rattle.qls_filehdr.specs.declared.FileHeader.{FileHeader}
use Rattle.qls_filehdr.specs.Limits.{is_legal_header}
use Rattle.qls_filehdr.proofs.HeaderTrip.{legal_parts, most_of}
use Rattle.qls_meaning.specs.Journals.{Headed}
use Rattle.qls_meaning.specs.Dead.{after_end}
use Rattle.qls_meaning.specs.Orderly.{journal_on}
use Rattle.qls_laws.specs.Returns.{HasPlaces, IsWholeRun}
use Rattle.qls_epochs.specs.Whole.{IsWhole}
use Rattle.qls_blocks.specs.Laws.{HaveCapacity}
use Rattle.qls_pool.specs.Files.{HeadedFile}
use Rattle.qls_pool.proofs.Disks.{eqb_is}
use Rattle.qls_log.specs.declared.opening.Opening.{Opening}
use Rattle.qls_log.specs.Logs.{LogState, IsSound, IsOfOpening, IsOfJournal, capacity_in}
use Rattle.qls_log.specs.Standing.{files_on, AreThoseFiles, LogThere}
use Rattle.qls_log.specs.Soundness.{IsUndamaged}
use Rattle.qls_log.proofs.Appended.{sound_capacity}
use Rattle.qls_log.proofs.Older.{those_epoch}

or_cases : (a b : Bool) → (a || b) ≡ true → (a ≡ true) ⊎ (b ≡ true)
or_cases true b e = inl refl
or_cases false b e = inr e

has_places : (o : Opening) (h : HeadedFile) (f : Headed) → 0 < capacity_in o → IsTrue (is_legal_header h.header) → IsOfJournal o h → f.header ≡ h.header → length f.area ≡ capacity_in o → HasPlaces f
has_places o h f some legal own header area = record {
  some = omega (arith, some, area);
  first =
      by (or_cases (h.header.first == 0) (nat_le 4096 h.header.first && nat_le (h.header.first + 128) (file_size h.header.kib) && h.header.first % 128 == 0) (legal_parts h.header legal).first);
}
  where
    kib : h.header.kib ≡ o.home.kib
    kib = ap (λ (x : FileHeader). x.kib) own

    first : f.header.first ≡ h.header.first
    first = ap (λ (x : FileHeader). x.first) header

    by : ((h.header.first == 0) ≡ true) ⊎ ((nat_le 4096 h.header.first && nat_le (h.header.first + 128) (file_size h.header.kib) && h.header.first % 128 == 0) ≡ true)
        → (f.header.first ≡ 0) ⊎ ((4096 ≤ f.header.first) × (f.header.first - 4096 < length f.area))
    by (inl e) = inl (first ∙ eqb_is h.header.first 0 e)
    by (inr e) =
        let parts = and_parts _ _ (and_parts _ _ e).0 in
        let past : 4096 ≤ h.header.first = most_of 4096 h.header.first parts.0 in
        let within : h.header.first + 128 ≤ file_size h.header.kib = most_of (h.header.first + 128) (file_size h.header.kib) parts.1 in
        inr (omega (arith, past, first), omega (arith, past, within, kib, first, area))

pub all_places : (o : Opening) (hs : List HeadedFile) (fs : List Headed) → 0 < capacity_in o → AreThoseFiles (capacity_in o) hs fs → AllByRecursion (λ h. IsTrue (is_legal_header h.header)) hs → AllByRecursion (IsOfJournal o) hs → AllByRecursion HasPlaces fs
all_places o [] [] some t legal own = tt
all_places o [] (f ∷ fs) some t legal own = absurd t
all_places o (h ∷ hs) [] some t legal own = absurd t
all_places o (h ∷ hs) (f ∷ fs) some t legal own = (has_places o h f some legal.0 own.0 t.0.header t.0.area, all_places o hs fs some t.1 legal.1 own.1)

not_less : (m n : ℕ) → n ≤ m → ltb m n ≡ false
not_less m n h = grind (arith, nat_tests)

-- a reading that ends in the last file has none behind it
pub none_past : (room p : ℕ) (fs : List Headed) → HaveCapacity room fs → (length fs - 1) * room ≤ p → after_end p fs ≡ []
none_past room p [] have l = refl
none_past room p (f ∷ []) have l = last (ltb p (length f.area))
  where
    last : (b : Bool) → ◌≡◌ {A = List Headed} (cond b [] []) []
    last true = refl
    last false = refl
none_past room p (f ∷ g ∷ fs) have l =
    let more : (length fs + 1) * room ≤ p = subst (λ n. n * room ≤ p) (one_less (length fs)) l in
    let next : (length fs + 1) * room ≡ length fs * room + room = product (length fs) room in
    ap (λ b. cond b (g ∷ fs) (after_end (p - length f.area) (g ∷ fs))) (not_less p (length f.area) (omega (arith, more, next, have.0)))
    ∙ none_past room (p - length f.area) (g ∷ fs) have.1 (subst (λ n. n * room ≤ p - length f.area) (back (length fs)) (omega (arith, more, next, have.0)))
  where
    one_less : (n : ℕ) → suc (suc n) - 1 ≡ n + 1
    one_less n = omega arith

    back : (n : ℕ) → n ≡ suc n - 1
    back n = omega arith

    product : (n c : ℕ) → (n + 1) * c ≡ n * c + c
    product n c = grind arith

pub log_places : (l : LogState) (d : Disk) → IsSound l → AreThoseFiles (capacity_in l.opening) l.files (files_on l.opening d) → AllByRecursion HasPlaces (files_on l.opening d)
log_places l d sound those = all_places l.opening l.files (files_on l.opening d) (sound_capacity l.opening sound.opening).0 those sound.legal sound.all

pub log_whole : (l : LogState) (d : Disk) → IsSound l → LogThere l d → IsUndamaged l d → IsWhole (journal_on d l.opening.kind l.opening.name)
log_whole l d sound there u = record { places = log_places l d sound there.there.files; rules = record { chain = u.chain; reading = u.reading }; past = u.past }

pub log_is_whole : (l : LogState) (d : Disk) → l.older ≡ 0 → IsSound l → LogThere l d → IsUndamaged l d → IsWholeRun (journal_on d l.opening.kind l.opening.name)
log_is_whole l d none sound there u =
    let whole = log_whole l d sound there u in
    record {
      epoch = l.opening.epoch;
      one =
          those_epoch (capacity_in l.opening) l.opening l.files (files_on l.opening d) there.there.files
          (subst (λ n. AllByRecursion (IsOfOpening l.opening) (drop n l.files)) none sound.own);
      places = whole.places;
      rules = whole.rules;
      past = whole.past;
    }
