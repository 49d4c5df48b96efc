-- The files of a journal that was read, as they rest on the disk.
use Rattle.std.proofs.Common.{◌≡◌, ℕ, ◌+◌, ◌*◌, ◌<◌, Bool, true, false, cond, ◌||◌, ◌&&◌, List, [], ◌∷◌, map, length, take, drop, Option, Some, None, refl, sym, ap, ◌∙◌, subst, arith, eqb, ltb, nat_eq, length-drop}
use Rattle.std.proofs.lemmas.Bool.Decides.{nat_tests}
use Rattle.std.specs.List.{AllByRecursion, filter}
use Rattle.qls_site.specs.declared.site.Place.{Place}
use Rattle.qls_site.specs.declared.site.Place.TheVariants.{InUse, Empty}
use Rattle.qls_site.specs.Disk.{Disk, FileState, Image, IsQuiet, IdsRise, AllAbove, file_of, full, full_file, bytes_at, seen_bytes, size_of, all_written}
use Rattle.qls_model.specs.Limits.{file_size}
use Rattle.qls_filehdr.specs.declared.JournalKind.{JournalKind}
use Rattle.qls_filehdr.specs.Header.{header_spelling}
use Rattle.qls_filehdr.proofs.HeaderTrip.{legal_parts}
use Rattle.qls_meaning.specs.Journals.{Headed, headed, in_use, is_in_use, is_of, with_numbered, by_number}
use Rattle.qls_meaning.specs.Kept.{Differ, ids_of}
use Rattle.qls_meaning.specs.Orderly.{journal_on}
use Rattle.qls_laws.proofs.Seen.{All-journal}
use Rattle.qls_pool.specs.Files.{HeadedFile as LinkedFile, LinkedThere, RestsThere, IsLinked, IsAtRest, IdsDiffer}
use Rattle.qls_log.specs.Standing.{AreApart, AreThoseFiles, RestsBut}
use Rattle.qls_scan.specs.declared.answers.HeadedFile.{HeadedFile}
use Rattle.qls_scan.specs.Found.{head_of}
use Rattle.qls_scan.specs.Heads.{HasLegalHeader}
use Rattle.qls_reading.specs.ReadLogs.{linked}
use Rattle.qls_reading.proofs.Begins.{kib_some}

-- ---- ids

above_differ : (id : ℕ) (i : Image) → AllAbove id i → AllByRecursion (λ n. nat_eq id n ≡ false) (ids_of i)
above_differ id [] h = tt
above_differ id (f ∷ i) h = (other id f.id h.0, above_differ id i h.1)
  where
    other : (m n : ℕ) → m < n → nat_eq m n ≡ false
    other m n l = grind (arith, nat_tests, l)

pub ids_differ : (i : Image) → IdsRise i → Differ (ids_of i)
ids_differ [] h = tt
ids_differ (f ∷ i) h = (above_differ f.id i h.0, ids_differ i h.1)

-- each file is found by its id
abbrev IsFound : Disk → FileState → Type 0
IsFound d f = file_of f.id d ≡ Some f

own_found : (f : FileState) (rest : Option FileState) → cond (eqb f.id f.id) (Some f) rest ≡ Some f
own_found f rest = let same : eqb f.id f.id ≡ true = grind (arith, nat_tests) in ap (λ b. cond b (Some f) rest) same

found_behind : (g : FileState) (d rest : Disk) → AllByRecursion (λ n. nat_eq g.id n ≡ false) (ids_of (full rest)) → AllByRecursion (IsFound d) rest → AllByRecursion (IsFound (g ∷ d)) rest
found_behind g d [] n h = tt
found_behind g d (f ∷ rest) n h = (ap (λ b. cond b (Some g) (file_of f.id d)) n.0 ∙ h.0, found_behind g d rest n.1 h.1)

found_all : (d : Disk) → IdsDiffer d → AllByRecursion (IsFound d) d
found_all [] h = tt
found_all (f ∷ d) h = (own_found f (file_of f.id d), found_behind f d d h.0 (found_all d h.1))

-- ---- a file of a journal, as the disk has it

pub record IsSeen (d : Disk) (f : Headed) : Type 0 where
  pub state : FileState
  pub found : file_of f.id d ≡ Some state
  pub used : state.place ≡ InUse
  pub is : headed (full_file state) ≡ f

place_used : (p : Place) → is_in_use p ≡ true → p ≡ InUse
place_used InUse e = refl
place_used (Empty part kib) e = absurd (cc)

seen_all : (d all : Disk) → AllByRecursion (IsFound all) d → AllByRecursion (IsSeen all) (map headed (in_use (full d)))
seen_all [] all h = tt
seen_all (f ∷ d) all h = by_place (is_in_use f.place) refl (seen_all d all h.1)
  where
    by_place : (b : Bool) → is_in_use f.place ≡ b → AllByRecursion (IsSeen all) (map headed (in_use (full d))) → AllByRecursion (IsSeen all) (map headed (cond b (full_file f ∷ in_use (full d)) (in_use (full d))))
    by_place true used rest = (record { state = f; found = h.0; used = place_used f.place used; is = refl }, rest)
    by_place false used rest = rest

pub all_seen : (d : Disk) (kind : JournalKind) (name : List ℕ) → IdsDiffer d → AllByRecursion (IsSeen d) (journal_on d kind name).files
all_seen d kind name differ = All-journal (IsSeen d) (map headed (in_use (full d))) kind name (seen_all d d (found_all d differ))

quiet_found : (id : ℕ) (d : Disk) (f : FileState) → IsQuiet d → file_of id d ≡ Some f → f.pending ≡ []
quiet_found id [] f quiet e = absurd (cc)
quiet_found id (g ∷ d) f quiet e = by (eqb g.id id) e (quiet_found id d f quiet.1)
  where
    is_some : Some g ≡ Some f → g ≡ f
    is_some e = cc

    by : (b : Bool) → cond b (Some g) (file_of id d) ≡ Some f → (file_of id d ≡ Some f → f.pending ≡ []) → f.pending ≡ []
    by true e rest = ap (λ (x : FileState). x.pending) (sym (is_some e)) ∙ quiet.0
    by false e rest = rest e

-- ---- it rests there

whole_size : (bytes : List ℕ) (n : ℕ) → length (drop 4096 bytes) ≡ n → 0 < n → length bytes ≡ 4096 + n
whole_size bytes n e some = let cut = length-drop 4096 bytes in omega (arith, e, some, cut)

kib_size : (kib size : ℕ) → size ≡ 4096 + 1024 * kib → size ≡ file_size kib
kib_size kib size e = e

rests_one : (d : Disk) (f : Headed) → IsQuiet d → IsSeen d f → length f.area ≡ 1024 * f.header.kib → HasLegalHeader (head_of f) → take 4096 (bytes_at f.id d) ≡ header_spelling f.header → RestsThere (linked (head_of f)) d
rests_one d f quiet seen size legal spelled =
    let state : FileState = seen.state in
    let none : state.pending ≡ [] = quiet_found f.id d state quiet seen.found in
    let same : all_written state.pending state.stable ≡ state.stable = ap (λ ws. all_written ws state.stable) none in
    let area : length (drop 4096 (all_written state.pending state.stable)) ≡ 1024 * f.header.kib = ap (λ (h : Headed). length h.area) seen.is ∙ size in
    let some = kib_some f.header.kib (legal_parts f.header legal).kib in
    let whole : size_of state ≡ file_size f.header.kib = kib_size f.header.kib (size_of state) (whole_size (all_written state.pending state.stable) (1024 * f.header.kib) area (omega (arith, some))) in
    let front : take 4096 state.stable ≡ header_spelling f.header = ap (take 4096) (sym same) ∙ ap (λ o. take 4096 (seen_bytes o)) (sym seen.found) ∙ spelled in
    subst (IsAtRest (linked (head_of f))) (sym seen.found) (seen.used, none, record { size = whole; stable = front })

pub rest_all : (d : Disk) (fs : List Headed) → IsQuiet d → AllByRecursion (IsSeen d) fs → AllByRecursion (λ f. length f.area ≡ 1024 * f.header.kib) fs → AllByRecursion HasLegalHeader (map head_of fs)
    → AllByRecursion (λ f. take 4096 (bytes_at f.id d) ≡ header_spelling f.header) (map head_of fs) → AllByRecursion (λ h. RestsThere h d) (map linked (map head_of fs))
rest_all d [] quiet seen size legal spelled = tt
rest_all d (f ∷ fs) quiet seen size legal spelled = (rests_one d f quiet seen.0 size.0 legal.0 spelled.0, rest_all d fs quiet seen.1 size.1 legal.1 spelled.1)

linked_one : (h : LinkedFile) (o : Option FileState) → IsAtRest h o → IsLinked h o
linked_one h None r = absurd r
linked_one h (Some f) r = (r.0, r.2)

pub linked_all : (d : Disk) (hs : List LinkedFile) → AllByRecursion (λ h. RestsThere h d) hs → AllByRecursion (λ h. LinkedThere h d) hs
linked_all d [] r = tt
linked_all d (h ∷ hs) r = (linked_one h (file_of h.id d) r.0, linked_all d hs r.1)

pub rest_but : (d : Disk) (hs : List LinkedFile) → AllByRecursion (λ h. RestsThere h d) hs → RestsBut [] hs d
rest_but d [] r = tt
rest_but d (h ∷ hs) r = ((λ _. r.0), rest_but d hs r.1)

pub headed_all : (d : Disk) (hs : List HeadedFile) → AllByRecursion (λ f. take 4096 (bytes_at f.id d) ≡ header_spelling f.header) hs → AllByRecursion (λ h. take 4096 (bytes_at h.id d) ≡ header_spelling h.header) (map linked hs)
headed_all d [] h = tt
headed_all d (f ∷ hs) h = (h.0, headed_all d hs h.1)

pub those_all : (kib : ℕ) (fs : List Headed) → AllByRecursion (λ f. length f.area ≡ 1024 * f.header.kib) fs → AllByRecursion (λ h. h.header.kib ≡ kib) (map head_of fs) → AreThoseFiles (kib * 1024) (map linked (map head_of fs)) fs
those_all kib [] size home = tt
those_all kib (f ∷ fs) size home = (record { id = refl; header = refl; area = size.0 ∙ ap (λ k. 1024 * k) home.0 ∙ turned kib }, those_all kib fs size.1 home.1)
  where
    turned : (k : ℕ) → 1024 * k ≡ k * 1024
    turned k = omega arith

-- ---- no two have the same id

abbrev Lacks : ℕ → List Headed → Type 0
Lacks id fs = AllByRecursion (λ g. (g.id ≡ id) → ⊥) fs

abbrev Apart : List Headed → Type 0
Apart [] = Unit {0}
Apart (f ∷ fs) = Lacks f.id fs × Apart fs

lacks_filter : (id : ℕ) (test : Headed → Bool) (fs : List Headed) → Lacks id fs → Lacks id (filter test fs)
lacks_filter id test [] h = tt
lacks_filter id test (f ∷ fs) h = elim (test f) as (λ b. Lacks id (cond b (f ∷ filter test fs) (filter test fs))) [
  | true ↦ (h.0, lacks_filter id test fs h.1)
  | false ↦ lacks_filter id test fs h.1
]

apart_filter : (test : Headed → Bool) (fs : List Headed) → Apart fs → Apart (filter test fs)
apart_filter test [] h = tt
apart_filter test (f ∷ fs) h = elim (test f) as (λ b. Apart (cond b (f ∷ filter test fs) (filter test fs))) [
  | true ↦ (lacks_filter f.id test fs h.0, apart_filter test fs h.1)
  | false ↦ apart_filter test fs h.1
]

abbrev goes_first : Headed → Headed → Bool
goes_first f g = ltb f.header.number g.header.number || (eqb f.header.number g.header.number && ltb f.id g.id)

lacks_with : (id : ℕ) (f : Headed) (fs : List Headed) → (f.id ≡ id → ⊥) → Lacks id fs → Lacks id (with_numbered f fs)
lacks_with id f [] other h = (other, tt)
lacks_with id f (g ∷ fs) other h = elim (goes_first f g) as (λ b. Lacks id (cond b (f ∷ g ∷ fs) (g ∷ with_numbered f fs))) [
  | true ↦ (other, h)
  | false ↦ (h.0, lacks_with id f fs other h.1)
]

apart_with : (f : Headed) (fs : List Headed) → Lacks f.id fs → Apart fs → Apart (with_numbered f fs)
apart_with f [] lacks h = (tt, tt)
apart_with f (g ∷ fs) lacks h = elim (goes_first f g) as (λ b. Apart (cond b (f ∷ g ∷ fs) (g ∷ with_numbered f fs))) [
  | true ↦ (lacks, h)
  | false ↦ (lacks_with g.id f fs (λ e. lacks.0 (sym e)) h.0, apart_with f fs lacks.1 h.1)
]

lacks_sorted : (id : ℕ) (fs : List Headed) → Lacks id fs → Lacks id (by_number fs)
lacks_sorted id [] h = tt
lacks_sorted id (f ∷ fs) h = lacks_with id f (by_number fs) h.0 (lacks_sorted id fs h.1)

apart_sorted : (fs : List Headed) → Apart fs → Apart (by_number fs)
apart_sorted [] h = tt
apart_sorted (f ∷ fs) h = apart_with f (by_number fs) (lacks_sorted f.id fs h.0) (apart_sorted fs h.1)

lacks_used : (id : ℕ) (i : Image) → AllByRecursion (λ n. nat_eq id n ≡ false) (ids_of i) → Lacks id (map headed (in_use i))
lacks_used id [] h = tt
lacks_used id (f ∷ i) h = elim (is_in_use f.place) as (λ b. Lacks id (map headed (cond b (f ∷ in_use i) (in_use i)))) [
  | true ↦ ((λ e. unequal id f.id h.0 (sym e)), lacks_used id i h.1)
  | false ↦ lacks_used id i h.1
]
  where
    unequal : (m n : ℕ) → nat_eq m n ≡ false → m ≡ n → ⊥
    unequal m n t e = absurd (grind (arith, nat_tests, t, e))

apart_used : (i : Image) → Differ (ids_of i) → Apart (map headed (in_use i))
apart_used [] h = tt
apart_used (f ∷ i) h = elim (is_in_use f.place) as (λ b. Apart (map headed (cond b (f ∷ in_use i) (in_use i)))) [
  | true ↦ (lacks_used f.id i h.0, apart_used i h.1)
  | false ↦ apart_used i h.1
]

apart_linked : (fs : List Headed) → Apart fs → AreApart (map linked (map head_of fs))
apart_linked [] h = tt
apart_linked (f ∷ fs) h = (lacking fs h.0, apart_linked fs h.1)
  where
    lacking : (gs : List Headed) → Lacks f.id gs → AllByRecursion (λ g. (g.id ≡ f.id) → ⊥) (map linked (map head_of gs))
    lacking [] k = tt
    lacking (g ∷ gs) k = (k.0, lacking gs k.1)

pub all_apart : (d : Disk) (kind : JournalKind) (name : List ℕ) → IdsDiffer d → AreApart (map linked (map head_of (journal_on d kind name).files))
all_apart d kind name differ = apart_linked (journal_on d kind name).files (apart_sorted (filter (is_of kind name) (map headed (in_use (full d)))) (apart_filter (is_of kind name) (map headed (in_use (full d))) (apart_used (full d) differ)))
