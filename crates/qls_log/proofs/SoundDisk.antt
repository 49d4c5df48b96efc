-- A disk of which every file in use belongs to the journal of a log without damage has none.
use Rattle.std.proofs.Common.{◌≡◌, ℕ, ◌-◌, ◌<◌, ◌≤◌, Bool, true, false, cond, List, [], ◌∷◌, map, length, take, Some, IsTrue, Ok, refl, sym, ap, ◌∙◌, subst, arith, eqb, leb, length-drop}
use Rattle.std.proofs.lemmas.Bool.{and_parts}
use Rattle.std.proofs.lemmas.Bool.Decides.{nat_tests}
use Rattle.std.specs.List.{AllByRecursion, filter, find}
use Rattle.qls_model.specs.Bytes.{same}
use Rattle.qls_model.specs.Limits.{file_size}
use Rattle.qls_model.proofs.XidKeys.{same_true}
use Rattle.qls_shape.specs.Claims.{claim, of_file, ◌>>=◌, ◌>>◌}
use Rattle.qls_site.specs.declared.site.ImageFile.{ImageFile}
use Rattle.qls_site.specs.Disk.{Disk, Image, full, full_file, file_of, bytes_at, seen_bytes}
use Rattle.qls_filehdr.specs.declared.FileHeader.{FileHeader}
use Rattle.qls_filehdr.specs.declared.JournalKind.{JournalKind}
use Rattle.qls_filehdr.specs.declared.JournalKind.TheVariants.{Queue, List as Listed}
use Rattle.qls_filehdr.specs.declared.Rule.TheVariants as rule
use Rattle.qls_filehdr.specs.Limits.{is_legal_header}
use Rattle.qls_filehdr.specs.Header.{header_spelling, header_of}
use Rattle.qls_filehdr.proofs.HeaderTrip.{header_of-header_spelling}
use Rattle.qls_meaning.specs.Journals.{Headed, is_of, same_kind, is_in_use, in_use, headed, journal, journals_of}
use Rattle.qls_meaning.specs.Chance.{image_bytes, bytes_in}
use Rattle.qls_meaning.specs.Damage.{header_claims, undamaged}
use Rattle.qls_laws.specs.Undamaged.{BreaksNoRule, journal_with}
use Rattle.qls_laws.proofs.CrashReading.{finds_own, Finds}
use Rattle.qls_laws.proofs.Rules.{All-filter}
use Rattle.qls_laws.proofs.Claimed.{claims}
use Rattle.qls_laws.proofs.Undamaged.{whole_is_undamaged}
use Rattle.qls_pool.specs.Files.{HeadedFile, IdsDiffer}
use Rattle.qls_log.specs.declared.opening.Opening.{Opening}
use Rattle.qls_log.specs.Logs.{LogState, IsSound, IsOfJournal, capacity_in}
use Rattle.qls_log.specs.Standing.{files_on, AreThoseFiles, LogThere}
use Rattle.qls_log.specs.Soundness.{IsUndamaged, BelongsToLog, AllBelongToLogs}
use Rattle.qls_log.proofs.Splits.{heads, mine, by_number-back}
use Rattle.qls_log.proofs.Appended.{sound_capacity}

-- ---- the files of a log's journal

-- one of the log's files, under its header
record IsShown (o : Opening) (d : Disk) (f : Headed) : Type 0 where
  file : HeadedFile
  id : f.id ≡ file.id
  area : length f.area ≡ capacity_in o
  legal : IsTrue (is_legal_header file.header)
  bytes : take 4096 (bytes_at file.id d) ≡ header_spelling file.header
  kib : file.header.kib ≡ o.home.kib

all_shown : (o : Opening) (d : Disk) (hs : List HeadedFile) (fs : List Headed) → AreThoseFiles (capacity_in o) hs fs → AllByRecursion (λ h. IsTrue (is_legal_header h.header)) hs → AllByRecursion (IsOfJournal o) hs
    → AllByRecursion (λ h. take 4096 (bytes_at h.id d) ≡ header_spelling h.header) hs → AllByRecursion (IsShown o d) fs
all_shown o d [] [] t legal own bytes = tt
all_shown o d [] (f ∷ fs) t legal own bytes = absurd t
all_shown o d (h ∷ hs) [] t legal own bytes = absurd t
all_shown o d (h ∷ hs) (f ∷ fs) t legal own bytes = (
  record { file = h; id = t.0.id; area = t.0.area; legal = legal.0; bytes = bytes.0; kib = ap (λ (x : FileHeader). x.kib) own.0 },
  all_shown o d hs fs t.1 legal.1 own.1 bytes.1,
)

filter_back : (P : Headed → Type 0) (test : Headed → Bool) (fs : List Headed) → AllByRecursion P (filter test fs) → AllByRecursion (λ f. test f ≡ true → P f) fs
filter_back P test [] h = tt
filter_back P test (f ∷ fs) h = (here (test f) refl h, filter_back P test fs (rest (test f) h))
  where
    here : (b : Bool) → test f ≡ b → AllByRecursion P (cond b (f ∷ filter test fs) (filter test fs)) → test f ≡ true → P f
    here true e k is = k.0
    here false e k is = absurd (cc)

    rest : (b : Bool) → AllByRecursion P (cond b (f ∷ filter test fs) (filter test fs)) → AllByRecursion P (filter test fs)
    rest true k = k.1
    rest false k = k

map_back : (P : Headed → Type 0) (i : Image) → AllByRecursion P (map headed i) → AllByRecursion (λ f. P (headed f)) i
map_back P [] h = tt
map_back P (f ∷ i) h = (h.0, map_back P i h.1)

map_on : (P : Headed → Type 0) (i : Image) → AllByRecursion (λ f. P (headed f)) i → AllByRecursion P (map headed i)
map_on P [] h = tt
map_on P (f ∷ i) h = (h.0, map_on P i h.1)

-- a file in use that is of the log's kind and name is one of its files
of_log : (l : LogState) (d : Disk) → IsSound l → LogThere l d → AllByRecursion (λ f. is_of l.opening.kind l.opening.name (headed f) ≡ true → IsShown l.opening d (headed f)) (in_use (full d))
of_log l d sound there =
    map_back (λ f. is_of l.opening.kind l.opening.name f ≡ true → IsShown l.opening d f) (in_use (full d))
    (filter_back (IsShown l.opening d) (is_of l.opening.kind l.opening.name) (heads d)
    (by_number-back (IsShown l.opening d) (mine l.opening.kind l.opening.name d) (all_shown l.opening d l.files (files_on l.opening d) there.there.files sound.legal sound.all there.there.headers)))

-- ---- bytes

same_found : (id : ℕ) (d : Disk) → bytes_in (full d) id ≡ bytes_at id d
same_found id [] = refl
same_found id (f ∷ d) =
    elim (eqb f.id id) as (λ b. image_bytes (cond b (Some (full_file f)) (find (λ g. eqb g.id id) (full d))) ≡ seen_bytes (cond b (Some f) (file_of id d))) [ true ↦ refl | false ↦ same_found id d ]

all_found : (d : Disk) (i : Image) → Finds (full d) i → AllByRecursion (λ f. bytes_at f.id d ≡ f.bytes) i
all_found d [] h = tt
all_found d (f ∷ i) h = (sym (same_found f.id d) ∙ h.0, all_found d i h.1)

found_there : (d : Disk) → IdsDiffer d → AllByRecursion (λ f. bytes_at f.id d ≡ f.bytes) (in_use (full d))
found_there d differ = All-filter (λ f. bytes_at f.id d ≡ f.bytes) (λ f. is_in_use f.place) (full d) (all_found d (full d) (finds_own (full d) differ))

-- ---- one file

at_least : (m n : ℕ) → m ≤ n → leb m n ≡ true
at_least m n h = grind (arith, nat_tests)

equal : (m n : ℕ) → m ≡ n → eqb m n ≡ true
equal m n e = grind (arith, nat_tests)

header_kept : (o : Opening) (d : Disk) (f : ImageFile) → 0 < capacity_in o → IsShown o d (headed f) → bytes_at f.id d ≡ f.bytes → header_claims f ≡ Ok tt
header_kept o d f some s found =
    let h : FileHeader = s.file.header in
    let front : take 4096 f.bytes ≡ header_spelling h = ap (take 4096) (sym found ∙ ap (λ n. bytes_at n d) s.id) ∙ s.bytes in
    let read : header_of (take 4096 f.bytes) ≡ Ok h = ap header_of front ∙ header_of-header_spelling h s.legal in
    let size : length f.bytes - 4096 ≡ capacity_in o = sym (length-drop 4096 f.bytes) ∙ s.area in
    let whole : length f.bytes ≡ file_size h.kib = omega (arith, size, some, s.kib) in
    let short : leb 4096 (length f.bytes) ≡ true = at_least 4096 (length f.bytes) (omega (arith, size, some)) in
    (λ k. of_file f.id (claim (short k) rule.Short >> (read k >>= λ x. claim (eqb (length f.bytes) (file_size x.kib)) rule.Size)))
    ∙ claims f.id (eqb (length f.bytes) (file_size h.kib)) rule.Size (equal (length f.bytes) (file_size h.kib) whole)

kind_is : (a b : JournalKind) → same_kind a b ≡ true → a ≡ b
kind_is Queue Queue e = refl
kind_is Queue Listed e = absurd (cc)
kind_is Listed Queue e = absurd (cc)
kind_is Listed Listed e = refl

journal_kept : (d : Disk) (f : Headed) (l : LogState) → is_of l.opening.kind l.opening.name f ≡ true → IsUndamaged l d → BreaksNoRule (journal_with (heads d) f)
journal_kept d f l own u =
    let parts = and_parts (same_kind l.opening.kind f.header.kind) (same l.opening.name f.header.name) own in
    let kind : l.opening.kind ≡ f.header.kind = kind_is l.opening.kind f.header.kind parts.0 in
    let name : l.opening.name ≡ f.header.name = same_true l.opening.name f.header.name parts.1 in
    subst (λ (X : Type 0). X) (λ i. BreaksNoRule (journal (heads d) (kind i) (name i))) (record { chain = u.chain; reading = u.reading })

record IsKept (d : Disk) (f : ImageFile) : Type 0 where
  header : header_claims f ≡ Ok tt
  journal : BreaksNoRule (journal_with (heads d) (headed f))

kept : (d : Disk) (f : ImageFile) (b : BelongsToLog d f) → (is_of b.log.opening.kind b.log.opening.name (headed f) ≡ true → IsShown b.log.opening d (headed f)) → bytes_at f.id d ≡ f.bytes → IsKept d f
kept d f b shown found = record {
  header = header_kept b.log.opening d f (sound_capacity b.log.opening b.sound.opening).0 (shown b.own) found;
  journal = journal_kept d (headed f) b.log b.own b.undamaged;
}

-- ---- all files

all_kept : (d : Disk) (i : Image) → ((P : ImageFile → Type 0) → AllByRecursion P (in_use (full d)) → AllByRecursion P i) → AllByRecursion (BelongsToLog d) i → AllByRecursion (IsKept d) i
all_kept d [] among h = tt
all_kept d (f ∷ i) among h =
    let b : BelongsToLog d f = h.0 in (
      kept d f b (among (λ g. is_of b.log.opening.kind b.log.opening.name (headed g) ≡ true → IsShown b.log.opening d (headed g)) (of_log b.log d b.sound b.there)).0
          (among (λ g. bytes_at g.id d ≡ g.bytes) (found_there d b.there.there.differ)).0,
      all_kept d i (λ P k. (among P k).1) h.1,
    )

all_by : (P : ImageFile → Type 0) (d : Disk) → ((f : ImageFile) → IsKept d f → P f) → (i : Image) → AllByRecursion (IsKept d) i → AllByRecursion P i
all_by P d w [] h = tt
all_by P d w (f ∷ i) h = (w f h.0, all_by P d w i h.1)

pub logs_make_a_whole_disk : (d : Disk) → AllBelongToLogs d → undamaged (full d) ≡ Ok (journals_of (full d))
logs_make_a_whole_disk d h =
    let all : AllByRecursion (IsKept d) (in_use (full d)) = all_kept d (in_use (full d)) (λ P k. k) h.files in
    whole_is_undamaged (full d) (record { ids = h.ids; pools = h.pools; headers = all_by (λ f. header_claims f ≡ Ok tt) d (λ f k. k.header) (in_use (full d)) all })
    (map_on (λ f. BreaksNoRule (journal_with (heads d) f)) (in_use (full d)) (all_by (λ f. BreaksNoRule (journal_with (heads d) (headed f))) d (λ f k. k.journal) (in_use (full d)) all))
