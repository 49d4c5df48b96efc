-- Each file in use on a disk that was scanned is one of a journal that was read.
use Rattle.std.proofs.Common.{◌≡◌, inl, inr, ℕ, Bool, true, false, cond, not, ◌&&◌, ◌||◌, ◌+◌, List, [], ◌∷◌, ◌++◌, map, take, length, Some, Result, Ok, Err, refl, sym, ap, ap₂, ◌∙◌, subst, eqb, leb}
use Rattle.std.proofs.lemmas.Bool.{and_parts}
use Rattle.std.proofs.lemmas.List.Folds.{list_any-append}
use Rattle.std.specs.List.{AllByRecursion, list_any, filter}
use Rattle.qls_shape.specs.Claims.{each, claim, of_file, ◌>>=◌, ◌>>◌}
use Rattle.qls_model.specs.Bytes.{same, is_listed}
use Rattle.qls_model.specs.Limits.{file_size}
use Rattle.qls_model.proofs.XidKeys.{same_true, same_self}
use Rattle.qls_site.specs.declared.site.ImageFile.{ImageFile}
use Rattle.qls_site.specs.Disk.{Disk, Image, FileState, full, full_file, file_of}
use Rattle.qls_filehdr.specs.declared.FileHeader.{FileHeader}
use Rattle.qls_filehdr.specs.declared.JournalKind.{JournalKind}
use Rattle.qls_filehdr.specs.declared.JournalKind.TheVariants.{Queue, List as Listed}
use Rattle.qls_filehdr.specs.declared.Rule.{Rule}
use Rattle.qls_filehdr.specs.declared.Rule.TheVariants as rule
use Rattle.qls_filehdr.specs.Header.{header_of, header_fields, number_claims, rest_claims}
use Rattle.qls_filehdr.specs.Limits.{is_name}
use Rattle.std.specs.Int.{w16}
use Rattle.qls_shape.specs.Fields.{number_at}
use Rattle.qls_meaning.specs.Journals.{Headed, Journal, is_queue, same_kind, is_of, is_in_use, in_use, headed, by_number, journal, queue_names, list_journals, journals, journals_of}
use Rattle.qls_meaning.specs.Damage.{Damage, Checked, header_claims, scanned}
use Rattle.qls_meaning.specs.Orderly.{journal_on}
use Rattle.qls_laws.proofs.Claimed.{next_ok}
use Rattle.qls_scan.specs.declared.answers.JournalFiles.{JournalFiles}
use Rattle.qls_scan.specs.Found.{files_of}
use Rattle.qls_scan.proofs.Names.{names_are}
use Rattle.qls_reading.specs.ReadLogs.{opening_behind}
use Rattle.qls_log.proofs.Splits.{heads}
use Rattle.qls_pool.specs.Files.{IdsDiffer}
use Rattle.qls_pool.proofs.Steps.{all_found}
use Rattle.qls_log.specs.Steps.{is_own}
use Rattle.qls_queue.specs.Live.{LiveState}
use Rattle.qls_journals.specs.State.{queue_held, NamesJournal}
use Rattle.qls_journals.specs.Opening.{ReadingState, IsReading, journals_in}
use Rattle.qls_journals.proofs.AllJournals.{all_weaken, all_mapped, all_in_use}
use Rattle.qls_journals.proofs.OpenedFrom.{is_queue_reading, queue_from, queues_from, kind_queue, kind_list, no_bytes, list_name}

-- ---- a journal of the readings

-- the readings have a journal of this kind and name
abbrev pub is_read : List ReadingState → JournalKind → List ℕ → Bool
is_read rs kind name = list_any (λ r. is_own (opening_behind r.log.journal) kind name) rs

abbrev pub is_there : JournalKind → List ℕ → Journal → Bool
is_there kind name j = same_kind j.kind kind && same j.name name

any_map : {A B : Type 0} (test : B → Bool) (f : A → B) (xs : List A) → list_any test (map f xs) ≡ list_any (λ x. test (f x)) xs
any_map test f [] = refl
any_map test f (x ∷ xs) = ap (λ b. test (f x) || b) (any_map test f xs)

pub read_there : (rs : List ReadingState) (js : List Journal) (kind : JournalKind) (name : List ℕ) → journals_in rs ≡ map files_of js → is_read rs kind name ≡ list_any (is_there kind name) js
read_there rs js kind name e =
    let test : JournalFiles → Bool = λ j. same_kind j.kind kind && same j.name name in
    sym (any_map test (λ (r : ReadingState). r.log.journal) rs) ∙ ap (list_any test) e ∙ any_map test files_of js

here_or : (a b : Bool) → a ≡ true → (a || b) ≡ true
here_or a b e = ap (λ x. x || b) e

later_or : (a b : Bool) → b ≡ true → (a || b) ≡ true
later_or true b e = refl
later_or false b e = e

own_kind : (kind : JournalKind) → same_kind kind kind ≡ true
own_kind Queue = refl
own_kind Listed = refl

pub same_kinds : (a b : JournalKind) → same_kind a b ≡ true → a ≡ b
same_kinds Queue Queue e = refl
same_kinds Queue Listed e = absurd (cc)
same_kinds Listed Queue e = absurd (cc)
same_kinds Listed Listed e = refl

-- each of the readings is among them
abbrev pub AreAmong : List ReadingState → List ReadingState → Type 0
AreAmong all rs = AllByRecursion (λ r. is_read all r.log.journal.kind r.log.journal.name ≡ true) rs

among_more : (s : ReadingState) (all rs : List ReadingState) → AreAmong all rs → AreAmong (s ∷ all) rs
among_more s all [] h = tt
among_more s all (r ∷ rs) h = (later_or (is_own (opening_behind s.log.journal) r.log.journal.kind r.log.journal.name) (is_read all r.log.journal.kind r.log.journal.name) h.0, among_more s all rs h.1)

pub among_self : (rs : List ReadingState) → AreAmong rs rs
among_self [] = tt
among_self (r ∷ rs) = (
  here_or (is_own (opening_behind r.log.journal) r.log.journal.kind r.log.journal.name) (is_read rs r.log.journal.kind r.log.journal.name) (ap₂ (λ a b. a && b) (own_kind r.log.journal.kind) (same_self r.log.journal.name)),
  among_more r rs rs (among_self rs),
)

-- ---- the journals of an image

turned : (name n : List ℕ) → same name n ≡ true → same n name ≡ true
turned name n e = ap (λ (x : List ℕ). same n x) (same_true name n e) ∙ same_self n

queues_there : (fs : List Headed) (name : List ℕ) (ns : List (List ℕ)) → is_listed name ns ≡ true → list_any (is_there Queue name) (map (journal fs Queue) ns) ≡ true
queues_there fs name [] e = absurd (cc)
queues_there fs name (n ∷ ns) e = by (same name n) refl (queues_there fs name ns) e
  where
    by : (b : Bool) → same name n ≡ b → (is_listed name ns ≡ true → list_any (is_there Queue name) (map (journal fs Queue) ns) ≡ true) → (b || is_listed name ns) ≡ true → (same n name || list_any (is_there Queue name) (map (journal fs Queue) ns)) ≡ true
    by true is later e = here_or (same n name) (list_any (is_there Queue name) (map (journal fs Queue) ns)) (turned name n is)
    by false is later e = later_or (same n name) (list_any (is_there Queue name) (map (journal fs Queue) ns)) (later e)

queue_there : (fs : List Headed) (name : List ℕ) → list_any (is_of Queue name) fs ≡ true → list_any (is_there Queue name) (journals fs) ≡ true
queue_there fs name e =
    list_any-append (is_there Queue name) (list_journals fs) (map (journal fs Queue) (queue_names fs))
    ∙ later_or (list_any (is_there Queue name) (list_journals fs)) (list_any (is_there Queue name) (map (journal fs Queue) (queue_names fs))) (queues_there fs name (queue_names fs) (names_are name fs ∙ e))

abbrev pub is_list : Headed → Bool
is_list f = not (is_queue f.header.kind)

list_there : (fs : List Headed) → list_any is_list fs ≡ true → list_any (is_there Listed []) (journals fs) ≡ true
list_there fs e = ap (λ b. list_any (is_there Listed []) (cond b (journal fs Listed [] ∷ []) [] ++ map (journal fs Queue) (queue_names fs))) e

-- ---- names of headers

named_ok : (b : Bool) (r : Result FileHeader Rule) (h : FileHeader) → (claim b rule.Name >> r) ≡ Ok h → b ≡ true
named_ok true r h e = refl
named_ok false r h e = absurd (cc)

then_all : {A B : Type 0} (r : Result A Rule) (s : Result B Rule) (y : B) → (r >> s) ≡ Ok y → s ≡ Ok y
then_all (Ok a) s y e = e
then_all (Err e) s y h = absurd (cc)

name_read : (bytes : List ℕ) (h : FileHeader) → header_of bytes ≡ Ok h → is_name (header_fields bytes).kind (header_fields bytes).name ≡ true
name_read bytes h is =
    let last : Result (Unit {0}) Rule = rest_claims (60 + number_at w16 58 bytes) bytes in
    let legal : Bool = is_name (header_fields bytes).kind (header_fields bytes).name in
    let name : Result (Unit {0}) Rule = claim legal rule.Name in
    named_ok legal (last >> Ok (header_fields bytes)) h (then_all {A = Unit {0}} {B = FileHeader} (number_claims bytes) (name >> (last >> Ok (header_fields bytes))) h is)

read_by : (id n : ℕ) (s : Result (Unit {0}) Rule) (r : Result FileHeader Rule) → of_file id (s >> (r >>= λ h. claim (eqb n (file_size h.kib)) rule.Size)) ≡ Ok tt → (h : FileHeader) × (r ≡ Ok h)
read_by id n (Ok u) (Ok h) e = (h, refl)
read_by id n (Ok u) (Err x) e = absurd (cc)
read_by id n (Err x) r e = absurd (cc)

-- a list's file has no name
abbrev HasName : ImageFile → Type 0
HasName f = is_name (headed f).header.kind (headed f).header.name ≡ true

one_named : (f : ImageFile) → header_claims f ≡ Ok tt → HasName f
one_named f e =
    let found = read_by f.id (length f.bytes) (claim (leb 4096 (length f.bytes)) rule.Short) (header_of (take 4096 f.bytes)) e in
    name_read (take 4096 f.bytes) found.0 found.1

all_named : (fs : List ImageFile) → each header_claims fs ≡ Ok tt → AllByRecursion HasName fs
all_named [] e = tt
all_named (f ∷ fs) e = let parts = next_ok (header_claims f) (each header_claims fs) e in (one_named f parts.0, all_named fs parts.1)

headers_kept : {A : Type 0} (a b c : Checked) (r : Result A Damage) (x : A) → (a >> (b >> (c >> r))) ≡ Ok x → c ≡ Ok tt
headers_kept (Ok u) (Ok v) (Ok w) r x e = refl
headers_kept (Ok u) (Ok v) (Err d) r x e = absurd (cc)
headers_kept (Ok u) (Err d) c r x e = absurd (cc)
headers_kept (Err d) b c r x e = absurd (cc)

-- ---- a file in use

some_is : {A : Type 0} (f g : A) → Some f ≡ Some g → f ≡ g
some_is f g e = cc

module _ (test : Headed → Bool) where
  later_head : (f : FileState) (rest : Image) (b : Bool) → list_any test (map headed rest) ≡ true → list_any test (map headed (cond b (full_file f ∷ rest) rest)) ≡ true
  later_head f rest true e = later_or (test (headed (full_file f))) (list_any test (map headed rest)) e
  later_head f rest false e = e

  -- the head of a file in use is among those of the disk
  pub any_head : (id : ℕ) (d : Disk) (g : FileState) → file_of id d ≡ Some g → is_in_use g.place ≡ true → test (headed (full_file g)) ≡ true → list_any test (heads d) ≡ true
  any_head id [] g e used t = absurd (cc)
  any_head id (f ∷ d) g e used t = by (eqb f.id id) (any_head id d g) e
    where
      by : (b : Bool) → (file_of id d ≡ Some g → is_in_use g.place ≡ true → test (headed (full_file g)) ≡ true → list_any test (heads d) ≡ true) → cond b (Some f) (file_of id d) ≡ Some g → list_any test (heads (f ∷ d)) ≡ true
      by true later e =
          let is : f ≡ g = some_is f g e in
          ap (λ b. list_any test (map headed (cond b (full_file f ∷ in_use (full d)) (in_use (full d))))) (ap (λ (x : FileState). is_in_use x.place) is ∙ used)
          ∙ here_or (test (headed (full_file f))) (list_any test (heads d)) (ap (λ (x : FileState). test (headed (full_file x))) is ∙ t)
      by false later e = later_head f (in_use (full d)) (is_in_use f.place) (later e used t)

module _ (P : ImageFile → Type 0) where
  no_both : (b : Bool) → b ≡ false → b ≡ true → ⊥
  no_both b x y = cc

  here_head : (f g : FileState) (rest : Image) (u : Bool) → is_in_use f.place ≡ u → f ≡ g → is_in_use g.place ≡ true → AllByRecursion P (cond u (full_file f ∷ rest) rest) → P (full_file g)
  here_head f g rest true is own used h = subst (λ (x : FileState). P (full_file x)) own h.0
  here_head f g rest false is own used h = absurd (no_both (is_in_use f.place) is (ap (λ (x : FileState). is_in_use x.place) own ∙ used))

  rest_heads : (f : FileState) (rest : Image) (u : Bool) → AllByRecursion P (cond u (full_file f ∷ rest) rest) → AllByRecursion P rest
  rest_heads f rest true h = h.1
  rest_heads f rest false h = h

  of_head : (id : ℕ) (d : Disk) (g : FileState) → AllByRecursion P (in_use (full d)) → file_of id d ≡ Some g → is_in_use g.place ≡ true → P (full_file g)
  of_head id [] g h e used = absurd (cc)
  of_head id (f ∷ d) g h e used = by (eqb f.id id) (of_head id d g (rest_heads f (in_use (full d)) (is_in_use f.place) h)) e
    where
      by : (b : Bool) → (file_of id d ≡ Some g → is_in_use g.place ≡ true → P (full_file g)) → cond b (Some f) (file_of id d) ≡ Some g → P (full_file g)
      by true later e = here_head f g (in_use (full d)) (is_in_use f.place) refl (some_is f g e) used h
      by false later e = later e used

-- ---- as the disk was scanned

-- each file in use is one of a journal that was read
abbrev pub AllRead : List ReadingState → Disk → Type 0
AllRead rs d = (id : ℕ) (f : FileState) → file_of id d ≡ Some f → is_in_use f.place ≡ true → is_read rs (headed (full_file f)).header.kind (headed (full_file f)).header.name ≡ true

module _ (rs : List ReadingState) (d : Disk) (all : journals_in rs ≡ map files_of (journals_of (full d))) (scan : scanned (full d) ≡ Ok (journals_of (full d))) where
  file_read : (id : ℕ) (f : FileState) → file_of id d ≡ Some f → is_in_use f.place ≡ true → HasName (full_file f) → (kind : JournalKind) → (headed (full_file f)).header.kind ≡ kind → is_read rs kind (headed (full_file f)).header.name ≡ true
  file_read id f found used named Queue e =
      let name : List ℕ = (headed (full_file f)).header.name in
      read_there rs (journals_of (full d)) Queue name all
      ∙ queue_there (heads d) name (any_head (is_of Queue name) id d f found used (ap₂ (λ a b. a && b) (ap (same_kind Queue) e) (same_self name)))
  file_read id f found used named Listed e =
      let name : List ℕ = (headed (full_file f)).header.name in
      let none : name ≡ [] = no_bytes name (ap (λ (k : JournalKind). is_name k name) (sym e) ∙ named) in
      ap (is_read rs Listed) none ∙ read_there rs (journals_of (full d)) Listed [] all ∙ list_there (heads d) (any_head is_list id d f found used (ap (λ k. not (is_queue k)) e))

  pub all_read : AllRead rs d
  all_read = λ id f found used.
      file_read id f found used (of_head HasName id d f (all_named (in_use (full d)) (headers_kept _ _ (each header_claims (in_use (full d))) _ (journals_of (full d)) scan)) found used) (headed (full_file f)).header.kind refl

-- ---- no other journal has a file

none_left : (test : Headed → Bool) (fs : List Headed) → list_any test fs ≡ false → filter test fs ≡ []
none_left test [] e = refl
none_left test (f ∷ fs) e = by (test f) (none_left test fs) e
  where
    by : (b : Bool) → (list_any test fs ≡ false → filter test fs ≡ []) → (b || list_any test fs) ≡ false → cond b (f ∷ filter test fs) (filter test fs) ≡ []
    by true later e = absurd (cc)
    by false later e = later e

module _ (rs : List ReadingState) (kind : JournalKind) (name : List ℕ) (none : is_read rs kind name ≡ false) where
  not_this : (f : Headed) → is_read rs f.header.kind f.header.name ≡ true → (b : Bool) → is_of kind name f ≡ b → b ≡ false
  not_this f h true e =
      let parts = and_parts (same_kind kind f.header.kind) (same name f.header.name) e in
      absurd (no_both ((λ i. is_read rs (same_kinds kind f.header.kind parts.0 i) (same_true name f.header.name parts.1 i)) ∙ h))
    where
      no_both : is_read rs kind name ≡ true → ⊥
      no_both t = cc
  not_this f h false e = refl

  none_of : (fs : List Headed) → AllByRecursion (λ f. is_read rs f.header.kind f.header.name ≡ true) fs → list_any (is_of kind name) fs ≡ false
  none_of [] h = refl
  none_of (f ∷ fs) h = ap₂ (λ a b. a || b) (not_this f h.0 (is_of kind name f) refl) (none_of fs h.1)

  pub no_file : (d : Disk) → IdsDiffer d → AllRead rs d → (journal_on d kind name).files ≡ []
  no_file d differ all =
      ap by_number (none_left (is_of kind name) (heads d) (none_of (heads d)
      (all_mapped (λ f. is_read rs f.header.kind f.header.name ≡ true) headed (in_use (full d))
      (all_in_use (λ f. is_read rs (headed f).header.kind (headed f).header.name ≡ true) d
      (all_weaken (λ (g : FileState). file_of g.id d ≡ Some g) _ (λ g found used. all g.id g found used) d (all_found d differ))))))

-- ---- the names of open journals

pub later_than : (b c : Bool) → b ≡ false → (b || c) ≡ true → c ≡ true
later_than true c f e = absurd (cc)
later_than false c f e = e

-- a queue of another name isn't this one, and a list isn't a queue
pub other_queue : (r : ReadingState) (name : List ℕ) → is_queue_reading r ≡ true → same r.log.journal.name name ≡ false → is_own (opening_behind r.log.journal) Queue name ≡ false
other_queue r name kind other = ap₂ (λ (k : JournalKind) b. same_kind k Queue && b) (kind_queue r.log.journal.kind kind) other

pub no_queue : (r : ReadingState) (name : List ℕ) → is_queue_reading r ≡ false → is_own (opening_behind r.log.journal) Queue name ≡ false
no_queue r name kind = ap (λ (k : JournalKind). same_kind k Queue && same r.log.journal.name name) (kind_list r.log.journal.kind kind)

abbrev IsFoundIn : List ReadingState → List ℕ → Type 0
IsFoundIn rs name = (q : LiveState) × (queue_held name (queues_from rs) ≡ Some q)

queue_found : (rs : List ReadingState) (name : List ℕ) → is_read rs Queue name ≡ true → IsFoundIn rs name
queue_found [] name e = absurd (cc)
queue_found (r ∷ rs) name e = by (is_queue_reading r) (same r.log.journal.name name) refl refl (queue_found rs name)
  where
    by : (k b : Bool) → is_queue_reading r ≡ k → same r.log.journal.name name ≡ b → (is_read rs Queue name ≡ true → IsFoundIn rs name) → (q : LiveState) × (queue_held name (cond k (queue_from r ∷ queues_from rs) (queues_from rs)) ≡ Some q)
    by true true kind is later = (queue_from r, ap (λ c. cond c (Some (queue_from r)) (queue_held name (queues_from rs))) is)
    by true false kind is later =
        let found = later (later_than (is_own (opening_behind r.log.journal) Queue name) (is_read rs Queue name) (other_queue r name kind is) e) in
        (found.0, ap (λ c. cond c (Some (queue_from r)) (queue_held name (queues_from rs))) is ∙ found.1)
    by false b kind is later = later (later_than (is_own (opening_behind r.log.journal) Queue name) (is_read rs Queue name) (no_queue r name kind) e)

list_found : (rs : List ReadingState) (name : List ℕ) → AllByRecursion IsReading rs → is_read rs Listed name ≡ true → name ≡ []
list_found [] name h e = absurd (cc)
list_found (r ∷ rs) name h e = by (same_kind r.log.journal.kind Listed && same r.log.journal.name name) refl (list_found rs name h.1) e
  where
    by : (b : Bool) → (same_kind r.log.journal.kind Listed && same r.log.journal.name name) ≡ b → (is_read rs Listed name ≡ true → name ≡ []) → (b || is_read rs Listed name) ≡ true → name ≡ []
    by true is later e =
        let parts = and_parts (same_kind r.log.journal.kind Listed) (same r.log.journal.name name) is in
        sym (same_true r.log.journal.name name parts.1) ∙ list_name r.log.journal h.0.log.order (same_kinds r.log.journal.kind Listed parts.0)
    by false is later e = later e

pub names_journal : (rs : List ReadingState) → AllByRecursion IsReading rs → (h : FileHeader) → is_read rs h.kind h.name ≡ true → NamesJournal (queues_from rs) h
names_journal rs read h e = by h.kind refl
  where
    by : (kind : JournalKind) → h.kind ≡ kind → NamesJournal (queues_from rs) h
    by Queue is = let found = queue_found rs h.name (ap (λ (k : JournalKind). is_read rs k h.name) (sym is) ∙ e) in inl (record { kind = is; queue = found.0; there = found.1 })
    by Listed is = inr (record { kind = is; name = list_found rs h.name read (ap (λ (k : JournalKind). is_read rs k h.name) (sym is) ∙ e) })
