-- The journals that a scan finds are there, as the site has them.
use Rattle.std.proofs.Common.{◌≡◌, ℕ, ◌*◌, true, false, cond, not, List, [], ◌∷◌, ◌++◌, map, length, take, drop, eqb, leb, Option, Some, None, IfSome, Result, Ok, Err, refl, sym, ap, ◌∙◌, subst, arith, length-drop}
use Rattle.std.proofs.lemmas.Bool.Decides.{nat_tests}
use Rattle.std.specs.List.{AllByRecursion, list_any}
use Rattle.qls_shape.specs.Claims.{each, claim, of_file, ◌>>=◌, ◌>>◌}
use Rattle.qls_site.specs.declared.site.ImageFile.{ImageFile}
use Rattle.qls_site.specs.Disk.{Image, IdsRise, full}
use Rattle.qls_site.specs.Content.{Content, Moment, Tells, OnlyLooks}
use Rattle.qls_model.specs.Limits.{file_size}
use Rattle.qls_filehdr.specs.declared.FileHeader.{FileHeader}
use Rattle.qls_filehdr.specs.declared.JournalKind.{JournalKind}
use Rattle.qls_filehdr.specs.declared.JournalKind.TheVariants.{Queue, List as Listed}
use Rattle.qls_filehdr.specs.declared.Rule.{Rule}
use Rattle.qls_filehdr.specs.declared.Rule.TheVariants as rule
use Rattle.qls_filehdr.specs.Header.{header_of}
use Rattle.qls_meaning.specs.Journals.{Headed, Journal, is_of, is_queue, headed, in_use, journal, queue_names, journals_of}
use Rattle.qls_meaning.specs.Damage.{Damage, Checked, header_claims, reading_claims, scanned}
use Rattle.qls_meaning.specs.Meaning.{meaning, meaning_of}
use Rattle.qls_laws.proofs.Claimed.{claimed, next_ok}
use Rattle.qls_scan.specs.declared.answers.JournalFiles.{JournalFiles}
use Rattle.qls_scan.specs.declared.answers.Found.{Found}
use Rattle.qls_scan.specs.Found.{files_of, IsFound}
use Rattle.qls_model.specs.Machine.{MachineState}
use Rattle.qls_look.specs.declared.fault.OpenFault.{OpenFault}
use Rattle.qls_look.specs.Looking.{Says}
use Rattle.qls_scan.proofs.Grouping.{all_group}
use Rattle.qls_scan.proofs.HeadLaws.{read_fields}
use Rattle.qls_reading.specs.ReadLogs.{journal_in, IsThere}
use Rattle.qls_look.specs.Seen.{answered}

-- ---- sizes

abbrev pub HasItsSize : Headed → Type 0
HasItsSize f = length f.area ≡ 1024 * f.header.kib

is_size : (m n : ℕ) → eqb m n ≡ true → m ≡ n
is_size m n h = grind (arith, nat_tests)

sized_by : (id n : ℕ) (s : Result (Unit {0}) Rule) (r : Result FileHeader Rule) → of_file id (s >> (r >>= λ h. claim (eqb n (file_size h.kib)) rule.Size)) ≡ Ok tt → (h : FileHeader) × (r ≡ Ok h) × (n ≡ file_size h.kib)
sized_by id n (Ok u) (Ok h) e = (h, refl, is_size n (file_size h.kib) (claimed id (eqb n (file_size h.kib)) rule.Size e))
sized_by id n (Ok u) (Err x) e = absurd (cc)
sized_by id n (Err x) r e = absurd (cc)

rest_of_file : (bytes : List ℕ) (kib : ℕ) → length bytes ≡ file_size kib → length (drop 4096 bytes) ≡ 1024 * kib
rest_of_file bytes kib e = omega (arith, e, length-drop 4096 bytes)

one_size : (f : ImageFile) → header_claims f ≡ Ok tt → HasItsSize (headed f)
one_size f e =
    let found = sized_by f.id (length f.bytes) (claim (leb 4096 (length f.bytes)) rule.Short) (header_of (take 4096 f.bytes)) e in
    rest_of_file f.bytes (headed f).header.kib (found.2 ∙ ap (λ (h : FileHeader). file_size h.kib) (read_fields (take 4096 f.bytes) found.0 found.1))

all_sizes : (fs : List ImageFile) → each header_claims fs ≡ Ok tt → AllByRecursion HasItsSize (map headed fs)
all_sizes [] e = tt
all_sizes (f ∷ fs) e = let parts = next_ok (header_claims f) (each header_claims fs) e in (one_size f parts.0, all_sizes fs parts.1)

-- ---- the journals

headers_kept : {A : Type 0} (a b c : Checked) (r : Result A Damage) (x : A) → (a >> (b >> (c >> r))) ≡ Ok x → c ≡ Ok tt
headers_kept (Ok u) (Ok v) (Ok w) r x e = refl
headers_kept (Ok u) (Ok v) (Err d) r x e = absurd (cc)
headers_kept (Ok u) (Err d) c r x e = absurd (cc)
headers_kept (Err d) b c r x e = absurd (cc)

module _ (c : Content) where
  abbrev image : Image
  image = full c.now.disk

  abbrev used : List Headed
  used = map headed (in_use image)

  there_are : AllByRecursion HasItsSize used → IdsRise image → AllByRecursion (λ j. IsThere j c) (map files_of (journals_of image))
  there_are sizes rise = elim (list_any (λ f. not (is_queue f.header.kind)) used) as (λ b. AllByRecursion (λ j. IsThere j c) (map files_of (cond b (journal used Listed [] ∷ []) [] ++ map (journal used Queue) (queue_names used)))) [
    | true ↦ (one Listed [], queues (queue_names used))
    | false ↦ queues (queue_names used)
  ]
    where
      one : (kind : JournalKind) (name : List ℕ) → IsThere (files_of (journal used kind name)) c
      one kind name = record { rising = rise; files = refl; sizes = all_group HasItsSize (is_of kind name) used sizes }

      queues : (ns : List (List ℕ)) → AllByRecursion (λ j. IsThere j c) (map files_of (map (journal used Queue) ns))
      queues [] = tt
      queues (n ∷ ns) = (one Queue n, queues ns)

  pub all_there : scanned image ≡ Ok (journals_of image) → IdsRise image → AllByRecursion (λ j. IsThere j c) (map files_of (journals_of image))
  all_there e rise = there_are (all_sizes (in_use image) (headers_kept _ _ (each header_claims (in_use image)) _ (journals_of image) e)) rise

same_queues : (i : Image) (ns : List (List ℕ)) → map (journal_in i) (map files_of (map (journal (map headed (in_use i)) Queue) ns)) ≡ map (journal (map headed (in_use i)) Queue) ns
same_queues i [] = refl
same_queues i (n ∷ ns) = ap (λ (js : List Journal). journal (map headed (in_use i)) Queue n ∷ js) (same_queues i ns)

-- the journals of the files that were found are the image's
pub same_journals : (i : Image) → map (journal_in i) (map files_of (journals_of i)) ≡ journals_of i
same_journals i =
    let fs : List Headed = map headed (in_use i) in
    elim (list_any (λ f. not (is_queue f.header.kind)) fs) as (λ b. map (journal_in i) (map files_of (cond b (journal fs Listed [] ∷ []) [] ++ map (journal fs Queue) (queue_names fs))) ≡ cond b (journal fs Listed [] ∷ []) [] ++ map (journal fs Queue) (queue_names fs)) [
      | true ↦ ap (λ (js : List Journal). journal fs Listed [] ∷ js) (same_queues i (queue_names fs))
      | false ↦ same_queues i (queue_names fs)
    ]

-- ---- the meaning

-- the first damage of the readings, or what the journals mean
pub meaning_is : (i : Image) (js : List Journal) → scanned i ≡ Ok js → meaning i ≡ answered (meaning_of js) (each reading_claims js)
meaning_is i js e = ap (λ (r : Result (List Journal) Damage). (r >>= λ ks. each reading_claims ks >> Ok ks) >>= λ ks. Ok (meaning_of ks)) e ∙ by (each reading_claims js)
  where
    by : (r : Checked) → ((r >> Ok js) >>= λ ks. Ok (meaning_of ks)) ≡ answered (meaning_of js) r
    by (Ok u) = refl
    by (Err x) = refl

pub damage_is : (i : Image) (x : Damage) → scanned i ≡ Err x → meaning i ≡ Err x
damage_is i x e = ap (λ (r : Result (List Journal) Damage). (r >>= λ ks. each reading_claims ks >> Ok ks) >>= λ ks. Ok (meaning_of ks)) e

-- ---- while the site is only looked at

there_on : (j : JournalFiles) (a b : Content) → b.now ≡ a.now → IsThere j a → IsThere j b
there_on j a b e h = record {
  rising = subst (λ (m : Moment). IdsRise (full m.disk)) (sym e) h.rising;
  files = subst (λ (m : Moment). files_of (journal_in (full m.disk) j) ≡ j) (sym e) h.files;
  sizes = subst (λ (m : Moment). AllByRecursion HasItsSize (journal_in (full m.disk) j).files) (sym e) h.sizes;
}

all_there_on : (js : List JournalFiles) (a b : Content) → b.now ≡ a.now → AllByRecursion (λ j. IsThere j a) js → AllByRecursion (λ j. IsThere j b) js
all_there_on [] a b e h = tt
all_there_on (j ∷ js) a b e h = (there_on j a b e h.0, all_there_on js a b e h.1)

pub still_there : (js : List JournalFiles) (o n : Option Content) → Tells OnlyLooks o n → IfSome o (λ c. AllByRecursion (λ j. IsThere j c) js) → IfSome n (λ c. AllByRecursion (λ j. IsThere j c) js)
still_there js None None t h = tt
still_there js None (Some b) t h = absurd t
still_there js (Some a) None t h = absurd t
still_there js (Some a) (Some b) t h = all_there_on js a b t.now h

pub first_there : (j : JournalFiles) (js : List JournalFiles) (o : Option Content) → IfSome o (λ c. AllByRecursion (λ j. IsThere j c) (j ∷ js)) → IfSome o (IsThere j)
first_there j js None h = tt
first_there j js (Some c) h = h.0

pub others_there : (j : JournalFiles) (js : List JournalFiles) (o : Option Content) → IfSome o (λ c. AllByRecursion (λ j. IsThere j c) (j ∷ js)) → IfSome o (λ c. AllByRecursion (λ j. IsThere j c) js)
others_there j js None h = tt
others_there j js (Some c) h = h.1

-- ---- after a scan

pub found_there : (o : Option Content) (found : Found) → IfSome o (λ c. IdsRise (full c.now.disk)) → IfSome o (λ c. IsFound (full c.now.disk) found) → IfSome o (λ c. AllByRecursion (λ j. IsThere j c) found.journals)
found_there None found r f = tt
found_there (Some c) found r f = subst (λ (js : List JournalFiles). AllByRecursion (λ j. IsThere j c) js) (sym f.journals) (all_there c f.undamaged r)

whole_of : (i : Image) (found : Found) → IsFound i found → (let js = map (journal_in i) found.journals in answered (meaning_of js) (each reading_claims js)) ≡ meaning i
whole_of i found f =
    let js : map (journal_in i) found.journals ≡ journals_of i = ap (map (journal_in i)) f.journals ∙ same_journals i in
    ap (λ (ks : List Journal). answered (meaning_of ks) (each reading_claims ks)) js ∙ sym (meaning_is i (journals_of i) f.undamaged)

pub seen_means : (o n : Option Content) (found : Found) (r : Result MachineState OpenFault) → Tells OnlyLooks o n → IfSome o (λ c. IsFound (full c.now.disk) found)
    → IfSome n (λ c. let js = map (journal_in (full c.now.disk)) found.journals in Says (answered (meaning_of js) (each reading_claims js)) r) → IfSome o (λ c. Says (meaning (full c.now.disk)) r)
seen_means None n found r t f s = tt
seen_means (Some a) None found r t f s = absurd t
seen_means (Some a) (Some b) found r t f s =
    subst (λ (m : Result MachineState Damage). Says m r) (whole_of (full a.now.disk) found f)
    (subst (λ (m : Moment). let js = map (journal_in (full m.disk)) found.journals in Says (answered (meaning_of js) (each reading_claims js)) r) t.now s)
