-- The journals that a scan finds are there, as the site has them.
use Rattle.std.proofs.Common.{◌≡◌, ℕ, ◌*◌, true, false, cond, not, List, [], ◌∷◌, ◌++◌, map, length, take, drop, eqb, leb, Option, Some, None, IfSome, Result, Ok, Err, refl, sym, ap, ◌∙◌, subst, arith, length-drop}
use Rattle.std.proofs.lemmas.Bool.Decides.{nat_tests}
use Rattle.std.specs.List.{AllByRecursion, list_any}
use Rattle.qls_shape.specs.Claims.{each, claim, of_file, ◌>>=◌, ◌>>◌}
use Rattle.qls_site.specs.declared.site.ImageFile.{ImageFile}
use Rattle.qls_site.specs.Disk.{Image, IdsRise, full}
use Rattle.qls_site.specs.Content.{Content, Moment, Tells, OnlyLooks}
use Rattle.qls_model.specs.Limits.{file_size}
use Rattle.qls_filehdr.specs.declared.FileHeader.{FileHeader}
use Rattle.qls_filehdr.specs.declared.JournalKind.{JournalKind}
use Rattle.qls_filehdr.specs.declared.JournalKind.TheVariants.{Queue, List as Listed}
use Rattle.qls_filehdr.specs.declared.Rule.{Rule}
use Rattle.qls_filehdr.specs.declared.Rule.TheVariants as rule
use Rattle.qls_filehdr.specs.Header.{header_of}
use Rattle.qls_meaning.specs.Journals.{Headed, is_queue, headed, in_use, journal, queue_names, journals_of}
use Rattle.qls_meaning.specs.Damage.{Damage, Checked, header_claims, scanned}
use Rattle.qls_laws.proofs.Claimed.{claimed, next_ok}
use Rattle.qls_laws.proofs.Seen.{All-journal}
use Rattle.qls_scan.specs.declared.answers.JournalFiles.{JournalFiles}
use Rattle.qls_scan.specs.declared.answers.Found.{Found}
use Rattle.qls_scan.specs.Found.{files_of, IsFound}
use Rattle.qls_scan.proofs.HeadLaws.{read_fields}
use Rattle.qls_reading.specs.ReadLogs.{journal_in, IsThere}

-- ---- sizes

abbrev HasItsSize : Headed → Type 0
HasItsSize f = length f.area ≡ 1024 * f.header.kib

is_size : (m n : ℕ) → eqb m n ≡ true → m ≡ n
is_size m n h = grind (arith, nat_tests)

sized_by : (id n : ℕ) (s : Result (Unit {0}) Rule) (r : Result FileHeader Rule) → of_file id (s >> (r >>= λ h. claim (eqb n (file_size h.kib)) rule.Size)) ≡ Ok tt → (h : FileHeader) × (r ≡ Ok h) × (n ≡ file_size h.kib)
sized_by id n (Ok u) (Ok h) e = (h, refl, is_size n (file_size h.kib) (claimed id (eqb n (file_size h.kib)) rule.Size e))
sized_by id n (Ok u) (Err x) e = absurd (cc)
sized_by id n (Err x) r e = absurd (cc)

rest_of_file : (bytes : List ℕ) (kib : ℕ) → length bytes ≡ file_size kib → length (drop 4096 bytes) ≡ 1024 * kib
rest_of_file bytes kib e = omega (arith, e, length-drop 4096 bytes)

one_size : (f : ImageFile) → header_claims f ≡ Ok tt → HasItsSize (headed f)
one_size f e =
    let found = sized_by f.id (length f.bytes) (claim (leb 4096 (length f.bytes)) rule.Short) (header_of (take 4096 f.bytes)) e in
    rest_of_file f.bytes (headed f).header.kib (found.2 ∙ ap (λ (h : FileHeader). file_size h.kib) (read_fields (take 4096 f.bytes) found.0 found.1))

all_sizes : (fs : List ImageFile) → each header_claims fs ≡ Ok tt → AllByRecursion HasItsSize (map headed fs)
all_sizes [] e = tt
all_sizes (f ∷ fs) e = let parts = next_ok (header_claims f) (each header_claims fs) e in (one_size f parts.0, all_sizes fs parts.1)

-- ---- the journals

headers_kept : {A : Type 0} (a b c : Checked) (r : Result A Damage) (x : A) → (a >> (b >> (c >> r))) ≡ Ok x → c ≡ Ok tt
headers_kept (Ok u) (Ok v) (Ok w) r x e = refl
headers_kept (Ok u) (Ok v) (Err d) r x e = absurd (cc)
headers_kept (Ok u) (Err d) c r x e = absurd (cc)
headers_kept (Err d) b c r x e = absurd (cc)

module _ (c : Content) where
  abbrev image : Image
  image = full c.now.disk

  abbrev used : List Headed
  used = map headed (in_use image)

  there_are : AllByRecursion HasItsSize used → IdsRise image → AllByRecursion (λ j. IsThere j c) (map files_of (journals_of image))
  there_are sizes rise = elim (list_any (λ f. not (is_queue f.header.kind)) used) as (λ b. AllByRecursion (λ j. IsThere j c) (map files_of (cond b (journal used Listed [] ∷ []) [] ++ map (journal used Queue) (queue_names used)))) [
    | true ↦ (one Listed [], queues (queue_names used))
    | false ↦ queues (queue_names used)
  ]
    where
      one : (kind : JournalKind) (name : List ℕ) → IsThere (files_of (journal used kind name)) c
      one kind name = record { rising = rise; files = refl; sizes = All-journal HasItsSize used kind name sizes }

      queues : (ns : List (List ℕ)) → AllByRecursion (λ j. IsThere j c) (map files_of (map (journal used Queue) ns))
      queues [] = tt
      queues (n ∷ ns) = (one Queue n, queues ns)

  pub all_there : scanned image ≡ Ok (journals_of image) → IdsRise image → AllByRecursion (λ j. IsThere j c) (map files_of (journals_of image))
  all_there e rise = there_are (all_sizes (in_use image) (headers_kept _ _ (each header_claims (in_use image)) _ (journals_of image) e)) rise

-- ---- after a scan

there_on : (j : JournalFiles) (a b : Content) → b.now ≡ a.now → IsThere j a → IsThere j b
there_on j a b e h = record {
  rising = subst (λ (m : Moment). IdsRise (full m.disk)) (sym e) h.rising;
  files = subst (λ (m : Moment). files_of (journal_in (full m.disk) j) ≡ j) (sym e) h.files;
  sizes = subst (λ (m : Moment). AllByRecursion HasItsSize (journal_in (full m.disk) j).files) (sym e) h.sizes;
}

pub last_of : (P : JournalFiles → Type 0) (js : List JournalFiles) (j : JournalFiles) → AllByRecursion P (js ++ j ∷ []) → P j
last_of P [] j h = h.0
last_of P (k ∷ js) j h = last_of P js j h.1

-- the last journal that was found is there
pub found_there : (o n : Option Content) (found : Found) (js : List JournalFiles) (j : JournalFiles) → IfSome o (λ c. IdsRise (full c.now.disk)) → IfSome o (λ c. IsFound (full c.now.disk) found)
    → Tells OnlyLooks o n → found.journals ≡ js ++ j ∷ [] → IfSome n (IsThere j)
found_there None None found js j r f t e = tt
found_there None (Some b) found js j r f t e = absurd t
found_there (Some a) None found js j r f t e = absurd t
found_there (Some a) (Some b) found js j r f t e =
    there_on j a b t.now (last_of (λ k. IsThere k a) js j (subst (λ (ks : List JournalFiles). AllByRecursion (λ k. IsThere k a) ks) (sym f.journals ∙ e) (all_there a f.undamaged r)))
