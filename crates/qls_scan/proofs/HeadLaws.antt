-- Reading the headers of the files in use, one after another.
use Rattle.std.proofs.Common.{◌≡◌, ℕ, ◌+◌, ◌<◌, ◌≤◌, Bool, true, false, cond, List, ◌++◌, map, length, take, drop, eqb, leb, Option, Some, None, IfSome, IfOk, IsTrue, option_map, Result, Ok, Err, refl, sym, ap, ◌∙◌, subst, arith, get_or}
use Rattle.std.proofs.lemmas.Bool.Decides.{nat_tests}
use Rattle.qls_shape.specs.Claims.{each, claim, of_file, ◌>>=◌, ◌>>◌}
use Rattle.qls_site.specs.declared.site.FileAt.{FileAt}
use Rattle.qls_site.specs.declared.site.ImageFile.{ImageFile}
use Rattle.qls_site.specs.Disk.{Disk, FileState, size_of, seen_bytes, bytes_at, file_of, full, full_file, listed}
use Rattle.qls_model.specs.Limits.{file_size}
use Rattle.qls_filehdr.specs.declared.FileHeader.{FileHeader}
use Rattle.qls_filehdr.specs.declared.Rule.{Rule}
use Rattle.qls_filehdr.specs.declared.Rule.TheVariants as rule
use Rattle.qls_filehdr.specs.Header.{header_of, header_spelling, header_fields, number_claims, rest_claims}
use Rattle.qls_meaning.specs.Journals.{headed, in_use}
use Rattle.qls_meaning.specs.Damage.{header_claims}
use Rattle.qls_scan.specs.Found.{head_of, HasCause, IsSpelledOn}
use Rattle.qls_site.specs.Content.{Content, IsRead}
use Rattle.std.specs.Int.{w16}
use Rattle.qls_shape.specs.Fields.{number_at}
use Rattle.qls_filehdr.specs.Limits.{is_legal_header, is_name}
use Rattle.qls_filehdr.proofs.HeaderBack.{header_of_spells}
use Rattle.qls_scan.specs.Heads.{IsListedOn, IsHeadOf, HeadIsRead, HasLegalHeader, sized_head, head_from}
use Rattle.qls_scan.specs.declared.answers.HeadedFile.{HeadedFile}
use Rattle.qls_scan.specs.declared.answers.ScanFault.{ScanFault}
use Rattle.qls_scan.specs.declared.answers.ScanFault.TheVariants.{Failed, Damaged}

-- ---- one file

last_is : (h k : FileHeader) → (let r : Result FileHeader Rule = Ok k in r ≡ Ok h) → h ≡ k
last_is h k e = cc

after : (c : Result (Unit {0}) Rule) (rest : Result FileHeader Rule) (h : FileHeader) → (c >> rest) ≡ Ok h → rest ≡ Ok h
after (Ok x) rest h e = e
after (Err r) rest h e = absurd (cc)

-- a header that is read has what stands in the fields
pub read_fields : (bytes : List ℕ) (h : FileHeader) → header_of bytes ≡ Ok h → h ≡ header_fields bytes
read_fields bytes h e =
    let k = header_fields bytes in
    let whole : Result FileHeader Rule = Ok k in
    let rest = rest_claims (60 + number_at w16 58 bytes) bytes in
    let named = claim (is_name k.kind k.name) rule.Name in
    last_is h k (after rest whole h (after named (rest >> whole) h (after (number_claims bytes) (named >> (rest >> whole)) h e)))

-- what the header's bytes give
module _ (f : ImageFile) (long : leb 4096 (length f.bytes) ≡ true) where
  pub claims_by : (r : Result FileHeader Rule) → header_of (take 4096 f.bytes) ≡ r
      → header_claims f ≡ of_file f.id (r >>= λ h. claim (eqb (length f.bytes) (file_size h.kib)) rule.Size)
  claims_by r e = λ k. of_file f.id (claim (long k) rule.Short >> (e k >>= λ h. claim (eqb (length f.bytes) (file_size h.kib)) rule.Size))

  refused : (r : Rule) → header_of (take 4096 f.bytes) ≡ Err r → header_claims f ≡ Err (f.id, r)
  refused r e = claims_by (Err r) e

  sized_by : (h : FileHeader) (b : Bool) → eqb (length f.bytes) (file_size h.kib) ≡ b → header_of (take 4096 f.bytes) ≡ Ok h
      → IsHeadOf f (cond b (Ok (record { id = f.id; header = h })) (Err (Damaged f.id rule.Size)))
  sized_by h true s e = (
    claims_by (Ok h) e ∙ ap (λ b. of_file f.id (claim b rule.Size)) s,
    ap (λ k. record { id = f.id; header = k }) (read_fields (take 4096 f.bytes) h e),
  )
  sized_by h false s e = claims_by (Ok h) e ∙ ap (λ b. of_file f.id (claim b rule.Size)) s

is_long : (n : ℕ) → 4096 ≤ n → leb 4096 n ≡ true
is_long n h = grind (arith, nat_tests, h)

module _ (file : FileAt) (block : List ℕ) where
  refused_at : (o : Option FileState) (r : Rule) → option_map listed o ≡ Some file → 4096 ≤ file.size → block ≡ take 4096 (drop 0 (seen_bytes o)) → header_of block ≡ Err r
      → IfSome (option_map full_file o) (λ f. IsHeadOf f (Err (Damaged file.id r)))
  refused_at None r there long read e = tt
  refused_at (Some g) r there long read e =
      let same : listed g ≡ file = cc in
      let big : 4096 ≤ size_of g = subst (λ (x : FileAt). 4096 ≤ x.size) (sym same) long in
      subst (λ (x : FileAt). header_claims (full_file g) ≡ Err (x.id, r)) same (refused (full_file g) (is_long (size_of g) big) r (ap header_of (sym read) ∙ e))

  pub head_refused : (d : Disk) (r : Rule) → option_map listed (file_of file.id d) ≡ Some file → 4096 ≤ file.size → block ≡ take 4096 (drop 0 (bytes_at file.id d)) → header_of block ≡ Err r
      → HeadIsRead d file (Err (Damaged file.id r))
  head_refused d r there long read e = refused_at (file_of file.id d) r there long read e

  taken_at : (o : Option FileState) (h : FileHeader) → option_map listed o ≡ Some file → 4096 ≤ file.size → block ≡ take 4096 (drop 0 (seen_bytes o)) → header_of block ≡ Ok h
      → IfSome (option_map full_file o) (λ f. IsHeadOf f (sized_head file h))
  taken_at None h there long read e = tt
  taken_at (Some g) h there long read e =
      let same : listed g ≡ file = cc in
      let big : 4096 ≤ size_of g = subst (λ (x : FileAt). 4096 ≤ x.size) (sym same) long in
      subst (λ (x : FileAt). IsHeadOf (full_file g) (sized_head x h)) same (sized_by (full_file g) (is_long (size_of g) big) h _ refl (ap header_of (sym read) ∙ e))

  pub head_taken : (d : Disk) (h : FileHeader) → option_map listed (file_of file.id d) ≡ Some file → 4096 ≤ file.size → block ≡ take 4096 (drop 0 (bytes_at file.id d)) → header_of block ≡ Ok h
      → HeadIsRead d file (sized_head file h)
  head_taken d h there long read e = taken_at (file_of file.id d) h there long read e

-- ---- where the site tells

head_by : (file : FileAt) (block : List ℕ) (d : Disk) (r : Result FileHeader Rule) → header_of block ≡ r → option_map listed (file_of file.id d) ≡ Some file → 4096 ≤ file.size
    → block ≡ take 4096 (drop 0 (bytes_at file.id d)) → HeadIsRead d file (head_from file r)
head_by file block d (Ok h) e there long read = head_taken file block d h there long read e
head_by file block d (Err r) e there long read = head_refused file block d r there long read e

pub told_head : (o : Option Content) (file : FileAt) (block : List ℕ) → IfSome o (IsListedOn file) → 4096 ≤ file.size → IsRead o file.id 0 4096 block (Ok tt)
    → IfSome o (λ c. HeadIsRead c.now.disk file (head_from file (header_of block)))
told_head None file block there long read = tt
told_head (Some c) file block there long read = head_by file block c.now.disk (header_of block) refl there long read

-- ---- what holds of each head, told or not

-- the file with its header, or the rule `size`
abbrev sized : FileAt → FileHeader → Bool → Result HeadedFile ScanFault
sized file h fits = cond fits (Ok (record { id = file.id; header = h })) (Err (Damaged file.id rule.Size))

module _ (file : FileAt) (h : FileHeader) where
  pub sized_legal : IsTrue (is_legal_header h) → IfOk (sized_head file h) HasLegalHeader
  sized_legal l = elim (eqb file.size (file_size h.kib)) as (λ b. IfOk (sized file h b) HasLegalHeader) [ true ↦ l | false ↦ tt ]

  pub sized_spelled : (bytes : List ℕ) → bytes ≡ header_spelling h → IfOk (sized_head file h) (λ head. header_spelling head.header ≡ bytes)
  sized_spelled bytes e = elim (eqb file.size (file_size h.kib)) as (λ b. IfOk (sized file h b) (λ head. header_spelling head.header ≡ bytes)) [ true ↦ sym e | false ↦ tt ]

  pub sized_id : IfOk (sized_head file h) (λ head. head.id ≡ file.id)
  sized_id = elim (eqb file.size (file_size h.kib)) as (λ b. IfOk (sized file h b) (λ head. head.id ≡ file.id)) [ true ↦ refl | false ↦ tt ]

  not_failed : (b : Bool) → sized file h b ≡ Err Failed → ⊥
  not_failed true e = cc
  not_failed false e = cc

  pub sized_cause : (before now : ℕ) → before ≤ now → HasCause before now (sized_head file h)
  sized_cause before now kept = record { kept = kept; failed = λ e. absurd (not_failed (eqb file.size (file_size h.kib)) e) }

module _ (file : FileAt) where
  pub head_legal : (bytes : List ℕ) → length bytes ≡ 4096 → ((i : ℕ) → get_or bytes i 0 < 256) → IfOk (head_from file (header_of bytes)) HasLegalHeader
  head_legal bytes n small = legal_by (header_of bytes) refl
    where
      legal_by : (r : Result FileHeader Rule) → header_of bytes ≡ r → IfOk (head_from file r) HasLegalHeader
      legal_by (Ok h) e = sized_legal file h (header_of_spells bytes h n small e).0
      legal_by (Err r) e = tt

  -- and the bytes are its spelling
  pub head_spelled : (bytes : List ℕ) → length bytes ≡ 4096 → ((i : ℕ) → get_or bytes i 0 < 256) → IfOk (head_from file (header_of bytes)) (λ head. header_spelling head.header ≡ bytes)
  head_spelled bytes n small = spelled_by (header_of bytes) refl
    where
      spelled_by : (r : Result FileHeader Rule) → header_of bytes ≡ r → IfOk (head_from file r) (λ head. header_spelling head.header ≡ bytes)
      spelled_by (Ok h) e = sized_spelled file h bytes (header_of_spells bytes h n small e).1
      spelled_by (Err r) e = tt

  pub head_id : (r : Result FileHeader Rule) → IfOk (head_from file r) (λ head. head.id ≡ file.id)
  head_id (Ok h) = sized_id file h
  head_id (Err r) = tt

  pub head_cause : (r : Result FileHeader Rule) (before now : ℕ) → before ≤ now → HasCause before now (head_from file r)
  head_cause (Ok h) before now kept = sized_cause file h before now kept
  head_cause (Err r) before now kept = record { kept = kept; failed = λ e. absurd (cc) }

-- ---- the files so far

-- of the first k files those in use broke no rule, and these are their heads
pub record AreReadSoFar (d : Disk) (k : ℕ) (found : List HeadedFile) : Type 0 where
  pub claims : each header_claims (in_use (full d)) ≡ each header_claims (in_use (full (drop k d)))
  pub heads : found ++ map head_of (map headed (in_use (full (drop k d)))) ≡ map head_of (map headed (in_use (full d)))

pub told_spelled : (o : Option Content) (file : FileAt) (block : List ℕ) (r : Result HeadedFile ScanFault) → IsRead o file.id 0 4096 block (Ok tt) → IfOk r (λ head. head.id ≡ file.id)
    → IfOk r (λ head. header_spelling head.header ≡ block) → IfOk r (λ head. IfSome o (λ c. IsSpelledOn c.now.disk head))
told_spelled o file block (Err e) read id spelled = tt
told_spelled None file block (Ok head) read id spelled = tt
told_spelled (Some c) file block (Ok head) read id spelled = ap (λ n. take 4096 (bytes_at n c.now.disk)) id ∙ sym read ∙ sym spelled
