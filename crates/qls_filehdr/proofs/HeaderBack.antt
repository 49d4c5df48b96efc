-- What is read has its spelling there, and is legal.
use Rattle.std.proofs.Common.{◌≡◌, ℕ, zero, suc, ◌+◌, ◌-◌, ◌<◌, ◌≤◌, ◌^◌, Bool, true, false, ◌&&◌, eqb, eqb→eq, T, List, [], ◌∷◌, ◌++◌, length, take, drop, replicate, get_or, Result, Ok, Err, refl, sym, ap, ap₂, subst, ◌∙◌, arith, append_assoc, length-take, length-drop, take-append-drop, drop-drop, take_all, ltb, leb, leb→le, lt→ltb, codes}
use Rattle.std.proofs.Math.Seq.{take-append_seam, take-add}
use Rattle.std.proofs.lemmas.Bool.{and_parts, and_from}
use Rattle.std.proofs.lemmas.List.{length-take-le}
use Rattle.std.specs.List.{list_all}
use Rattle.std.specs.Int.{w16, w32, w64, from_le_bytes}
use Rattle.qls_model.specs.Bytes.{same}
use Rattle.qls_shape.specs.Adler.{adler_of}
use Rattle.qls_shape.specs.Fields.{u32, number_at}
use Rattle.qls_shape.specs.Tables.{numbers_of, spelled}
use Rattle.qls_shape.specs.Claims.{claim, ◌>>◌}
use Rattle.qls_shape.proofs.TableTrip.{bytes_back, small_drop, small_take, with_numbers-numbers_of, with_numbers-joined}
use Rattle.qls_model.specs.Limits.{is_partition, is_kib}
use Rattle.qls_filehdr.specs.declared.FileHeader.{FileHeader}
use Rattle.qls_filehdr.specs.declared.Rule.{Rule}
use Rattle.qls_filehdr.specs.declared.Rule.TheVariants as rule
use Rattle.qls_filehdr.specs.Limits.{is_first_place, is_counter, is_name, is_legal_header}
use Rattle.qls_filehdr.specs.Header.{kind_number, journal_kind, header_numbers, header_front, header_spelling, header_fields, name_at, number_claims, rest_claims, header_of}
use Rattle.qls_filehdr.specs.Table.{header_table}
use Rattle.qls_filehdr.proofs.HeaderTrip.{name_fits}

-- ---- what claims that all passed say

claim_ok : (b : Bool) (r : Rule) (x : Unit {0}) → claim b r ≡ Ok x → b ≡ true
claim_ok true r x is = refl
claim_ok false r x is = absurd (cc)

both_ok : {A : Type 0} (r : Result (Unit {0}) Rule) (s : Result A Rule) (x : A) → (r >> s) ≡ Ok x → (r ≡ Ok tt) × (s ≡ Ok x)
both_ok (Ok tt) s x is = (refl, is)
both_ok (Err e) s x is = absurd (cc)

first_ok : {A : Type 0} (b : Bool) (r : Rule) (s : Result A Rule) (x : A) → (claim b r >> s) ≡ Ok x → (b ≡ true) × (s ≡ Ok x)
first_ok true r s x is = (refl, is)
first_ok false r s x is = absurd (cc)

same_is : (xs ys : List ℕ) → same xs ys ≡ true → xs ≡ ys
same_is [] [] h = refl
same_is [] (y ∷ ys) h = absurd (cc)
same_is (x ∷ xs) [] h = absurd (cc)
same_is (x ∷ xs) (y ∷ ys) h =
    let parts = and_parts _ _ h in
    ap₂ (λ a b. a ∷ b) (eqb→eq x y (subst T (sym parts.0) tt)) (same_is xs ys parts.1)

zeros_are : (bytes : List ℕ) → list_all (λ b. eqb b 0) bytes ≡ true → bytes ≡ replicate (length bytes) 0
zeros_are [] h = refl
zeros_are (b ∷ bytes) h =
    let parts = and_parts _ _ h in
    ap₂ (λ a l. a ∷ l) (eqb→eq b 0 (subst T (sym parts.0) tt)) (zeros_are bytes parts.1)

true_of : (b : Bool) → T b → b ≡ true
true_of true h = refl
true_of false h = absurd h

is_number : (m n : ℕ) → eqb m n ≡ true → m ≡ n
is_number m n h = eqb→eq m n (subst T (sym h) tt)

-- the number of the kind that a number gives
kind_there : (n : ℕ) → (leb 1 n && leb n 2) ≡ true → kind_number (journal_kind n) ≡ n
kind_there zero h = absurd (cc)
kind_there (suc zero) h = refl
kind_there (suc (suc zero)) h = refl
kind_there (suc (suc (suc n))) h = let most : suc (suc (suc n)) ≤ 2 = leb→le (suc (suc (suc n))) 2 (subst T (sym (and_parts (leb 1 (suc (suc (suc n)))) (leb (suc (suc (suc n))) 2) h).1) tt) in absurd (omega (arith, most))

number_small : (bytes : List ℕ) (at : ℕ) → ((i : ℕ) → get_or bytes i 0 < 256) → number_at w64 at bytes < 2 ^ 64
number_small bytes at small =
    let part : List ℕ = take 8 (drop at bytes) in
    let s = small_take 8 (drop at bytes) (small_drop bytes at small) in
    omega (arith, s 0, s 1, s 2, s 3, s 4, s 5, s 6, s 7)

-- all rules kept
pub record Kept (bytes : List ℕ) : Type 0 where
  pub magic : take 4 bytes ≡ codes "QLSf"
  pub version : number_at w16 4 bytes ≡ 2
  pub flags : number_at w16 6 bytes ≡ 0
  pub part : is_partition (number_at w32 24 bytes) ≡ true
  pub kib : is_kib (number_at w32 28 bytes) ≡ true
  pub place : is_first_place (number_at w32 28 bytes) (number_at w64 32 bytes) ≡ true
  pub counter : (ltb (number_at w64 16 bytes) (2 ^ 62) && is_counter (number_at w64 40 bytes) && is_counter (number_at w64 48 bytes)) ≡ true
  pub kind : (leb 1 (number_at w16 56 bytes) && leb (number_at w16 56 bytes) 2) ≡ true
  pub name : is_name (journal_kind (number_at w16 56 bytes)) (name_at bytes) ≡ true
  pub checksum : number_at w32 (60 + number_at w16 58 bytes) bytes ≡ adler_of (take (60 + number_at w16 58 bytes) bytes)
  pub zeros : list_all (λ b. eqb b 0) (drop (4 + (60 + number_at w16 58 bytes)) (take 4096 bytes)) ≡ true

kept_of : (bytes : List ℕ) (h : FileHeader) → header_of bytes ≡ Ok h → Kept bytes × (header_fields bytes ≡ h)
kept_of bytes h is =
    let a = both_ok (number_claims bytes) _ h is in
    let b = first_ok _ rule.Name _ h a.1 in
    let c = both_ok (rest_claims (60 + number_at w16 58 bytes) bytes) _ h b.1 in
    let magic = first_ok _ rule.Magic _ tt a.0 in
    let version = first_ok _ rule.Version _ tt magic.1 in
    let flags = first_ok _ rule.Flags _ tt version.1 in
    let part = first_ok _ rule.Partition _ tt flags.1 in
    let kib = first_ok _ rule.Kib _ tt part.1 in
    let place = first_ok _ rule.Place _ tt kib.1 in
    let counter = first_ok _ rule.Counter _ tt place.1 in
    let kind = claim_ok _ rule.Kind tt counter.1 in
    let checksum = first_ok _ rule.Checksum _ tt c.0 in
    let zeros = claim_ok _ rule.Zeros tt checksum.1 in (
      record {
        magic = same_is (take 4 bytes) (codes "QLSf") magic.0;
        version = is_number _ 2 version.0;
        flags = is_number _ 0 flags.0;
        part = part.0;
        kib = kib.0;
        place = place.0;
        counter = counter.0;
        kind = kind;
        name = b.0;
        checksum = is_number _ _ checksum.0;
        zeros = zeros;
      },
      cc,
    )

-- ---- the bytes of a header whose rules are kept

module _ (bytes : List ℕ) (whole : length bytes ≡ 4096) (small : (i : ℕ) → get_or bytes i 0 < 256) (kept : Kept bytes) where
  abbrev h : FileHeader
  h = header_fields bytes

  abbrev n : ℕ
  n = number_at w16 58 bytes

  name_short : length (name_at bytes) ≤ 200
  name_short = name_fits (journal_kind (number_at w16 56 bytes)) (name_at bytes) kept.name

  name_count : length (name_at bytes) ≡ n
  name_count = omega (arith, name_short, whole, length-take n (drop 60 bytes), length-drop 60 bytes)

  -- the numbers, spelled, are the first sixty bytes
  abbrev spelled_with : ℕ → ℕ → ℕ → ℕ → ℕ → List ℕ
  spelled_with magic version flags kind size =
      spelled header_table.fields
      (magic ∷ version ∷ flags ∷ h.serial ∷ h.rid ∷ h.part ∷ h.kib ∷ h.first ∷ h.number ∷ h.epoch ∷ kind ∷ size ∷ [])

  magic_there : 0x66534c51 ≡ number_at w32 0 bytes
  magic_there = sym (ap (from_le_bytes w32) kept.magic)

  numbers_there : header_numbers h ≡ spelled header_table.fields (numbers_of header_table.fields bytes)
  numbers_there = λ i. spelled_with (magic_there i) (sym kept.version i) (sym kept.flags i) (kind_there (number_at w16 56 bytes) kept.kind i) (name_count i)

  fixed_split : header_numbers h ++ drop 60 bytes ≡ bytes
  fixed_split =
      ap (λ l. l ++ drop 60 bytes) numbers_there
      ∙ sym (with_numbers-joined 0 60 header_table.fields (numbers_of header_table.fields bytes) bytes refl refl (omega (arith, whole)))
      ∙ with_numbers-numbers_of 0 60 header_table.fields bytes refl (omega (arith, whole)) small

  fixed_there : take 60 bytes ≡ header_numbers h
  fixed_there = ap (take 60) (sym fixed_split) ∙ take-append_seam (header_numbers h) (drop 60 bytes)

  front_there : take (60 + n) bytes ≡ header_front h
  front_there = take-add 60 n bytes ∙ ap (λ l. l ++ name_at bytes) fixed_there

  sum_there : take 4 (drop (60 + n) bytes) ≡ u32 (adler_of (header_front h))
  sum_there =
      let part : List ℕ = take 4 (drop (60 + n) bytes) in
      let size : length part ≡ 4 = length-take-le 4 (drop (60 + n) bytes) (omega (arith, length-drop (60 + n) bytes, whole, name_short, name_count)) in
      sym (bytes_back 4 part refl size (small_take 4 (drop (60 + n) bytes) (small_drop bytes (60 + n) small)))
      ∙ ap u32 (kept.checksum ∙ ap adler_of front_there)

  zeros_there : drop (4 + (60 + n)) bytes ≡ replicate (4032 - length (name_at bytes)) 0
  zeros_there =
      let all : take 4096 bytes ≡ bytes = take_all 4096 bytes (omega (arith, whole)) in
      let zero : list_all (λ b. eqb b 0) (drop (4 + (60 + n)) bytes) ≡ true = ap (λ l. list_all (λ b. eqb b 0) (drop (4 + (60 + n)) l)) (sym all) ∙ kept.zeros in
      let count : length (drop (4 + (60 + n)) bytes) ≡ 4032 - length (name_at bytes) = omega (arith, length-drop (4 + (60 + n)) bytes, whole, name_count) in
      zeros_are (drop (4 + (60 + n)) bytes) zero ∙ ap (λ k. replicate k 0) count

  spelled_there : bytes ≡ header_spelling h
  spelled_there =
      let place : (60 + n) + 4 ≡ 4 + (60 + n) = omega arith in
      sym (take-append-drop (60 + n) bytes)
      ∙ ap (λ l. take (60 + n) bytes ++ l) (sym (take-append-drop 4 (drop (60 + n) bytes)) ∙ ap (λ l. take 4 (drop (60 + n) bytes) ++ l) (drop-drop 4 (60 + n) bytes ∙ ap (λ k. drop k bytes) place))
      ∙ sym (append_assoc (take (60 + n) bytes) (take 4 (drop (60 + n) bytes)) (drop (4 + (60 + n)) bytes))
      ∙ ap₂ (λ a b. a ++ b ++ drop (4 + (60 + n)) bytes) front_there sum_there
      ∙ ap (λ l. header_front h ++ u32 (adler_of (header_front h)) ++ l) zeros_there

  legal_there : is_legal_header h ≡ true
  legal_there =
      let counts = and_parts _ _ kept.counter in
      let first = and_parts _ _ counts.0 in
      let serial : ltb h.serial (2 ^ 64) ≡ true = true_of _ (lt→ltb h.serial (2 ^ 64) (number_small bytes 8 small)) in
      and_from _ _ (and_from _ _ (and_from _ _ (and_from _ _ (and_from _ _ (and_from _ _ (and_from _ _ serial first.0) kept.part) kept.kib) kept.place) first.1) counts.1) kept.name

-- What is read has its spelling there, and is legal.
pub header_of_spells : (bytes : List ℕ) (h : FileHeader) → length bytes ≡ 4096 → ((i : ℕ) → get_or bytes i 0 < 256) → header_of bytes ≡ Ok h → (is_legal_header h ≡ true) × (bytes ≡ header_spelling h)
header_of_spells bytes h whole small is =
    let k = kept_of bytes h is in
    (ap is_legal_header (sym k.1) ∙ legal_there bytes whole small k.0, spelled_there bytes whole small k.0 ∙ ap header_spelling k.1)
