-- A legal header that is spelled is read.
use Rattle.std.proofs.Common.{◌≡◌, ℕ, zero, suc, ◌+◌, ◌-◌, ◌*◌, ◌%◌, ◌^◌, ◌<◌, ◌≤◌, Bool, true, false, ◌&&◌, ◌||◌, List, [], ◌∷◌, ◌++◌, length, take, drop, replicate, Result, Ok, refl, sym, ap, ap₂, ◌∙◌, subst, append_assoc, arith, eqb, ltb, leb, ltb→lt, leb→le, eqb→eq, T, lit<, length-append, lt_of_le_of_lt, codes, take_all}
use lib.Dec.{eqb_refl}
use Rattle.std.proofs.Math.Seq.{take-append_seam, drop-append_seam}
use Rattle.std.proofs.Math.ListN.{length-replicate}
use Rattle.std.proofs.lemmas.Bool.{and_parts, and_from}
use Rattle.std.proofs.lemmas.Nat.{from_le_bytes-to_le_bytes_2, from_le_bytes-to_le_bytes_4, from_le_bytes-to_le_bytes_8}
use Rattle.std.specs.List.{list_all}
use Rattle.std.specs.Int.{w16, w32, from_le_bytes}
use Rattle.qls_shape.specs.Adler.{adler_of, adler_from}
use Rattle.qls_shape.specs.Fields.{u16, u32, u64}
use Rattle.qls_shape.specs.Claims.{claim, ◌>>◌}
use Rattle.qls_filehdr.specs.declared.JournalKind.{JournalKind}
use Rattle.qls_filehdr.specs.declared.JournalKind.TheVariants.{Queue, List as Listed}
use Rattle.qls_filehdr.specs.declared.FileHeader.{FileHeader}
use Rattle.qls_filehdr.specs.declared.Rule.{Rule}
use Rattle.qls_filehdr.specs.declared.Rule.TheVariants as rule
use Rattle.qls_model.specs.Limits.{is_partition, is_kib}
use Rattle.qls_filehdr.specs.Limits.{is_first_place, is_counter, is_name, is_legal_header}
use Rattle.qls_filehdr.specs.Header.{version_of, kind_number, header_front, header_spelling, name_at, journal_kind, header_fields, number_claims, rest_claims, header_of}

-- ---- what is said of a legal header

pub record LegalHeader (h : FileHeader) : Type 0 where
  pub serial : h.serial < 2 ^ 64
  pub rid : ltb h.rid (2 ^ 62) ≡ true
  pub part : is_partition h.part ≡ true
  pub kib : is_kib h.kib ≡ true
  pub first : is_first_place h.kib h.first ≡ true
  pub number : is_counter h.number ≡ true
  pub epoch : is_counter h.epoch ≡ true
  pub name : is_name h.kind h.name ≡ true

pub less_of : (m n : ℕ) → ltb m n ≡ true → m < n
less_of m n h = ltb→lt m n (subst T (sym h) tt)

pub most_of : (m n : ℕ) → leb m n ≡ true → m ≤ n
most_of m n h = leb→le m n (subst T (sym h) tt)

pub legal_parts : (h : FileHeader) → is_legal_header h ≡ true → LegalHeader h
legal_parts h e =
    let a = and_parts _ _ e in
    let b = and_parts _ _ a.0 in
    let c = and_parts _ _ b.0 in
    let d = and_parts _ _ c.0 in
    let f = and_parts _ _ d.0 in
    let g = and_parts _ _ f.0 in
    let k = and_parts _ _ g.0 in
    record { serial = less_of h.serial (2 ^ 64) k.0; rid = k.1; part = g.1; kib = f.1; first = d.1; number = c.1; epoch = b.1; name = a.1 }

pub part_fits : (n : ℕ) → is_partition n ≡ true → n < 2 ^ 32
part_fits n e = let l = most_of n 999 (and_parts _ _ e).1 in lt_of_le_of_lt l (lit< tt)

pub kib_fits : (n : ℕ) → is_kib n ≡ true → n < 2 ^ 32
kib_fits n e = let l = most_of n 65536 (and_parts _ _ (and_parts _ _ e).0).1 in lt_of_le_of_lt l (lit< tt)

pub counter_fits : (n : ℕ) → is_counter n ≡ true → n < 2 ^ 64
counter_fits n e = let l : n < 2 ^ 62 = less_of n (2 ^ 62) (and_parts (leb 1 n) (ltb n (2 ^ 62)) e).1 in omega (arith, l)

kib_most : (n : ℕ) → is_kib n ≡ true → n ≤ 65536
kib_most n e = most_of n 65536 (and_parts _ _ (and_parts _ _ e).0).1

pub first_fits : (kib n : ℕ) → is_kib kib ≡ true → is_first_place kib n ≡ true → n < 2 ^ 64
first_fits kib n k e = by (eqb n 0) (leb 4096 n) (leb (n + 128) (4096 + 1024 * kib)) refl refl e
  where
    by : (a b c : Bool) → eqb n 0 ≡ a → leb (n + 128) (4096 + 1024 * kib) ≡ c → (a || (b && c && eqb (n % 128) 0)) ≡ true → n < 2 ^ 64
    by true b c z l e = let zero_is : n ≡ 0 = eqb→eq n 0 (subst T (sym z) tt) in omega arith
    by false true true z l e = let fits = most_of (n + 128) (4096 + 1024 * kib) l in let most = kib_most kib k in omega (arith, fits, most)
    by false true false z l e = absurd (cc)
    by false false c z l e = absurd (cc)

pub name_fits : (kind : JournalKind) (name : List ℕ) → is_name kind name ≡ true → length name ≤ 200
name_fits Queue name e = most_of (length name) 200 (and_parts _ _ (and_parts _ _ e).0).1
name_fits Listed name e = let zero_is : length name ≡ 0 = eqb→eq (length name) 0 (subst T (sym e) tt) in omega arith

sum_fits : (a b : ℕ) (bytes : List ℕ) → adler_from a b bytes < 2 ^ 32
sum_fits a b [] = omega arith
sum_fits a b (x ∷ bytes) = sum_fits (a + x) (b + (a + x)) bytes

all_zero : (n : ℕ) → list_all (λ b. eqb b 0) (replicate n 0) ≡ true
all_zero zero = refl
all_zero (suc n) = all_zero n

kind_back : (kind : JournalKind) → journal_kind (from_le_bytes w16 (u16 (kind_number kind))) ≡ kind
kind_back Queue = refl
kind_back Listed = refl

kind_is_one : (kind : JournalKind) → (leb 1 (from_le_bytes w16 (u16 (kind_number kind))) && leb (from_le_bytes w16 (u16 (kind_number kind))) 2) ≡ true
kind_is_one Queue = refl
kind_is_one Listed = refl

-- a claim that is kept
kept : {A : Type 0} (b : Bool) (r : Rule) (rest : Result A Rule) (x : A) → b ≡ true → rest ≡ Ok x → (claim b r >> rest) ≡ Ok x
kept true r rest x e k = k
kept false r rest x e k = absurd (cc)

kept_last : (b : Bool) (r : Rule) → b ≡ true → claim b r ≡ Ok tt
kept_last true r e = refl
kept_last false r e = absurd (cc)

-- ---- the bytes: sixty of fields, the name, the checksum and zeros

abbrev fields : FileHeader → List ℕ
fields h =
    codes "QLSf" ++ u16 (version_of h) ++ u16 0 ++ u64 h.serial ++ u64 h.rid ++ u32 h.part ++ u32 h.kib ++ u64 h.first
    ++ u64 h.number ++ u64 h.epoch ++ u16 (kind_number h.kind) ++ u16 (length h.name)

parts : (h : FileHeader) → header_spelling h ≡ fields h ++ (h.name ++ (u32 (adler_of (header_front h)) ++ replicate {A = ℕ} (4032 - length h.name) 0))
parts h = append_assoc (fields h ++ h.name) (u32 (adler_of (header_front h))) (replicate {A = ℕ} (4032 - length h.name) 0) ∙ append_assoc (fields h) h.name (u32 (adler_of (header_front h)) ++ replicate {A = ℕ} (4032 - length h.name) 0)

module _ (h : FileHeader) (legal : LegalHeader h) (more : List ℕ) where
  abbrev bytes : List ℕ
  bytes = fields h ++ (h.name ++ more)

  size_is : from_le_bytes w16 (u16 (length h.name)) ≡ length h.name
  size_is = from_le_bytes-to_le_bytes_2 (length h.name) (lt_of_le_of_lt (name_fits h.kind h.name legal.name) (lit< tt))

  name_is : name_at bytes ≡ h.name
  name_is = ap (λ n. take n (h.name ++ more)) size_is ∙ take-append_seam h.name more

  fields_read : header_fields bytes ≡ h
  fields_read = λ i. record {
    serial = from_le_bytes-to_le_bytes_8 h.serial legal.serial i;
    rid = from_le_bytes-to_le_bytes_8 h.rid (let l = less_of h.rid (2 ^ 62) legal.rid in omega (arith, l)) i;
    part = from_le_bytes-to_le_bytes_4 h.part (part_fits h.part legal.part) i;
    kib = from_le_bytes-to_le_bytes_4 h.kib (kib_fits h.kib legal.kib) i;
    first = from_le_bytes-to_le_bytes_8 h.first (first_fits h.kib h.first legal.kib legal.first) i;
    number = from_le_bytes-to_le_bytes_8 h.number (counter_fits h.number legal.number) i;
    epoch = from_le_bytes-to_le_bytes_8 h.epoch (counter_fits h.epoch legal.epoch) i;
    kind = kind_back h.kind i;
    name = name_is i;
  }

same_number : (n : ℕ) → eqb n n ≡ true
same_number n = true_of (eqb n n) (eqb_refl n)
  where
    true_of : (b : Bool) → T b → b ≡ true
    true_of true h = refl
    true_of false h = absurd h

-- What is spelled is read.
pub header_of-header_spelling : (h : FileHeader) → is_legal_header h ≡ true → header_of (header_spelling h) ≡ Ok h
header_of-header_spelling h e =
    let legal = legal_parts h e in
    let sum = adler_of (header_front h) in
    let zeros = replicate {A = ℕ} (4032 - length h.name) 0 in
    let more = u32 sum ++ zeros in
    let B : List ℕ = fields h ++ (h.name ++ more) in
    let size : from_le_bytes w16 (u16 (length h.name)) ≡ length h.name = size_is h legal more in
    let back : header_fields B ≡ h = fields_read h legal more in
    let name_size = name_fits h.kind h.name legal.name in
    -- behind the name, behind the checksum
    let front_size : 60 + length h.name ≡ length (header_front h) = omega (arith, length-append (fields h) h.name) in
    let front_split : B ≡ header_front h ++ more = sym (append_assoc (fields h) h.name more) in
    let past_front : drop (60 + length h.name) B ≡ more = ap₂ drop front_size front_split ∙ drop-append_seam (header_front h) more in
    let front_is : take (60 + length h.name) B ≡ header_front h = ap₂ take front_size front_split ∙ take-append_seam (header_front h) more in
    let sum_size : 64 + length h.name ≡ length (header_front h ++ u32 sum) = omega (arith, length-append (fields h) h.name, length-append (header_front h) (u32 sum)) in
    let sum_split : B ≡ (header_front h ++ u32 sum) ++ zeros = front_split ∙ sym (append_assoc (header_front h) (u32 sum) zeros) in
    let past_sum : drop (64 + length h.name) B ≡ zeros = ap₂ drop sum_size sum_split ∙ drop-append_seam (header_front h ++ u32 sum) zeros in
    let whole : length B ≤ 4096 =
    omega (arith, ap length sum_split, length-append (header_front h ++ u32 sum) zeros, sum_size, length-replicate {A = ℕ} (4032 - length h.name) 0, name_size) in
    let checksum : eqb (from_le_bytes w32 (take 4 (drop (60 + from_le_bytes w16 (u16 (length h.name))) B))) (adler_of (take (60 + from_le_bytes w16 (u16 (length h.name))) B)) ≡ true =
    ap (λ n. eqb (from_le_bytes w32 (take 4 (drop (60 + n) B))) (adler_of (take (60 + n) B))) size
    ∙ ap₂ (λ d f. eqb (from_le_bytes w32 (take 4 d)) (adler_of f)) past_front front_is
    ∙ ap (λ k. eqb k sum) (from_le_bytes-to_le_bytes_4 sum (sum_fits 1 0 (header_front h)))
    ∙ same_number sum in
    let zero_rest : list_all (λ b. eqb b 0) (drop (64 + from_le_bytes w16 (u16 (length h.name))) (take 4096 B)) ≡ true =
    ap (λ n. list_all (λ b. eqb b 0) (drop (64 + n) (take 4096 B))) size
    ∙ ap (λ l. list_all (λ b. eqb b 0) (drop (64 + length h.name) l)) (take_all 4096 B whole)
    ∙ ap (list_all (λ b. eqb b 0)) past_sum ∙ all_zero (4032 - length h.name) in
    let numbers : number_claims B ≡ Ok tt =
    kept _ rule.Magic _ tt refl
    (kept _ rule.Version _ tt refl
    (kept _ rule.Flags _ tt refl
    (kept _ rule.Partition _ tt (ap (λ x. is_partition x.part) back ∙ legal.part)
    (kept _ rule.Kib _ tt (ap (λ x. is_kib x.kib) back ∙ legal.kib)
    (kept _ rule.Place _ tt (ap (λ x. is_first_place x.kib x.first) back ∙ legal.first)
    (kept _ rule.Counter _ tt (ap (λ x. ltb x.rid (2 ^ 62) && is_counter x.number && is_counter x.epoch) back ∙ and_from _ _ (and_from _ _ legal.rid legal.number) legal.epoch)
    (kept_last _ rule.Kind (kind_is_one h.kind)))))))) in
    let place : 4 + (60 + from_le_bytes w16 (u16 (length h.name))) ≡ 64 + from_le_bytes w16 (u16 (length h.name)) = omega arith in
    let rest : rest_claims (60 + from_le_bytes w16 (u16 (length h.name))) B ≡ Ok tt = kept _ rule.Checksum _ tt checksum (kept_last _ rule.Zeros (ap (λ k. list_all (λ b. eqb b 0) (drop k (take 4096 B))) place ∙ zero_rest)) in
    ap header_of (parts h)
    ∙ ap (λ r. r >> (claim (is_name (header_fields B).kind (header_fields B).name) rule.Name >> (rest_claims (60 + from_le_bytes w16 (u16 (length h.name))) B >> Ok (header_fields B)))) numbers
    ∙ kept _ rule.Name _ h (ap (λ x. is_name x.kind x.name) back ∙ legal.name) (ap (λ r. r >> Ok (header_fields B)) rest ∙ ap (λ x. Ok x) back)
