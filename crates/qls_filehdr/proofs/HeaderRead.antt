-- Claims tested one after another.
use Rattle.std.proofs.Common.{◌≡◌, ℕ, ◌+◌, ◌≤◌, Bool, true, false, List, length, take, drop, Result, Ok, Option, Some, None, if◌then◌else◌, refl, sym, ap, ap₂, ◌∙◌, arith, take_all, length-take, length-drop, eqb}
use Rattle.std.specs.List.{list_all}
use Rattle.std.specs.Int.{w16, w32}
use Rattle.qls_shape.specs.Adler.{adler_of}
use Rattle.qls_shape.specs.Fields.{number_at, bytes_from}
use Rattle.qls_shape.specs.Claims.{claim, ◌>>◌}
use Rattle.qls_filehdr.specs.Limits.{is_name}
use Rattle.qls_filehdr.specs.declared.Rule.{Rule}
use Rattle.qls_filehdr.specs.declared.Rule.TheVariants as rule
use Rattle.qls_filehdr.specs.Header.{journal_kind, number_claims, rest_claims, header_fields, header_of}
use Rattle.qls_filehdr.specs.Table.{numbers_at}
use Rattle.qls_filehdr.specs.declared.JournalKind.{JournalKind}
use Rattle.qls_filehdr.specs.declared.FileHeader.{FileHeader}
use Rattle.qls_filehdr.specs.declared.read.Numbers.{Numbers}

-- a claim that passed
pub passed : (b : Bool) (r : Rule) (x : Unit {0}) → Ok x ≡ claim b r → b ≡ true
passed true r x is = refl
passed false r x is = absurd (cc)

-- ---- the three steps of reading: the numbers, the name, the rest

-- a short name is as long as its number says
name_size_is : (bytes name : List ℕ) (n : ℕ) → length bytes ≡ 4096 → name ≡ bytes_from 60 n bytes → length name ≤ 200 → length name ≡ n
name_size_is bytes name n size is short = omega (arith, size, short, ap length is, length-take n (drop 60 bytes), length-drop 60 bytes)

-- where the numbers and the name have passed, the rest decides
pub read_steps : (bytes name : List ℕ) (n : Numbers) (kind : JournalKind) (named : Bool) (x y : Unit {0}) (rest : Result (Unit {0}) Rule)
    → length bytes ≡ 4096 → n ≡ numbers_at bytes → kind ≡ journal_kind n.kind → name ≡ bytes_from 60 n.name_size bytes → named ≡ is_name kind name → length name ≤ 200
    → Ok x ≡ number_claims bytes → Ok y ≡ claim named rule.Name → rest ≡ rest_claims (60 + length name) bytes → (rest >> Ok (header_fields bytes)) ≡ header_of bytes
read_steps bytes name n kind named x y rest size numbers is_kind is_bytes is_named short first second third =
    let count : length name ≡ number_at w16 58 bytes = name_size_is bytes name n.name_size size is_bytes short ∙ ap (λ n. n.name_size) numbers in
    let kind_there : kind ≡ (header_fields bytes).kind = is_kind ∙ ap (λ n. journal_kind n.kind) numbers in
    let name_there : name ≡ (header_fields bytes).name = is_bytes ∙ ap (λ n. bytes_from 60 n.name_size bytes) numbers in
    ap (λ r. r >> Ok (header_fields bytes)) (third ∙ ap (λ k. rest_claims (60 + k) bytes) count)
    ∙ ap (λ r. r >> (rest_claims (60 + number_at w16 58 bytes) bytes >> Ok (header_fields bytes)))
    (second ∙ ap (λ b. claim b rule.Name) (is_named ∙ ap₂ is_name kind_there name_there))
    ∙ ap (λ r. r >> (claim (is_name (header_fields bytes).kind (header_fields bytes).name) rule.Name >> (rest_claims (60 + number_at w16 58 bytes) bytes >> Ok (header_fields bytes)))) first

-- what an option that may hold a list holds
pub held_is : (b : Bool) (o : Option (List ℕ)) (l v : List ℕ) → o ≡ (if b then Some l else None) → o ≡ Some v → v ≡ l
held_is true o l v may is = cc
held_is false o l v may is = absurd (cc)

abbrev made : Numbers → JournalKind → List ℕ → FileHeader
made n kind name =
    record { serial = n.serial; rid = n.rid; part = n.part; kib = n.kib; first = n.first; number = n.number; epoch = n.epoch; kind = kind; name = name }

-- the header that was made is the one that stands in the bytes
pub header_is : (bytes : List ℕ) (n : Numbers) (kind : JournalKind) (name : List ℕ) → n ≡ numbers_at bytes → kind ≡ journal_kind n.kind → name ≡ bytes_from 60 n.name_size bytes
    → made n kind name ≡ header_fields bytes
header_is bytes n kind name numbers is_kind is_bytes = λ i. record {
  serial = (numbers i).serial;
  rid = (numbers i).rid;
  part = (numbers i).part;
  kib = (numbers i).kib;
  first = (numbers i).first;
  number = (numbers i).number;
  epoch = (numbers i).epoch;
  kind = (is_kind ∙ ap (λ n. journal_kind n.kind) numbers) i;
  name = (is_bytes ∙ ap (λ n. bytes_from 60 n.name_size bytes) numbers) i;
}

-- the checksum agreed, and the answer is that of the zeros
pub rest_is : (end sum adl : ℕ) (bytes : List ℕ) (zeros : Bool) (r : Result (Unit {0}) Rule) (x : Unit {0}) → length bytes ≡ 4096 → sum ≡ number_at w32 end bytes → adl ≡ adler_of (take end bytes)
    → zeros ≡ list_all (λ b. eqb b 0) (drop (end + 4) bytes) → Ok x ≡ claim (eqb sum adl) rule.Checksum → r ≡ claim zeros rule.Zeros → r ≡ rest_claims end bytes
rest_is end sum adl bytes zeros r x size s a z ok last =
    let whole : take 4096 bytes ≡ bytes = take_all 4096 bytes (omega (arith, size)) in
    let place : end + 4 ≡ 4 + end = omega arith in
    let agree : eqb sum adl ≡ true = passed (eqb sum adl) rule.Checksum x ok in
    last
    ∙ ap (λ b. claim b rule.Zeros) (z ∙ ap₂ (λ n l. list_all (λ b. eqb b 0) (drop n l)) place (sym whole))
    ∙ ap (λ b. claim b rule.Checksum >> claim (list_all (λ b. eqb b 0) (drop (4 + end) (take 4096 bytes))) rule.Zeros) (sym agree ∙ ap₂ eqb s a)
