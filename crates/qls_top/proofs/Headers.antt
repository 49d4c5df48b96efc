-- What is read of a header that stands in a file.
use Rattle.std.proofs.Common.{◌≡◌, ℕ, ◌+◌, Bool, true, false, List, Result, Ok, Err, refl, subst}
use Rattle.std.specs.Int.{w16}
use Rattle.qls_shape.specs.Claims.{claim, ◌>>◌}
use Rattle.qls_shape.specs.Fields.{number_at}
use Rattle.qls_filehdr.specs.declared.FileHeader.{FileHeader}
use Rattle.qls_filehdr.specs.declared.Rule.{Rule}
use Rattle.qls_filehdr.specs.declared.Rule.TheVariants as rule
use Rattle.qls_filehdr.specs.Limits.{is_name}
use Rattle.qls_filehdr.specs.Header.{header_of, header_fields, number_claims, rest_claims}

then_ok : {A : Type 0} (r : Result A Rule) (x y : FileHeader) → (r >> Ok x) ≡ Ok y → x ≡ y
then_ok (Ok a) x y e = cc
then_ok (Err e) x y h = absurd (cc)

then_all : {A B : Type 0} (r : Result A Rule) (s : Result B Rule) (y : B) → (r >> s) ≡ Ok y → s ≡ Ok y
then_all (Ok a) s y e = e
then_all (Err e) s y h = absurd (cc)

pub fields_read : (bytes : List ℕ) (h : FileHeader) → header_of bytes ≡ Ok h → header_fields bytes ≡ h
fields_read bytes h is =
    let last : Result (Unit {0}) Rule = rest_claims (60 + number_at w16 58 bytes) bytes in
    let name : Result (Unit {0}) Rule = claim (is_name (header_fields bytes).kind (header_fields bytes).name) rule.Name in
    then_ok {A = Unit {0}} last (header_fields bytes) h (then_all {A = Unit {0}} {B = FileHeader} name (last >> Ok (header_fields bytes)) h
    (then_all {A = Unit {0}} {B = FileHeader} (number_claims bytes) (name >> (last >> Ok (header_fields bytes))) h is))

-- a legal header names a journal
pub named_well : (bytes : List ℕ) (h : FileHeader) → header_of bytes ≡ Ok h → is_name h.kind h.name ≡ true
named_well bytes h is =
    let last : Result (Unit {0}) Rule = rest_claims (60 + number_at w16 58 bytes) bytes in
    let b : Bool = is_name (header_fields bytes).kind (header_fields bytes).name in
    subst (λ (x : FileHeader). is_name x.kind x.name ≡ true) (fields_read bytes h is)
    (claimed b (last >> Ok (header_fields bytes)) (then_all {A = Unit {0}} {B = FileHeader} (number_claims bytes) (claim b rule.Name >> (last >> Ok (header_fields bytes))) h is))
  where
    claimed : (b : Bool) (r : Result FileHeader Rule) → (claim b rule.Name >> r) ≡ Ok h → b ≡ true
    claimed true r e = refl
    claimed false r e = absurd (cc)
