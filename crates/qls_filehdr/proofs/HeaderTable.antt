-- The numbers of a header, as its table puts them.
use Rattle.std.proofs.Common.{◌≡◌, ℕ, ◌+◌, ◌-◌, ◌<◌, ◌≤◌, ◌^◌, true, List, [], ◌∷◌, ◌++◌, length, take, drop, replicate, refl, sym, ap, ap₂, subst, ◌∙◌, arith, length-append, length-drop, lit<}
use Rattle.std.proofs.Math.Seq.{take-append_seam}
use Rattle.qls_shape.specs.Adler.{adler_of}
use Rattle.qls_shape.specs.Fields.{u32}
use Rattle.qls_shape.specs.Tables.{Table, Fit, with_numbers, spelled}
use Rattle.qls_shape.proofs.TableTrip.{with_numbers-joined}
use Rattle.qls_filehdr.specs.declared.JournalKind.{JournalKind}
use Rattle.qls_filehdr.specs.declared.JournalKind.TheVariants.{Queue, List as Listed}
use Rattle.qls_filehdr.specs.declared.FileHeader.{FileHeader}
use Rattle.qls_filehdr.specs.Limits.{is_legal_header}
use Rattle.qls_filehdr.specs.Header.{kind_number, header_numbers, header_front, header_spelling}
use Rattle.qls_filehdr.specs.Table.{header_table}
use Rattle.qls_filehdr.proofs.HeaderTrip.{legal_parts, less_of, part_fits, kib_fits, first_fits, counter_fits, name_fits}

-- the twelve numbers of a header
abbrev numbers : FileHeader → ℕ → ℕ → ℕ → ℕ → List ℕ
numbers h part kib kind size =
    0x66534c51 ∷ 2 ∷ 0 ∷ h.serial ∷ h.rid ∷ part ∷ kib ∷ h.first ∷ h.number ∷ h.epoch ∷ kind ∷ size ∷ []

kind_fits : (kind : JournalKind) → kind_number kind < 2 ^ 16
kind_fits Queue = lit< tt
kind_fits Listed = lit< tt

module _ (h : FileHeader) (part kib kind size : ℕ) (p : part ≡ h.part) (d : kib ≡ h.kib) (k : kind ≡ kind_number h.kind) (s : size ≡ length h.name) where
  -- each fits its field
  pub numbers_fit : (t : Table) → t ≡ header_table → is_legal_header h ≡ true → Fit t.fields (numbers h part kib kind size)
  numbers_fit t e legal =
      let parts = legal_parts h legal in
      let rid = less_of h.rid (2 ^ 62) parts.rid in
      let part_size = part_fits h.part parts.part in
      let kib_size = kib_fits h.kib parts.kib in
      let kind_size = kind_fits h.kind in
      let name_size = name_fits h.kind h.name parts.name in
      let fit : Fit header_table.fields (numbers h part kib kind size) = (
        lit< tt,
        (
          lit< tt,
          (
            lit< tt,
            (
              parts.serial,
              (
                omega (arith, rid),
                (
                  omega (arith, p, part_size),
                  (
                    omega (arith, d, kib_size),
                    (
                      first_fits h.kib h.first parts.kib parts.first,
                      (counter_fits h.number parts.number, (counter_fits h.epoch parts.epoch, (omega (arith, k, kind_size), (omega (arith, s, name_size), tt)))),
                    ),
                  ),
                ),
              ),
            ),
          ),
        ),
      ) in
      subst (λ (t : Table). Fit t.fields (numbers h part kib kind size)) (sym e) fit

  -- put into the first sixty bytes
  pub numbers_put : (t : Table) (bytes : List ℕ) → t ≡ header_table → 60 ≤ length bytes → with_numbers t.fields (numbers h part kib kind size) bytes ≡ header_numbers h ++ drop 60 bytes
  numbers_put t bytes e room =
      ap (λ t. with_numbers t.fields (numbers h part kib kind size) bytes) e
      ∙ with_numbers-joined 0 60 header_table.fields (numbers h part kib kind size) bytes refl refl room
      ∙ ap₂ (λ a b. spelled header_table.fields (numbers h a b kind size) ++ drop 60 bytes) p d
      ∙ ap₂ (λ a b. spelled header_table.fields (numbers h h.part h.kib a b) ++ drop 60 bytes) k s

-- the numbers, the name, the checksum and zeros, written one after another
pub spelled_whole : (h : FileHeader) (old numbered named new : List ℕ) (size : ℕ) → length old ≡ 4096 → size ≡ length h.name → length h.name ≤ 200
    → numbered ≡ header_numbers h ++ drop 60 old
    → named ≡ take 60 numbered ++ h.name ++ drop (60 + size) numbered
    → new ≡ take (60 + size) named ++ u32 (adler_of (take (60 + size) named)) ++ replicate (length named - (60 + size + 4)) 0
    → new ≡ header_spelling h
spelled_whole h old numbered named new size whole s most a b c =
    let front : List ℕ = header_front h in
    let rest : List ℕ = drop (60 + size) numbered in
    let old_size : length (drop 60 old) ≡ 4036 = omega (arith, length-drop 60 old, whole) in
    let numbered_size : length numbered ≡ 4096 = omega (arith, ap length a, length-append (header_numbers h) (drop 60 old), old_size) in
    let fixed : take 60 numbered ≡ header_numbers h = ap (take 60) a ∙ take-append_seam (header_numbers h) (drop 60 old) in
    let named_is : named ≡ front ++ rest = b ∙ ap (λ l. l ++ h.name ++ rest) fixed in
    let front_size : length front ≡ 60 + size = omega (arith, length-append (header_numbers h) h.name, s) in
    let named_size : length named ≡ 4096 =
    omega (arith, ap length named_is, length-append front rest, length-drop (60 + size) numbered, numbered_size, front_size, s, most) in
    let covered : take (60 + size) named ≡ front = ap₂ take (sym front_size) named_is ∙ take-append_seam front rest in
    let zeros : length named - (60 + size + 4) ≡ 4032 - length h.name = omega (arith, named_size, s) in
    c ∙ ap₂ (λ l n. l ++ u32 (adler_of l) ++ replicate n 0) covered zeros
