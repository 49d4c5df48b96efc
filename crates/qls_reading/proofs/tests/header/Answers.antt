use Rattle.std.proofs.Common.{◌≡◌, ℕ, ◌<◌, ◌≤◌, ◌^◌, true, ◌&&◌, ltb, leb, List, [], ◌∷◌, ap, arith}
use Rattle.std.proofs.lemmas.Bool.Decides.{nat_tests}
use Rattle.qls_model.specs.Limits.{is_partition, is_kib}
use Rattle.qls_filehdr.specs.declared.JournalKind.TheVariants.{Queue}
use Rattle.qls_filehdr.specs.Limits.{is_first_place, is_name, is_legal_header}
use Rattle.qls_reading.proofs.tests.header.Goals as goal
use Rattle.qls_reading.proofs.tests.header.Goals.{else-first-ne0-via-then-first-ne0+then-first-ne4096+else-first-ne4224, else-first-ne0-via-then-first-ne0+else-first-ne4096, else-first-ne0-via-else-first-ne0}

less : (m n : ℕ) → m < n → ltb m n ≡ true
less m n l = grind (arith, nat_tests)

most : (m n : ℕ) → m ≤ n → leb m n ≡ true
most m n l = grind (arith, nat_tests)

legal : (number rid epoch first : ℕ) (name : List ℕ) → 1 ≤ number → number ≤ 5 → rid ≤ 9 → 1 ≤ epoch → epoch ≤ 9 → is_first_place 4 first ≡ true → name ≡ 97 ∷ []
    → is_legal_header (record { serial = number; rid = rid; part = 1; kib = 4; first = first; number = number; epoch = epoch; kind = Queue; name = name }) ≡ true
legal number rid epoch first name a b r e f p n = λ k.
    less number (2 ^ 64) (omega (arith, b)) k && less rid (2 ^ 62) (omega (arith, r)) k && is_partition 1 && is_kib 4 && p k
    && (most 1 number a k && less number (2 ^ 62) (omega (arith, b)) k) && (most 1 epoch e k && less epoch (2 ^ 62) (omega (arith, f)) k) && is_name Queue (n k)

pub returns : goal.returns
returns c =
    let kept = c.new.ensures.kept in
    let is = c.in-Some.is in
    let name : c.in-Some.name ≡ 97 ∷ [] = cc in
    let first : is_first_place 4 c.args.told.1 ≡ true = elim c.else-first-ne0.branch [
      | else-first-ne0-via-then-first-ne0+then-first-ne4096+else-first-ne4224 w ↦ ap (is_first_place 4) w.if-first-ne4224.false
      | else-first-ne0-via-then-first-ne0+else-first-ne4096 w ↦ ap (is_first_place 4) w.if-first-ne4096.false
      | else-first-ne0-via-else-first-ne0 w ↦ ap (is_first_place 4) w.if-first-ne0.false
    ] in
    record {
      legal = legal c.args.number c.args.told.2 c.args.told.0 c.args.told.1 c.in-Some.name (omega (arith, c.if-number-eq0.false)) c.if-number-gt5.false c.if-rid-gt9.false
          (omega (arith, c.if-epoch-eq0.false)) c.if-epoch-gt9.false first name;
    }
