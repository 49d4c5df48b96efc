use Rattle.std.proofs.Common.{◌≡◌, ℕ, ◌+◌, ◌-◌, ◌<◌, false, eqb, get_or, length, ap, sym, ◌∙◌, arith}
use Rattle.std.proofs.lemmas.Bool.Decides.{nat_tests}
use Rattle.qls_reader.proofs.Places.{none, end_spot-inside, end_spot-end, all_of}
use Rattle.qls_reader.proofs.spot.ending.Goals as goal

some_there : (n : ℕ) → eqb n 0 ≡ false → 0 < n
some_there n h = grind (arith, nat_tests)

pub returns-then-at-files : goal.returns-then-at-files
returns-then-at-files c = record { exact = end_spot-inside c.args.files.now c.args.at.file c.args.at.within none (omega arith) c.requires.placed.within }

pub returns : goal.returns
returns c =
    let some : 0 < length c.args.files.now = some_there (length c.args.files.now) (sym c.is_empty.ensures ∙ c.if-is_empty.false) in
    record {
      exact = ap (λ k. record { file = (get_or c.args.files.now (length c.args.files.now - 1) none).number; at = 4096 + k }) c.data_length.ensures.exact
          ∙ end_spot-end c.args.files.now none _ (length c.args.files.now - 1) (omega arith) (all_of c.args.files.now c.args.at.file c.args.at.within c.if-at-files.false c.requires.placed.within);
    }
