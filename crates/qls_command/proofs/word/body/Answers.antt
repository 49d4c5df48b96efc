use Rattle.std.proofs.Common.{◌≡◌, arith, sym, ap, Some, false, codes, ◌∙◌}
use Rattle.qls_model.specs.Bytes.{same}
use Rattle.qls_command.proofs.HexWords.{within-short, within-long, within-some, body_of_word-hex}
use Rattle.qls_command.proofs.word.body.Goals.{then-size-lt1-via-then-size-lt1, then-size-lt1-via-else-size-lt1+then-size-gt-BODY_LIMIT}
use Rattle.qls_command.proofs.word.body.Goals as goal

pub returns-then-size-lt1 : goal.returns-then-size-lt1
returns-then-size-lt1 c =
    let dash : same c.args.word.now (codes "-") ≡ false = cc in
    record {
      read = sym (body_of_word-hex c.args.word.now _ dash (elim c.then-size-lt1.branch [
        | then-size-lt1-via-then-size-lt1 w ↦ within-short 1048576 c.args.word.now (omega arith)
        | then-size-lt1-via-else-size-lt1+then-size-gt-BODY_LIMIT w ↦ within-long 1048576 c.args.word.now (omega arith)
      ]));
    }

pub returns-in-Ok : goal.returns-in-Ok
returns-in-Ok c =
    let dash : same c.args.word.now (codes "-") ≡ false = cc in
    let bytes = within-some 1048576 c.args.word.now c.in-Ok.bytes.items c.in-Ok.ensures.ok (omega arith) (omega arith) in
    record { read = ap Some c.from_vec.ensures.same ∙ sym (body_of_word-hex c.args.word.now _ dash bytes) }
