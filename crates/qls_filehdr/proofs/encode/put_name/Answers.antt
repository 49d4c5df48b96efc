use Rattle.std.proofs.Common.{◌∙◌, length, take, drop, ◌++◌, ◌+◌, sym, append_assoc, ap₂, arith}
use borrow.Rule.Slice.PartMut.{Post-is}
use Rattle.qls_filehdr.proofs.encode.put_name.Goals as goal

pub returns : goal.returns
returns c =
    let n = length c.args.name.now in
    record {
      exact =
          ap₂ (λ a b. take 60 c.args.into.now ++ (a ++ b)) c.copy_from_slice.ensures.after (Post-is 60 (60 + n) c.args.into.now (omega arith))
          ∙ sym (append_assoc (take 60 c.args.into.now) c.args.name.now (drop (60 + n) c.args.into.now));
    }
