use Rattle.std.proofs.Common.{◌+◌, ◌*◌, ap, sym, ◌∙◌}
use Rattle.qls_reading.proofs.Ends.{end_spot_of, last_is}
use Rattle.qls_reading.proofs.groups.end_of.Goals as goal

pub returns : goal.returns
returns c = record {
  exact = (λ i. record { file = c.index-files-files.result.header.number; at = 4096 + 1024 * c.from.ensures i })
      ∙ ap end_spot_of c.index-files-files.is ∙ sym (last_is c.args.files.now c.index-files-files.result c.requires.some);
}
