use Rattle.qls_scan.proofs.Lists.{drop_next}
use Rattle.qls_scan.proofs.Listings.{ids_above, order_more, order_less}
use Rattle.qls_scan.proofs.rules.check_order.Goals as goal

pub loop-file-init : goal.loop-file-init
loop-file-init c = record {
  up = λ h. h.1;
  down = λ h. (ids_above c.args.files.now c.requires.ids, h);
}

pub loop-file-preserved : goal.loop-file-preserved
loop-file-preserved c =
    let e = drop_next c.args.files.now c.loop-file.file-index _ c.loop-file-test.true in
    record {
      up = order_more c.args.files.now _ _ _ c.loop-file.last c.if-file-last.false e c.loop-file.invariant.up;
      down = λ h. order_less _ _ _ c.loop-file.last e (c.loop-file.invariant.down h);
    }
