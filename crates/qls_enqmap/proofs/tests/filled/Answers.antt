use Rattle.std.proofs.Common.{◌+◌, subst, sym, arith}
use Rattle.qls_enqmap.specs.Records.{AllBelow}
use Rattle.qls_enqmap.proofs.Kept.{below_more}
use Rattle.qls_enqmap.proofs.tests.filled.Goals as goal

pub insert-requires : goal.insert-requires
insert-requires c = record { above = subst (λ n. AllBelow n c.loop-rid.map) (sym c.in_ok-record.ensures.rid) c.loop-rid.invariant }

pub loop-rid-preserved : goal.loop-rid-preserved
loop-rid-preserved c =
    subst (λ hs. AllBelow (c.loop-rid.rid + 1) hs) (sym c.in_ok-insert.ensures.inserted)
    (below_more c.loop-rid.rid (c.loop-rid.rid + 1) c.in_ok-record.field-0 c.loop-rid.map c.loop-rid.invariant (omega arith) (omega (arith, c.in_ok-record.ensures.rid)))
