use Rattle.std.proofs.Common.{◌+◌, subst, sym}
use Rattle.qls_enqmap.specs.Records.{AllBelow}
use Rattle.qls_meaning.specs.Reading.{read_of}
use Rattle.qls_replay.proofs.Above.{below_next}
use Rattle.qls_replay.proofs.tests.replay_queue.Goals as goal

pub loop-place-preserved : goal.loop-place-preserved
loop-place-preserved c =
    let got = c.in_ok-got.field-0 in
    subst (λ hs. AllBelow (c.loop-place.place + 1) hs) (sym c.in_ok-apply.ensures.held)
    (below_next got.head.kind (read_of got) c.loop-place.place c.loop-place.replay.held c.in_ok-got.ensures.rid c.loop-place.invariant)
