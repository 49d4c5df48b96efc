use Rattle.qls_memsite.proofs.Mixes.{mixed_more}
use Rattle.qls_memsite.proofs.images.mix.Goals as goal

pub loop-left-preserved : goal.loop-left-preserved
loop-left-preserved c =
    mixed_more c.loop-left.left c.loop-left.choices.now c.first_part-in-loop-left-2.result.1.now c.loop-left.news.now c.first_part.result.1.now c.loop-left.olds.now c.first_part-in-loop-left.result.1.now
    c.first_part.result.0.now c.first_part-in-loop-left.result.0.now c.pick.result.now c.loop-left.out.items c.extend_from_slice.new.self.items _ c.loop-left-test.true c.loop-left.invariant
    c.first_part.ensures.part c.first_part-in-loop-left.ensures.part c.pick.ensures c.in_ok-extend_from_slice.ensures.items
    c.first_part-in-loop-left-2.ensures.others c.first_part.ensures.others c.first_part-in-loop-left.ensures.others
