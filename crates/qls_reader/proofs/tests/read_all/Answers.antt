use Rattle.std.proofs.Common.{sym, subst}
use Rattle.std.specs.Prelude.{IfSome}
use Rattle.qls_reader.specs.Spots.{AreThere}
use Rattle.qls_reader.proofs.Ahead.{there_still}
use Rattle.qls_reader.proofs.Steps.{same_files}
use Rattle.qls_reader.proofs.tests.read_all.Goals as goal

pub loop-preserved : goal.loop-preserved
loop-preserved g c = record {
  there = subst (λ fs. IfSome (g.S.Site.told c.next.new.site) (AreThere fs)) (sym (same_files c.loop.reader c.next.new.self c.in_ok-file.field-0 c.in-Got.got c.in-Got.is c.in_ok-file.ensures.steps))
      (there_still c.loop.reader.files (g.S.Site.told c.loop.site) (g.S.Site.told c.next.new.site) c.next.ensures.told c.loop.invariant.there);
  ahead = c.next.ensures.ahead;
}
