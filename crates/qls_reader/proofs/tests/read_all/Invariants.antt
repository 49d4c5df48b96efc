use Rattle.std.specs.Prelude.{IfSome}
use Rattle.qls_reader.specs.Spots.{AreThere}
use Rattle.qls_reader.specs.States.{ReadsAhead}
use Rattle.qls_reader.proofs.tests.read_all.Given as goal

abbrev pub invariant-loop : goal.invariant-loop
invariant-loop g l = record {
  there : IfSome (g.S.Site.told l.site) (AreThere l.reader.files);
  ahead : IfSome (g.S.Site.told l.site) (λ c. ReadsAhead c.now.disk l.reader);
}
