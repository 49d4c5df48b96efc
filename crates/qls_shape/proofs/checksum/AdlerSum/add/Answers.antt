use Rattle.std.proofs.Common.{◌*◌, ◌+◌, ap, ap₂, ◌∙◌}
use Rattle.qls_shape.specs.Adler.{adler_on}
use Rattle.qls_shape.proofs.AdlerLaws.{adler_on-sums, adler_on-adler_of}
use Rattle.qls_shape.proofs.checksum.AdlerSum.add.Goals as goal

pub returns-clause-exact : goal.returns-clause-exact
returns-clause-exact c =
    ap₂ (λ h l. h * 65536 + l) c.sums-low.ensures.high c.sums-low.ensures.low
    ∙ adler_on-sums c.args.self.now c.self.inside.low c.self.inside.high c.args.bytes.now c.self.view_is c.self.invariant.0

pub returns-clause-joined : goal.returns-clause-joined
returns-clause-joined c before is =
    ap₂ (λ h l. h * 65536 + l) c.sums-low.ensures.high c.sums-low.ensures.low
    ∙ adler_on-sums c.args.self.now c.self.inside.low c.self.inside.high c.args.bytes.now c.self.view_is c.self.invariant.0
    ∙ ap (λ sum. adler_on sum c.args.bytes.now) is
    ∙ adler_on-adler_of before c.args.bytes.now
