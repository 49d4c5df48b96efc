use Rattle.std.proofs.Common.{IfSome, Ok, Err, subst}
use Rattle.qls_site.specs.Disk.{full}
use Rattle.qls_meaning.specs.Meaning.{meaning}
use Rattle.qls_look.specs.declared.fault.OpenFault.{OpenFault}
use Rattle.qls_look.specs.Looking.{Says}
use Rattle.qls_top.proofs.Shown.{shows}
use Rattle.qls_top.proofs.showing.answer_meaning.Goals as goal

pub returns-in-Ok-clause-looks : goal.returns-in-Ok-clause-looks
returns-in-Ok-clause-looks g c = shows (Ok c.in-Ok.state) _ _ _ c.in-Ok.ensures.meaning c.look.ensures.told c.answer_state.ensures.told

pub returns-in-Err-Damaged-clause-looks : goal.returns-in-Err-Damaged-clause-looks
returns-in-Err-Damaged-clause-looks g c =
    shows (Err (c.in-Err-Damaged.file, c.in-Err-Damaged.rule)) _ _ _
    (subst (λ (e : OpenFault). IfSome (g.S.Site.told c.args.site.now) (λ c. Says (meaning (full c.now.disk)) (Err e))) c.in-Err-Damaged.field-0-is c.in-Err-Damaged.ensures.meaning) c.look.ensures.told
    c.answer_damage.ensures.told
