use Rattle.std.proofs.Common.{◌≡◌, sym, subst, IfOk, ap, ◌∙◌, rules}
use Rattle.qls_filehdr.specs.Header.{header_spelling}
use Rattle.qls_scan.specs.Heads.{head_from, HasLegalHeader}
use Rattle.qls_scan.proofs.HeadLaws.{head_legal, head_spelled}
use Rattle.qls_scan.proofs.heads.head_in.Goals as goal

pub returns-in-Ok-clause-legal : goal.returns-in-Ok-clause-legal
returns-in-Ok-clause-legal c =
    let by_read = c.sized.ensures.exact ∙ ap (head_from c.args.file.now) (sym c.in-Ok.is ∙ c.read.ensures.exact) in
    subst (λ r. IfOk r HasLegalHeader) (sym by_read) (head_legal c.args.file.now c.args.block.now c.requires.size (λ i. search (rules, c.type_inv.block i)))

pub returns-in-Ok-clause-spelled : goal.returns-in-Ok-clause-spelled
returns-in-Ok-clause-spelled c =
    let by_read = c.sized.ensures.exact ∙ ap (head_from c.args.file.now) (sym c.in-Ok.is ∙ c.read.ensures.exact) in
    subst (λ r. IfOk r (λ head. header_spelling head.header ≡ c.args.block.now)) (sym by_read) (head_spelled c.args.file.now c.args.block.now c.requires.size (λ i. search (rules, c.type_inv.block i)))
