use Rattle.std.proofs.Common.{◌≡◌, sym, subst, IfSome, IfOk}
use Rattle.qls_site.specs.Content.{OnlyLooks}
use Rattle.qls_site.proofs.Told.{Tells-weaken, OnlyLooks-call}
use Rattle.qls_filehdr.specs.Header.{header_of}
use Rattle.qls_scan.specs.Found.{HasCause}
use Rattle.qls_scan.specs.Heads.{HeadIsRead}
use Rattle.qls_scan.proofs.HeadLaws.{told_head, told_spelled, head_id, head_cause}
use Rattle.qls_scan.proofs.heads.read_head.Goals as goal

pub returns-clause-read : goal.returns-clause-read
returns-clause-read g c =
    subst (λ r. IfSome (g.S.Site.told c.args.site.now) (λ k. HeadIsRead k.now.disk c.args.file.now r)) (sym c.head_in.ensures.exact)
    (told_head (g.S.Site.told c.args.site.now) c.args.file.now c.read.new.into c.requires.listed c.if-file-lt4096.false c.in_ok-read.ensures.read)

pub returns-clause-told : goal.returns-clause-told
returns-clause-told g c = Tells-weaken _ OnlyLooks _ _ c.read.ensures.told (OnlyLooks-call _)

pub returns-clause-cause : goal.returns-clause-cause
returns-clause-cause g c = subst (HasCause _ _) (sym c.head_in.ensures.exact) (head_cause c.args.file.now (header_of c.read.new.into) _ _ c.read.ensures.cause.kept)

pub returns-clause-id : goal.returns-clause-id
returns-clause-id g c = subst (λ r. IfOk r (λ head. head.id ≡ c.args.file.now.id)) (sym c.head_in.ensures.exact) (head_id c.args.file.now (header_of c.read.new.into))

pub returns-clause-spelled : goal.returns-clause-spelled
returns-clause-spelled g c =
    told_spelled (g.S.Site.told c.args.site.now) c.args.file.now c.read.new.into c.head_in.result c.in_ok-read.ensures.read (returns-clause-id g c) c.head_in.ensures.spelled
