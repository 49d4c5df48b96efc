use Rattle.std.proofs.Common.{◌∷◌, Result, Ok, IfSome, IsTrue, sym, subst}
use Rattle.qls_site.specs.Content.{Tells, Acts, MayAct, Leads}
use Rattle.qls_site.specs.declared.site.SiteError.{SiteError}
use Rattle.qls_filehdr.specs.Limits.{is_legal_header}
use Rattle.qls_pool.specs.Files.{HeadedFile, HeadedThere, RestsThere, OnDisk, Carries, IdsDiffer, IsPoolOf}
use Rattle.qls_pool.specs.Taking.{put_in_use}
use Rattle.qls_pool.specs.Discipline.{IsLeastOnDisk, Orderly}
use Rattle.qls_site.specs.declared.site.Place.TheVariants.{InUse}
use Rattle.qls_pool.proofs.Steps.{moved_ids}
use Rattle.qls_pool.proofs.Calls.{handed_on, leads_err, link_orderly, told_then, carries_of, linked_there, links_pool}
use Rattle.qls_pool.proofs.file.Headed.link.Goals as goal

pub returns-in_err-relocate-clause-told : goal.returns-in_err-relocate-clause-told
returns-in_err-relocate-clause-told g c =
    subst (λ (h : HeadedFile). Tells (Leads (Acts (put_in_use h.id)) (MayAct (put_in_use h.id)) c.from_residual.result) (g.S.Site.told c.args.site.now) (g.S.Site.told c.relocate.new.self)) c.self.view_is
    (leads_err (Unit {0}) (put_in_use c.self.inside.id) c.in_err-relocate.field-0.0 c.from_residual.result (handed_on c.from_residual.result c.in_err-relocate.field-0.0 c.from_residual.ensures) _ _ c.in_err-relocate.ensures.told)

pub returns-in_err-relocate-clause-orderly : goal.returns-in_err-relocate-clause-orderly
returns-in_err-relocate-clause-orderly g c =
    link_orderly c.args.self c.from_residual.result _ _ (subst (λ (h : HeadedFile). IsTrue (is_legal_header h.header)) c.self.view_is c.self.invariant)
    (returns-in_err-relocate-clause-told g c) c.requires.there

pub returns-clause-there : goal.returns-clause-there
returns-clause-there g c =
    let h : HeadedFile = record { id = c.self.inside.id; header = c.self.inside.header } in
    told_then (Acts (put_in_use h.id)) (HeadedThere h) (RestsThere h) _ _ c.in_ok-relocate.ensures.told
    (subst (λ (k : HeadedFile). IfSome (g.S.Site.told c.args.site.now) (OnDisk (HeadedThere k))) (sym c.self.view_is) c.requires.there) (linked_there h)

pub returns-clause-pool : goal.returns-clause-pool
returns-clause-pool g c = λ pool out.
    subst (λ (k : HeadedFile). Carries (IsPoolOf pool (k.id ∷ out)) (IsPoolOf pool out) (g.S.Site.told c.args.site.now) (g.S.Site.told c.relocate.new.self)) c.self.view_is
    (carries_of (Acts (put_in_use c.self.inside.id)) (IsPoolOf pool (c.self.inside.id ∷ out)) (IsPoolOf pool out) _ _ c.in_ok-relocate.ensures.told (links_pool c.self.inside.id pool out))

pub returns-clause-orderly : goal.returns-clause-orderly
returns-clause-orderly g c =
    let r : Result (Unit {0}) SiteError = Ok tt in
    subst (λ (h : HeadedFile). Orderly (IsLeastOnDisk h.header.part h.header.kib h.id) r (g.S.Site.told c.args.site.now) (g.S.Site.told c.relocate.new.self)) c.self.view_is
    (link_orderly (record { id = c.self.inside.id; header = c.self.inside.header }) r _ _ c.self.invariant c.in_ok-relocate.ensures.told
    (subst (λ (k : HeadedFile). IfSome (g.S.Site.told c.args.site.now) (OnDisk (HeadedThere k))) (sym c.self.view_is) c.requires.there))

pub returns-clause-ids : goal.returns-clause-ids
returns-clause-ids g c = carries_of (Acts (put_in_use c.self.inside.id)) IdsDiffer IdsDiffer _ _ c.in_ok-relocate.ensures.told (moved_ids c.self.inside.id InUse)
