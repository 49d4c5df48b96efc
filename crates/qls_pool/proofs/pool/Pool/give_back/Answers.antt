use Rattle.std.proofs.Common.{◌≡◌, sym, subst}
use Rattle.qls_site.specs.Content.{Tells, Leads, Acts, MayAct}
use Rattle.qls_pool.specs.declared.pooled.PooledFile.{PooledFile}
use Rattle.qls_pool.specs.Taking.{put_home}
use Rattle.qls_pool.proofs.Calls.{back_orderly}
use Rattle.qls_pool.specs.Pools.{PoolState, TakesBack}
use Rattle.qls_pool.proofs.Taken.{back_pool, back_ids, with_file_back}
use Rattle.qls_pool.proofs.pool.Pool.give_back.Given as Given
use Rattle.qls_pool.proofs.pool.Pool.give_back.Goals.{else-added-via-then-added+else-is_err, else-added-via-else-added}
use Rattle.qls_pool.proofs.pool.Pool.give_back.Goals as goal

pub returns-then-is_err-clause-orderly : goal.returns-then-is_err-clause-orderly
returns-then-is_err-clause-orderly g c =
    back_orderly c.args.file c.relocate_home-moved.result _ _ c.pooled-pooled.ensures.legal
    (subst (λ (f : PooledFile). Tells (Leads (Acts (put_home f)) (MayAct (put_home f)) c.relocate_home-moved.result) (g.S.Site.told c.args.site.now) (g.S.Site.told c.relocate_home-moved.new.site)) c.pooled-pooled.ensures.exact
    c.relocate_home-moved.ensures.told)

-- the pool with the file
gains : (g : Given.Over) (c : goal.Joined-else-added g) (new : PoolState) → new ≡ record { greatest = c.self.inside.greatest; files = c.add.new.files.keys } → TakesBack c.args.file.header.part c.args.file.header.kib c.args.file.id c.args.self.now new
gains g c new e =
    subst (TakesBack c.args.file.header.part c.args.file.header.kib c.args.file.id c.args.self.now) (sym e)
    (subst (λ (p : PoolState). TakesBack c.args.file.header.part c.args.file.header.kib c.args.file.id p (record { greatest = c.self.inside.greatest; files = c.add.new.files.keys })) c.self.view_is
    (subst (λ (f : PooledFile). TakesBack f.part f.kib f.id (record { greatest = c.self.inside.greatest; files = c.self.inside.files.keys }) (record { greatest = c.self.inside.greatest; files = c.add.new.files.keys })) c.pooled-pooled.ensures.exact
    (with_file_back c.pooled-pooled.result (record { greatest = c.self.inside.greatest; files = c.self.inside.files.keys }) c.add.new.files.keys c.in_ok-added.ensures.added)))

pub returns-else-added-clause-pool : goal.returns-else-added-clause-pool
returns-else-added-clause-pool g c =
    back_pool c.args.file c.args.self.now c.else-added.self c.relocate_home-moved.result _ _
    (subst (λ (f : PooledFile). Tells (Leads (Acts (put_home f)) (MayAct (put_home f)) c.relocate_home-moved.result) (g.S.Site.told c.args.site.now) (g.S.Site.told c.relocate_home-moved.new.site)) c.pooled-pooled.ensures.exact
    c.relocate_home-moved.ensures.told) c.requires.there
    (gains g c c.else-added.self (elim c.else-added.branch [ else-added-via-then-added+else-is_err w ↦ w.self-is | else-added-via-else-added w ↦ w.self-is ]))

pub returns-else-added-clause-orderly : goal.returns-else-added-clause-orderly
returns-else-added-clause-orderly g c =
    back_orderly c.args.file c.relocate_home-moved.result _ _ c.pooled-pooled.ensures.legal
    (subst (λ (f : PooledFile). Tells (Leads (Acts (put_home f)) (MayAct (put_home f)) c.relocate_home-moved.result) (g.S.Site.told c.args.site.now) (g.S.Site.told c.relocate_home-moved.new.site)) c.pooled-pooled.ensures.exact
    c.relocate_home-moved.ensures.told)

pub returns-else-added-clause-ids : goal.returns-else-added-clause-ids
returns-else-added-clause-ids g c =
    back_ids c.args.file c.relocate_home-moved.result _ _
    (subst (λ (f : PooledFile). Tells (Leads (Acts (put_home f)) (MayAct (put_home f)) c.relocate_home-moved.result) (g.S.Site.told c.args.site.now) (g.S.Site.told c.relocate_home-moved.new.site)) c.pooled-pooled.ensures.exact
    c.relocate_home-moved.ensures.told)
