use Rattle.std.proofs.Common.{◌+◌, IfSome, sym, ap, ◌∙◌, subst}
use Rattle.qls_site.specs.Content.{LacksFile}
use Rattle.qls_pool.specs.Pools.{PoolState, least_id, HandsOut}
use Rattle.qls_pool.proofs.Taken.{told_lacks, hands_new}
use Rattle.qls_pool.proofs.pool.Pool.create.Goals as goal

pub create-requires : goal.create-requires
create-requires g c =
    subst (λ (p : PoolState). IfSome (g.S.Site.told c.args.site.now) (LacksFile (p.greatest + 1))) (sym c.self.view_is) (told_lacks c.args.self.now _ c.requires.pool)

pub returns-clause-handed : goal.returns-clause-handed
returns-clause-handed g c =
    let pool : PoolState = record { greatest = c.self.inside.greatest; files = c.self.inside.files.keys } in
    subst (λ (p : PoolState). HandsOut c.args.home p (record { greatest = pool.greatest + 1; files = pool.files }) (pool.greatest + 1)) c.self.view_is
    (hands_new c.args.home pool (ap (λ (p : PoolState). least_id c.args.home p.files) c.self.view_is ∙ c.requires.none))
