use Rattle.std.proofs.Common.{ℕ, List, [], ◌∷◌, IfSome, sym, ap, subst}
use Rattle.qls_pool.specs.Pools.{PoolState}
use Rattle.qls_pool.specs.Files.{HeadedFile, BlankThere, IsPoolOf, OnDisk}
use Rattle.qls_pool.proofs.Calls.{carried}
use Rattle.qls_pool.proofs.tests.take.Goals as goal

pub head-requires-clause-there : goal.head-requires-clause-there
head-requires-clause-there g c = carried _ (IsPoolOf c.args.pool.now []) (BlankThere c.in_ok-blank.blank) _ _ c.in_ok-blank.ensures.told (c.in_ok-blank.ensures.there []) c.requires

pub returns-clause-pool : goal.returns-clause-pool
returns-clause-pool g c =
    let pool : PoolState = c.blank.new.self in
    let out : List ℕ = c.in_ok-blank.blank.id ∷ [] in
    let taken : IfSome (g.S.Site.told c.blank.new.site) (OnDisk (IsPoolOf pool out)) =
    carried _ (IsPoolOf c.args.pool.now []) (IsPoolOf pool out) _ _ c.in_ok-blank.ensures.told (c.in_ok-blank.ensures.pool []) c.requires
    in
    let headed : IfSome (g.S.Site.told c.head.new.site) (OnDisk (IsPoolOf pool out)) =
    carried _ (IsPoolOf pool out) (IsPoolOf pool out) _ _ c.in_ok-headed.ensures.told (c.in_ok-headed.ensures.pool pool out) taken
    in
    carried _ (IsPoolOf pool (c.in_ok-headed.headed.id ∷ [])) (IsPoolOf pool []) _ _ c.in_ok-linked.ensures.told (c.in_ok-linked.ensures.pool pool [])
    (subst (λ n. IfSome (g.S.Site.told c.head.new.site) (OnDisk (IsPoolOf pool (n ∷ [])))) (sym (ap (λ (h : HeadedFile). h.id) c.in_ok-headed.ensures.headed)) headed)
