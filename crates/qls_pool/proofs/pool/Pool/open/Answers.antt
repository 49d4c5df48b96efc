use Rattle.std.proofs.Common.{◌∙◌, ◌≤◌, List, length, ap, subst, refl}
use Rattle.std.proofs.lemmas.List.{take_all}
use Rattle.std.specs.List.{list_any}
use Rattle.qls_site.specs.declared.site.FileAt.{FileAt}
use Rattle.qls_pool.specs.Pools.{PoolState, Opens, is_listed_in}
use Rattle.qls_pool.proofs.Taken.{opens_pool}
use Rattle.qls_pool.proofs.pool.Pool.open.Goals as goal

pub returns-clause-pool : goal.returns-clause-pool
returns-clause-pool c = λ d h.
    let pool : PoolState = record { greatest = c.args.greatest; files = c.loop-file.files.keys } in
    let o : Opens c.args.greatest c.args.empties.now pool = record { greatest = refl; files = λ part kib id. c.loop-file.invariant part kib id ∙ ap (list_any (is_listed_in part kib id)) (take_all c.loop-file.file-index c.args.empties.now (subst (λ (xs : List FileAt). length xs ≤ c.loop-file.file-index) c.as_slice-file-items.ensures.same c.loop-file-test.false)) } in
    opens_pool c.args.greatest c.args.empties.now pool o d h
