use Rattle.std.proofs.Common.{◌≡◌, ℕ, ◌+◌, ◌≤◌, List, length, replicate, IfSome, sym, subst, arith}
use Rattle.std.proofs.Math.ListN.{length-replicate}
use Rattle.qls_model.specs.Limits.{file_size}
use Rattle.qls_site.specs.Disk.{write_at, sync_at}
use Rattle.qls_site.specs.Content.{Tells, Acts, HasRange, on_disk}
use Rattle.qls_pool.proofs.Others.{data_range, data_told, data_rests, data_pool, after_write, WritesData}
use Rattle.qls_pool.proofs.tests.write_data.Given as Given
use Rattle.qls_pool.proofs.tests.write_data.Goals as goal

nines : List ℕ
nines = replicate 512 9

fits : (kib : ℕ) → kib ≡ 4 → 4096 + length nines ≤ file_size kib
unfolding nines
fits kib e = omega (arith, length-replicate {A = ℕ} 512 9, e)

pub write-requires-clause-range : goal.write-requires-clause-range
write-requires-clause-range g c =
    subst (λ n. IfSome (g.S.Site.told c.args.site.now) (HasRange n 4096 512)) (sym c.id-id.ensures) (data_range c.args.file.now 4096 512 (omega (arith, c.requires.home)) _ c.requires.there)

pub sync-requires : goal.sync-requires
unfolding nines
sync-requires g c =
    after_write c.id-id.result 4096 nines _ _ c.in_ok-write.ensures.told
    (subst (λ n. IfSome (g.S.Site.told c.args.site.now) (HasRange n 4096 512)) (sym c.id-id.ensures) (data_range c.args.file.now 4096 512 (omega (arith, c.requires.home)) _ c.requires.there))

told : (g : Given.Over) (c : goal.In_ok-sync g) → Tells (WritesData c.args.file.now 4096 nines) (g.S.Site.told c.args.site.now) (g.S.Site.told c.sync.new.self)
unfolding nines
told g c =
    data_told c.args.file.now 4096 nines _ _ _
    (subst (λ n. Tells (Acts (on_disk (write_at n 4096 nines))) (g.S.Site.told c.args.site.now) (g.S.Site.told c.write.new.self)) c.id-id.ensures c.in_ok-write.ensures.told)
    (subst (λ n. Tells (Acts (on_disk (sync_at n))) (g.S.Site.told c.write.new.self) (g.S.Site.told c.sync.new.self)) c.id-id.ensures c.in_ok-sync.ensures.told)

pub returns-clause-there : goal.returns-clause-there
returns-clause-there g c = data_rests c.args.file.now 4096 nines (omega arith) (fits c.args.file.now.header.kib c.requires.home) _ _ (told g c) c.requires.there

pub returns-clause-pool : goal.returns-clause-pool
returns-clause-pool g c = data_pool c.args.file.now 4096 nines (omega arith) (fits c.args.file.now.header.kib c.requires.home) _ _ (told g c) c.requires.there
