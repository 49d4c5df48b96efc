-- One call after another: the pools that they leave.
use Rattle.std.proofs.Common.{Option, Result, Ok, Err, IfOk}
use Rattle.qls_site.specs.Content.{Content, Tells}
use Rattle.qls_site.proofs.Told.{Tells-then}
use Rattle.qls_pool.specs.Pools.{PoolState}
use Rattle.qls_log.specs.declared.fault.LogError.{LogError}
use Rattle.qls_prepared.specs.Ends.{KeepsFit}

pub told_keeps : (pool mid left : PoolState) (a m b : Option Content) → Tells (KeepsFit pool mid) a m → Tells (KeepsFit mid left) m b → Tells (KeepsFit pool left) a b
told_keeps pool mid left a m b h k = Tells-then (KeepsFit pool mid) (KeepsFit mid left) (KeepsFit pool left) a m b h k (λ x y z p q fit. q (p fit))

pub told_keeps_if : (r : Result (Unit {0}) LogError) (pool mid left : PoolState) (a m b : Option Content) → Tells (KeepsFit pool mid) a m → IfOk r (λ _. Tells (KeepsFit mid left) m b) → IfOk r (λ _. Tells (KeepsFit pool left) a b)
told_keeps_if (Ok v) pool mid left a m b h k = told_keeps pool mid left a m b h k
told_keeps_if (Err e) pool mid left a m b h k = tt
