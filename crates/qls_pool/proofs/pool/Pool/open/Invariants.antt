use Rattle.std.proofs.Common.{◌≡◌, ℕ, take}
use Rattle.std.specs.List.{list_any}
use Rattle.qls_pool.specs.Pools.{has, is_listed_in}
use Rattle.qls_pool.proofs.pool.Pool.open.Given as goal

-- the files so far are those of the list so far
abbrev pub invariant-loop-file : goal.invariant-loop-file
invariant-loop-file l = (part kib id : ℕ) → has part kib id l.files.keys ≡ list_any (is_listed_in part kib id) (take l.file-index l.empties)
