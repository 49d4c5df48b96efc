-- Where nothing failed and nothing was wanting but memory, a run comes to its end.
use Rattle.std.specs.Prelude.{◌≡◌, ◌⊎◌, ℕ, ◌≤◌, List, length, Option, Some, None, IsOk}
use Rattle.qls_model.specs.declared.machine.PoolId.{PoolId}
use Rattle.qls_site.specs.Disk.{full}
use Rattle.qls_site.specs.Content.{Content, Rose}
use Rattle.qls_meaning.specs.Meaning.{meaning}
use Rattle.qls_top.specs.Cutting.{script_limit}
use Rattle.qls_top.specs.Run.{EndsSpent}

-- no count of faults rose: the site's, the source's and the serials', each before and now
pub record NoneRose (sites sites_now sources sources_now draws draws_now : ℕ) : Type 0 where
  pub site : Rose sites sites_now → ⊥
  pub source : Rose sources sources_now → ⊥
  pub serials : Rose draws draws_now → ⊥

-- the site tells its content, and its files mean a state
abbrev pub MeansSome : Option Content → Type 0
MeansSome None = ⊥
MeansSome (Some c) = IsOk (meaning (full c.now.disk))

-- the source tells what is left, and that is within the limit
abbrev pub IsShort : Option (List ℕ) → Type 0
IsShort None = ⊥
IsShort (Some l) = length l ≤ script_limit

-- the job is done, or memory was wanting
abbrev pub IsComplete : ℕ → Type 0
IsComplete status = (status ≡ 0) ⊎ (status ≡ 6)

-- where the start means a state, the script is within the limit, and nothing met its end
abbrev pub Completes : ℕ → PoolId → Option Content → Option Content → Option (List ℕ) → Type 0
Completes status home old new script = MeansSome old → IsShort script → (EndsSpent home old new script → ⊥) → IsComplete status

abbrev pub CompletesShow : ℕ → Option Content → Type 0
CompletesShow status old = MeansSome old → IsComplete status
