-- What a site, a script and serials on which no call fails tell: what is told in memory, and no fault.
use Rattle.std.specs.Prelude.{◌≡◌, ◌⊎◌, ℕ, Bool, List, [], ◌∷◌, Option, Some, ◌==◌}
use Rattle.std.specs.List.{list_any}
use Rattle.qls_model.specs.declared.machine.PoolId.{PoolId}
use Rattle.qls_site.specs.Content.{Content}
use Rattle.qls_memsite.specs.declared.memory.MemSite.{MemSite}
use Rattle.qls_memsite.specs.declared.source.MemSource.{MemSource}
use Rattle.qls_memsite.specs.declared.serials.MemSerials.{MemSerials}
use Rattle.qls_memsite.specs.Memory.{content_of, syncs_of, reads_of}
use Rattle.qls_memsite.specs.Sources.{left_of}
use Rattle.qls_memsite.specs.Serials.{drawn_of}
use Rattle.qls_top.specs.Complete.{MeansSome, IsShort, IsComplete}
use Rattle.qls_top.specs.Run.{EndsSpent}
use Rattle.qls_steady.specs.declared.site.SteadySite.{SteadySite}
use Rattle.qls_steady.specs.declared.source.SteadySource.{SteadySource}
use Rattle.qls_steady.specs.declared.serials.SteadySerials.{SteadySerials}

-- ---- the site

abbrev pub site_in : SteadySite → MemSite
site_in s = s.inner

abbrev pub content_in : SteadySite → Content
content_in s = content_of s.inner

abbrev pub told_in : SteadySite → Option Content
told_in s = Some (content_in s)

abbrev pub syncs_in : SteadySite → ℕ
syncs_in s = syncs_of s.inner

abbrev pub reads_in : SteadySite → ℕ
reads_in s = reads_of s.inner

-- ---- the script and the serials

abbrev pub source_in : SteadySource → MemSource
source_in s = s.inner

abbrev pub left_in : SteadySource → Option (List ℕ)
left_in s = left_of s.inner

abbrev pub serials_in : SteadySerials → MemSerials
serials_in s = s.inner

abbrev pub drawn_in : SteadySerials → Option (List ℕ)
drawn_in s = drawn_of s.inner

-- ---- no fault

abbrev pub site_faults : SteadySite → ℕ
site_faults s = 0

abbrev pub source_faults : SteadySource → ℕ
source_faults s = 0

abbrev pub serials_faults : SteadySerials → ℕ
serials_faults s = 0

-- the statuses of a run on which no call failed
abbrev pub is_steady_status : ℕ → Bool
is_steady_status n = list_any (λ k. k == n) (0 ∷ 2 ∷ 3 ∷ 6 ∷ 7 ∷ 9 ∷ [])

-- where the start means a state and the script is within the limit: the job is done, or memory was wanting, or something met its end
abbrev pub EndsSteadily : ℕ → PoolId → Option Content → Option Content → Option (List ℕ) → Type 0
EndsSteadily status home old new script =
    MeansSome old → IsShort script → IsComplete status ⊎ ((status ≡ 9) × EndsSpent home old new script)
