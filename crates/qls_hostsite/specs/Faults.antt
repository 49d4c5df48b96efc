-- How errors are counted and answered.
use Rattle.std.specs.Prelude.{ℕ, ◌+◌, ◌-◌, ◌^◌, min, Result, Ok, Err}
use Rattle.qls_hostsite.specs.declared.trouble.Trouble.{Trouble}
use Rattle.qls_hostsite.specs.declared.trouble.Trouble.TheVariants.{Host, Memory}
use Rattle.qls_site.specs.declared.site.SiteError.{SiteError}
use Rattle.qls_site.specs.declared.site.SiteError.TheVariants as Site

-- one more, but the count stays at its greatest value
abbrev pub one_more : ℕ → ℕ
one_more count = min (count + 1) (2 ^ 64 - 1)

-- each error is counted
abbrev pub count_after : {X E : Type 0} → Result X E → ℕ → ℕ
count_after (Ok x) count = count
count_after (Err e) count = one_more count

abbrev pub error_of : Trouble → SiteError
error_of Host = Site.Failed
error_of Memory = Site.Memory

abbrev pub answer_of : {X : Type 0} → Result X Trouble → Result X SiteError
answer_of (Ok x) = Ok x
answer_of (Err t) = Err (error_of t)

-- each call is counted, but for one that wants memory and so did nothing
abbrev pub tally_after : {X : Type 0} → Result X Trouble → ℕ → ℕ
tally_after (Ok x) count = one_more count
tally_after (Err Host) count = one_more count
tally_after (Err Memory) count = count
