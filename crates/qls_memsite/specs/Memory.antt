-- A site in memory as clauses see it: what it tells, its counts, and which calls are set to fail.
use Rattle.std.specs.Prelude.{◌≡◌, ℕ, Bool, true, false, Option, Some, Result, Ok, Err, slice_get}
use Rattle.qls_site.specs.declared.site.SiteError.{SiteError}
use Rattle.qls_site.specs.declared.site.SiteError.TheVariants.{Failed, Memory}
use Rattle.qls_site.specs.Disk.{Image}
use Rattle.qls_site.specs.Content.{Moment, Content}
use Rattle.qls_memsite.specs.declared.plan.CallKind.{CallKind}
use Rattle.qls_memsite.specs.declared.memory.MemSite.{MemSite}
use Rattle.qls_memsite.specs.Log.{begun, content_after}
use Rattle.qls_memsite.specs.Failures.{Failing, failing_of, none_failing, fails_next, after_call, faults_after}

abbrev pub content_of : MemSite → Content
content_of m = content_after m.calls.items (begun m.start)

abbrev pub told_of : MemSite → Option Content
told_of m = Some (content_of m)

abbrev pub set_to_fail : MemSite → Failing
set_to_fail m = failing_of m.plan

abbrev pub faults_of : MemSite → ℕ
faults_of m = m.faults

abbrev pub syncs_of : MemSite → ℕ
syncs_of m = m.syncs

abbrev pub reads_of : MemSite → ℕ
reads_of m = m.reads

-- the call was set to fail or not, it was counted, and so was its fault
pub record IsCounted (call : CallKind) (failed : Bool) (old new : MemSite) : Type 0 where
  pub set : fails_next call (set_to_fail old) ≡ failed
  pub counted : set_to_fail new ≡ after_call call (set_to_fail old)
  pub faults : faults_of new ≡ faults_after failed (faults_of old)

-- nothing was counted
pub record IsUncounted (old new : MemSite) : Type 0 where
  pub settings : set_to_fail new ≡ set_to_fail old
  pub faults : faults_of new ≡ faults_of old

-- a call answers Failed exactly where it is set to fail
abbrev pub FailsAsSet : {X : Type 0} → CallKind → MemSite → MemSite → Result X SiteError → Type 0
FailsAsSet call old new (Ok x) = IsCounted call false old new
FailsAsSet call old new (Err Failed) = IsCounted call true old new
FailsAsSet call old new (Err Memory) = IsUncounted old new

-- after a failed call its own disk and answered bytes are as before
abbrev pub StaysIfFailed : {X : Type 0} → MemSite → MemSite → Result X SiteError → Type 0
StaysIfFailed old new (Ok x) = Unit {0}
StaysIfFailed old new (Err Failed) = (content_of new).now ≡ (content_of old).now
StaysIfFailed old new (Err Memory) = Unit {0}

-- the moment of that number, counted from 0
abbrev pub moment_at : ℕ → MemSite → Option Moment
moment_at k m = slice_get (content_of m).moments k

-- all but the failures that are set is as it was
pub record OnlySets (old new : MemSite) : Type 0 where
  pub content : content_of new ≡ content_of old
  pub faults : faults_of new ≡ faults_of old
  pub syncs : syncs_of new ≡ syncs_of old
  pub reads : reads_of new ≡ reads_of old

-- the site begins on these files, with no failure set and every count 0
pub record BeginsOn (files : Image) (m : MemSite) : Type 0 where
  pub content : content_of m ≡ begun files
  pub failing : set_to_fail m ≡ none_failing
  pub faults : faults_of m ≡ 0
  pub syncs : syncs_of m ≡ 0
  pub reads : reads_of m ≡ 0
