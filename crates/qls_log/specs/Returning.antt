-- What giving files back to their pool does.
use Rattle.std.specs.Prelude.{◌≡◌, ◌⊎◌, ℕ, false, List, [], ◌∷◌, ◌++◌, length, Option, IfSome, Result, Ok, Err, IsTrue, if◌then◌else◌, ◌==◌, nat_lt}
use Rattle.std.specs.List.{AllByRecursion}
use Rattle.qls_site.specs.declared.site.SiteError.{SiteError}
use Rattle.qls_site.specs.Disk.{Disk, file_of}
use Rattle.qls_site.specs.Content.{Content, Tells, Acts, MayAct, Leads}
use Rattle.qls_filehdr.specs.Limits.{is_legal_header}
use Rattle.qls_pool.specs.Pools.{PoolState}
use Rattle.qls_pool.specs.Files.{HeadedFile, IsPoolOf, OnDisk, is_among}
use Rattle.qls_pool.specs.Taking.{put_back}
use Rattle.qls_pool.specs.Moments.{Arrives, EndsIn}
use Rattle.qls_pool.specs.Serials.{TakesNone}
use Rattle.qls_log.specs.declared.opening.Opening.{Opening}
use Rattle.qls_log.specs.declared.fault.LogError.{LogError}
use Rattle.qls_log.specs.declared.fault.LogError.TheVariants.{Memory}
use Rattle.qls_log.specs.Logs.{LogState, IsOfJournal, NumberedFrom, ids}
use Rattle.qls_log.specs.Faults.{fault_of_site}
use Rattle.qls_log.specs.Standing.{HasFiles}
use Rattle.qls_log.specs.Steps.{IsLogStep, PassesOwn}

-- a file went to the pool of its header, and that is one more moment
abbrev pub with_back : HeadedFile → Content → Content
with_back h c = let m = put_back h.id h.header c.now in record { now = m; moments = c.moments ++ m ∷ [] }

-- one after another
abbrev pub with_backs : List HeadedFile → Content → Content
with_backs [] c = c
with_backs (h ∷ hs) c = with_backs hs (with_back h c)

-- the files before this one went back, in order; its own relocation failed, or was refused memory
pub record StopsBack (hs : List HeadedFile) (e : SiteError) (old new : Content) : Type 0 where
  pub before : List HeadedFile
  pub file : HeadedFile
  pub after : List HeadedFile
  pub is : hs ≡ before ++ file ∷ after
  pub fails : Leads {X = Unit {0}} (Acts (put_back file.id file.header)) (MayAct (put_back file.id file.header)) (Err e) (with_backs before old) new

-- at Ok each of the files went back, in order
abbrev pub GivesBack : List HeadedFile → Result (Unit {0}) SiteError → Content → Content → Type 0
GivesBack hs (Ok x) old new = new ≡ with_backs hs old
GivesBack hs (Err e) old new = StopsBack hs e old new

-- the same by a log's answer; want of memory may come before the first one
abbrev pub GivesAll : List HeadedFile → Result (Unit {0}) LogError → Content → Content → Type 0
GivesAll hs (Ok x) old new = new ≡ with_backs hs old
GivesAll hs (Err e) old new = ((e ≡ Memory) × (new ≡ old)) ⊎ ((fault : SiteError) × (e ≡ fault_of_site fault) × StopsBack hs fault old new)

-- ---- which files

-- the oldest files with lesser numbers, never the newest
abbrev pub before_number : ℕ → List HeadedFile → List HeadedFile
before_number n [] = []
before_number n (h ∷ []) = []
before_number n (h ∷ g ∷ hs) = if nat_lt h.header.number n then h ∷ before_number n (g ∷ hs) else []

-- while a batch is pending none is released
abbrev pub released : ℕ → LogState → List HeadedFile
released n l = if length l.unsynced == 0 then before_number n l.files else []

-- ---- between the calls

-- these are the journal's files, whose numbers count on, and the pool is the site's
pub record MayReturn (o : Opening) (pool : PoolState) (hs : List HeadedFile) (d : Disk) : Type 0 where
  pub spare : IsPoolOf pool [] d
  pub files : HasFiles o hs d
  pub own : AllByRecursion (IsOfJournal o) hs
  pub legal : AllByRecursion (λ h. IsTrue (is_legal_header h.header)) hs
  pub first : ℕ
  pub last : ℕ
  pub numbers : NumberedFrom first hs last

-- the one files went back by the log's steps, and the others are the journal's still
pub record Returned (o : Opening) (pool : PoolState) (hs done : List HeadedFile) (old new : Content) : Type 0 where
  pub told : new ≡ with_backs done old
  pub arrives : Arrives (IsLogStep o) old new
  pub none : TakesNone old new
  pub others : (id : ℕ) → is_among id (ids done) ≡ false → file_of id new.now.disk ≡ file_of id old.now.disk
  pub may : MayReturn o pool hs new.now.disk

-- at Ok the files behind these are the journal's still, after an error the calls were the log's
abbrev pub EndsBack : {X E : Type 0} → PoolState → PoolState → List HeadedFile → Result X E → Option Content → Option Content → Type 0
EndsBack pool left hs r a b =
    (o : Opening) (kept : List HeadedFile) → IfSome a (OnDisk (MayReturn o pool (hs ++ kept))) → Tells (EndsIn (λ x. Returned o left kept hs) (PassesOwn o) r) a b
