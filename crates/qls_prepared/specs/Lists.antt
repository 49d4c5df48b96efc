-- The prepared list held live, and what its journal on a disk says of it.
use Rattle.std.specs.Prelude.{◌≡◌, ℕ, ◌+◌, ◌^◌, ◌<◌, ◌≤◌, Bool, true, false, ◌&&◌, ◌==◌, List, [], ◌∷◌, ◌++◌, map, length, Option, Some, None}
use Rattle.std.specs.List.{AllByRecursion, filter, list_any}
use Rattle.qls_model.specs.Limits.{is_partition, is_kib}
use Rattle.qls_model.specs.Bytes.{comes_before}
use Rattle.qls_model.specs.declared.machine.PoolId.{PoolId}
use Rattle.qls_model.specs.declared.machine.Status.TheVariants.{Ready}
use Rattle.qls_site.specs.Disk.{Disk}
use Rattle.qls_site.specs.Content.{Content, moments_since}
use Rattle.qls_record.specs.Record.{is_enqueue}
use Rattle.qls_filehdr.specs.declared.JournalKind.TheVariants as journal
use Rattle.qls_decide.specs.declared.ListEntry.{ListEntry}
use Rattle.qls_decide.specs.declared.ListState.{ListState}
use Rattle.qls_decide.specs.declared.ListState.TheVariants.{Prepared, OnePhase, DecidedCommit, DecidedAbort}
use Rattle.qls_enqmap.specs.declared.Held.{Held}
use Rattle.qls_enqmap.specs.Records.{AllBelow}
use Rattle.qls_meaning.specs.Reading.{Read}
use Rattle.qls_meaning.specs.Replay.{entries_after}
use Rattle.qls_meaning.specs.History.{AllUnmarked}
use Rattle.qls_meaning.specs.Dead.{has_dead_oldest}
use Rattle.qls_meaning.specs.Orderly.{journal_on}
use Rattle.qls_log.specs.declared.opening.Opening.{Opening}
use Rattle.qls_log.specs.Logs.{LogState, IsSound as IsSoundLog}
use Rattle.qls_log.specs.Standing.{LogThere, files_on}
use Rattle.qls_log.specs.Reads.{IsRead}
use Rattle.qls_log.specs.Soundness.{IsUndamaged}

-- The pool from which its first file is taken, and its log, where it has a file; the entries that its records make, in byte order of xid,
-- and the enqueue of each entry, by record id, with the files where it lies. A value that is ended may not be used again
pub record PreparedState : Type 0 where
  pub home : PoolId
  pub log : Option LogState
  pub entries : List ListEntry
  pub held : List Held
  pub ended : Bool

-- what the files of a list that has none yet will have in common
abbrev pub opening_of : PoolId → Opening
opening_of home = record { kind = journal.List; name = []; home = home; epoch = 1 }

-- what the files that the list takes have in common: those of its log, where it has one
abbrev pub opening_by : PoolId → Option LogState → Opening
opening_by home None = opening_of home
opening_by home (Some l) = l.opening

-- the record id in force: that of the last enqueue, and 0 without a file
abbrev pub rid_of_log : Option LogState → ℕ
rid_of_log None = 0
rid_of_log (Some l) = l.rid

abbrev pub rid_of : PreparedState → ℕ
rid_of p = rid_of_log p.log

-- ---- what holds of every list that isn't ended

-- 1 to 128 bytes
abbrev pub IsXid : List ℕ → Type 0
IsXid x = (0 < length x) × (length x ≤ 128)

-- each xid comes before all that follow
abbrev pub XidsRise : List ListEntry → Type 0
XidsRise [] = Unit {0}
XidsRise (e ∷ es) = AllByRecursion (λ f. comes_before e.xid f.xid ≡ true) es × XidsRise es

-- no two have the same record id
abbrev pub RidsDiffer : List ListEntry → Type 0
RidsDiffer [] = Unit {0}
RidsDiffer (e ∷ es) = AllByRecursion (λ f. (f.rid == e.rid) ≡ false) es × RidsDiffer es

-- flushed, with a file, and of the list
pub record IsOwnLog (l : LogState) : Type 0 where
  pub kind : l.opening.kind ≡ journal.List
  pub name : l.opening.name ≡ []
  pub unended : l.ended ≡ false
  pub flushed : l.unsynced ≡ []
  pub sound : IsSoundLog l

abbrev pub IsOwn : Option LogState → Type 0
IsOwn None = Unit {0}
IsOwn (Some l) = IsOwnLog l

-- without a file there is no entry
abbrev pub IsBegun : Option LogState → List ListEntry → Type 0
IsBegun None es = es ≡ []
IsBegun (Some l) es = Unit {0}

-- the pool is within the limits, the log is the list's, and each entry has its own xid, within the limits, and its own record id
pub record IsSound (p : PreparedState) : Type 0 where
  pub home : (is_partition p.home.part ≡ true) × (is_kib p.home.kib ≡ true)
  pub log : IsOwn p.log
  pub begun : IsBegun p.log p.entries
  pub rid : rid_of p < 2 ^ 62
  pub rising : XidsRise p.entries
  pub xids : AllByRecursion (λ e. IsXid e.xid) p.entries
  pub below : AllByRecursion (λ e. e.rid ≤ rid_of p) p.entries
  pub apart : RidsDiffer p.entries
  pub held : AllBelow (rid_of p + 1) p.held

-- an entry that is decided, or of one phase
abbrev pub MayEndBy : ListState → Type 0
MayEndBy Prepared = ⊥
MayEndBy OnePhase = Unit {0}
MayEndBy DecidedCommit = Unit {0}
MayEndBy DecidedAbort = Unit {0}

abbrev pub MayEnd : Option ListEntry → Type 0
MayEnd None = ⊥
MayEnd (Some e) = MayEndBy e.state

-- ---- on a disk

abbrev pub ThereBy : PoolId → Option LogState → Disk → Type 0
ThereBy home None d = files_on (opening_of home) d ≡ []
ThereBy home (Some l) d = LogThere l d

-- the site has the list's journal as its last call left it, or no file of it
abbrev pub ListThere : PreparedState → Disk → Type 0
ListThere p d = ThereBy p.home p.log d

-- the enqueue of an entry, with the files where it lies
abbrev pub is_entry_of : List ListEntry → Read → Bool
is_entry_of es r = is_enqueue r.what.kind && list_any (λ e. e.rid == r.what.rid) es

abbrev pub held_of : Read → Held
held_of r = record { rid = r.what.rid; status = Ready; body = []; file = r.file; end_file = r.end_file }

abbrev pub held_in : List ListEntry → List Read → List Held
held_in es reads = map held_of (filter (is_entry_of es) reads)

-- the list over a log whose journal has these records: their entries, each with its enqueue
abbrev pub opened : PoolId → Option LogState → List Read → PreparedState
opened home log reads =
    let es : List ListEntry = entries_after (map (λ r. r.what) reads) [] in
    record { home = home; log = log; entries = es; held = held_in es reads; ended = false }

-- these records are read of the log's journal, which breaks no damage rule; they make the entries, whose enqueues are held
pub record IsReadSo (l : LogState) (es : List ListEntry) (hs : List Held) (d : Disk) : Type 0 where
  pub reads : List Read
  pub read : IsRead l reads d
  pub undamaged : IsUndamaged l d
  pub entries : entries_after (map (λ r. r.what) reads) [] ≡ es
  pub held : held_in es reads ≡ hs

abbrev pub WholeBy : Option LogState → List ListEntry → List Held → Disk → Type 0
WholeBy None es hs d = (es ≡ []) × (hs ≡ [])
WholeBy (Some l) es hs d = IsReadSo l es hs d

-- the journal says the entries, and breaks no damage rule; without a file there is no entry
abbrev pub IsListWhole : PreparedState → Disk → Type 0
IsListWhole p d = WholeBy p.log p.entries p.held d

abbrev pub AliveBy : Option LogState → Disk → Type 0
AliveBy None d = Unit {0}
AliveBy (Some l) d = has_dead_oldest (journal_on d l.opening.kind l.opening.name) ≡ false

-- and its oldest file isn't dead
pub record IsListClean (p : PreparedState) (d : Disk) : Type 0 where
  pub whole : IsListWhole p d
  pub alive : AliveBy p.log d

-- where every file that came into use was unmarked, the journal says the new entries if it said the old ones; moments are only added
pub record StaysWhole (old new : PreparedState) (a b : Content) : Type 0 where
  pub adds : b.moments ≡ a.moments ++ moments_since a b
  pub whole : AllUnmarked a.now (moments_since a b) → IsListWhole old a.now.disk → IsListWhole new b.now.disk

-- and its oldest file isn't dead then
pub record BecomesClean (old new : PreparedState) (a b : Content) : Type 0 where
  pub adds : b.moments ≡ a.moments ++ moments_since a b
  pub clean : AllUnmarked a.now (moments_since a b) → IsListWhole old a.now.disk → IsListClean new b.now.disk

-- where its oldest file isn't dead, all is as it was: no file goes back
abbrev pub StaysStill : PreparedState → Content → Content → Type 0
StaysStill p a b = IsListClean p a.now.disk → b ≡ a
