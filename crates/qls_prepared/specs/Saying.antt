-- A batch behind what the list's journal said.
use Rattle.std.specs.Prelude.{◌≡◌, ◌+◌, ◌≤◌, true, List, [], ◌++◌, map, Option}
use Rattle.std.specs.List.{AllByRecursion}
use Rattle.qls_shape.specs.declared.Version.TheVariants.{Two}
use Rattle.qls_site.specs.Disk.{Disk}
use Rattle.qls_site.specs.Content.{Content, moments_since}
use Rattle.qls_record.specs.Record.{Record, record_length, is_enqueue}
use Rattle.qls_decide.specs.declared.ListEntry.{ListEntry}
use Rattle.qls_enqmap.specs.declared.Held.{Held}
use Rattle.qls_meaning.specs.Reading.{Read}
use Rattle.qls_meaning.specs.Replay.{entries_after}
use Rattle.qls_meaning.specs.History.{AllUnmarked}
use Rattle.qls_blocks.specs.Batching.{with_fillers}
use Rattle.qls_log.specs.declared.spot.Spot.{Spot}
use Rattle.qls_log.specs.Logs.{LogState, capacity_in}
use Rattle.qls_log.specs.Spots.{spot_of}
use Rattle.qls_log.specs.Reads.{IsRead, batch_reads}
use Rattle.qls_log.specs.Soundness.{IsUndamaged}
use Rattle.qls_prepared.specs.Lists.{WholeBy, held_in}

-- where the log lays the first record of a batch
abbrev pub spot_at : LogState → Record → Spot
spot_at l r = spot_of (capacity_in l.opening) l.newest (record { what = r; at = l.used; after = l.used + record_length Two r })

-- the batch is read behind records that make these entries, whose enqueues are held; the log before it had no greater record id, and the
-- journal breaks no damage rule
pub record IsSaidOn (rs : List Record) (start new : LogState) (es : List ListEntry) (hs : List Held) (d : Disk) : Type 0 where
  pub reads : List Read
  pub read : IsRead new (reads ++ batch_reads start rs) d
  pub undamaged : IsUndamaged new d
  pub batch : map (λ r. r.what) (batch_reads start rs) ≡ with_fillers rs
  pub entries : entries_after (map (λ r. r.what) reads) [] ≡ es
  pub held : held_in es reads ≡ hs
  pub below : AllByRecursion (λ r. is_enqueue r.what.kind ≡ true → r.what.rid ≤ start.rid) reads

-- where every file that came into use was unmarked, the batch is read behind what the journal said; moments are only added
pub record SaysOn (old : Option LogState) (rs : List Record) (start new : LogState) (a b : Content) : Type 0 where
  pub adds : b.moments ≡ a.moments ++ moments_since a b
  pub says : AllUnmarked a.now (moments_since a b) → (es : List ListEntry) (hs : List Held) → WholeBy old es hs a.now.disk → IsSaidOn rs start new es hs b.now.disk
