-- No record of a journal without damage has a greater id than the one in force.
use Rattle.std.proofs.Common.{◌≡◌, ℕ, ◌≤◌, true, cond, List, [], ◌∷◌, ◌++◌, map, refl, sym, subst, append-nil}
use Rattle.std.specs.List.{AllByRecursion}
use Rattle.qls_record.specs.Record.{Record, is_enqueue}
use Rattle.qls_site.specs.Disk.{Disk}
use Rattle.qls_meaning.specs.Journals.{Headed, Journal}
use Rattle.qls_meaning.specs.Reading.{Read, journal_reading}
use Rattle.qls_meaning.specs.Damage.{oldest_rid}
use Rattle.qls_meaning.specs.Spent.{rid_of_reads}
use Rattle.qls_meaning.specs.Orderly.{journal_on}
use Rattle.qls_laws.proofs.DeadQueue.{EnqueuesHave}
use Rattle.qls_epochs.specs.Whole.{IsWhole}
use Rattle.qls_epochs.proofs.Follows.{Follows, whole_follows, up_to_last}
use Rattle.qls_epochs.proofs.DeadRecords.{last_behind}
use Rattle.qls_log.specs.Logs.{LogState, IsSound}
use Rattle.qls_log.specs.Standing.{LogThere}
use Rattle.qls_log.specs.Reads.{IsRead}
use Rattle.qls_log.specs.Soundness.{IsUndamaged}
use Rattle.qls_log.proofs.SoundRun.{log_whole}

-- the enqueues have this id at most
abbrev pub EnterUpTo : ℕ → List Read → Type 0
EnterUpTo n reads = AllByRecursion (λ r. is_enqueue r.what.kind ≡ true → r.what.rid ≤ n) reads

last_is : (rid : ℕ) (rs : List Read) → last_behind rid (map (λ r. r.what) rs) ≡ rid_of_reads rid rs
last_is rid [] = refl
last_is rid (r ∷ rs) = last_is (cond (is_enqueue r.what.kind) r.what.rid rid) rs

of_records : (n : ℕ) (rs : List Read) → EnqueuesHave (λ k. k ≤ n) (map (λ r. r.what) rs) → EnterUpTo n rs
of_records n [] h = tt
of_records n (r ∷ rs) h = (h.0, of_records n rs h.1)

whole_below : (j : Journal) (fs : List Headed) → IsWhole (record j { files = fs }) → EnterUpTo (rid_of_reads (oldest_rid fs) (journal_reading (record j { files = fs }))) (journal_reading (record j { files = fs }))
whole_below j [] w = tt
whole_below j (f ∷ fs) w =
    let reads : List Read = journal_reading (record j { files = f ∷ fs }) in
    let whats : List Record = map (λ r. r.what) reads in
    let follows : Follows f.header.rid (whats ++ []) = subst (Follows f.header.rid) (sym (append-nil whats)) (whole_follows j f fs w) in
    subst (λ n. EnterUpTo n reads) (last_is f.header.rid reads) (of_records (last_behind f.header.rid whats) reads (up_to_last f.header.rid whats [] follows).0)

pub log_below : (l : LogState) (d : Disk) (reads : List Read) → IsSound l → LogThere l d → IsUndamaged l d → IsRead l reads d → EnterUpTo l.rid reads
log_below l d reads sound there u r =
    let j : Journal = journal_on d l.opening.kind l.opening.name in
    subst (λ n. EnterUpTo n reads) u.rid (subst (EnterUpTo (rid_of_reads (oldest_rid j.files) (journal_reading j))) r.reading (whole_below j j.files (log_whole l d sound there u)))
