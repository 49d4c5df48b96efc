-- What is read of whole journals was written, by the same of each log.
use Rattle.std.proofs.Common.{true, List, Option, Some, None}
use Rattle.std.specs.List.{AllByRecursion}
use Rattle.qls_site.specs.Disk.{full}
use Rattle.qls_meaning.specs.Journals.{epochs}
use Rattle.qls_meaning.specs.Chance.{EachPlace, EachPlaceOf, SpellsWritten}
use Rattle.qls_meaning.specs.History.{History, FreeArea, now}
use Rattle.qls_meaning.specs.Reading.{Read}
use Rattle.qls_log.specs.Logs.{LogState, IsSound}
use Rattle.qls_log.specs.Standing.{LogThere, files_on}
use Rattle.qls_log.specs.Reads.{IsRead}
use Rattle.qls_log.specs.Unwritten.{IsWrittenTo}
use Rattle.qls_prepared.specs.Moments.{WrittenBy}
use Rattle.qls_journals.specs.Moments.{AreWritten}
use Rattle.qls_journals.specs.State.{JournalsState, AreJournals, Fits, IsWhole}
use Rattle.qls_journals.proofs.AllJournals.{all_joined, list_part}
use Rattle.qls_journals.proofs.Meanings.{IsWell, IsWellList, all_well, well_list, of_journals}

-- no record that is read of a log's journal has a byte in an unwritten sector
abbrev pub LogsReadWritten : Type 0
LogsReadWritten =
    (areas : List FreeArea) (h : History) (l : LogState) (reads : List Read) → IsSound l → LogThere l (now h).disk → IsRead l reads (now h).disk → IsWrittenTo areas h l
    → EachPlace (SpellsWritten areas h) true (epochs (files_on l.opening (now h).disk))

list_written : LogsReadWritten → (areas : List FreeArea) (h : History) (s : JournalsState) (log : Option LogState) → IsWellList (now h).disk s.list.entries log → WrittenBy areas h log
    → AllByRecursion (λ j. EachPlace (SpellsWritten areas h) true (epochs j.files)) (list_part (now h).disk log)
list_written law areas h s None w k = tt
list_written law areas h s (Some l) w k = (law areas h l w.reads w.sound w.there w.read k, tt)

pub reads_were_written : LogsReadWritten → (areas : List FreeArea) (h : History) (s : JournalsState) → AreJournals s → Fits s (now h).disk → IsWhole s (now h).disk → AreWritten areas h s
    → EachPlaceOf (SpellsWritten areas h) (full (now h).disk)
reads_were_written law areas h s are fits whole written =
    of_journals (λ j. EachPlace (SpellsWritten areas h) true (epochs j.files)) s (now h).disk are fits
    (list_written law areas h s s.list.log (well_list s (now h).disk are fits whole) written.list)
    (all_joined (IsWell (now h).disk) (λ q. IsWrittenTo areas h q.log) _ (λ q w k. law areas h q.log w.whole.read.reads w.kept.log w.there w.whole.read.read k) s.queues (all_well s (now h).disk are fits whole) written.queues)
