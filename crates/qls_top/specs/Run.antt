-- What a run answers and leaves, by its status.
use Rattle.std.specs.Prelude.{◌≡◌, ◌⊎◌, ℕ, ◌+◌, ◌≤◌, Bool, true, false, List, [], ◌∷◌, ◌++◌, length, Option, Some, None, Result, Ok, Err, ◌==◌}
use Rattle.std.specs.List.{list_any, AllByRecursion}
use Rattle.qls_model.specs.declared.machine.PoolId.{PoolId}
use Rattle.qls_model.specs.declared.machine.Command.{Command}
use Rattle.qls_model.specs.Machine.{MachineState}
use Rattle.qls_site.specs.Disk.{Disk, IsQuiet, full}
use Rattle.qls_site.specs.Content.{Content, Moment, Tells, moments_since}
use Rattle.qls_meaning.specs.Damage.{Damage}
use Rattle.qls_meaning.specs.History.{History, last_of, now}
use Rattle.qls_meaning.specs.Meaning.{meaning}
use Rattle.qls_meaning.specs.Orderly.{IsOrderly}
use Rattle.qls_meaning.specs.Spent.{list_rid}
use Rattle.qls_pool.specs.Discipline.{TakesInOrder}
use Rattle.qls_pool.specs.Moments.{Chain}
use Rattle.qls_command.specs.Lines.{commands}
use Rattle.qls_log.specs.Leaving.{LeavesInOrder, WritesInOrder}
use Rattle.qls_journals.specs.Homes.{Homes, SameHomes, TakesFromHome, homes_on}
use Rattle.qls_journals.specs.Moments.{AreWritten}
use Rattle.qls_store.specs.Stores.{StoreState, state_of, rid_of, IsClean}
use Rattle.qls_store.specs.Homes.{homes_of, is_accepted}
use Rattle.qls_store.specs.Opening.{NeedsEnds}
use Rattle.qls_top.specs.declared.fault.Fault.{Fault}
use Rattle.qls_top.specs.declared.fault.Fault.TheVariants as fault
use Rattle.qls_top.specs.declared.words.Job.{Job}
use Rattle.qls_top.specs.declared.words.Job.TheVariants.{Run, Show}
use Rattle.qls_top.specs.Answers.{answer_line, state_answered, answers_text}
use Rattle.qls_top.specs.Cutting.{script_limit}
use Rattle.qls_top.specs.Held.{IsHeld}
use Rattle.qls_top.specs.Moments.{AtReplies, UnmarkedSince}
use Rattle.qls_top.specs.Running.{LineMeetsEnd, LineMeetsAtOnce, homes_by, rid_after, AnswersInOrder}
use Rattle.qls_top.specs.Shows.{OnlyShows}

-- ---- by the job that the words ask for

-- it is a run with this default pool
abbrev pub OfRun : Option Job → (PoolId → Type 0) → Type 0
OfRun None P = ⊥
OfRun (Some (Run home)) P = P home
OfRun (Some Show) P = ⊥

-- where it is one
abbrev pub IfRun : Option Job → (PoolId → Type 0) → Type 0
IfRun None P = Unit {0}
IfRun (Some (Run home)) P = P home
IfRun (Some Show) P = Unit {0}

-- it is a show
abbrev pub OfShow : Option Job → Type 0 → Type 0
OfShow None P = ⊥
OfShow (Some (Run home)) P = ⊥
OfShow (Some Show) P = P

-- where it is one
abbrev pub IfShow : Option Job → Type 0 → Type 0
IfShow None P = Unit {0}
IfShow (Some (Run home)) P = Unit {0}
IfShow (Some Show) P = P

-- ---- the homes of journals

-- the homes of the journals after these commands
abbrev pub homes_answered : MachineState → List (Option Command) → Homes → Homes
homes_answered S [] homes = homes
homes_answered S (c ∷ cs) homes = homes_answered (answer_line S c).0 cs (homes_by S c homes)

-- ---- a script that was run to its end

-- the record id of the prepared list that is in force after these lines: each prepare, and each commit of an open transaction, gives one
abbrev pub rid_answered : MachineState → List (Option Command) → ℕ → ℕ
rid_answered S [] rid = rid
rid_answered S (c ∷ cs) rid = rid_answered (answer_line S c).0 cs (rid_after S c rid)

-- From the state S on every line is answered. Where nothing was pending at the start and the files that came into use were unmarked,
-- the disk holds the machine's state after all lines, and the list's record id is the one that they give
pub record IsRun (S : MachineState) (given : ℕ) (script : List ℕ) (old new : Content) : Type 0 where
  pub answered : new.now.answered ≡ old.now.answered ++ answers_text S (commands script)
  pub stored : IsQuiet old.now.disk → UnmarkedSince old new → IsHeld (state_answered S (commands script)) new.now.disk
  pub rid : UnmarkedSince old new → list_rid new.now.disk ≡ rid_answered S (commands script) given

-- where site and source tell: the source was read to its end, and all of the script was run
abbrev pub EndsFrom : MachineState → ℕ → Option Content → Option Content → Option (List ℕ) → Option (List ℕ) → Type 0
EndsFrom S rid (Some old) (Some new) (Some script) (Some rest) = (rest ≡ []) × IsRun S rid script old new
EndsFrom S rid None new script rest = Unit {0}
EndsFrom S rid (Some old) None script rest = Unit {0}
EndsFrom S rid (Some old) (Some new) None rest = Unit {0}
EndsFrom S rid (Some old) (Some new) (Some script) None = Unit {0}

-- what the files mean at the start, where they aren't damaged
abbrev pub FromStart : (MachineState → Content → Type 0) → Option Content → Type 0
FromStart P None = Unit {0}
FromStart P (Some old) = (S : MachineState) → meaning (full old.now.disk) ≡ Ok S → P S old

-- they mean something, and from there on
abbrev pub HasStart : (MachineState → Content → Type 0) → Option Content → Type 0
HasStart P None = Unit {0}
HasStart P (Some old) = (S : MachineState) × (meaning (full old.now.disk) ≡ Ok S) × P S old

abbrev pub RunsToEnd : Option Content → Option Content → Option (List ℕ) → Option (List ℕ) → Type 0
RunsToEnd old new script rest = HasStart (λ S c. EndsFrom S (list_rid c.now.disk) old new script rest) old

-- the same from a store on, where it was clean
pub record IsRunClean (was : StoreState) (script : List ℕ) (old new : Content) : Type 0 where
  pub answered : new.now.answered ≡ old.now.answered ++ answers_text (state_of was) (commands script)
  pub stored : IsQuiet old.now.disk → UnmarkedSince old new → IsClean was old.now.disk → IsHeld (state_answered (state_of was) (commands script)) new.now.disk
  pub rid : UnmarkedSince old new → IsClean was old.now.disk → list_rid new.now.disk ≡ rid_answered (state_of was) (commands script) (rid_of was)

abbrev pub EndsClean : StoreState → Option Content → Option Content → Option (List ℕ) → Option (List ℕ) → Type 0
EndsClean s (Some old) (Some new) (Some script) (Some rest) = (rest ≡ []) × IsRunClean s script old new
EndsClean s None new script rest = Unit {0}
EndsClean s (Some old) None script rest = Unit {0}
EndsClean s (Some old) (Some new) None rest = Unit {0}
EndsClean s (Some old) (Some new) (Some script) None = Unit {0}

-- ---- a script in the middle

-- some of its commands were run: these are their answers, and this is the machine's state after them, the list's record id and the homes
pub record IsUnderWay (first : StoreState) (script rest : List ℕ) (s : StoreState) (old new : Content) : Type 0 where
  pub done : List (Option Command)
  pub split : commands script ≡ done ++ commands rest
  pub answered : new.now.answered ≡ old.now.answered ++ answers_text (state_of first) done
  pub state : state_of s ≡ state_answered (state_of first) done
  pub rid : rid_of s ≡ rid_answered (state_of first) done (rid_of first)
  pub homes : SameHomes (homes_of s) (homes_answered (state_of first) done (homes_of first))

abbrev pub UnderWay : StoreState → Option Content → Option Content → Option (List ℕ) → List ℕ → Option (List ℕ) → StoreState → Type 0
UnderWay first (Some old) (Some new) (Some script) waiting (Some left) s = IsUnderWay first script (waiting ++ left) s old new
UnderWay first None new script waiting left s = Unit {0}
UnderWay first (Some old) None script waiting left s = Unit {0}
UnderWay first (Some old) (Some new) None waiting left s = Unit {0}
UnderWay first (Some old) (Some new) (Some script) waiting None s = Unit {0}

-- where the files that came into use were unmarked, the store is as clean as it was
abbrev pub StaysClean : StoreState → StoreState → Content → Content → Type 0
StaysClean was s old new = UnmarkedSince old new → IsClean was old.now.disk → IsClean s new.now.disk

-- ---- a run that ends since no file is left, or no record id of the prepared list

-- the commands before are answered, and the next one needs what can't be had on the disk as it is
pub record MeetsEnd (homes : Homes) (S : MachineState) (script : List ℕ) (old new : Content) : Type 0 where
  pub done : List (Option Command)
  pub next : Option Command
  pub rest : List (Option Command)
  pub split : commands script ≡ done ++ next ∷ rest
  pub answered : new.now.answered ≡ old.now.answered ++ answers_text S done
  pub meets : LineMeetsEnd (homes_answered S done homes) (state_answered S done) next new.now.disk

-- where the files that came into use were unmarked
abbrev pub SpentFrom : Homes → MachineState → Option Content → Option Content → Option (List ℕ) → Type 0
SpentFrom homes S (Some old) (Some new) (Some script) = UnmarkedSince old new → MeetsEnd homes S script old new
SpentFrom homes S None new script = Unit {0}
SpentFrom homes S (Some old) None script = Unit {0}
SpentFrom homes S (Some old) (Some new) None = Unit {0}

-- a batch of ends that settle the store can't be had on the disk as it is, and nothing was answered
pub record OpeningMeetsEnd (home : PoolId) (old new : Content) : Type 0 where
  pub answered : new.now.answered ≡ old.now.answered
  pub meets : UnmarkedSince old new → NeedsEnds home old.now.disk new.now.disk

-- so ends the opening, or a command
abbrev pub EndsSpent : PoolId → Option Content → Option Content → Option (List ℕ) → Type 0
EndsSpent home old new script =
    Tells (OpeningMeetsEnd home) old new ⊎ HasStart (λ S c. SpentFrom (homes_on home c.now.disk) S old new script) old

-- a store that was clean
abbrev pub EndsSpentIn : StoreState → Option Content → Option Content → Option (List ℕ) → Type 0
EndsSpentIn s (Some old) (Some new) (Some script) = UnmarkedSince old new → IsClean s old.now.disk → MeetsEnd (homes_of s) (state_of s) script old new
EndsSpentIn s None new script = Unit {0}
EndsSpentIn s (Some old) None script = Unit {0}
EndsSpentIn s (Some old) (Some new) None = Unit {0}

-- ---- a run to its end that had what each of its commands needs first

-- the first of these commands, where there is one, doesn't meet its end on the disk
abbrev pub NextIsFree : Homes → MachineState → List (Option Command) → Disk → Type 0
NextIsFree homes S [] d = Unit {0}
NextIsFree homes S (c ∷ cs) d = LineMeetsAtOnce homes S c d → ⊥

-- these are the answers to the first of the commands, and the one after them doesn't meet its end
pub record GoesOn (homes : Homes) (S : MachineState) (script before : List ℕ) (n : Moment) : Type 0 where
  pub done : List (Option Command)
  pub rest : List (Option Command)
  pub split : commands script ≡ done ++ rest
  pub answered : n.answered ≡ before ++ answers_text S done
  pub free : NextIsFree (homes_answered S done homes) (state_answered S done) rest n.disk

-- at the start and at each moment at which bytes were answered
pub record HadItsFiles (homes : Homes) (S : MachineState) (script : List ℕ) (old new : Content) : Type 0 where
  pub start : NextIsFree homes S (commands script) old.now.disk
  pub replies : Chain (AtReplies (GoesOn homes S script old.now.answered)) old.now (moments_since old new)

-- a store that was clean
abbrev pub HadClean : StoreState → Option Content → Option Content → Option (List ℕ) → Type 0
HadClean s (Some old) (Some new) (Some script) = UnmarkedSince old new → IsClean s old.now.disk → HadItsFiles (homes_of s) (state_of s) script old new
HadClean s None new script = Unit {0}
HadClean s (Some old) None script = Unit {0}
HadClean s (Some old) (Some new) None = Unit {0}

-- the same of a store that was opened: at a moment before anything was answered, and at each moment at which bytes were
pub record HadSinceOpening (homes : Homes) (S : MachineState) (script : List ℕ) (old new : Content) : Type 0 where
  pub opening : List Moment
  pub lines : List Moment
  pub split : moments_since old new ≡ opening ++ lines
  pub unanswered : AllByRecursion (λ m. m.answered ≡ old.now.answered) opening
  pub start : NextIsFree homes S (commands script) (last_of old.now opening).disk
  pub replies : Chain (AtReplies (GoesOn homes S script old.now.answered)) (last_of old.now opening) lines

-- where the files that came into use were unmarked
abbrev pub HadFrom : Homes → MachineState → Option Content → Option Content → Option (List ℕ) → Type 0
HadFrom homes S (Some old) (Some new) (Some script) = UnmarkedSince old new → HadSinceOpening homes S script old new
HadFrom homes S None new script = Unit {0}
HadFrom homes S (Some old) None script = Unit {0}
HadFrom homes S (Some old) (Some new) None = Unit {0}

abbrev pub HadFiles : PoolId → Option Content → Option Content → Option (List ℕ) → Type 0
HadFiles home old new script = FromStart (λ S c. HadFrom (homes_on home c.now.disk) S old new script) old

-- ---- at each reply

-- these are the answers to the first of the commands, and the disk holds the machine's state after them
pub record IsReplied (S : MachineState) (script before : List ℕ) (n : Moment) : Type 0 where
  pub done : List (Option Command)
  pub rest : List (Option Command)
  pub split : commands script ≡ done ++ rest
  pub answered : n.answered ≡ before ++ answers_text S done
  pub stored : IsHeld (state_answered S done) n.disk

abbrev pub RepliesIn : MachineState → List ℕ → Content → Content → Type 0
RepliesIn S script old new = Chain (AtReplies (IsReplied S script old.now.answered)) old.now (moments_since old new)

-- Where nothing was pending at the start and the files that came into use were unmarked: at each moment at which bytes were answered,
-- from the state S on
abbrev pub RepliesFrom : MachineState → Option Content → Option Content → Option (List ℕ) → Type 0
RepliesFrom S (Some old) (Some new) (Some script) = IsQuiet old.now.disk → UnmarkedSince old new → RepliesIn S script old new
RepliesFrom S None new script = Unit {0}
RepliesFrom S (Some old) None script = Unit {0}
RepliesFrom S (Some old) (Some new) None = Unit {0}

-- from what the files mean at the start
abbrev pub RepliesStored : Option Content → Option Content → Option (List ℕ) → Type 0
RepliesStored old new script = FromStart (λ S c. RepliesFrom S old new script) old

-- a store that was clean
abbrev pub RepliesClean : StoreState → Option Content → Option Content → Option (List ℕ) → Type 0
RepliesClean s (Some old) (Some new) (Some script) = IsQuiet old.now.disk → UnmarkedSince old new → IsClean s old.now.disk → RepliesIn (state_of s) script old new
RepliesClean s None new script = Unit {0}
RepliesClean s (Some old) None script = Unit {0}
RepliesClean s (Some old) (Some new) None = Unit {0}

-- ---- from each moment to the next

-- the homes while the first of these commands is at work, if there is one
abbrev pub homes_at_work : MachineState → List (Option Command) → Homes → Homes
homes_at_work S [] homes = homes
homes_at_work S (c ∷ cs) homes = homes_by S c homes

abbrev pub StaysIfRefused : MachineState → List (Option Command) → Moment → Moment → Type 0
StaysIfRefused S [] m n = Unit {0}
StaysIfRefused S (c ∷ cs) m n = is_accepted (answer_line S c).1 ≡ false → n.disk ≡ m.disk

-- The first of the commands are answered at the first moment, and the next one is at work: a file that comes into use is of the home of its
-- journal, and no file changes for a command that is refused
pub record IsAtWork (S : MachineState) (homes : Homes) (script before : List ℕ) (m n : Moment) : Type 0 where
  pub done : List (Option Command)
  pub rest : List (Option Command)
  pub split : commands script ≡ done ++ rest
  pub answered : m.answered ≡ before ++ answers_text S done
  pub pools : TakesFromHome (homes_at_work (state_answered S done) rest (homes_answered S done homes)) m n
  pub still : StaysIfRefused (state_answered S done) rest m n

abbrev pub WorksFrom : MachineState → Homes → Option Content → Option Content → Option (List ℕ) → Type 0
WorksFrom S homes (Some old) (Some new) (Some script) = Chain (IsAtWork S homes script old.now.answered) old.now (moments_since old new)
WorksFrom S homes None new script = Unit {0}
WorksFrom S homes (Some old) None script = Unit {0}
WorksFrom S homes (Some old) (Some new) None = Unit {0}

-- while the store is opened nothing is answered, and a file that comes into use is of the home of its journal
pub record IsOpening (homes : Homes) (before : List ℕ) (m n : Moment) : Type 0 where
  pub answered : m.answered ≡ before
  pub pools : TakesFromHome homes m n

-- the store is opened, and then the commands are at work
pub record WorksSinceOpening (homes : Homes) (S : MachineState) (script : List ℕ) (old new : Content) : Type 0 where
  pub opening : List Moment
  pub lines : List Moment
  pub split : moments_since old new ≡ opening ++ lines
  pub opens : Chain (IsOpening homes old.now.answered) old.now opening
  pub works : Chain (IsAtWork S homes script old.now.answered) (last_of old.now opening) lines

abbrev pub WorksOpened : Homes → MachineState → Option Content → Option Content → Option (List ℕ) → Type 0
WorksOpened homes S (Some old) (Some new) (Some script) = WorksSinceOpening homes S script old new
WorksOpened homes S None new script = Unit {0}
WorksOpened homes S (Some old) None script = Unit {0}
WorksOpened homes S (Some old) (Some new) None = Unit {0}

abbrev pub WorksOnCommands : PoolId → Option Content → Option Content → Option (List ℕ) → Type 0
WorksOnCommands home old new script = FromStart (λ S c. WorksOpened (homes_on home c.now.disk) S old new script) old

abbrev pub WorksIn : StoreState → Option Content → Option Content → Option (List ℕ) → Type 0
WorksIn s old new script = WorksFrom (state_of s) (homes_of s) old new script

-- ---- the discipline

abbrev pub begun_at : Content → History
begun_at c = record { start = c.now; since = [] }

-- from the first moment on, writes meet only unwritten sectors of files in use, past their headers
abbrev pub WritesFilesInOrder : Content → Content → Type 0
WritesFilesInOrder old new = WritesInOrder [] (begun_at old) (moments_since old new)

-- where nothing was pending at the start, its files meant something and those that came into use were unmarked, all moments are orderly
abbrev pub KeepsDiscipline : Content → Content → Type 0
KeepsDiscipline old new =
    (S : MachineState) → meaning (full old.now.disk) ≡ Ok S → IsQuiet old.now.disk → UnmarkedSince old new → IsOrderly old.now (moments_since old new)

-- the parts of it that a store that was clean keeps
abbrev pub LeavesClean : StoreState → Content → Content → Type 0
LeavesClean s old new = IsQuiet old.now.disk → UnmarkedSince old new → IsClean s old.now.disk → Chain LeavesInOrder old.now (moments_since old new)

-- from each history in which its files were written
abbrev pub AnswersClean : StoreState → Content → Content → Type 0
AnswersClean s old new =
    (h : History) → now h ≡ old.now → AreWritten [] h s.journals → IsQuiet old.now.disk → UnmarkedSince old new → IsClean s old.now.disk → AnswersInOrder h (moments_since old new)

abbrev pub WritesClean : StoreState → Content → Content → Type 0
WritesClean s old new = (h : History) → now h ≡ old.now → AreWritten [] h s.journals → WritesInOrder [] h (moments_since old new)

-- ---- how much of the script was read

-- one byte past the limit, or no more than the limit
abbrev pub ReadBytes : Bool → List ℕ → List ℕ → Type 0
ReadBytes true l m = length l ≡ length m + script_limit + 1
ReadBytes false l m = length l ≤ length m + script_limit

abbrev pub ReadsBytes : Bool → Option (List ℕ) → Option (List ℕ) → Type 0
ReadsBytes long (Some l) (Some m) = ReadBytes long l m
ReadsBytes long None None = Unit {0}
ReadsBytes long None (Some m) = ⊥
ReadsBytes long (Some l) None = ⊥

abbrev pub is_too_long : Result (Unit {0}) Fault → Bool
is_too_long (Err fault.TooLong) = true
is_too_long (Err fault.Source) = false
is_too_long (Err fault.Site) = false
is_too_long (Err fault.Memory) = false
is_too_long (Err fault.Draw) = false
is_too_long (Err fault.Spent) = false
is_too_long (Err fault.Damaged) = false
is_too_long (Ok x) = false

-- ---- a damaged start

-- just the line of the damage is answered, and nothing changes
abbrev pub ShowsIfDamaged : Content → Content → Type 0
ShowsIfDamaged old new = (damage : Damage) → meaning (full old.now.disk) ≡ Err damage → OnlyShows old new

-- ---- the statuses

abbrev pub is_status : ℕ → Bool
is_status n = list_any (λ k. k == n) (0 ∷ 2 ∷ 3 ∷ 4 ∷ 5 ∷ 6 ∷ 7 ∷ 8 ∷ 9 ∷ [])

abbrev pub status_of_result : Result (Unit {0}) Fault → ℕ
status_of_result (Ok x) = 0
status_of_result (Err fault.Damaged) = 3
status_of_result (Err fault.Source) = 4
status_of_result (Err fault.Site) = 5
status_of_result (Err fault.Memory) = 6
status_of_result (Err fault.TooLong) = 7
status_of_result (Err fault.Draw) = 8
status_of_result (Err fault.Spent) = 9

-- the statuses at which each number drawn is the serial of a file
abbrev pub is_exact_status : ℕ → Bool
is_exact_status n = list_any (λ k. k == n) (0 ∷ 2 ∷ 3 ∷ 4 ∷ 7 ∷ 9 ∷ [])

-- ---- the order of files

-- from the first moment on, files are made and come into use in the pool's order, with the numbers and epochs that are next
abbrev pub TakesFilesInOrder : Content → Content → Type 0
TakesFilesInOrder old new = TakesInOrder [] (record { start = old.now; since = [] }) (moments_since old new)
