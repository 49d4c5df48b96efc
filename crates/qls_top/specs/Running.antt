-- What a line does to a store.
use Rattle.std.specs.Prelude.{◌≡◌, ◌++◌, ◌+◌, ◌<◌, ℕ, Bool, false, List, [], ◌∷◌, length, Option, Some, None, Result, IfOk, if◌then◌else◌}
use Rattle.qls_model.specs.declared.machine.Command.{Command}
use Rattle.qls_model.specs.Machine.{MachineState}
use Rattle.qls_site.specs.Disk.{Disk, IsQuiet}
use Rattle.qls_site.specs.Content.{Moment, Content, moments_since}
use Rattle.qls_meaning.specs.History.{History, AllUnmarked, now, next}
use Rattle.qls_meaning.specs.Orderly.{AnswersWhole}
use Rattle.qls_command.specs.Texts.{reply_text}
use Rattle.qls_pool.specs.Moments.{Chain, Arrives}
use Rattle.qls_log.specs.Leaving.{LeavesInOrder, WritesInOrder}
use Rattle.qls_log.specs.Unwritten.{history_with}
use Rattle.qls_store.specs.Stores.{StoreState, state_of, rid_of, Fits, IsClean}
use Rattle.qls_journals.specs.Homes.{Homes, SameHomes, TakesFromHome}
use Rattle.qls_store.specs.Homes.{homes_of, homes_after, is_accepted}
use Rattle.qls_store.specs.Ends.{MeetsItsEnd, MeetsAtOnce, raises_rid, StopsAtEnd}
use Rattle.qls_journals.specs.Moments.{AreWritten, StaysQuiet}
use Rattle.qls_store.specs.Steps.{RunsCommand}
use Rattle.qls_top.specs.declared.fault.Fault.{Fault}
use Rattle.qls_top.specs.Answers.{answer_line}
use Rattle.qls_top.specs.Moments.{AtReplies, IsRunStep, UnmarkedSince}
use Rattle.qls_top.specs.Held.{IsHeld}

-- a line that is none needs nothing
abbrev pub LineMeetsEnd : Homes → MachineState → Option Command → Disk → Type 0
LineMeetsEnd homes S None d = ⊥
LineMeetsEnd homes S (Some c) d = MeetsItsEnd homes S c d

-- nor at once, for its first batch
abbrev pub LineMeetsAtOnce : Homes → MachineState → Option Command → Disk → Type 0
LineMeetsAtOnce homes S None d = ⊥
LineMeetsAtOnce homes S (Some c) d = MeetsAtOnce homes S c d

-- it gives no record id of the prepared list
abbrev pub rid_after : MachineState → Option Command → ℕ → ℕ
rid_after S None rid = rid
rid_after S (Some c) rid = if raises_rid S c then rid + 1 else rid

-- and changes no home of a journal
abbrev pub homes_by : MachineState → Option Command → Homes → Homes
homes_by S None homes = homes
homes_by S (Some c) homes = homes_after S c homes

-- After a line: the store has the machine's state and the homes that follow, the reply was answered, at the last moment, and the store fits
-- the site. There was a file and a record id for the line's first batch, if the store was clean; where the files that came into use were
-- unmarked, the store is clean if it was
pub record RunsLine (was : StoreState) (asked : Option Command) (s : StoreState) (old new : Content) : Type 0 where
  pub state : state_of s ≡ (answer_line (state_of was) asked).0
  pub rid : rid_of s ≡ rid_after (state_of was) asked (rid_of was)
  pub homes : SameHomes (homes_of s) (homes_by (state_of was) asked (homes_of was))
  pub arrives : Arrives IsRunStep old new
  pub quiet : StaysQuiet old new
  pub answered : new.now.answered ≡ old.now.answered ++ reply_text (answer_line (state_of was) asked).1
  pub last : Chain (AtReplies (λ n. n ≡ new.now)) old.now arrives.since
  pub had : IsClean was old.now.disk → LineMeetsAtOnce (homes_of was) (state_of was) asked old.now.disk → ⊥
  pub fits : Fits s new.now.disk
  pub clean : AllUnmarked old.now arrives.since → IsClean was old.now.disk → IsClean s new.now.disk

-- Where nothing was pending, the store was clean and the files that came into use were unmarked: when the line is answered, what is
-- answered is its reply, and the disk holds the machine's state after it
abbrev pub RepliesLine : StoreState → Option Command → Content → Content → Type 0
RepliesLine was asked old new =
    let after = answer_line (state_of was) asked in
    IsQuiet old.now.disk → UnmarkedSince old new → IsClean was old.now.disk
    → Chain (AtReplies (λ n. (n.answered ≡ old.now.answered ++ reply_text after.1) × IsHeld after.0 n.disk)) old.now (moments_since old new)

-- After a command: the same before its answer. A line that is none does nothing
abbrev pub RunsBuilt : StoreState → Option Command → StoreState → Content → Content → Type 0
RunsBuilt was None s old new = (s ≡ was) × (new ≡ old)
RunsBuilt was (Some c) s old new = RunsCommand was c s old new

-- the line stopped, with nothing answered, since no file is left, or no record id of the prepared list
abbrev pub LineStops : StoreState → Option Command → Content → Content → Type 0
LineStops was None old new = ⊥
LineStops was (Some c) old new = StopsAtEnd was c old new

-- ---- at work on a line

-- so much was answered before; files that come into use are of the home of their journal, and a line that is refused changes no file
pub record IsUnderLine (homes : Homes) (accepted : Bool) (before : List ℕ) (m n : Moment) : Type 0 where
  pub answered : m.answered ≡ before
  pub pools : TakesFromHome homes m n
  pub still : accepted ≡ false → n.disk ≡ m.disk

abbrev pub UnderLine : StoreState → Option Command → Content → Content → Type 0
UnderLine was asked old new =
    Chain (IsUnderLine (homes_by (state_of was) asked (homes_of was)) (is_accepted (answer_line (state_of was) asked).1) old.now.answered) old.now (moments_since old new)

-- ---- the discipline

-- at each answer nothing dead is left, and what is read was written
abbrev pub AnswersInOrder : History → List Moment → Type 0
AnswersInOrder h [] = Unit {0}
AnswersInOrder h (m ∷ ms) = (length (now h).answered < length m.answered → AnswersWhole [] h m) × AnswersInOrder (next h m) ms

-- from each history in which the files were written up to the last batches, writes are as the discipline has them; at Ok files are
-- written so still
abbrev pub WritesLine : Result StoreState Fault → StoreState → Content → Content → Type 0
WritesLine r was old new =
    (h : History) → now h ≡ old.now → AreWritten [] h was.journals
    → WritesInOrder [] h (moments_since old new) × IfOk r (λ s. AreWritten [] (history_with h (moments_since old new)) s.journals)

-- where nothing was pending, the store was clean and the files that came into use were unmarked: files leave use in order, and answers
-- come in order
abbrev pub LeavesLine : StoreState → Content → Content → Type 0
LeavesLine was old new = IsQuiet old.now.disk → UnmarkedSince old new → IsClean was old.now.disk → Chain LeavesInOrder old.now (moments_since old new)

abbrev pub AnswersLine : StoreState → Content → Content → Type 0
AnswersLine was old new =
    (h : History) → now h ≡ old.now → AreWritten [] h was.journals → IsQuiet old.now.disk → UnmarkedSince old new → IsClean was old.now.disk → AnswersInOrder h (moments_since old new)
