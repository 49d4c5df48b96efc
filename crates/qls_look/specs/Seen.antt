-- What is known of a store once some of its journals are read.
use Rattle.std.specs.Prelude.{◌≡◌, ℕ, true, List, [], ◌∷◌, ◌++◌, Option, Some, None, Result, Ok, Err, if◌then◌else◌}
use Rattle.std.specs.List.{AllByRecursion, filter_map}
use Rattle.std.specs.HashMap.{HashMap, get as looked_up}
use Rattle.qls_model.specs.Bytes.{same, comes_before}
use Rattle.qls_model.specs.Messages.{decided}
use Rattle.qls_model.specs.Machine.{MachineState, XidState, with_xid}
use Rattle.qls_model.specs.declared.machine.QueueState.{QueueState}
use Rattle.qls_model.specs.declared.machine.Verdict.{Verdict}
use Rattle.qls_decide.specs.declared.ListState.{ListState}
use Rattle.qls_decide.specs.declared.ListEntry.{ListEntry}
use Rattle.qls_decide.specs.Entries.{verdict_for, verdict_by}
use Rattle.qls_meaning.specs.Journals.{Journal, is_queue}
use Rattle.qls_meaning.specs.Replay.{entries_after}
use Rattle.qls_meaning.specs.Meaning.{records_of, queue_of, in_doubt}
use Rattle.qls_look.specs.declared.seen.Seen.{Seen}

-- the verdict on an xid by the states of the entries
abbrev pub verdict_in : {S : Type 0} → HashMap (List ℕ) ListState S → List ℕ → Verdict
verdict_in states x = verdict_for (looked_up same states x)

-- each xid comes before those of all later entries
abbrev pub XidsRise : List ListEntry → Type 0
XidsRise [] = Unit {0}
XidsRise (e ∷ es) = AllByRecursion (λ f. comes_before e.xid f.xid ≡ true) es × XidsRise es

-- the xids with one more, where it is in doubt
abbrev pub with_doubt : Option XidState → List XidState → List XidState
with_doubt None xs = xs
with_doubt (Some e) xs = with_xid e xs

-- the names of these queues come before this one
abbrev pub NamesBefore : List ℕ → List QueueState → Type 0
NamesBefore name qs = AllByRecursion (λ q. comes_before q.name name ≡ true) qs

-- the state so far, and the verdicts
pub record Sight : Type 0 where
  pub state : MachineState
  pub verdict : List ℕ → Verdict

abbrev pub sight_of : Seen → Sight
sight_of seen = record { state = seen.state; verdict = verdict_in seen.states }

-- before any queue, what the entries of the prepared list tell
abbrev pub sight_by : List ListEntry → Sight
sight_by es = record { state = record { queues = []; xids = filter_map in_doubt es }; verdict = verdict_by es }

-- a queue behind the others, its transactions ended by the verdicts
abbrev pub with_last : QueueState → Sight → Sight
with_last q s = record s { state = record s.state { queues = s.state.queues ++ decided s.verdict q ∷ [] } }

-- with one more journal: the prepared list comes before all queues
abbrev pub seen_with : Journal → Sight → Sight
seen_with j s = if is_queue j.kind then with_last (queue_of j) s else sight_by (entries_after (records_of j) [])

-- the answer, with this in the place of nothing
abbrev pub answered : {X E : Type 0} → X → Result (Unit {0}) E → Result X E
answered x (Ok u) = Ok x
answered x (Err e) = Err e
