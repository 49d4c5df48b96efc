-- Settling as the abort of one transaction after another.
use Rattle.std.specs.Prelude.{ℕ, List, [], ◌∷◌, map, Option, Some, if◌then◌else◌}
use Rattle.qls_model.specs.Messages.{decided, only}
use Rattle.qls_model.specs.Machine.{XidState, is_prepared}
use Rattle.qls_model.specs.declared.machine.QueueState.{QueueState}
use Rattle.qls_model.specs.declared.machine.Verdict.TheVariants.{Abort}
use Rattle.qls_model.specs.declared.machine.Command.{Command}
use Rattle.qls_model.specs.declared.machine.Command.TheVariants as command

-- the xids of the table that are open
abbrev pub open_xids : List XidState → List (List ℕ)
open_xids [] = []
open_xids (e ∷ xs) = if is_prepared e.phase then open_xids xs else (e.xid ∷ open_xids xs)

-- the queues with each of these xids aborted in turn
abbrev pub aborted_in_turn : List (List ℕ) → List QueueState → List QueueState
aborted_in_turn [] qs = qs
aborted_in_turn (x ∷ xs) qs = aborted_in_turn xs (map (decided (only x Abort)) qs)

-- these xids aborted, as commands
abbrev pub aborts : List (List ℕ) → List (Option Command)
aborts xs = map (λ x. Some (command.Abort x)) xs
