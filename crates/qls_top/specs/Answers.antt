-- The answers to the lines of a script.
use Rattle.std.specs.Prelude.{List, [], ◌∷◌, ◌++◌, ℕ, Option, Some, None}
use Rattle.qls_model.specs.declared.machine.Command.{Command}
use Rattle.qls_model.specs.declared.machine.Reply.{Reply}
use Rattle.qls_model.specs.declared.machine.Reply.TheVariants.{Refused}
use Rattle.qls_model.specs.declared.machine.Refusal.TheVariants as refusal
use Rattle.qls_model.specs.Machine.{MachineState, step}
use Rattle.qls_command.specs.Texts.{reply_text}

-- the machine's answer, and to a line that is none that it is no line
abbrev pub answer_line : MachineState → Option Command → MachineState × Reply
answer_line S None = (S, Refused refusal.Line)
answer_line S (Some c) = step S c

-- the state after the lines, and the text of the answers to them
abbrev pub state_answered : MachineState → List (Option Command) → MachineState
state_answered S [] = S
state_answered S (c ∷ cs) = state_answered (answer_line S c).0 cs

abbrev pub answers_text : MachineState → List (Option Command) → List ℕ
answers_text S [] = []
answers_text S (c ∷ cs) = reply_text (answer_line S c).1 ++ answers_text (answer_line S c).0 cs
