-- The pool of each queue: the one that its command named, else the default.
use Rattle.std.specs.Prelude.{Bool, true, false, Option, Some, None, if◌then◌else◌}
use Rattle.qls_model.specs.Machine.{MachineState, step}
use Rattle.qls_model.specs.declared.machine.PoolId.{PoolId}
use Rattle.qls_model.specs.declared.machine.Command.{Command}
use Rattle.qls_model.specs.declared.machine.Command.TheVariants as command
use Rattle.qls_model.specs.declared.machine.Reply.{Reply}
use Rattle.qls_model.specs.declared.machine.Reply.TheVariants.{Done, Number, Messages, Doubts, Refused}
use Rattle.qls_journals.specs.Homes.{Homes, with_home, homes_of as homes_of_journals}
use Rattle.qls_store.specs.Stores.{StoreState}

abbrev pub pool_or : PoolId → Option PoolId → PoolId
pool_or default None = default
pool_or default (Some home) = home

-- a reply that isn't a refusal
abbrev pub is_accepted : Reply → Bool
is_accepted Done = true
is_accepted (Number n) = true
is_accepted (Messages ms) = true
is_accepted (Doubts xs) = true
is_accepted (Refused r) = false

-- what a command does where it is accepted
abbrev pub home_by : Command → Homes → Homes
home_by (command.Queue name home) homes = with_home name (Some (pool_or homes.default home)) homes
home_by (command.Drop name) homes = with_home name None homes
home_by (command.Put name body xid) homes = homes
home_by (command.Take name number xid) homes = homes
home_by (command.Begin x) homes = homes
home_by (command.Prepare x) homes = homes
home_by (command.Commit x) homes = homes
home_by (command.Abort x) homes = homes
home_by (command.List name) homes = homes
home_by command.Doubt homes = homes

abbrev pub homes_after : MachineState → Command → Homes → Homes
homes_after S c homes = if is_accepted (step S c).1 then home_by c homes else homes

-- the pools of a store's journals
abbrev pub homes_of : StoreState → Homes
homes_of s = homes_of_journals s.journals
