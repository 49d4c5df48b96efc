-- A command whose parts are within the limits.
use Rattle.std.specs.Prelude.{ℕ, Bool, true, ◌&&◌, List, length, Option, Some, None, nat_le, IsTrue}
use Rattle.qls_model.specs.Limits.{is_partition, is_kib, is_queue_name}
use Rattle.qls_model.specs.declared.machine.PoolId.{PoolId}
use Rattle.qls_model.specs.declared.machine.Command.{Command}
use Rattle.qls_model.specs.declared.machine.Command.TheVariants as command

-- 1 to 128 bytes
abbrev pub is_xid : List ℕ → Bool
is_xid x = nat_le 1 (length x) && nat_le (length x) 128

-- at most 1,048,576 bytes
abbrev pub is_body : List ℕ → Bool
is_body body = nat_le (length body) 1048576

abbrev pub is_home : Option PoolId → Bool
is_home None = true
is_home (Some p) = is_partition p.part && is_kib p.kib

-- an xid, if there is one
abbrev pub is_by : Option (List ℕ) → Bool
is_by None = true
is_by (Some x) = is_xid x

-- its name, xid, body and pool are
abbrev pub is_within : Command → Bool
is_within (command.Queue name home) = is_queue_name name && is_home home
is_within (command.Drop name) = is_queue_name name
is_within (command.Put name body xid) = is_queue_name name && is_body body && is_by xid
is_within (command.Take name number xid) = is_queue_name name && is_by xid
is_within (command.Begin x) = is_xid x
is_within (command.Prepare x) = is_xid x
is_within (command.Commit x) = is_xid x
is_within (command.Abort x) = is_xid x
is_within (command.List name) = is_queue_name name
is_within command.Doubt = true

abbrev pub IsWithin : Command → Type 0
IsWithin c = IsTrue (is_within c)
