-- The operations of pending transactions that held records show.
use Rattle.std.specs.Prelude.{◌≡◌, ℕ, Bool, true, false, List, [], ◌∷◌, Option, Some, None, ◌==◌, if◌then◌else◌}
use Rattle.std.specs.List.{filter_map, list_any}
use Rattle.qls_model.specs.Bytes.{same}
use Rattle.qls_model.specs.declared.machine.Status.{Status}
use Rattle.qls_model.specs.declared.machine.Status.TheVariants.{Ready, Coming, Going}
use Rattle.qls_model.specs.declared.machine.Verdict.{Verdict}
use Rattle.qls_model.specs.declared.machine.Verdict.TheVariants.{Commit, Abort}
use Rattle.qls_enqmap.specs.declared.Held.{Held}
use Rattle.qls_enqmap.specs.Records.{with_status, without}
use Rattle.qls_txnmap.specs.declared.Op.{Op}
use Rattle.qls_txnmap.specs.declared.Op.TheVariants.{Put, Take}
use Rattle.qls_txnmap.specs.Pending.{Table, ops_of}

-- the operation by x of a record of this status: a put where it comes by x, a take where it goes by x
abbrev pub op_by_status : List ℕ → ℕ → Status → Option Op
op_by_status x rid Ready = None
op_by_status x rid (Coming y) = if same x y then Some (Put rid) else None
op_by_status x rid (Going y) = if same x y then Some (Take rid) else None

abbrev pub op_by : List ℕ → Held → Option Op
op_by x h = op_by_status x h.rid h.status

-- the record is coming or going by x
abbrev pub is_moved : List ℕ → Status → Bool
is_moved x Ready = false
is_moved x (Coming y) = same x y
is_moved x (Going y) = same x y

abbrev pub moves_by : List ℕ → Held → Bool
moves_by x h = is_moved x h.status

-- the operations by x that the held records show
abbrev pub ops_in : List ℕ → List Held → List Op
ops_in x hs = filter_map (op_by x) hs

abbrev pub same_op : Op → Op → Bool
same_op (Put a) (Put b) = a == b
same_op (Put a) (Take b) = false
same_op (Take a) (Put b) = false
same_op (Take a) (Take b) = a == b

abbrev pub has_op : Op → List Op → Bool
has_op op ops = list_any (same_op op) ops

-- the table has just the operations that the held records show
abbrev pub Agrees : List Held → Table → Type 0
Agrees hs t = (x : List ℕ) → (op : Op) → has_op op (ops_of x t) ≡ has_op op (ops_in x hs)

-- what carrying out an operation leaves: with a commit a put stays and a taken record goes, with an abort the other way round
abbrev pub ended : Bool → Op → List Held → List Held
ended true (Put rid) hs = with_status rid Ready hs
ended false (Put rid) hs = without rid hs
ended true (Take rid) hs = without rid hs
ended false (Take rid) hs = with_status rid Ready hs

abbrev pub ended_all : Bool → List Op → List Held → List Held
ended_all commit [] hs = hs
ended_all commit (op ∷ ops) hs = ended_all commit ops (ended commit op hs)

abbrev pub verdict_if : Bool → Verdict
verdict_if true = Commit
verdict_if false = Abort
