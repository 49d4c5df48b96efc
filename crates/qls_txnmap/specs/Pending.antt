-- The operations of the transactions that are pending.
use Rattle.std.specs.Prelude.{◌≡◌, ℕ, Bool, true, false, List, [], ◌∷◌, ◌++◌, Option, Some, None, if◌then◌else◌}
use Rattle.std.specs.Map.{lookup}
use Rattle.qls_model.specs.Bytes.{same}
use Rattle.qls_txnmap.specs.declared.Op.{Op}

-- transactions, each with its operations, in no order that counts
abbrev pub Table : Type 0
Table = List (List ℕ × List Op)

abbrev pub all_of : Option (List Op) → List Op
all_of None = []
all_of (Some ops) = ops

-- the operations of x in the order in which they were added; none where x has none
abbrev pub ops_of : List ℕ → Table → List Op
ops_of x t = all_of (lookup (same x) t)

-- the list, where it has an item
abbrev pub if_any : List Op → Option (List Op)
if_any [] = None
if_any (op ∷ ops) = Some (op ∷ ops)

abbrev pub is_any : List Op → Bool
is_any [] = false
is_any (op ∷ ops) = true

-- whether x has an operation
abbrev pub is_pending : List ℕ → Table → Bool
is_pending x t = is_any (ops_of x t)

-- the operations of y, with one more where y is x
abbrev pub ops_with : List ℕ → Op → Table → List ℕ → List Op
ops_with x op t y = if same x y then ops_of y t ++ op ∷ [] else ops_of y t

-- the operations of y, with none where y is x
abbrev pub ops_without : List ℕ → Table → List ℕ → List Op
ops_without x t y = if same x y then [] else ops_of y t

-- each entry has an operation
abbrev pub NoneEmpty : Table → Type 0
NoneEmpty t = (x : List ℕ) → (ops : List Op) → lookup (same x) t ≡ Some ops → is_any ops ≡ true
