-- The transactions of a store by xid: what a call finds in the table, and what it leaves of it.
use Rattle.std.specs.Prelude.{◌≡◌, ℕ, ◌≤◌, true, not, List, [], ◌∷◌, map, length, take, drop, Option, Some, None, Result, Ok, Err, option_map, if◌then◌else◌}
use Rattle.std.specs.List.{AllByRecursion, filter, find, slice_get}
use Rattle.qls_model.specs.Bytes.{same, comes_before}
use Rattle.qls_model.specs.Machine.{is_prepared}
use Rattle.qls_model.specs.declared.machine.Phase.{Phase}
use Rattle.qls_model.specs.declared.machine.Phase.TheVariants.{Open, Prepared}
use Rattle.qls_model.specs.declared.machine.Refusal.{Refusal}
use Rattle.qls_model.specs.declared.machine.Refusal.TheVariants as refusal
use Rattle.qls_store.specs.Stores.{TransactionState}

-- ---- what is found

abbrev pub named : List ℕ → List TransactionState → Option TransactionState
named x ts = find (λ t. same t.xid x) ts

abbrev pub phase_in : List ℕ → List TransactionState → Option Phase
phase_in x ts = option_map (λ t. t.phase) (named x ts)

abbrev pub queues_by : Option TransactionState → List (List ℕ)
queues_by None = []
queues_by (Some t) = t.queues

-- the names of its queues
abbrev pub queues_in : List ℕ → List TransactionState → List (List ℕ)
queues_in x ts = queues_by (named x ts)

abbrev pub not_open_by : Option Phase → Option Refusal
not_open_by None = Some refusal.Xid
not_open_by (Some Prepared) = Some refusal.Phase
not_open_by (Some Open) = None

-- why what is done by an open transaction is refused, where there is to be one
abbrev pub not_open_in : Option (List ℕ) → List TransactionState → Option Refusal
not_open_in None ts = None
not_open_in (Some x) ts = not_open_by (phase_in x ts)

-- the xids that are prepared
abbrev pub prepared_xids : List TransactionState → List (List ℕ)
prepared_xids ts = map (λ t. t.xid) (filter (λ t. is_prepared t.phase) ts)

-- ---- what is left

-- the transaction of this xid changed, and all others as they are
abbrev pub change : List ℕ → (TransactionState → TransactionState) → List TransactionState → List TransactionState
change x f ts = map (λ t. if same t.xid x then f t else t) ts

-- the transaction at its place by xid
abbrev pub placed : TransactionState → List TransactionState → List TransactionState
placed t [] = t ∷ []
placed t (u ∷ us) = if comes_before t.xid u.xid then t ∷ u ∷ us else (u ∷ placed t us)

-- with one more, which is open
abbrev pub begun : List ℕ → List TransactionState → List TransactionState
begun x ts = placed (record { xid = x; phase = Open; queues = [] }) ts

-- a name at its place among others, unless it stands there
abbrev pub with_name : List ℕ → List (List ℕ) → List (List ℕ)
with_name n [] = n ∷ []
with_name n (m ∷ ms) = if same m n then m ∷ ms else (if comes_before n m then n ∷ m ∷ ms else (m ∷ with_name n ms))

abbrev pub with_queue : List ℕ → TransactionState → TransactionState
with_queue name t = record t { queues = with_name name t.queues }

-- the queue is one of the transaction's, where there is to be one
abbrev pub touched_by : Option (List ℕ) → List ℕ → List TransactionState → List TransactionState
touched_by None name ts = ts
touched_by (Some x) name ts = change x (with_queue name) ts

abbrev pub prepared : TransactionState → TransactionState
prepared t = record t { phase = Prepared }

abbrev pub prepared_in : List ℕ → List TransactionState → List TransactionState
prepared_in x ts = change x prepared ts

abbrev pub without : List ℕ → List TransactionState → List TransactionState
without x ts = filter (λ t. not (same t.xid x)) ts

-- ---- places by key

module _ {A : Type 0} (key : A → List ℕ) where
  -- each comes before all that follow
  abbrev pub Rises : List A → Type 0
  Rises [] = Unit {0}
  Rises (a ∷ xs) = AllByRecursion (λ b. comes_before (key a) (key b) ≡ true) xs × Rises xs

  -- the one of this key stands there
  pub record StandsAt (xs : List A) (k : List ℕ) (at : ℕ) : Type 0 where
    pub item : A
    pub there : slice_get xs at ≡ Some item
    pub keyed : key item ≡ k

  -- none has the key; those before the place come before it, and it comes before the others
  pub record WouldStandAt (xs : List A) (k : List ℕ) (at : ℕ) : Type 0 where
    pub within : at ≤ length xs
    pub before : AllByRecursion (λ a. comes_before (key a) k ≡ true) (take at xs)
    pub behind : AllByRecursion (λ a. comes_before k (key a) ≡ true) (drop at xs)

  abbrev pub IsPlace : List A → List ℕ → Result ℕ ℕ → Type 0
  IsPlace xs k (Ok at) = StandsAt xs k at
  IsPlace xs k (Err at) = WouldStandAt xs k at
