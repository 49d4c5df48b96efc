-- What holds of each state of the program: no name and no xid stands twice, and numbers rise to the last one, which has room.
use Rattle.std.specs.Prelude.{◌≡◌, ℕ, ◌<◌, ◌≤◌, ◌^◌, false, List, [], ◌∷◌}
use Rattle.std.specs.List.{AllByRecursion}
use Rattle.qls_model.specs.Bytes.{same}
use Rattle.qls_model.specs.Machine.{XidState}
use Rattle.qls_model.specs.declared.machine.Message.{Message}
use Rattle.qls_model.specs.declared.machine.QueueState.{QueueState}

-- no two entries have the same key
abbrev pub Once : {A : Type 0} → (A → List ℕ) → List A → Type 0
Once key [] = Unit {0}
Once key (x ∷ xs) = AllByRecursion (λ y. same (key y) (key x) ≡ false) xs × Once key xs

abbrev pub NamesOnce : List QueueState → Type 0
NamesOnce qs = Once (λ q. q.name) qs

abbrev pub XidsOnce : List XidState → Type 0
XidsOnce xs = Once (λ e. e.xid) xs

-- the messages' numbers rise, and are at most last
abbrev pub RisesTo : ℕ → List Message → Type 0
RisesTo last [] = Unit {0}
RisesTo last (m ∷ ms) = (m.number ≤ last) × AllByRecursion (λ k. m.number < k.number) ms × RisesTo last ms

pub record IsNumbered (q : QueueState) : Type 0 where
  pub last : q.last < 2 ^ 62
  pub rising : RisesTo q.last q.messages

pub record IsSound (qs : List QueueState) (xs : List XidState) : Type 0 where
  pub names : NamesOnce qs
  pub xids : XidsOnce xs
  pub numbers : AllByRecursion IsNumbered qs
