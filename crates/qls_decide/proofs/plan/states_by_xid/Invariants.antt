use Rattle.std.proofs.Common.{◌≡◌, ℕ, List, drop}
use Rattle.std.specs.HashMap.{get as looked_up}
use Rattle.qls_model.specs.Bytes.{same}
use Rattle.qls_decide.specs.Entries.{entry_of, state_of}
use Rattle.qls_decide.proofs.plan.states_by_xid.Given as goal

abbrev pub invariant-loop-at : goal.invariant-loop-at
invariant-loop-at l = (x : List ℕ) → looked_up same l.states x ≡ state_of (entry_of x (drop l.at l.entries))
