use Rattle.std.proofs.Common.{◌≡◌, ℕ, List, [], take}
use Rattle.std.specs.List.{filter_map}
use Rattle.std.specs.HashMap.{get as looked_up}
use Rattle.qls_model.specs.Bytes.{same}
use Rattle.qls_decide.specs.Entries.{entry_of, state_of}
use Rattle.qls_meaning.specs.Meaning.{in_doubt}
use Rattle.qls_look.proofs.seen.seen_list.Given as goal

abbrev pub invariant-loop-entry : goal.invariant-loop-entry
invariant-loop-entry l = record {
  state : l.seen.state ≡ record { queues = []; xids = filter_map in_doubt (take l.entry-index l.entries) };
  states : (x : List ℕ) → looked_up same l.seen.states x ≡ state_of (entry_of x (take l.entry-index l.entries));
}
