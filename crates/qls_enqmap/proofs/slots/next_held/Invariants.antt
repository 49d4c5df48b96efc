use Rattle.std.proofs.Common.{◌≡◌, ◌≤◌, ◌-◌, true, take, length}
use Rattle.qls_enqmap.specs.Slots.{held_in, occupied, none_of}
use Rattle.qls_enqmap.proofs.slots.next_held.Given as goal

abbrev pub invariant-loop-at : goal.invariant-loop-at
invariant-loop-at l = record {
  from : l.from ≤ l.at;
  within : l.at ≤ length l.slots.entries;
  same : held_in (take l.at l.slots.entries) ≡ held_in (take l.from l.slots.entries);
  holes : none_of (take l.from (occupied l.slots.entries)) ≡ true → none_of (take l.at (occupied l.slots.entries)) ≡ true;
}

abbrev pub decreases-loop-at : goal.decreases-loop-at
decreases-loop-at l = length l.slots.entries - l.at
