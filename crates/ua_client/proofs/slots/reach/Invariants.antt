use Rattle.std.proofs.Common.{◌≡◌, ◌⊎◌, ◌+◌, ◌-◌, ◌≤◌, length}
use Rattle.ua_client.specs.Slots.{filled_up}
use Rattle.ua_client.proofs.slots.reach.Given as goal

abbrev pub invariant-loop-slots : goal.invariant-loop-slots
invariant-loop-slots l = record {
  filled : l.slots.items ≡ filled_up (length l.slots.items) l.fn.slots.items;
  least : length l.fn.slots.items ≤ length l.slots.items;
  within : (length l.slots.items ≤ l.index + 1) ⊎ (l.slots.items ≡ l.fn.slots.items);
}

abbrev pub decreases-loop-slots : goal.decreases-loop-slots
decreases-loop-slots l = (l.index + 1) - length l.slots.items
