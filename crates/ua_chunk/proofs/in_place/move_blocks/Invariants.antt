use Rattle.std.proofs.Common.{◌≤◌, ◌-◌}
use Rattle.ua_chunk.specs.InPlace.{MovedUp}
use Rattle.ua_chunk.proofs.in_place.move_blocks.Given as goal

abbrev pub invariant-loop-at : goal.invariant-loop-at
invariant-loop-at l = (MovedUp l.fn.octets l.fn.end l.gap l.at l.octets) × ((l.start ≤ l.at) × (l.at ≤ l.fn.end))

abbrev pub decreases-loop-at : goal.decreases-loop-at
decreases-loop-at l = l.at - l.start
