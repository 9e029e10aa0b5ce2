use Rattle.std.proofs.Common.{◌≤◌, ◌+◌, take, length}
use Rattle.ua_chunk.specs.InPlace.{PlacedBehind, number_behind}
use Rattle.ua_chunk.proofs.in_place.place_chunks.Given as goal

abbrev pub invariant-loop-left : goal.invariant-loop-left
invariant-loop-left l =
    (PlacedBehind l.lane l.request l.sequence (number_behind l.sequence (l.last + 1)) (take l.len l.fn.octets) (length l.fn.octets) l.left l.octets)
    × (l.left ≤ l.last)

abbrev pub decreases-loop-left : goal.decreases-loop-left
decreases-loop-left l = l.left
