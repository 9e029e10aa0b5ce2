use Rattle.std.proofs.Common.{◌≡◌, ◌≤◌, ◌+◌, ◌++◌, length}
use Rattle.std.specs.Vec.{vec_len, vec_capacity}
use Rattle.std.specs.Vec.Iter.{into_iter_items, into_iter_len}
use Rattle.ua_client.specs.Replies.{front_of}
use Rattle.ua_client.proofs.slots.append_front.Given as goal

-- the replies so far, and those in front of the slots that are left, are those in front of all slots
abbrev pub invariant-loop-slot : goal.invariant-loop-slot
invariant-loop-slot l = record {
  front : l.replies.items ++ front_of (into_iter_items l.slot-iterator) ≡ l.fn.replies.items ++ front_of l.fn.slots.items;
  count : into_iter_len l.slot-iterator ≡ length (into_iter_items l.slot-iterator);
  room : vec_len l.replies + length (into_iter_items l.slot-iterator) ≤ vec_capacity l.replies;
}
