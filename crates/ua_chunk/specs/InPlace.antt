-- Splitting a body into chunks within its own bytes: from the last chunk to the first, each piece of
-- the body moves up by the headers of its chunk and of those before it.
use Rattle.std.specs.Prelude.{◌≡◌, ◌<◌, ◌+◌, ◌-◌, ◌*◌, ℕ, zero, suc, length, take, drop, List, ◌++◌}
use Rattle.ua_chunk.specs.declared.lane.Lane.{Lane}
use Rattle.ua_chunk.specs.Cutting.{pieces, chunks_of, chunks_octets, number_after}
use Rattle.ua_chunk.specs.Sequence.{next_number}

-- the number that a sender gives the chunk so many chunks behind one with this number
abbrev pub number_behind : ℕ → ℕ → ℕ
number_behind s zero = s
number_behind s (suc k) = next_number (number_behind s k)

-- of these bytes, those from `at` up to `end` have moved up by the gap, and those before are as
-- they were
pub record MovedUp (old : List ℕ) (end gap at : ℕ) (octets : List ℕ) : Type 0 where
  pub len : length octets ≡ length old
  pub front : take (at + gap) octets ≡ take (at + gap) old
  pub back : drop (at + gap) octets ≡ take (end - at) (drop at old) ++ drop (end + gap) old

-- the chunks of a body behind its first pieces, which are left, stand at the end of these bytes
pub record PlacedBehind (lane : Lane) (id from next : ℕ) (body : List ℕ) (size left : ℕ) (octets : List ℕ) : Type 0 where
  pub len : length octets ≡ size
  pub inside : left * lane.room < length body
  pub front : take (left * lane.room) octets ≡ take (left * lane.room) body
  pub back : drop (left * lane.room + 24 * left) octets ≡ chunks_octets (chunks_of lane (drop (left * lane.room) body) (number_behind from left) id)
  pub after : number_after (number_behind from left) (pieces lane.room (drop (left * lane.room) body)) ≡ next
