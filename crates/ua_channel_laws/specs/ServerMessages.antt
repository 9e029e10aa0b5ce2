-- What a server was told of messages.
use Rattle.std.specs.Prelude.{ℕ, List, [], ◌∷◌, Option, Some, None}
use Rattle.std.specs.List.{flat_map}
use Rattle.ua_chunk.specs.Item.{Item}
use Rattle.ua_chunk.specs.Item.Item.{Whole, Aborted}
use Rattle.ua_channel.specs.ServerTold.{Told}
use Rattle.ua_channel.specs.ServerTold.Told.{Asked, GaveUp}

-- the message that this tells of, if it does: its RequestId, and its bytes unless its sender
-- aborted it
abbrev pub message_in : Told → List (ℕ × Option (List ℕ))
message_in (Asked id token octets) = (id, Some octets) ∷ []
message_in (GaveUp id) = (id, None) ∷ []
message_in other = []

-- the messages that these tell of, in order
abbrev pub messages_in : List Told → List (ℕ × Option (List ℕ))
messages_in told = flat_map message_in told

-- what chunks deliver, in this form
abbrev pub message_of_item : Item → ℕ × Option (List ℕ)
message_of_item (Whole id octets) = (id, Some octets)
message_of_item (Aborted id code reason) = (id, None)
