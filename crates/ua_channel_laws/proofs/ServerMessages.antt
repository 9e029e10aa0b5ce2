-- That a server is told just the messages that chunks deliver.
use Rattle.std.proofs.Common.{◌≡◌, ℕ, ◌+◌, List, [], ◌∷◌, map, Option, Some, None, refl}
use Rattle.std.proofs.lemmas.Grind.{flat_map-append}
use Rattle.ua_frame.specs.declared.frame.Frame.{Frame}
use Rattle.ua_frame.specs.declared.limits.Limits.{Limits}
use Rattle.ua_frame.specs.After.{each_after}
use Rattle.ua_frame.specs.Run.{events}
use Rattle.ua_chunk.specs.Delivered.{delivered, given}
use Rattle.ua_chunk.specs.Item.{Item}
use Rattle.ua_chunk.specs.Item.Item.{Whole, Aborted}
use Rattle.ua_opening.specs.declared.secure_channel.OpenRequest.{OpenRequest}
use Rattle.ua_channel.specs.Content.{Content}
use Rattle.ua_channel.specs.Content.Content.{Greets, Acks, Fails, Opens, Sends, Closes, Nothing}
use Rattle.ua_channel.specs.Received.{Received, received}
use Rattle.ua_channel_laws.specs.ServerMessages.{message_in, message_of_item, messages_in}
use Rattle.ua_channel.specs.ServerRules.{server_rules}
use Rattle.ua_channel.specs.ServerTold.{issued, opened_by, request_of, server_tells, told_under}
use Rattle.ua_channel.proofs.OneFrameMore.{found_all, given_in}

items_in : (token : ℕ) (items : List Item) → messages_in (map (told_under token) items) ≡ map message_of_item items
items_in token [] = refl
items_in token (Whole id octets ∷ is) = rw (items_in token is)
items_in token (Aborted id code reason ∷ is) = rw (items_in token is)

no_message : (token : ℕ) (numbers : Option (ℕ × ℕ)) (request : Option OpenRequest) → messages_in (opened_by token numbers request) ≡ []
no_message token (Some n) (Some r) = refl
no_message token (Some n) None = refl
no_message token None r = refl

message_told : (limits : Limits) (b : Received) (c : Content) → messages_in (server_tells limits b c) ≡ map message_of_item (given_in b c)
message_told limits b (Greets (Some h)) = refl
message_told limits b (Greets None) = refl
message_told limits b (Acks ack) = refl
message_told limits b (Fails error) = refl
message_told limits b (Opens o) = no_message (issued b + 1) o.numbers (request_of o)
message_told limits b (Sends c) = items_in c.token (given b.messages c)
message_told limits b (Closes c) = refl
message_told limits b Nothing = refl

pub messages_delivered : (limits : Limits) (channel : ℕ) (frames : List Frame) → messages_in (events (server_rules limits channel) frames)
    ≡ map message_of_item (delivered (received frames).messages)
unfolding each_after
messages_delivered limits channel frames = found_all messages_in message_of_item (server_tells limits) refl (flat_map-append message_in)
    (message_told limits) frames
