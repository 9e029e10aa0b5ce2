-- Events of a client, as what frames tell, and the parts of their messages.
use Rattle.std.specs.Prelude.{ℕ, List, Option, Some, None}
use Rattle.std.specs.List.{concat}
use Rattle.ua_channel.specs.ClientTold.{ClientTold, ClientTold as told}
use Rattle.ua_channel.specs.declared.client.event.Event.{Event}
use Rattle.ua_channel.specs.declared.client.event.Event.TheVariants as event

-- an event as what a frame tells: the bytes of a message are its parts, joined
abbrev pub client_told_of_event : Event → ClientTold
client_told_of_event (event.Agreed ack) = told.Agreed ack
client_told_of_event (event.Opened channel token) = told.Opened channel token
client_told_of_event (event.Answered id message) = told.Answered id (concat message)
client_told_of_event (event.Aborted id code) = told.GaveUp id code
client_told_of_event (event.Renewed token) = told.Renewed token

-- the parts of the message of an event, if it has one
abbrev pub event_parts : Option Event → Option (List (List ℕ))
event_parts (Some (event.Answered id message)) = Some message
event_parts other = None
