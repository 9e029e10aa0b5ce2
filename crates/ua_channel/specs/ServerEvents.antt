-- Events of a server, as what frames tell, and the parts of their messages.
use Rattle.std.specs.Prelude.{ℕ, Bool, true, false, List, Option, Some, None}
use Rattle.std.specs.List.{concat}
use Rattle.ua_channel.specs.declared.server_event.Event.{Event}
use Rattle.ua_channel.specs.ServerTold.{Told, Agreed, Opened, Asked, GaveUp, Closed}
use Rattle.ua_channel.specs.declared.server_event.Event.TheVariants as event

-- an event as what a frame tells: the bytes of a message are its parts, joined
abbrev pub server_told_of_event : Event → Told
server_told_of_event (event.Agreed agreement) = Agreed agreement
server_told_of_event (event.Opened request handle token lifetime) = Opened request handle token lifetime
server_told_of_event (event.Asked request token message) = Asked request token (concat message)
server_told_of_event (event.Aborted request) = GaveUp request
server_told_of_event event.Closed = Closed

-- the parts of the message of an event, if it has one
abbrev pub parts_of_event : Option Event → Option (List (List ℕ))
parts_of_event (Some (event.Asked request token message)) = Some message
parts_of_event other = None

-- the frame of a CLO is the last
abbrev pub is_closed : Event → Bool
is_closed event.Closed = true
is_closed other = false
