-- What a client with these operations sends, from the HEL to the CLO: a function of them.
use Rattle.std.specs.Prelude.{ℕ, ◌++◌, List, [], ◌∷◌, map, Option, Some, None}
use Rattle.ua_builtin.specs.declared.date_time.DateTime.{DateTime}
use Rattle.ua_frame.specs.declared.ack.Ack.{Ack}
use Rattle.ua_frame.specs.declared.limits.Limits.{Limits}
use Rattle.ua_chunk.specs.Sequence.{next_number}
use Rattle.ua_chunk.specs.declared.lane.Lane.{Lane}
use Rattle.ua_channel.specs.ClientAsks.{call_lane}
use Rattle.ua_channel_laws.specs.Outgoing.{Outgoing, outgoing_octets}
use Rattle.ua_channel_laws.specs.Outgoing.Outgoing.{CallWith, RenewalAt}
use Rattle.ua_services.specs.declared.request.Request.{Request}
use Rattle.ua_client.specs.Client.{closing_by}
use Rattle.ua_client.specs.Sent.{bodies_of, numbers_behind}
use Rattle.ua_loopback.specs.Accepted.{acknowledged}
use Rattle.ua_loopback.specs.Course.{opening_octets}
use Rattle.ua_loopback.specs.Turns.{id_behind_turn, ids_behind, token_behind_turn, tokens_behind}

-- ---- one operation, where calls go in this lane, with this SequenceNumber and this RequestId next

-- what is sent: calls of its requests, each by its canonical encoding, or a renewal at this time
abbrev pub outgoing_of : DateTime → Option (List Request) → List Outgoing
outgoing_of moment (Some requests) = map CallWith (bodies_of requests)
outgoing_of moment None = RenewalAt moment ∷ []

-- the bytes of it: the chunks of the calls, or the OPN (OPC 10000-6, 6.7.2)
abbrev pub turn_octets : Lane → ℕ → ℕ → DateTime → Option (List Request) → List ℕ
turn_octets lane number id moment turn = outgoing_octets (Some lane) number id (outgoing_of moment turn)

-- the SequenceNumber after it
abbrev pub turn_number : Lane → ℕ → Option (List Request) → ℕ
turn_number lane number (Some requests) = numbers_behind (Some lane) number (bodies_of requests)
turn_number lane number None = next_number number

-- ---- operations in order, on a channel of a server that sent this ACK, with this newest token

abbrev pub turns_octets : Ack → ℕ → DateTime → ℕ → ℕ → ℕ → List (Option (List Request)) → List ℕ
turns_octets a channel moment token number id [] = []
turns_octets a channel moment token number id (t ∷ turns) =
    turn_octets (call_lane a channel token) number id moment t
    ++ turns_octets a channel moment (token_behind_turn token t) (turn_number (call_lane a channel token) number t) (id_behind_turn id t) turns

-- the SequenceNumber after them
abbrev pub turns_number : Ack → ℕ → ℕ → ℕ → List (Option (List Request)) → ℕ
turns_number a channel token number [] = number
turns_number a channel token number (t ∷ turns) = turns_number a channel (token_behind_turn token t) (turn_number (call_lane a channel token) number t) turns

-- ---- all of it

-- the CLO after operations (OPC 10000-6, 7.1.4)
abbrev pub closing_behind : Ack → ℕ → DateTime → List (Option (List Request)) → List ℕ
closing_behind a channel moment turns = closing_by (Some (call_lane a channel (tokens_behind 1 turns))) (turns_number a channel 1 2 turns)
    (ids_behind 2 turns) moment

-- what a client with these limits sends to a server with those, on this channel: the HEL and the
-- OPN, the operations, and the CLO; the first OPN has the SequenceNumber 1 and the RequestId 1, and
-- brings the token 1
abbrev pub conversation_octets : Limits → Limits → Option (List ℕ) → ℕ → DateTime → List (Option (List Request)) → List ℕ
conversation_octets server client url channel moment turns =
    opening_octets client url moment
    ++ (turns_octets (acknowledged server client url) channel moment 1 2 2 turns ++ closing_behind (acknowledged server client url) channel moment turns)
