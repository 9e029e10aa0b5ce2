-- What a client sends for its operations, and what that tells a server: the definitions of
-- `ua_loopback` for operations that make one request each, or renew.
use Rattle.std.specs.Prelude.{ℕ, map, List, [], ◌∷◌, Option, Some, None}
use Rattle.ua_builtin.specs.declared.date_time.DateTime.{DateTime}
use Rattle.ua_channel.specs.ServerTold.{Told}
use Rattle.ua_services.specs.declared.request.Request.{Request}
use Rattle.ua_loopback.specs.Sends.{conversation_octets}
use Rattle.ua_loopback.specs.Turns.{conversation_told, ids_behind}
use Rattle.ua_exchange.specs.Programs.{channel, program_limits, url}
use Rattle.ua_exchange.specs.declared.turn.Turn.{Turn}
use Rattle.ua_exchange.specs.declared.turn.Turn.TheVariants.{Ask, Renew}

-- the one request of an operation; none if it is a renewal
abbrev pub served_turn : Turn → Option (List Request)
served_turn (Ask m) = Some (m ∷ [])
served_turn Renew = None

-- the same for operations, in order
abbrev pub served_turns : List Turn → List (Option (List Request))
served_turns turns = map served_turn turns

-- the RequestId of the operation after these: ids are counted on from that of the first OPN, which
-- is 1
abbrev pub id_behind : List Turn → ℕ
id_behind before = ids_behind 2 (served_turns before)

-- the bytes of a client with these operations, from the HEL to the CLO
unfoldable pub up_octets : DateTime → List Turn → List ℕ
up_octets moment turns = conversation_octets program_limits program_limits (Some url) channel moment (served_turns turns)

-- all that it tells: the same, and the CLO
unfoldable pub all_told : List Turn → List Told
all_told turns = conversation_told program_limits program_limits (Some url) (served_turns turns)
