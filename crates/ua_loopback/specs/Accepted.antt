-- Which client operations (turns: calls at once, or a renewal) a client accepts, and why the first
-- that it does not accept is refused.
use Rattle.std.specs.Prelude.{◌≡◌, ℕ, zero, suc, ◌+◌, Bool, List, [], ◌∷◌, ◌++◌, length, map, Option, Some, None}
use Rattle.ua_builtin.specs.Reasons.{first_reason, renamed_reason}
use Rattle.ua_frame.specs.After.{AllAfter}
use Rattle.ua_frame.specs.Agreement.{ack_to}
use Rattle.ua_frame.specs.declared.ack.Ack.{Ack}
use Rattle.ua_frame.specs.declared.limits.Limits.{Limits}
use Rattle.ua_channel.specs.ClientAsks.{reasons_of_token}
use Rattle.ua_channel.specs.ClientSends.{hello_to}
use Rattle.ua_services.specs.declared.request.Request.{Request}
use Rattle.ua_client.specs.Sent.{by_channel, group_reasons}
use Rattle.ua_client.specs.declared.fault.ClientFault.{ClientFault}
use Rattle.ua_client.specs.declared.fault.ClientFault.TheVariants as fault
use Rattle.ua_loopback.specs.Turns.{ids_behind}

-- what a server with these limits acknowledges to a client with those, for this URL (OPC 10000-6,
-- 7.1.2.4)
abbrev pub acknowledged : Limits → Limits → Option (List ℕ) → Ack
acknowledged server client url = ack_to (hello_to client url) server

-- ---- the tokens that the client holds

-- how many tokens it holds after this many calls that are answered: all of these if there is no
-- call, else only the one that the last reply used
abbrev pub held_behind_calls : ℕ → ℕ → ℕ
held_behind_calls held zero = held
held_behind_calls held (suc n) = 1

-- after one operation: a renewal brings one more
abbrev pub held_behind : ℕ → Option (List Request) → ℕ
held_behind held (Some requests) = held_behind_calls held (length requests)
held_behind held None = held + 1

-- after operations
abbrev pub tokens_held : ℕ → List (Option (List Request)) → ℕ
tokens_held held [] = held
tokens_held held (t ∷ turns) = tokens_held (held_behind held t) turns

-- ---- why an operation is refused

-- why an operation is refused with a server that sent this ACK, if this many tokens are held and
-- this is the next RequestId, in the order in which it is judged. Of requests: what is against the
-- first of them, then what is against the next. Of a renewal: 16 tokens are held; all RequestIds
-- were used
abbrev pub turn_reasons_under : Ack → ℕ → ℕ → Option (List Request) → List (ClientFault × Bool)
turn_reasons_under a held id (Some requests) = group_reasons (Some a) id requests
turn_reasons_under a held id None = map (renamed_reason by_channel) (reasons_of_token held id)

-- the first of these reasons against an operation after others, if there is one; the token and the
-- RequestId of the opening were used before
abbrev pub turn_refusal_under : Ack → List (Option (List Request)) → Option (List Request) → Option ClientFault
turn_refusal_under a before turn = first_reason (turn_reasons_under a (tokens_held 1 before) (ids_behind 2 before) turn)

-- an operation after these is accepted
abbrev pub IsAcceptedUnder : Ack → List (Option (List Request)) → Option (List Request) → Type 0
IsAcceptedUnder a before turn = turn_refusal_under a before turn ≡ None

-- each of the operations is accepted, after those before it
abbrev pub AreAcceptedUnder : Ack → List (Option (List Request)) → Type 0
AreAcceptedUnder a turns = AllAfter (IsAcceptedUnder a) turns

-- the first of the operations that is not accepted has this place, and this is why
pub record FirstRefusedUnder (a : Ack) (turns : List (Option (List Request))) (place : ℕ) (reason : ClientFault) : Type 0 where
  pub before : List (Option (List Request))
  pub turn : Option (List Request)
  pub behind : List (Option (List Request))
  pub parts : turns ≡ before ++ turn ∷ behind
  pub place_is : length before ≡ place
  pub accepted : AreAcceptedUnder a before
  pub refused : turn_refusal_under a before turn ≡ Some reason

-- a fault that is a reason against an operation
abbrev pub IsTurnFault : ClientFault → Type 0
IsTurnFault fault.NotWritable = Unit {0}
IsTurnFault fault.Exhausted = Unit {0}
IsTurnFault fault.TooLarge = Unit {0}
IsTurnFault fault.TooManyTokens = Unit {0}
IsTurnFault other = ⊥
