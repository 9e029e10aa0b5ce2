-- Which client operations (turns: a request or a renewal) are accepted, and why one is not.
use Rattle.std.specs.Prelude.{◌≡◌, ℕ, ◌-◌, min, Bool, true, false, length, map, take, List, ◌∷◌, ◌++◌, Option, Some, None}
use Rattle.ua_builtin.specs.Reasons.{first_reason, renamed_reason}
use Rattle.ua_frame.specs.After.{AllAfter}
use Rattle.ua_chunk.specs.Gathered.{after_last}
use Rattle.ua_channel.specs.ClientAsks.{most_pending}
use Rattle.ua_channel.specs.declared.client.fault.AskFault.TheVariants.{TooManyTokens, Exhausted, RequestTooLarge}
use Rattle.ua_client.specs.declared.fault.ClientFault.{ClientFault}
use Rattle.ua_client.specs.declared.fault.ClientFault.TheVariants as client
use Rattle.ua_loopback.specs.Accepted as judged
use Rattle.ua_exchange.specs.Programs.{exchange_ack}
use Rattle.ua_exchange.specs.Turns.{id_behind, served_turn, served_turns}
use Rattle.ua_exchange.specs.declared.fault.PairFault.{PairFault}
use Rattle.ua_exchange.specs.declared.fault.PairFault.TheVariants.{NotWritable, Request, OutOfMemory}
use Rattle.ua_exchange.specs.declared.turn.Turn.{Turn}
use Rattle.ua_exchange.specs.declared.turn.Turn.TheVariants.{Ask, Renew}

-- ---- groups, as tokens are counted: as if a renewal were sent with the last 64 requests before it

abbrev pub is_renewal : Turn → Bool
is_renewal (Ask m) = false
is_renewal Renew = true

-- the requests at the end of these operations
abbrev pub last_calls : List Turn → List Turn
last_calls before = after_last is_renewal before

-- the operations before those requests, at most 64, that count as sent with a renewal
abbrev pub before_group : List Turn → List Turn
before_group before = take (length before - min (length (last_calls before)) most_pending) before

-- how many tokens count as held if a client renews its token after these operations: as many as it
-- holds after those before that group, so as many as it would hold if the requests that count as
-- sent with the renewal were not answered yet
abbrev pub tokens_counted : List Turn → ℕ
tokens_counted before = judged.tokens_held 1 (served_turns (before_group before))

-- ---- why an operation is not accepted

-- the fault that is told if a client does not take the operation at this place for this reason: of
-- the operation, if it is a reason against one; otherwise OutOfMemory
abbrev pub fault_at : ℕ → ClientFault → PairFault
fault_at place client.NotWritable = NotWritable place
fault_at place client.Exhausted = Request place Exhausted
fault_at place client.TooLarge = Request place RequestTooLarge
fault_at place client.TooManyTokens = Request place TooManyTokens
fault_at place other = OutOfMemory

-- why an operation after these is not accepted, in the order in which it is judged: the reasons why
-- a client does not take it that holds as many tokens as count as held, each told of the place of
-- the operation
abbrev pub turn_reasons : List Turn → Turn → List (PairFault × Bool)
turn_reasons before turn =
    map (renamed_reason (fault_at (length before))) (judged.turn_reasons_under exchange_ack (tokens_counted before) (id_behind before) (served_turn turn))

-- the first of these reasons, if there is one
abbrev pub turn_refusal : List Turn → Turn → Option PairFault
turn_refusal before turn = first_reason (turn_reasons before turn)

-- an operation after these is accepted
abbrev pub IsAccepted : List Turn → Turn → Type 0
IsAccepted before turn = turn_refusal before turn ≡ None

-- each of the operations is accepted, after those before it
abbrev pub AreAccepted : List Turn → Type 0
AreAccepted turns = AllAfter IsAccepted turns

-- the first of the operations that is not accepted, and why
pub record FirstRefused (turns : List Turn) (fault : PairFault) : Type 0 where
  pub before : List Turn
  pub turn : Turn
  pub behind : List Turn
  pub parts : turns ≡ before ++ turn ∷ behind
  pub accepted : AreAccepted before
  pub refused : turn_refusal before turn ≡ Some fault
