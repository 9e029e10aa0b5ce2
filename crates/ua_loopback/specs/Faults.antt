-- Why a call of a client may fail that talks to a server, and what was done before an operation
-- that is refused.
use Rattle.std.specs.Prelude.{◌≡◌, ◌≤◌, ℕ, ◌++◌, List, [], ◌∷◌, length, map, Option, Some, None}
use Rattle.ua_builtin.specs.declared.date_time.DateTime.{DateTime}
use Rattle.ua_frame.specs.Run.{Going}
use Rattle.ua_frame.specs.declared.limits.Limits.{Limits}
use Rattle.ua_services.specs.declared.request.Request.{Request}
use Rattle.ua_client.specs.Hearing.{most_reads}
use Rattle.ua_client.specs.declared.fault.ClientFault.{ClientFault}
use Rattle.ua_client.specs.declared.fault.ClientFault.TheVariants as fault
use Rattle.ua_client.specs.declared.reply.Reply.{Reply}
use Rattle.ua_loopback.specs.Accepted.{acknowledged}
use Rattle.ua_loopback.specs.Beginning.{Beginning}
use Rattle.ua_loopback.specs.Course.{opening_octets}
use Rattle.ua_loopback.specs.Replies.{replies_to_turns, turns_state}
use Rattle.ua_loopback.specs.Says.{end_by, services_after, server_output}
use Rattle.ua_loopback.specs.Sends.{turns_octets}
use Rattle.ua_loopback.specs.declared.stage.Stage.{Stage}
use Rattle.ua_loopback.specs.declared.stage.Stage.TheVariants as far

-- ---- faults

-- a fault that does not depend on what the server sends: the transport failed to read or to write,
-- an allocation failed, or as many reads were made as a call may make
abbrev pub IsOutside : ClientFault → Type 0
IsOutside fault.Read = Unit {0}
IsOutside fault.Write = Unit {0}
IsOutside fault.OutOfMemory = Unit {0}
IsOutside fault.TooLong = Unit {0}
IsOutside other = ⊥

-- a fault of an operation after a talk: one of these, or a reason against the operation; or
-- UnknownResponse, if this holds of the server's answers
abbrev pub FailsBehind : Type 0 → ClientFault → Type 0
FailsBehind Misanswers fault.UnknownResponse = Misanswers
FailsBehind Misanswers fault.NotWritable = Unit {0}
FailsBehind Misanswers fault.Exhausted = Unit {0}
FailsBehind Misanswers fault.TooLarge = Unit {0}
FailsBehind Misanswers fault.TooManyTokens = Unit {0}
FailsBehind Misanswers other = IsOutside other

-- what such a server makes of all bytes that a client wrote to it up to such a fault: if the
-- transport failed it rejects nothing of them, no CLO in them closed its channel, and it waits for
-- more; after as many reads as a call may make it sent at least this many bytes
pub record StopsAfter (f : ClientFault) (b : Beginning) (up : List ℕ) : Type 0 where
  pub read : f ≡ fault.Read → end_by b up ≡ Going
  pub write : f ≡ fault.Write → end_by b up ≡ Going
  pub long : f ≡ fault.TooLong → most_reads ≤ length (server_output b up)

-- why a client fails at a server in its own process, whose connection has this progress: an
-- allocation failed, in the client, or in the server, so that their transport is broken; or there
-- is a reason against an operation, and the connection goes on
abbrev pub FailsAtStage : Stage → ClientFault → Type 0
FailsAtStage stage fault.Read = stage ≡ far.Broken
FailsAtStage stage fault.Write = stage ≡ far.Broken
FailsAtStage stage fault.OutOfMemory = Unit {0}
FailsAtStage stage fault.NotWritable = stage ≡ far.Going
FailsAtStage stage fault.Exhausted = stage ≡ far.Going
FailsAtStage stage fault.TooLarge = stage ≡ far.Going
FailsAtStage stage fault.TooManyTokens = stage ≡ far.Going
FailsAtStage stage other = ⊥

-- ---- an operation that is refused

-- what was done of these operations and of one after them that is refused: of its requests the
-- first, in the groups before the one that is refused; of a renewal nothing
abbrev pub IsDoneOf : List (Option (List Request)) → Option (List Request) → List (Option (List Request)) → Type 0
IsDoneOf before None done = done ≡ before
IsDoneOf before (Some requests) done = (asked : List Request) × (others : List Request) × (requests ≡ asked ++ others) × (done ≡ before ++ Some asked ∷ [])

-- what was done of operations of which the one at this place is refused
pub record DoneBefore (turns : List (Option (List Request))) (place : ℕ) (done : List (Option (List Request))) : Type 0 where
  pub before : List (Option (List Request))
  pub turn : Option (List Request)
  pub behind : List (Option (List Request))
  pub parts : turns ≡ before ++ turn ∷ behind
  pub place_is : length before ≡ place
  pub done_is : IsDoneOf before turn done

-- a client with these limits, at a server that began in this way, did the operations before the one
-- at this place, which is refused: what it sent, the replies, and the state that it left are those
-- of what was done, and of no more
pub record BehindRefused (b : Beginning) (limits : Limits) (url : Option (List ℕ)) (moment : DateTime) (turns : List (Option (List Request))) (place : ℕ)
    (up : List ℕ) (replies : List Reply) : Type 0 where
  pub done : List (Option (List Request))
  pub done_is : DoneBefore turns place done
  pub sent : up ≡ opening_octets limits url moment ++ turns_octets (acknowledged b.limits limits url) b.channel moment 1 2 2 done
  pub replied : map (λ (r : Reply). Some r) replies ≡ replies_to_turns b limits url b.first 1 1 done
  pub state : services_after b up ≡ turns_state b.first b.moments 1 done
