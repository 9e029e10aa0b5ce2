-- The operations of a client over a transport to a server, one after the other, each done in the
-- state that those before it left.
use Rattle.std.specs.Prelude.{◌≡◌, ◌⊎◌, ℕ, ◌<◌, ◌^◌, ◌++◌, IsTrue, List, [], ◌∷◌, map, Option, Some, None, Result, Ok, Err}
use Rattle.ua_wire.specs.Counted.{text}
use Rattle.ua_builtin.specs.DateTime.{date_time}
use Rattle.ua_builtin.specs.declared.date_time.DateTime.{DateTime}
use Rattle.ua_frame.specs.Agreement.{ack_to}
use Rattle.ua_frame.specs.Messages.{ack, hello}
use Rattle.ua_frame.specs.declared.limits.Limits.{Limits}
use Rattle.ua_channel.specs.ClientSends.{hello_to}
use Rattle.ua_channel.specs.Line.{Traffic, IfTrafficKnown}
use Rattle.ua_channel_laws.specs.ServerReads.{ServerCloses}
use Rattle.ua_channel.specs.declared.client.channel.ClientChannel.{ClientChannel}
use Rattle.ua_services.specs.declared.request.Request.{Request}
use Rattle.ua_server.specs.State.{State}
use Rattle.ua_client.specs.Carried.{Carries}
use Rattle.ua_client.specs.Client.{closing_at}
use Rattle.ua_client.specs.Hearing.{channel_of_connection, untaken_of}
use Rattle.ua_client.specs.Opening.{IsOpened}
use Rattle.ua_client.specs.ClientPlace.{ClientPlace, StandsAt}
use Rattle.ua_client.specs.declared.connection.Connection.{Connection}
use Rattle.ua_client.specs.declared.fault.ClientFault.{ClientFault}
use Rattle.ua_client.specs.declared.fault.ClientFault.TheVariants as fault
use Rattle.ua_client.specs.declared.reply.Reply.{Reply}
use Rattle.ua_loopback.specs.Accepted.{AreAcceptedUnder, acknowledged}
use Rattle.ua_loopback.specs.Beginning.{Beginning}
use Rattle.ua_loopback.specs.Course.{ClientCourse, opening_octets}
use Rattle.ua_loopback.specs.Faults.{DoneBefore, IsDoneOf}
use Rattle.ua_loopback.specs.Replies.{HaveMisanswer, turn_state, replies_to_turns, turns_state}
use Rattle.ua_loopback.specs.Says.{server_output, state_told}
use Rattle.ua_loopback.specs.Sends.{conversation_octets, turns_octets}
use Rattle.ua_loopback.specs.Talking.{TalksAt}
use Rattle.ua_loopback.specs.Turns.{conversation_told, id_behind_turn, opening_told, turns_told}
use Rattle.ua_loopback.specs.declared.stage.Stage.{Stage}
use Rattle.ua_loopback.specs.declared.stage.Stage.TheVariants as far

-- the answer to a request of an operation is no response that answers it
abbrev pub HasMisanswer : State → (ℕ → DateTime) → ℕ → Option (List Request) → Type 0
HasMisanswer s moments n (Some requests) = HaveMisanswer s moments n requests
HasMisanswer s moments n None = ⊥

-- the same for operations, each in the state that those before it left
abbrev pub HaveMisanswers : State → (ℕ → DateTime) → ℕ → List (Option (List Request)) → Type 0
HaveMisanswers s moments n [] = ⊥
HaveMisanswers s moments n (t ∷ turns) = HasMisanswer s moments n t ⊎ HaveMisanswers (turn_state s moments n t) moments (id_behind_turn n t) turns

-- what is told of a reason against an operation over a broken transport: OutOfMemory
abbrev pub broken_fault : ClientFault → ClientFault
broken_fault fault.NotWritable = fault.OutOfMemory
broken_fault fault.Exhausted = fault.OutOfMemory
broken_fault fault.TooLarge = fault.OutOfMemory
broken_fault fault.TooManyTokens = fault.OutOfMemory
broken_fault other = other

-- what is told of a fault over a transport to a server in the same process, whose connection has
-- this progress
abbrev pub fault_at_stage : Stage → ClientFault → ClientFault
fault_at_stage far.Going f = f
fault_at_stage (far.Ended end) f = f
fault_at_stage far.Broken f = broken_fault f

-- and of the outcome of a client
abbrev pub outcome_at : Stage → Result (Unit {0}) ClientFault → Result (Unit {0}) ClientFault
outcome_at stage (Ok done) = Ok done
outcome_at stage (Err f) = Err (fault_at_stage stage f)

-- what a client with these limits and such a server send to open a channel can be encoded
pub record CanOpenTo (b : Beginning) (limits : Limits) (url : Option (List ℕ)) (moment : DateTime) : Type 0 where
  pub hello_fits : IsTrue (hello.encodable (hello_to limits url))
  pub url_fits : IsTrue (text.encodable url)
  pub ack_fits : IsTrue (ack.encodable (ack_to (hello_to limits url) b.limits))
  pub on : b.channel < 2 ^ 32
  pub dated : IsTrue (date_time.encodable moment)
  pub answered : (n : ℕ) → IsTrue (date_time.encodable (b.moments n))

-- a client that did these operations over a transport: its state, what went over the transport, and
-- the replies
pub record StaysAfterTurns (moment : DateTime) (opening : List ℕ) (opened : ClientPlace) (turns : List (Option (List Request))) (x : Connection)
    (before now : Option Traffic) (replies : List Reply) : Type 0 where
  pub site : ClientPlace
  pub at : StandsAt (channel_of_connection x) site
  pub sent : List ℕ
  pub course : ClientCourse moment opened turns site sent replies
  pub got : List ℕ
  pub carried : IfTrafficKnown (Carries got (opening ++ sent)) before now
  pub got_is : got ≡ site.octets ++ untaken_of x

-- a client did these operations over a transport to such a server, all at this time, and both are
-- in step after them
pub record StaysTalking (b : Beginning) (limits : Limits) (url : Option (List ℕ)) (moment : DateTime) (opened : ClientPlace)
    (turns : List (Option (List Request))) (x : Connection) (first now : Option Traffic) (replies : List Reply) : Type 0 where
  pub stays : StaysAfterTurns moment (opening_octets limits url moment) opened turns x first now replies
  pub sent_is : stays.sent ≡ turns_octets (acknowledged b.limits limits url) b.channel moment 1 2 2 turns
  pub replied : map (λ (r : Reply). Some r) replies ≡ replies_to_turns b limits url b.first 1 1 turns
  pub talks : TalksAt (record { server = b; limits = limits; url = url; turns = turns; octets = opening_octets limits url moment ++ stays.sent }) stays.site x
      now

-- a client opened its channel over a transport to such a server
pub record HasOpenedTo (b : Beginning) (limits : Limits) (url : Option (List ℕ)) (moment : DateTime) (x : Connection)
    (first now : Option Traffic) : Type 0 where
  pub channel : ClientChannel
  pub opened : ClientPlace
  pub opens : IsOpened channel opened.octets
  pub opened_at : StandsAt channel opened
  pub stays : StaysTalking b limits url moment opened [] x first now []

-- it did these operations, and closed after them
pub record Talked (b : Beginning) (limits : Limits) (url : Option (List ℕ)) (moment : DateTime) (turns : List (Option (List Request)))
    (first now : Option Traffic) (replies : List Reply) : Type 0 where
  pub channel : ClientChannel
  pub opened : ClientPlace
  pub opens : IsOpened channel opened.octets
  pub opened_at : StandsAt channel opened
  pub last : ClientPlace
  pub sent : List ℕ
  pub course : ClientCourse moment opened turns last sent replies
  pub got : List ℕ
  pub carried : IfTrafficKnown (Carries got (opening_octets limits url moment ++ (sent ++ closing_at last moment))) first now
  pub accepted : AreAcceptedUnder (acknowledged b.limits limits url) turns
  pub up_is : opening_octets limits url moment ++ (sent ++ closing_at last moment) ≡ conversation_octets b.limits limits url b.channel moment turns
  pub replied : map (λ (r : Reply). Some r) replies ≡ replies_to_turns b limits url b.first 1 1 turns
  pub state_is : state_told b (opening_told b.limits limits url ++ turns_told 1 2 turns) ≡ turns_state b.first b.moments 1 turns
  pub took : last.octets ≡ server_output b (opening_octets limits url moment ++ (sent ++ closing_at last moment))
  pub closes : ServerCloses b.limits b.channel (opening_octets limits url moment ++ (sent ++ closing_at last moment))
      (conversation_told b.limits limits url turns)

-- it did the operations before the one at this place, which is refused, and both are in step after
-- that
pub record StaysBefore (b : Beginning) (limits : Limits) (url : Option (List ℕ)) (moment : DateTime) (opened : ClientPlace)
    (turns : List (Option (List Request))) (place : ℕ) (x : Connection) (first now : Option Traffic) (replies : List Reply) : Type 0 where
  pub done : List (Option (List Request))
  pub done_is : DoneBefore turns place done
  pub stays : StaysTalking b limits url moment opened done x first now replies

-- the same for one operation after others
pub record StaysBehindTurn (b : Beginning) (limits : Limits) (url : Option (List ℕ)) (moment : DateTime) (opened : ClientPlace)
    (before : List (Option (List Request))) (turn : Option (List Request)) (x : Connection) (first now : Option Traffic) (replies : List Reply) : Type 0 where
  pub done : List (Option (List Request))
  pub done_is : IsDoneOf before turn done
  pub stays : StaysTalking b limits url moment opened done x first now replies

-- the same for a client that opened its channel before
pub record WentBefore (b : Beginning) (limits : Limits) (url : Option (List ℕ)) (moment : DateTime) (turns : List (Option (List Request))) (place : ℕ)
    (first now : Option Traffic) (replies : List Reply) : Type 0 where
  pub opened : ClientPlace
  pub connection : Connection
  pub stays : StaysBefore b limits url moment opened turns place connection first now replies
