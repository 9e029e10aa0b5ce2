-- What a client receives: what it reads from its transport, what of that its channel takes, and
-- what that tells.
use Rattle.std.specs.Prelude.{◌≡◌, ◌⊎◌, ◌+◌, ◌*◌, ◌<◌, ◌≤◌, ◌++◌, ℕ, Bool, true, false, cond}
use Rattle.std.specs.Prelude.{List, [], length, Option, Some, None, Result, Ok, Err, IfOk, IfErr}
use Rattle.std.specs.List.{concat}
use Rattle.ua_wire.specs.Format.{Extends}
use Rattle.ua_builtin.specs.declared.date_time.DateTime.{DateTime}
use Rattle.ua_builtin.specs.declared.status_code.StatusCode.{StatusCode}
use Rattle.ua_channel.specs.Asks.{Placed}
use Rattle.ua_channel.specs.Client.{ClientGoes, ClientGoesTelling, ClientEnded, IsClientDone, SameClient, client_next, client_rules_of}
use Rattle.ua_channel.specs.ClientSends.{first_open}
use Rattle.ua_channel.specs.ClientTold.{ClientTold, ours, peers}
use Rattle.ua_channel.specs.ClientTold.ClientTold.{Agreed, Opened, Answered, GaveUp, Renewed}
use Rattle.ua_channel.specs.Line.{Traffic, IfTrafficKnown, one_more}
use Rattle.ua_channel.specs.declared.client.channel.ClientChannel.{ClientChannel}
use Rattle.ua_channel.specs.declared.client.event.ClientEvent.{ClientEvent}
use Rattle.ua_channel.specs.declared.client.event.ClientEvent.TheVariants as event
use Rattle.ua_channel.specs.declared.client.fault.ClientTakeFault.{ClientTakeFault}
use Rattle.ua_channel.specs.declared.client.fault.ClientTakeFault.TheVariants as take_fault
use Rattle.ua_frame.specs.declared.ack.Ack.{Ack}
use Rattle.ua_frame.specs.declared.frame.Frame.{Frame}
use Rattle.ua_frame.specs.Frames.{frame_octets}
use Rattle.ua_frame.specs.Run.{Run, Going, events}
use Rattle.ua_client.specs.Carried.{Carries, IsAtEnd}
use Rattle.ua_client.specs.declared.connection.Connection.{Connection}
use Rattle.ua_client.specs.declared.fault.CallsFault.{CallsFault}
use Rattle.ua_client.specs.declared.fault.ClientFault.{ClientFault}
use Rattle.ua_client.specs.declared.fault.ClientFault.TheVariants as fault

-- ---- a connection

-- the channel of a connection
abbrev pub channel_of_connection : Connection → ClientChannel
channel_of_connection x = x.channel

-- what was read from the transport and is not taken yet
abbrev pub untaken_of : Connection → List ℕ
untaken_of x = x.piece

-- the channel keeps its limits and its URL, and sends next what it would have sent
pub record KeepsClient (old new : Connection) : Type 0 where
  pub same : SameClient (channel_of_connection old) (channel_of_connection new)
  pub next : client_next (channel_of_connection new) ≡ client_next (channel_of_connection old)

-- ---- faults of the transport

-- the transport failed
abbrev pub is_line_fault : ClientFault → Bool
is_line_fault fault.Read = true
is_line_fault fault.Write = true
is_line_fault other = false

-- the count of a transport's failures after a call of a client: Read and Write are one failure
-- more, and nothing else is one
abbrev pub failures_behind : {A : Type 0} → ℕ → Result A ClientFault → ℕ
failures_behind before (Ok found) = before
failures_behind before (Err f) = cond (is_line_fault f) (one_more before) before

-- the outcome of several calls, without the one that the fault names
abbrev pub fault_alone : {A : Type 0} → Result A CallsFault → Result A ClientFault
fault_alone (Ok found) = Ok found
fault_alone (Err c) = Err c.fault

-- why a channel failed: the server rejected, or this end did
abbrev pub failure_of : StatusCode → Bool → ClientFault
failure_of code peer = cond peer (fault.Peer code) (fault.Refused code)

-- the error that results from an error of the channel
abbrev pub of_take_fault : ClientTakeFault → ClientFault
of_take_fault take_fault.Closed = fault.Closed
of_take_fault take_fault.OutOfMemory = fault.OutOfMemory

-- ---- bytes

-- the most bytes of a fragment
abbrev pub most_fragment_octets : ℕ
most_fragment_octets = 4096

-- there are at most as many untaken bytes as a fragment has
abbrev pub FitsFragment : Connection → Type 0
FitsFragment x = length (untaken_of x) ≤ most_fragment_octets

-- between two times these bytes were taken, of those that were untaken and those that were read;
-- what was untaken was taken before anything was read
pub record MovesConnection (old new : Connection) (sent : List ℕ) (before after : Option Traffic) : Type 0 where
  pub got : List ℕ
  pub taken : List ℕ
  pub parts : untaken_of old ++ got ≡ taken ++ untaken_of new
  pub first : (got ≡ []) ⊎ Extends (untaken_of old) taken
  pub few : FitsFragment old → FitsFragment new
  pub carried : IfTrafficKnown (Carries got sent) before after

-- ---- what is told

-- an event as what was told; if something is to be sent, it is the OPN of this time
abbrev pub Says : DateTime → ClientEvent → ClientTold → Type 0
Says moment event.NeedMore t = ⊥
Says moment (event.Send sent) t = (sent.items ≡ frame_octets (first_open moment)) × ((ack : Ack) × (t ≡ Agreed ack))
Says moment event.Open t = (channel : ℕ) × ((token : ℕ) × (t ≡ Opened channel token))
Says moment (event.Answered id message) t = t ≡ Answered id (concat message)
Says moment (event.Aborted id code) t = t ≡ GaveUp id code
Says moment (event.Failed code peer) t = ⊥
Says moment (event.Renewed token) t = t ≡ Renewed token

-- an event was told, and its frame is the last of these bytes
abbrev pub TellsEvent : DateTime → ClientEvent → ClientChannel → List Placed → List ℕ → List ClientTold → Type 0
TellsEvent moment e new asks octets told = (t : ClientTold) × Says moment e t × ClientGoesTelling new asks octets told t

-- ---- if nothing more is told

-- an allocation failed after these operations and bytes, of which no frame is wrong and whose
-- frames told this; the channel is done
pub record Starved (x : ClientChannel) (asks : List Placed) (octets : List ℕ) (told : List ClientTold) : Type 0 where
  pub done : IsClientDone x
  pub frames : List Frame
  pub rest : List ℕ
  pub run : Run (client_rules_of x asks) octets frames rest Going
  pub told_is : events (client_rules_of x asks) frames ≡ told

-- the state of a channel after these operations and bytes, whose frames told this, when receiving
-- broke off: the connection ended at what is wrong after them, or an allocation failed, or the
-- channel goes on
abbrev pub BreaksOff : ClientFault → ClientChannel → List Placed → List ℕ → List ClientTold → Type 0
BreaksOff (fault.Peer code) x asks octets told = ClientEnded x asks octets told (peers code.code)
BreaksOff (fault.Refused code) x asks octets told = ClientEnded x asks octets told (ours code.code)
BreaksOff fault.OutOfMemory x asks octets told = Starved x asks octets told
BreaksOff fault.Ended x asks octets told = ClientGoes x asks octets told
BreaksOff fault.Read x asks octets told = ClientGoes x asks octets told
BreaksOff fault.TooLong x asks octets told = ClientGoes x asks octets told
BreaksOff other x asks octets told = ⊥

-- ---- one call of the channel

-- the outcome if nothing, or an event, was told at the end of these bytes
abbrev pub ListensAfter : DateTime → Result (Option ClientEvent) ClientFault → ClientChannel → List Placed → List ℕ → List ClientTold → Type 0
ListensAfter moment (Ok None) new asks octets told = ClientGoes new asks octets told
ListensAfter moment (Ok (Some e)) new asks octets told = TellsEvent moment e new asks octets told
ListensAfter moment (Err (fault.Peer code)) new asks octets told = ClientEnded new asks octets told (peers code.code)
ListensAfter moment (Err (fault.Refused code)) new asks octets told = ClientEnded new asks octets told (ours code.code)
ListensAfter moment (Err fault.OutOfMemory) new asks octets told = Starved new asks octets told
ListensAfter moment (Err other) new asks octets told = ⊥

-- the faults of a call of the channel
abbrev pub is_channel_fault : ClientFault → Bool
is_channel_fault (fault.Peer code) = true
is_channel_fault (fault.Refused code) = true
is_channel_fault fault.OutOfMemory = true
is_channel_fault fault.Closed = true
is_channel_fault other = false

-- how much is left untaken: nothing if nothing was told, and less than before at an event
abbrev pub LeavesLess : Connection → Connection → Result (Option ClientEvent) ClientFault → Type 0
LeavesLess old new (Ok None) = untaken_of new ≡ []
LeavesLess old new (Ok (Some e)) = 0 < length (untaken_of old) → length (untaken_of new) < length (untaken_of old)
LeavesLess old new (Err f) = Unit {0}

-- what was read is taken up to the first event
pub record Listens (old new : Connection) (moment : DateTime) (result : Result (Option ClientEvent) ClientFault) : Type 0 where
  pub taken : List ℕ
  pub parts : untaken_of old ≡ taken ++ untaken_of new
  pub keeps : KeepsClient old new
  pub left : LeavesLess old new result
  pub faults : IfErr result (λ f. is_channel_fault f ≡ true)
  pub answers : (asks : List Placed) (octets : List ℕ) (told : List ClientTold) → ClientGoes (channel_of_connection old) asks octets told
      → ListensAfter moment result (channel_of_connection new) asks (octets ++ taken) told

-- ---- a read

-- the most reads of a call, a number of 64 bits
abbrev pub most_reads : ℕ
most_reads = 0xFFFF_FFFF_FFFF_FFFF

-- the most that may still be done with this many reads left: each brings at most 4096 bytes, and
-- each byte at most one event
abbrev pub effort : ℕ → Connection → ℕ
effort reads x = 4097 * reads + length (untaken_of x)

-- the outcome of a read: something is untaken, and no more reads were made than bytes came; no
-- reads were left; nothing came, which is the end of the input; or the transport failed
abbrev pub FillsByTraffic : {A : Type 0} → ℕ → ℕ → List ℕ → Connection → Option Traffic → Result A ClientFault → Type 0
FillsByTraffic reads left got new after (Ok found) = (0 < length (untaken_of new)) × (reads ≤ left + length got)
FillsByTraffic reads left got new after (Err fault.TooLong) = (untaken_of new ≡ []) × (reads ≡ 0)
FillsByTraffic reads left got new after (Err fault.Ended) = (untaken_of new ≡ []) × IsAtEnd after
FillsByTraffic reads left got new after (Err fault.Read) = untaken_of new ≡ []
FillsByTraffic reads left got new after (Err other) = ⊥

-- if all is taken, the next fragment was read, after this many reads that were left before and
-- after
pub record Fills {A : Type 0} (old new : Connection) (before after : Option Traffic) (reads left : ℕ) (result : Result A ClientFault) : Type 0 where
  pub got : List ℕ
  pub untaken : untaken_of new ≡ untaken_of old ++ got
  pub channel : channel_of_connection new ≡ channel_of_connection old
  pub next : (got ≡ []) ⊎ (untaken_of old ≡ [])
  pub few : FitsFragment old → FitsFragment new
  pub carried : IfTrafficKnown (Carries got []) before after
  pub no_more : effort left new ≤ effort reads old
  pub found : FillsByTraffic reads left got new after result

-- ---- up to an event

-- the outcome if an event was told at the end of these bytes, or a fault came after them
abbrev pub HearsAfter : DateTime → Result ClientEvent ClientFault → ClientChannel → List Placed → List ℕ → List ClientTold → Type 0
HearsAfter moment (Ok e) new asks octets told = TellsEvent moment e new asks octets told
HearsAfter moment (Err f) new asks octets told = BreaksOff f new asks octets told

-- the faults of receiving: those of the channel, and those of a read
abbrev pub is_hearing_fault : ClientFault → Bool
is_hearing_fault (fault.Peer code) = true
is_hearing_fault (fault.Refused code) = true
is_hearing_fault fault.OutOfMemory = true
is_hearing_fault fault.Closed = true
is_hearing_fault fault.Read = true
is_hearing_fault fault.Ended = true
is_hearing_fault fault.TooLong = true
is_hearing_fault other = false

-- if there is an outcome, no more reads were made than bytes came; if reading stopped all is taken:
-- at too many reads at least as many bytes came as there were reads to make, and at the end of the
-- input a transport that tells its bytes has none to come
abbrev pub StopsByTraffic : {A : Type 0} → ℕ → ℕ → List ℕ → Connection → Option Traffic → Result A ClientFault → Type 0
StopsByTraffic reads left got new after (Ok found) = reads ≤ left + length got
StopsByTraffic reads left got new after (Err fault.TooLong) = (untaken_of new ≡ []) × (reads ≤ length got)
StopsByTraffic reads left got new after (Err fault.Read) = untaken_of new ≡ []
StopsByTraffic reads left got new after (Err fault.Ended) = (untaken_of new ≡ []) × IsAtEnd after
StopsByTraffic reads left got new after (Err other) = Unit {0}

-- the bytes up to an event, or up to a fault
pub record Hears (old new : Connection) (moment : DateTime) (before after : Option Traffic) (reads left : ℕ)
    (result : Result ClientEvent ClientFault) : Type 0 where
  pub moves : MovesConnection old new [] before after
  pub keeps : KeepsClient old new
  pub answers : (asks : List Placed) (octets : List ℕ) (told : List ClientTold) → ClientGoes (channel_of_connection old) asks octets told
      → HearsAfter moment result (channel_of_connection new) asks (octets ++ moves.taken) told
  pub less : IfOk result (λ e. effort left new < effort reads old)
  pub faults : IfErr result (λ f. is_hearing_fault f ≡ true)
  pub stops : StopsByTraffic reads left moves.got new after result
