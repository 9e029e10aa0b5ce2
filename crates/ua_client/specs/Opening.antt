-- How a client opens its connection: it sends the HEL, after the ACK the OPN, and waits until the
-- channel is open
-- (OPC 10000-6, 6.7 and 7.1).
use Rattle.std.specs.Prelude.{◌≡◌, ◌⊎◌, ◌++◌, ℕ, Bool, true, false, List, [], ◌∷◌, Option, Result, Ok, Err, IfErr}
use Rattle.std.specs.List.{list_any}
use Rattle.ua_builtin.specs.declared.date_time.DateTime.{DateTime}
use Rattle.ua_frame.specs.Frames.{frame_octets}
use Rattle.ua_frame.specs.declared.ack.Ack.{Ack}
use Rattle.ua_frame.specs.declared.limits.Limits.{Limits}
use Rattle.ua_channel.specs.Asks.{Placed}
use Rattle.ua_channel.specs.Client.{ClientGoes, ClientGoesTelling, ClientEnded, client_limits, url_of}
use Rattle.ua_channel.specs.ClientSends.{first_open, hello_frame, hello_to}
use Rattle.ua_channel.specs.ClientTold.{ClientTold, Why, ours, peers}
use Rattle.ua_channel.specs.ClientTold.ClientTold.{Agreed, Opened, Answered, GaveUp, Renewed}
use Rattle.ua_channel.specs.Line.{Traffic}
use Rattle.ua_channel.specs.declared.client.channel.ClientChannel.{ClientChannel}
use Rattle.ua_client.specs.Carried.{IsPart}
use Rattle.ua_client.specs.Hearing.{channel_of_connection, is_hearing_fault, most_reads, BreaksOff, KeepsClient, MovesConnection, Starved, StopsByTraffic}
use Rattle.ua_client.specs.declared.connection.Connection.{Connection}
use Rattle.ua_client.specs.declared.fault.ClientFault.{ClientFault}
use Rattle.ua_client.specs.declared.fault.ClientFault.TheVariants as fault

-- ---- waiting

-- an ACK was agreed to
abbrev pub is_agreed : ClientTold → Bool
is_agreed (Agreed ack) = true
is_agreed (Opened channel token) = false
is_agreed (Answered id octets) = false
is_agreed (GaveUp id code) = false
is_agreed (Renewed token) = false

-- the channel is open
abbrev pub is_opened : ClientTold → Bool
is_opened (Agreed ack) = false
is_opened (Opened channel token) = true
is_opened (Answered id octets) = false
is_opened (GaveUp id code) = false
is_opened (Renewed token) = false

-- more was told, and nothing of it is expected
pub record GoesWithout (wanted : ClientTold → Bool) (x : ClientChannel) (asks : List Placed) (octets : List ℕ) (told : List ClientTold) : Type 0 where
  pub heard : List ClientTold
  pub none : list_any wanted heard ≡ false
  pub goes : ClientGoes x asks octets (told ++ heard)

-- more was told, and the last of it is the first that is expected; nothing follows its frame
pub record GoesUntil (wanted : ClientTold → Bool) (x : ClientChannel) (asks : List Placed) (octets : List ℕ) (told : List ClientTold) : Type 0 where
  pub heard : List ClientTold
  pub none : list_any wanted heard ≡ false
  pub last : ClientTold
  pub is_wanted : wanted last ≡ true
  pub tells : ClientGoesTelling x asks octets (told ++ heard) last

-- more was told, and nothing of it is expected, when the connection ended
pub record EndsWithout (wanted : ClientTold → Bool) (x : ClientChannel) (asks : List Placed) (octets : List ℕ) (told : List ClientTold)
    (why : Why) : Type 0 where
  pub heard : List ClientTold
  pub none : list_any wanted heard ≡ false
  pub ended : ClientEnded x asks octets (told ++ heard) why

-- more was told, and nothing of it is expected, when an allocation failed
pub record StarvesWithout (wanted : ClientTold → Bool) (x : ClientChannel) (asks : List Placed) (octets : List ℕ) (told : List ClientTold) : Type 0 where
  pub heard : List ClientTold
  pub none : list_any wanted heard ≡ false
  pub starved : Starved x asks octets (told ++ heard)

-- the outcome when something is expected
abbrev pub WaitsAfter : {A : Type 0} → (ClientTold → Bool) → (A → Type 0) → Result A ClientFault → ClientChannel → List Placed → List ℕ → List ClientTold
    → Type 0
WaitsAfter wanted P (Ok found) new asks octets told = GoesUntil wanted new asks octets told × P found
WaitsAfter wanted P (Err (fault.Peer code)) new asks octets told = EndsWithout wanted new asks octets told (peers code.code)
WaitsAfter wanted P (Err (fault.Refused code)) new asks octets told = EndsWithout wanted new asks octets told (ours code.code)
WaitsAfter wanted P (Err fault.Ended) new asks octets told = GoesWithout wanted new asks octets told
WaitsAfter wanted P (Err fault.Read) new asks octets told = GoesWithout wanted new asks octets told
WaitsAfter wanted P (Err fault.TooLong) new asks octets told = GoesWithout wanted new asks octets told
WaitsAfter wanted P (Err fault.OutOfMemory) new asks octets told = StarvesWithout wanted new asks octets told
WaitsAfter wanted P (Err other) new asks octets told = ⊥

-- the bytes up to what is expected, or up to a fault
pub record Waits {A : Type 0} (wanted : ClientTold → Bool) (P : A → Type 0) (old new : Connection) (before after : Option Traffic) (reads left : ℕ)
    (result : Result A ClientFault) : Type 0 where
  pub moves : MovesConnection old new [] before after
  pub keeps : KeepsClient old new
  pub answers : (asks : List Placed) (octets : List ℕ) (told : List ClientTold) → ClientGoes (channel_of_connection old) asks octets told
      → WaitsAfter wanted P result (channel_of_connection new) asks (octets ++ moves.taken) told
  pub faults : IfErr result (λ f. is_hearing_fault f ≡ true)
  pub stops : StopsByTraffic reads left moves.got new after result

-- whatever the outcome
abbrev pub any_done : Unit {0} → Type 0
any_done done = Unit {0}

-- ---- opening

-- the HEL of a client with these limits to the server of this URL (OPC 10000-6, 7.1.2.3)
abbrev pub hello_octets : Limits → Option (List ℕ) → List ℕ
hello_octets limits url = frame_octets (hello_frame (hello_to limits url))

-- the OPN at this time (OPC 10000-6, 6.7.2)
abbrev pub open_frame_octets : DateTime → List ℕ
open_frame_octets moment = frame_octets (first_open moment)

-- the channel of this connection is open: an ACK was told, and nothing more until the last of the
-- frames told that it is open; nothing follows it
pub record IsOpened (x : ClientChannel) (octets : List ℕ) : Type 0 where
  pub ack : Ack
  pub channel : ℕ
  pub token : ℕ
  pub tells : ClientGoesTelling x [] octets (Agreed ack ∷ []) (Opened channel token)

-- the wait broke off: the HEL was sent and nothing was told; or the OPN was sent too, and nothing
-- but the ACK was told, so that nothing that was told opened the channel
abbrev pub BreaksWaiting : List ℕ → List ℕ → ClientChannel → List ℕ → List ℕ → ClientFault → Type 0
BreaksWaiting hello opening new sent taken f =
    ((sent ≡ hello) × BreaksOff f new [] taken [])
    ⊎ ((sent ≡ hello ++ opening) × ((ack : Ack) × BreaksOff f new [] taken (Agreed ack ∷ [])))

-- a write failed: a part of the HEL was sent, and nothing was taken; or the HEL and a part of the
-- OPN, after the ACK, which is all that was taken
abbrev pub BreaksSending : List ℕ → List ℕ → ClientChannel → List ℕ → List ℕ → Type 0
BreaksSending hello opening new sent taken =
    (IsPart sent hello × (taken ≡ []))
    ⊎ ((part : List ℕ) × (sent ≡ hello ++ part) × IsPart part opening × ((ack : Ack) × ClientGoesTelling new [] taken [] (Agreed ack)))

-- a connection was not opened: the transport failed to write; or an allocation failed for the HEL,
-- when nothing was sent and taken; or the wait broke off
abbrev pub BreaksOpening : List ℕ → List ℕ → ClientChannel → List ℕ → List ℕ → ClientFault → Type 0
BreaksOpening hello opening new sent taken fault.Write = BreaksSending hello opening new sent taken
BreaksOpening hello opening new sent taken fault.OutOfMemory = ((sent ≡ []) × (taken ≡ [])) ⊎ BreaksWaiting hello opening new sent taken fault.OutOfMemory
BreaksOpening hello opening new sent taken fault.Read = BreaksWaiting hello opening new sent taken fault.Read
BreaksOpening hello opening new sent taken fault.Ended = BreaksWaiting hello opening new sent taken fault.Ended
BreaksOpening hello opening new sent taken fault.TooLong = BreaksWaiting hello opening new sent taken fault.TooLong
BreaksOpening hello opening new sent taken (fault.Peer code) = BreaksWaiting hello opening new sent taken (fault.Peer code)
BreaksOpening hello opening new sent taken (fault.Refused code) = BreaksWaiting hello opening new sent taken (fault.Refused code)
BreaksOpening hello opening new sent taken other = ⊥

-- the outcome of opening a connection
abbrev pub OpensAfter : {A : Type 0} → List ℕ → List ℕ → ClientChannel → List ℕ → List ℕ → Result A ClientFault → Type 0
OpensAfter hello opening new sent taken (Ok done) = (sent ≡ hello ++ opening) × IsOpened new taken
OpensAfter hello opening new sent taken (Err f) = BreaksOpening hello opening new sent taken f

-- a connection over which nothing was sent and nothing came is opened
pub record Opens {A : Type 0} (moment : DateTime) (old new : Connection) (before after : Option Traffic) (result : Result A ClientFault) : Type 0 where
  pub sent : List ℕ
  pub moves : MovesConnection old new sent before after
  pub keeps : KeepsClient old new
  pub answers : ClientGoes (channel_of_connection old) [] [] []
      → OpensAfter (hello_octets (client_limits (channel_of_connection old)) (url_of (channel_of_connection old))) (open_frame_octets moment)
      (channel_of_connection new) sent moves.taken result
  pub stops : StopsByTraffic most_reads most_reads moves.got new after result
