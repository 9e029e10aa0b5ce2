-- The outcome of a client's channel for a fragment.
use Rattle.std.specs.Prelude.{◌≡◌, ℕ, ◌≤◌, ◌<◌, length, take, List, ◌++◌, Some, Result, Ok, Err}
use Rattle.std.specs.List.{concat}
use Rattle.ua_builtin.specs.declared.date_time.DateTime.{DateTime}
use Rattle.ua_frame.specs.declared.ack.Ack.{Ack}
use Rattle.ua_frame.specs.Frames.{frame_octets}
use Rattle.ua_channel.specs.Asks.{Placed}
use Rattle.ua_channel.specs.Client.{ClientGoes, ClientGoesTelling, ClientEnded, ClientStarvedAt, client_side}
use Rattle.ua_channel.specs.Ends.{HandsOutParts}
use Rattle.ua_channel.specs.ClientSends.{first_open}
use Rattle.ua_channel.specs.ClientTold.{ClientTold, ClientTold as told}
use Rattle.ua_channel.specs.declared.client.channel.ClientChannel.{ClientChannel}
use Rattle.ua_channel.specs.declared.client.event.ClientEvent.{ClientEvent}
use Rattle.ua_channel.specs.declared.client.event.ClientEvent.TheVariants as event
use Rattle.ua_channel.specs.declared.client.fault.ClientTakeFault.{ClientTakeFault}
use Rattle.ua_channel.specs.declared.client.fault.ClientTakeFault.TheVariants.{Closed, OutOfMemory}

-- an ACK was agreed to, and this is the OPN
pub record SendsOpen (moment : DateTime) (sent : List ℕ) (new : ClientChannel) (asks : List Placed) (octets : List ℕ) (before : List ClientTold) : Type 0 where
  pub ack : Ack
  pub sent_is : sent ≡ frame_octets (first_open moment)
  pub goes : ClientGoesTelling new asks octets before (told.Agreed ack)

-- the channel is open
pub record IsChannelOpened (new : ClientChannel) (asks : List Placed) (octets : List ℕ) (before : List ClientTold) : Type 0 where
  pub channel : ℕ
  pub token : ℕ
  pub goes : ClientGoesTelling new asks octets before (told.Opened channel token)

-- the outcome for an event, if the bytes end with its frame and the frames before it told this; a
-- message comes in the parts in which its chunks brought it
abbrev pub TellsOfEvent : DateTime → ClientEvent → ClientChannel → List Placed → List ℕ → List ClientTold → Type 0
TellsOfEvent moment event.NeedMore new asks octets before = ⊥
TellsOfEvent moment (event.Send sent) new asks octets before = SendsOpen moment sent.items new asks octets before
TellsOfEvent moment event.Open new asks octets before = IsChannelOpened new asks octets before
TellsOfEvent moment (event.Answered id message) new asks octets before = ClientGoesTelling new asks octets before (told.Answered id (concat message))
    × HandsOutParts client_side (Some message) new.end asks octets
TellsOfEvent moment (event.Aborted id code) new asks octets before = ClientGoesTelling new asks octets before (told.GaveUp id code)
TellsOfEvent moment (event.Failed code peer) new asks octets before = ClientEnded new asks octets before (record { code = code.code; peer = peer })
TellsOfEvent moment (event.Renewed token) new asks octets before = ClientGoesTelling new asks octets before (told.Renewed token)

-- the outcome for a fragment, after operations and bytes that told this; if an allocation failed,
-- it is within a frame whose header is complete and valid
abbrev pub ClientAnswers : DateTime → List ℕ → Result (ℕ × ClientEvent) ClientTakeFault → ClientChannel → List Placed → List ℕ → List ClientTold → Type 0
ClientAnswers moment piece (Ok (n, event.NeedMore)) new asks octets before = (n ≡ length piece) × ClientGoes new asks (octets ++ piece) before
ClientAnswers moment piece (Ok (n, e)) new asks octets before = TellsOfEvent moment e new asks (octets ++ take n piece) before
ClientAnswers moment piece (Err OutOfMemory) new asks octets before =
    (n : ℕ) × (n ≤ length piece) × ClientStarvedAt new asks (octets ++ take n piece) before
ClientAnswers moment piece (Err Closed) new asks octets before = ⊥

-- what is taken is within the fragment, and is something unless the fragment is empty
abbrev pub ClientProgress : {A : Type 0} → List ℕ → Result (ℕ × A) ClientTakeFault → Type 0
ClientProgress piece (Ok (n, e)) = (n ≤ length piece) × (0 < length piece → 0 < n)
ClientProgress piece (Err fault) = Unit {0}
