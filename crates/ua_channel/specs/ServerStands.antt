-- The state of a server's channel after bytes.
use Rattle.std.specs.Prelude.{◌≡◌, ℕ, ◌+◌, ◌*◌, length, false, List, Option, Some, None, ◌<◌, ◌≤◌}
use Rattle.ua_frame.specs.declared.frame.Frame.{Frame}
use Rattle.ua_frame.specs.declared.hello.Hello.{Hello}
use Rattle.ua_frame.specs.declared.limits.Limits.{Limits}
use Rattle.ua_frame.specs.Run.{Rules}
use Rattle.ua_chunk.specs.Open.{open_octets}
use Rattle.ua_channel.specs.declared.server.Phase.{Phase}
use Rattle.ua_channel.specs.declared.server.Phase.TheVariants.{Waiting, Greeted, Open, Done}
use Rattle.ua_channel.specs.declared.server.ServerChannel.{ServerChannel}
use Rattle.ua_channel.specs.Agreement.{Agreement, agreement_of}
use Rattle.ua_channel.specs.Received.{Received, nothing_received, received}
use Rattle.ua_channel.specs.ServerRules.{receive_size, server_rules}
use Rattle.ua_channel.specs.ServerTold.{Told, issued}
use Rattle.ua_channel.specs.Ends.{Side, EndDone, EndGoes, EndOver, EndStands, EndStarves, EndStops, EndTells}
use Rattle.ua_channel.specs.ServerEvents.{is_closed, parts_of_event, server_told_of_event}
use Rattle.ua_channel.specs.declared.server_event.Event.{Event}
use Rattle.ua_channel.specs.declared.server_rules.ServerRules.{ServerRules}
use Rattle.ua_chunk.specs.Assembling.{last_number, octet_limit, chunk_limit}
use Rattle.ua_channel.specs.declared.running.Running.{Running}
use Rattle.ua_channel.specs.ServerRefusals.{last_used}
use Rattle.ua_chunk.specs.Assembling as assembling

-- ---- what is held

-- the most bytes that are held of a client that sent this Hello, if it did: of an incomplete frame
-- 8192 before the ACK, then the agreed size, and 4 unfinished messages of the greatest size
abbrev pub bound_behind : Limits → Option Hello → ℕ
bound_behind limits None = 8192
bound_behind limits (Some h) = receive_size limits (Some h) + 4 * limits.max_message_size

-- the most bytes that a server with these limits holds, after what was received
abbrev pub bound_after : Limits → Received → ℕ
bound_after limits before = bound_behind limits before.hello

-- how many bytes are held: those of an incomplete frame, and those of unfinished messages
abbrev pub held_after : Received → List ℕ → ℕ
held_after before rest = length rest + open_octets before.messages

-- the state of an open channel of a server with these limits is that after what was received
pub record Stays (limits : Limits) (r : Running) (before : Received) : Type 0 where
  pub hello : Hello
  pub hello_is : before.hello ≡ Some hello
  pub agreement_is : r.agreement ≡ agreement_of limits hello
  pub large : 8192 ≤ receive_size limits (Some hello)
  pub issued_is : issued before ≡ r.issued
  pub some : 0 < r.issued
  pub used_is : last_used before ≡ r.used
  pub last_is : before.last ≡ last_number r.assembler
  pub assembles : assembling.Stands r.assembler before.messages
  pub octets : octet_limit r.assembler ≡ limits.max_message_size
  pub chunks : chunk_limit r.assembler ≡ limits.max_chunk_count
  pub goes_on : before.closed ≡ false

-- a server with these limits agreed to this after what was received, and has no OPN yet
pub record HasGreeted (limits : Limits) (a : Agreement) (before : Received) : Type 0 where
  pub hello : Hello
  pub before_is : before ≡ record nothing_received { hello = Some hello }
  pub agreement_is : a ≡ agreement_of limits hello
  pub large : 8192 ≤ receive_size limits (Some hello)

-- ---- phases

-- a phase is that of a server with these limits after what was received
abbrev pub InServerPhase : Limits → Phase → Received → Type 0
InServerPhase limits Waiting before = before ≡ nothing_received
InServerPhase limits (Greeted a) before = HasGreeted limits a before
InServerPhase limits (Open r) before = Stays limits r before
InServerPhase limits Done before = ⊥

-- a server, as an end of a connection: frames are judged by those before them alone, and no client
-- rejects
abbrev pub server_side : Side ServerRules Phase Event
server_side = record {
  Key = Unit {0};
  Told = Told;
  Why = ℕ;
  rules = λ r k. server_rules r.limits r.channel;
  placed = λ k came. Unit {0};
  holds = λ r k p frames. InServerPhase r.limits p (received frames);
  bound = λ r frames. bound_after r.limits (received frames);
  done = λ p. p ≡ Done;
  tells = server_told_of_event;
  closes = is_closed;
  parts = λ e. parts_of_event (Some e);
  peer = λ code. None;
}

-- in this phase there is no token
abbrev pub HasNoToken : Phase → Type 0
HasNoToken Waiting = Unit {0}
HasNoToken (Greeted a) = Unit {0}
HasNoToken (Open r) = ⊥
HasNoToken Done = Unit {0}

-- ---- the channel

-- the limits of a server's channel
abbrev pub limits_of : ServerChannel → Limits
limits_of x = x.end.rules.limits

-- the SecureChannelId of a server's channel
abbrev pub channel_of : ServerChannel → ℕ
channel_of x = x.end.rules.channel

-- the number of the next chunk that a server sends
abbrev pub next_of : ServerChannel → ℕ
next_of x = x.end.numbers.next

-- the most bytes that a server's channel holds
abbrev pub bound_of : ServerChannel → ℕ
bound_of x = x.end.bound

-- no channel is open: there was no OPN yet, or the channel has ended
abbrev pub IsWithoutToken : ServerChannel → Type 0
IsWithoutToken x = HasNoToken x.end.phase

-- the rules of a channel
abbrev pub rules_of : ServerChannel → Rules Told ℕ
rules_of x = server_rules (limits_of x) (channel_of x)

-- the state of a channel is that after these bytes: these are their frames, and this is the rest,
-- of an incomplete frame
abbrev pub ChannelStands : ServerChannel → List ℕ → List Frame → List ℕ → Type 0
ChannelStands x octets frames rest = EndStands server_side x.end tt octets frames rest

-- a channel that ended, and holds nothing
abbrev pub IsDone : ServerChannel → Type 0
IsDone x = EndDone server_side x.end

-- the channel goes on after these bytes, whose frames told this
abbrev pub Goes : ServerChannel → List ℕ → List Told → Type 0
Goes x octets told = EndGoes server_side x.end tt octets told

-- a fact of whatever bytes led a channel to its state: of the bytes, of their frames, and of the
-- rest, of an incomplete frame
abbrev pub WhateverCame : ServerChannel → (List ℕ → List Frame → List ℕ → Type 0) → Type 0
WhateverCame x Fact = (octets : List ℕ) (frames : List Frame) (rest : List ℕ) → ChannelStands x octets frames rest → Fact octets frames rest

-- a fact of whatever bytes a channel goes on after: of the bytes, and of what their frames told
abbrev pub WhateverWasTold : ServerChannel → (List ℕ → List Told → Type 0) → Type 0
WhateverWasTold x Fact = (octets : List ℕ) (told : List Told) → Goes x octets told → Fact octets told

-- the channel goes on after these bytes, of which the last byte is that of a frame that tells this,
-- after what the frames before it told
abbrev pub GoesTelling : ServerChannel → List ℕ → List Told → Told → Type 0
GoesTelling x octets told e = EndTells server_side x.end tt octets told e

-- the channel closed at the last byte of these, that of a CLO, and its frames told this
abbrev pub ClosedAt : ServerChannel → List ℕ → List Told → Type 0
ClosedAt x octets told = EndOver server_side x.end tt octets told

-- an allocation failed at the end of these bytes, after the good frames that told this
abbrev pub StarvedAt : ServerChannel → List ℕ → List Told → Type 0
StarvedAt x octets told = EndStarves server_side x.end tt octets told

-- the channel rejected with this code what follows the good frames of these bytes
abbrev pub RefusedAt : ServerChannel → List ℕ → List Told → ℕ → Type 0
RefusedAt x octets told code = EndStops server_side x.end tt octets told code
