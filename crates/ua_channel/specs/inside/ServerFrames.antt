-- What a server's channel makes of a frame.
use Rattle.std.specs.Prelude.{◌≡◌, ℕ, Bool, true, false, Option, Result, Ok, Err}
use Rattle.ua_frame.specs.declared.gate.Gate.{Gate}
use Rattle.ua_frame.specs.declared.limits.Limits.{Limits}
use Rattle.ua_frame.specs.Hello.{hello_gate}
use Rattle.ua_frame.specs.Kinds.{closed_gate}
use Rattle.ua_chunk.specs.declared.lane.Lane.{Lane}
use Rattle.ua_channel.specs.declared.server.Phase.{Phase}
use Rattle.ua_channel.specs.declared.server.Phase.TheVariants.{Waiting, Greeted, Open, Done}
use Rattle.ua_channel.specs.declared.server_rules.ServerRules.{ServerRules}
use Rattle.ua_channel.specs.declared.server_event.Event.{Event}
use Rattle.ua_channel.specs.declared.end_fault.EndFault.{EndFault}
use Rattle.ua_channel.specs.Agreement.{lane_of}
use Rattle.ua_channel.specs.Content.{Content}
use Rattle.ua_channel.specs.Received.{Received, after}
use Rattle.ua_channel.specs.inside.ServerParts.{IsRefusalFor, IsRefused, TakesSo}
use Rattle.ua_channel.specs.ServerRules.{opening_gate, running_gate}
use Rattle.ua_channel.specs.ServerStands.{InServerPhase, bound_after}

-- the frame filter of a phase
abbrev pub phase_gate : Phase → Gate
phase_gate Waiting = hello_gate
phase_gate (Greeted a) = opening_gate a.ack.receive_buffer_size
phase_gate (Open r) = running_gate r.agreement.ack.receive_buffer_size
phase_gate Done = closed_gate 0

-- the lane of replies in this phase, if the channel is open
abbrev pub LaneIs : ℕ → Phase → Lane → Type 0
LaneIs channel Waiting lane = ⊥
LaneIs channel (Greeted a) lane = ⊥
LaneIs channel (Open r) lane = lane ≡ lane_of channel r.used r.agreement
LaneIs channel Done lane = ⊥

-- ---- what a frame makes of it

-- the progress of a connection after a frame, by whether that was the last
abbrev pub PhaseBehindFrame : Bool → Limits → Phase → Received → Type 0
PhaseBehindFrame false limits p before = InServerPhase limits p before
PhaseBehindFrame true limits p before = p ≡ Done

-- a frame with this content is taken, with this outcome; and the progress of the connection then
pub record ServerTakesFrame (r : ServerRules) (before : Received) (c : Content) (p : Phase) (bound : ℕ) (e : Option Event) : Type 0 where
  pub takes : TakesSo r.limits r.channel before c e
  pub goes : PhaseBehindFrame (after before c).closed r.limits p (after before c)
  pub bound_is : bound ≡ bound_after r.limits (after before c)

-- the outcome for a frame with this content
abbrev pub JudgesFrame : ServerRules → Received → Content → Phase → ℕ → Result (Option Event) EndFault → Type 0
JudgesFrame r before c p bound (Ok e) = ServerTakesFrame r before c p bound e
JudgesFrame r before c p bound (Err fault) = IsRefusalFor (IsRefused r.limits r.channel before c) fault
