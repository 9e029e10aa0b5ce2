-- The limits of a reply, by where it goes.
use Rattle.std.proofs.Common.{◌≡◌, ℕ, List, Option, Some, sym, ◌∙◌, ap}
use Rattle.ua_frame.specs.declared.frame.Frame.{Frame}
use Rattle.ua_frame.specs.declared.hello.Hello.{Hello}
use Rattle.ua_frame.specs.declared.limits.Limits.{Limits}
use Rattle.ua_chunk.specs.declared.lane.Lane.{Lane}
use Rattle.ua_channel.specs.declared.server.Phase.{Phase}
use Rattle.ua_channel.specs.declared.server.Phase.TheVariants.{Waiting, Greeted, Open, Done}
use Rattle.ua_channel.specs.declared.server.ServerChannel.{ServerChannel}
use Rattle.ua_channel.specs.Agreement.{Agreement, agreement_of, lane_of}
use Rattle.ua_channel.specs.Received.{Received, received}
use Rattle.ua_channel.specs.ServerRefusals.{last_used}
use Rattle.ua_channel.specs.ServerSends.{RepliesGo}
use Rattle.ua_channel.specs.ServerStands.{limits_of, channel_of, InServerPhase, ChannelStands}
use Rattle.ua_channel.specs.inside.ServerFrames.{LaneIs}

one_hello : (a b : Hello) → ◌≡◌ {A = Option Hello} (Some a) (Some b) → a ≡ b
one_hello a b e = cc

in_phase : (limits : Limits) (channel : ℕ) (p : Phase) (before : Received) (mine lane : Lane) → InServerPhase limits p before → LaneIs channel p mine
    → RepliesGo limits channel before lane → mine ≡ lane
in_phase limits channel Waiting before mine lane s is goes = absurd is
in_phase limits channel (Greeted a) before mine lane s is goes = absurd is
in_phase limits channel (Open r) before mine lane s is (h, hello_is, lane_is) =
    let same : s.hello ≡ h = one_hello s.hello h (sym s.hello_is ∙ hello_is) in
    is
    ∙ ap (λ (t : ℕ). lane_of channel t r.agreement) (sym s.used_is)
    ∙ ap (λ (a : Agreement). lane_of channel (last_used before) a) (s.agreement_is ∙ ap (agreement_of limits) same)
    ∙ sym lane_is
in_phase limits channel Done before mine lane s is goes = absurd is

-- replies go in one lane
pub lane_there : (x : ServerChannel) (octets : List ℕ) (frames : List Frame) (rest : List ℕ) (mine lane : Lane) → LaneIs (channel_of x) x.end.phase mine
    → ChannelStands x octets frames rest → RepliesGo (limits_of x) (channel_of x) (received frames) lane → mine ≡ lane
lane_there x octets frames rest mine lane is s goes = in_phase (limits_of x) (channel_of x) x.end.phase (received frames) mine lane s.phase_is is goes
