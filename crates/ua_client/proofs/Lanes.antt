-- Where an open channel sends calls.
use Rattle.std.specs.Prelude.{◌≡◌, ℕ, List, Option, Some}
use Rattle.std.proofs.Common.{◌∙◌, ap}
use Rattle.ua_frame.specs.declared.ack.Ack.{Ack}
use Rattle.ua_frame.specs.declared.limits.Limits.{Limits}
use Rattle.ua_channel.specs.Asks.{Asking}
use Rattle.ua_channel.specs.ClientAsks.{Talks, call_lane}
use Rattle.ua_channel.specs.ClientTokens.{open_responses, first_channel, held_tokens}
use Rattle.ua_channel.specs.Received.{Received, latest}
use Rattle.ua_channel.specs.declared.client.talking.Talking.{Talking}
use Rattle.ua_client.specs.ClientPlace.{lane_by, lane_behind}

pub lane-talks : (limits : Limits) (t : Talking) (before : Received) (asked : List Asking) → Talks limits t before asked
    → lane_behind before ≡ Some (call_lane t.agreed.ack t.channel t.newest)
lane-talks limits t before asked h =
    ap (λ (a : Option Ack). lane_by a (first_channel (open_responses before.openings)) (latest (held_tokens before))) h.ack_is
    ∙ (ap (λ (c : Option ℕ). lane_by (Some t.agreed.ack) c (latest (held_tokens before))) h.channel_is
    ∙ ap (λ (k : Option ℕ). lane_by (Some t.agreed.ack) (Some t.channel) k) h.newest_is)
