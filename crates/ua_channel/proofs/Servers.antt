-- A server's channel, as an end of a connection.
use Rattle.std.proofs.Common.{◌≡◌, ℕ, List, ◌∙◌, ap}
use Rattle.ua_frame.specs.declared.limits.Limits.{Limits}
use Rattle.ua_channel.specs.declared.end_core.EndCore.{EndCore}
use Rattle.ua_channel.specs.declared.server.Phase.{Phase}
use Rattle.ua_channel.specs.declared.server.ServerChannel.{ServerChannel}
use Rattle.ua_channel.specs.declared.server_rules.ServerRules.{ServerRules}
use Rattle.ua_channel.specs.ServerStands.{server_side, limits_of, channel_of, GoesTelling, IsDone, StarvedAt}
use Rattle.ua_channel.specs.ServerTold.{Told}
use Rattle.ua_channel.proofs.Ends as ends

abbrev pub of_end : EndCore ServerRules Phase → ServerChannel
of_end x = record { end = x }

abbrev rules_with : Limits → ℕ → ServerRules
rules_with limits channel = record { limits = limits; channel = channel }

-- behind the frame of an event
pub starved_behind : (mid d : ServerChannel) (octets : List ℕ) (told : List Told) (e : Told) → limits_of d ≡ limits_of mid → channel_of d ≡ channel_of mid
    → IsDone d → GoesTelling mid octets told e → StarvedAt d octets told
starved_behind mid d octets told e limits channel done g =
    ends.starved_behind server_side mid.end d.end tt octets told e (ap (λ (l : Limits). rules_with l (channel_of d)) limits
    ∙ ap (rules_with (limits_of mid)) channel) done g
