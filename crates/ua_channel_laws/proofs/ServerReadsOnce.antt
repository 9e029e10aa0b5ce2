-- How a server reads octets.
use Rattle.std.proofs.Common.{◌≡◌, ℕ, List, [], ◌∷◌, ◌++◌}
use Rattle.ua_frame.specs.declared.frame.Frame.{Frame}
use Rattle.ua_channel.specs.declared.server.ServerChannel.{ServerChannel}
use Rattle.ua_channel.specs.ServerStands.{rules_of, ChannelStands, Goes, GoesTelling}
use Rattle.ua_channel.specs.ServerTold.{Told}
use Rattle.ua_channel_laws.proofs.ReadOn.{same_frames, told_behind}

pub stands_once : (x : ServerChannel) (octets : List ℕ) (fs gs : List Frame) (rest more : List ℕ) → ChannelStands x octets fs rest
    → ChannelStands x octets gs more → (fs ≡ gs) × (rest ≡ more)
stands_once x octets fs gs rest more s t = same_frames (rules_of x) octets fs gs rest more s.run t.run

pub goes_behind : (x : ServerChannel) (octets : List ℕ) (told : List Told) (e : Told) → GoesTelling x octets told e → Goes x octets (told ++ e ∷ [])
goes_behind x octets told e g =
    record { frames = g.frames ++ g.frame ∷ []; rest = []; stands = g.stands; told_is = told_behind (rules_of x) g.frames g.frame told e g.told_is g.tells }
