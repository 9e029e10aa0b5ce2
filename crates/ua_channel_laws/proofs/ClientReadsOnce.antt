-- How a client reads octets.
use Rattle.std.proofs.Common.{◌≡◌, ℕ, List, [], ◌∷◌, ◌++◌}
use Rattle.ua_frame.specs.declared.frame.Frame.{Frame}
use Rattle.ua_channel.specs.Asks.{Placed}
use Rattle.ua_channel.specs.Client.{client_rules_of, ClientStands, ClientGoes, ClientGoesTelling}
use Rattle.ua_channel.specs.ClientTold.{ClientTold}
use Rattle.ua_channel.specs.declared.client.channel.ClientChannel.{ClientChannel}
use Rattle.ua_channel_laws.proofs.ReadOn.{same_frames, told_behind}

pub stands_once : (x : ClientChannel) (asks : List Placed) (octets : List ℕ) (fs gs : List Frame) (rest more : List ℕ) → ClientStands x asks octets fs rest
    → ClientStands x asks octets gs more → (fs ≡ gs) × (rest ≡ more)
stands_once x asks octets fs gs rest more s t = same_frames (client_rules_of x asks) octets fs gs rest more s.run t.run

pub goes_behind : (x : ClientChannel) (asks : List Placed) (octets : List ℕ) (told : List ClientTold) (e : ClientTold) → ClientGoesTelling x asks octets told e
    → ClientGoes x asks octets (told ++ e ∷ [])
goes_behind x asks octets told e g =
    record {
      frames = g.frames ++ g.frame ∷ [];
      rest = [];
      stands = g.stands;
      told_is = told_behind (client_rules_of x asks) g.frames g.frame told e g.told_is
          g.tells;
    }
