-- The request id of what a client asks next.
use Rattle.std.proofs.Common.{◌≡◌, ℕ, List, refl, sym, ap}
use Rattle.ua_frame.specs.declared.frame.Frame.{Frame}
use Rattle.ua_frame.specs.declared.limits.Limits.{Limits}
use Rattle.ua_channel.specs.Asks.{Asking, Placed, asked_in, next_id}
use Rattle.ua_channel.specs.Client.{ClientStands, InPhase, client_limits}
use Rattle.ua_channel.specs.Received.{Received, received}
use Rattle.ua_channel.specs.declared.client.channel.ClientChannel.{ClientChannel}
use Rattle.ua_channel.specs.declared.client.phase.Phase.{Phase}
use Rattle.ua_channel.specs.declared.client.phase.Phase.TheVariants.{Waiting, Agreed, Open, Done}
use Rattle.ua_channel.specs.declared.client.talking.Talking.{Talking}
use Rattle.ua_channel.proofs.ClientStands.{talks_at}

pub next_open : (x : ClientChannel) (t : Talking) (asks : List Placed) (octets : List ℕ) (frames : List Frame) (rest : List ℕ) → x.end.phase ≡ Open t
    → ClientStands x asks octets frames rest
    → t.next ≡ next_id (asked_in asks)
next_open x t asks octets frames rest was h = (talks_at x x t t asks octets frames rest was h).next_is

pub next_first : (x : ClientChannel) (asks : List Placed) (octets : List ℕ) (frames : List Frame) (rest : List ℕ) → ((t : Talking) → x.end.phase ≡ Open t → ⊥)
    → ClientStands x asks octets frames rest
    → 2 ≡ next_id (asked_in asks)
next_first x asks octets frames rest shut h = first (client_limits x) x.end.phase (received frames) (asked_in asks) shut h.phase_is
  where
    first : (limits : Limits) (phase : Phase) (before : Received) (asked : List Asking) → ((t : Talking) → phase ≡ Open t → ⊥)
        → InPhase limits phase before asked → 2 ≡ next_id asked
    first limits Waiting before asked none h = ap next_id (sym h.1)
    first limits (Agreed a) before asked none h = ap next_id (sym h.1)
    first limits (Open t) before asked none h = absurd (none t refl)
    first limits Done before asked none h = absurd h
