-- What a close sends.
use Rattle.std.specs.Prelude.{◌≡◌, ℕ, ◌<◌, List, length, Option, Err}
use Rattle.std.proofs.Common.{sym, ◌∙◌, ap, subst}
use Rattle.ua_builtin.specs.declared.date_time.DateTime.{DateTime}
use Rattle.ua_chunk.specs.declared.lane.Lane.{Lane}
use Rattle.ua_frame.specs.Frames.{frame_octets}
use Rattle.ua_frame.specs.declared.limits.Limits.{Limits}
use Rattle.ua_channel.specs.Asks.{Asking, asked_in, next_id}
use Rattle.ua_channel.specs.Client.{InPhase, IsClosing, client_limits, phase_of, client_next}
use Rattle.ua_channel.specs.ClientSends.{close_frame}
use Rattle.ua_channel.specs.Line.{Traffic, IfTrafficKnown}
use Rattle.ua_channel.specs.Received.{Received, received}
use Rattle.ua_channel.specs.declared.client.channel.ClientChannel.{ClientChannel}
use Rattle.ua_channel.specs.declared.client.phase.Phase.{Phase}
use Rattle.ua_channel.specs.declared.client.phase.Phase.TheVariants.{Waiting, Agreed, Open, Done}
use Rattle.ua_client.specs.Carried.{IsPart, WritesFront}
use Rattle.ua_client.specs.Client.{closing_by, closing_at, Closes}
use Rattle.ua_client.specs.ClientPlace.{ClientPlace, StandsAt, id_at, lane_behind}
use Rattle.ua_client.specs.declared.fault.ClientFault.TheVariants as fault
use Rattle.ua_client.proofs.Carrying.{sends-part}
use Rattle.ua_client.proofs.Lanes.{lane-talks}

closing-in : (limits : Limits) (p : Phase) (before : Received) (asked : List Asking) (number : ℕ) (moment : DateTime) (out : List ℕ)
    → InPhase limits p before asked → IsClosing p number moment out → out ≡ closing_by (lane_behind before) number (next_id asked) moment
closing-in limits Waiting before asked number moment out h s = absurd s
closing-in limits (Agreed a) before asked number moment out h s = absurd s
closing-in limits (Open t) before asked number moment out h s =
    s ∙ (ap (λ (n : ℕ). frame_octets (close_frame t.channel t.newest number n moment)) h.next_is
    ∙ ap (λ (l : Option Lane). closing_by l number (next_id asked) moment) (sym (lane-talks limits t before asked h)))
closing-in limits Done before asked number moment out h s = absurd s

closing-is : (x : ClientChannel) (s : ClientPlace) (moment : DateTime) (out : List ℕ) → StandsAt x s → IsClosing (phase_of x) (client_next x) moment out
    → out ≡ closing_at s moment
closing-is x s moment out at h =
    closing-in (client_limits x) (phase_of x) (received at.goes.frames) (asked_in s.asks) (client_next x) moment out at.goes.stands.phase_is h
    ∙ (ap (λ (b : Received). closing_by (lane_behind b) (client_next x) (id_at s) moment) at.before_is
    ∙ ap (λ (n : ℕ). closing_by (lane_behind s.before) n (id_at s) moment) at.number_is)

pub closes-front : {A : Type 0} (x : ClientChannel) (moment : DateTime) (out : List ℕ) (before after : Option Traffic)
    → IsClosing (phase_of x) (client_next x) moment out → 0 < length out → IfTrafficKnown (WritesFront out) before after
    → Closes {A = A} moment x before after (Err fault.Write)
closes-front x moment out before after h some w =
    let front = sends-part out before after some w in
    record {
      sent = front.0;
      carried = front.2;
      answers = λ s at. subst (IsPart front.0) (closing-is x s moment out at h) front.1;
    }
