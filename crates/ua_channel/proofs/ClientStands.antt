-- Where a client's channel stands, when it is made and when it is asked.
use Rattle.std.proofs.Common.{◌≡◌, ℕ, ◌≤◌, List, [], ◌∷◌, ◌++◌, Option, Some, length, refl, sym, ◌∙◌, ap, subst, arith}
use Rattle.ua_frame.specs.declared.frame.Frame.{Frame}
use Rattle.ua_frame.specs.declared.gate.Gate.{Gate}
use Rattle.ua_frame.specs.declared.ack.Ack.{Ack}
use Rattle.ua_frame.specs.declared.limits.Limits.{Limits}
use Rattle.ua_frame.specs.Reader.{open_reader}
use Rattle.ua_frame.proofs.Streams.{run_nil}
use Rattle.ua_channel.specs.Asks.{Asking, Placed, asked_in}
use Rattle.ua_channel.specs.Client.{client_side, ClientStands, InPhase, client_limits, client_bound_behind, phase_of}
use Rattle.ua_channel.specs.ClientAsks.{Talks}
use Rattle.ua_channel.specs.inside.ClientAsking.{AsBefore}
use Rattle.ua_channel.specs.ClientTable.{client_gate, client_rules, client_gate_behind, gate_agreed, reply_gate, ack_gate}
use Rattle.ua_channel.specs.ClientTokens.{open_responses, first_channel}
use Rattle.ua_opening.specs.declared.secure_channel.OpenResponse.{OpenResponse}
use Rattle.ua_channel.specs.Received.{Received, received}
use Rattle.ua_channel.specs.declared.client.channel.ClientChannel.{ClientChannel}
use Rattle.ua_channel.specs.declared.client.phase.Phase.{Phase}
use Rattle.ua_channel.specs.declared.client.rules.ClientRules.{ClientRules}
use Rattle.ua_channel.specs.declared.end_core.EndCore.{EndCore}
use Rattle.ua_channel.specs.Ends.{EndStands}
use Rattle.ua_channel.specs.declared.client.phase.Phase.TheVariants.{Waiting, Open}
use Rattle.ua_channel.specs.declared.client.talking.Talking.{Talking}
use Rattle.ua_channel.proofs.Askings.{asked_in-push, all-push, no_asks}
use Rattle.ua_channel.proofs.AskedLater.{asked_later}
use Rattle.ua_channel.proofs.ClientAsking.{talks_as_before}
use Rattle.ua_channel.proofs.OneFrameMore.{received-nil}

-- ---- a channel that is made

pub stands_first : (x : EndCore ClientRules Phase) (gate : Gate) → x.reader ≡ open_reader gate [] → gate ≡ ack_gate → x.phase ≡ Waiting → x.bound ≡ 8192
    → EndStands client_side x [] [] [] []
stands_first x gate reader is phase bound = record {
  run = run_nil (client_rules x.rules.limits []) refl;
  placed = tt;
  reader_is = reader ∙ ap (λ (g : Gate). open_reader g []) (is ∙ sym (ap client_gate received-nil));
  phase_is = subst (λ (p : Phase). InPhase x.rules.limits p (received []) (asked_in [])) (sym phase) (received-nil, no_asks);
  bound_is = bound ∙ sym (ap (λ (b : Received). client_bound_behind x.rules.limits b.ack) received-nil);
}

-- ---- an open channel that is asked

module _ (x y : ClientChannel) (t u : Talking) (asks : List Placed) (octets : List ℕ) (frames : List Frame) (rest : List ℕ) (was : phase_of x ≡ Open t)
    (h : ClientStands x asks octets frames rest) where
  pub talks_at : Talks (client_limits x) t (received frames) (asked_in asks)
  talks_at = subst (λ (p : Phase). InPhase (client_limits x) p (received frames) (asked_in asks)) was h.phase_is

  -- with one ask more at this place
  pub stands_asked : (a : Asking) → y ≡ record x { end = record x.end { phase = Open u; numbers = y.end.numbers } }
      → Talks (client_limits x) u (received frames) (asked_in asks ++ a ∷ []) → ClientStands y (asks ++ (length octets, a) ∷ []) octets frames rest
  stands_asked a is talks =
      subst (λ (z : ClientChannel). ClientStands z (asks ++ (length octets, a) ∷ []) octets frames rest) (sym is) (record {
        run = asked_later (client_limits x) asks (length octets, a) octets frames rest (omega arith) h.run;
        placed = all-push (λ (b : Placed). b.0 ≤ length octets) asks (length octets, a) h.placed (omega arith);
        reader_is = h.reader_is;
        phase_is = subst (λ (asked : List Asking). Talks (client_limits x) u (received frames) asked) (sym (asked_in-push asks (length octets, a))) talks;
        bound_is = h.bound_is;
      })

  -- where nothing but the room of the list of pending calls changed
  pub stands_kept : y ≡ record x { end = record x.end { phase = Open u; numbers = y.end.numbers } } → AsBefore t u → ClientStands y asks octets frames rest
  stands_kept is same =
      subst (λ (z : ClientChannel). ClientStands z asks octets frames rest) (sym is) (record {
        run = h.run;
        placed = h.placed;
        reader_is = h.reader_is;
        phase_is = talks_as_before (client_limits x) t u (received frames) (asked_in asks) talks_at same;
        bound_is = h.bound_is;
      })

-- ---- an open channel's gate

pub gate_some : (size n : ℕ) (rs : List OpenResponse) → first_channel rs ≡ Some n → gate_agreed size rs ≡ reply_gate size
gate_some size n [] e = absurd cc
gate_some size n (r ∷ rs) e = refl

pub gate_talking : (limits : Limits) (t : Talking) (before : Received) (asked : List Asking) → Talks limits t before asked
    → client_gate before ≡ reply_gate t.agreed.ack.send_buffer_size
gate_talking limits t before asked h =
    ap (λ (o : Option Ack). client_gate_behind o (open_responses before.openings)) h.ack_is
    ∙ gate_some t.agreed.ack.send_buffer_size t.channel (open_responses before.openings) h.channel_is
