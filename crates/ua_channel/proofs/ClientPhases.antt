-- What a client's channel makes of a frame in each of its phases.
use Rattle.std.proofs.Common.{◌≡◌, ℕ, ◌≤◌, false, List, [], ◌∷◌, ◌++◌, Option, Some, None, Result, Ok, Err, arith, refl, sym, ◌∙◌, ap, subst}
use Rattle.ua_frame.specs.declared.frame.Frame.{Frame}
use Rattle.ua_frame.specs.declared.gate.Gate.{Gate}
use Rattle.ua_frame.specs.declared.limits.Limits.{Limits}
use Rattle.ua_frame.specs.Frames.{LetsIn}
use Rattle.ua_channel.specs.Asks.{Asking}
use Rattle.ua_channel.specs.Client.{InPhase, client_bound_behind}
use Rattle.ua_channel.specs.inside.ClientAsking.{client_phase_gate}
use Rattle.ua_channel.specs.ClientAsks.{Talks}
use Rattle.ua_channel.specs.inside.ClientParts.{Judged, TookFrame, IsOpenedBy, ClientTakesFrame, greeted}
use Rattle.ua_channel.specs.ClientTable.{client_gate, client_reasons, gate_agreed, answer_gate, reply_gate}
use Rattle.ua_channel.specs.Content.{Content, content}
use Rattle.ua_channel.specs.Received.{Received, after}
use Rattle.ua_channel.specs.declared.client.agreed.Agreed.{Agreed}
use Rattle.ua_channel.specs.declared.client.event.Event.{Event}
use Rattle.ua_channel.specs.declared.client.event.Event.TheVariants as event
use Rattle.ua_channel.specs.declared.end_fault.EndFault.{EndFault}
use Rattle.ua_channel.specs.declared.client.phase.Phase.{Phase}
use Rattle.ua_channel.specs.declared.client.phase.Phase.TheVariants.{Waiting, Agreed as AgreedTo, Open, Done}
use Rattle.ua_channel.specs.declared.client.talking.Talking.{Talking}
use Rattle.std.specs.List.{AllByRecursion}
use Rattle.ua_builtin.specs.Reasons.{first_reason}
use Rattle.ua_chunk.specs.declared.chunk.Chunk.{Chunk}
use Rattle.ua_frame.specs.Run.{refusal}
use Rattle.ua_channel.specs.Asks.{Placed, asked_in, end_of}
use Rattle.ua_channel.specs.ClientTable.{client_rules}
use Rattle.ua_channel.specs.Received.{received}
use Rattle.ua_channel.specs.inside.ClientParts.{told_by_frame}
use Rattle.ua_channel.specs.ClientEvents.{event_parts}
use Rattle.ua_channel.specs.Client.{client_side}
use Rattle.ua_channel.specs.inside.Parts.{MayEndIn}
use Rattle.ua_channel.specs.inside.Ends.{ComesNext, IsBehind, JudgesNext, closes_by, parts_by, told_if as told_list}
use Rattle.ua_channel.specs.declared.client.rules.ClientRules.{ClientRules}
use Rattle.ua_channel.specs.declared.end_fault.EndFault.TheVariants.{Refused, Peer, Closed, OutOfMemory}
use Rattle.ua_channel.proofs.Askings.{all-weaken, asked_before-all}
use Rattle.ua_channel.proofs.OneFrameMore.{received-push}
use Rattle.ua_channel.proofs.ClientGreets.{judged_same}
use Rattle.ua_channel.proofs.ClientStands.{gate_talking}
use Rattle.ua_channel.proofs.ClientTalks.{no_responses}

-- ---- an opening

pub opening_takes : (limits : Limits) (g : Agreed) (c : Content) (t : Talking) (bound : ℕ) → bound ≡ client_bound_behind limits (Some g.ack)
    → IsOpenedBy limits g c t → TookFrame limits (greeted g) [] c (Open t) bound (Some (event.Opened t.channel t.newest))
opening_takes limits g c t bound bound_is h = record {
  tells = h.tells;
  parts = tt;
  phase_is = h.talks;
  bound_is = bound_is
      ∙ sym (ap (client_bound_behind limits) h.ack_is);
}

-- ---- any frame

-- the gate of a phase is that of what was received
pub gate_in : (limits : Limits) (p : Phase) (before : Received) (asked : List Asking) → InPhase limits p before asked → client_phase_gate p ≡ client_gate before
gate_in limits Waiting before asked h = sym (ap client_gate h.0)
gate_in limits (AgreedTo g) before asked h = sym (ap client_gate h.0 ∙ ap (gate_agreed g.ack.send_buffer_size) no_responses)
gate_in limits (Open t) before asked h = sym (gate_talking limits t before asked h)
gate_in limits Done before asked h = absurd h

let_in_phase : (limits : Limits) (p : Phase) (before : Received) (asked : List Asking) (f : Frame) → InPhase limits p before asked
    → LetsIn (client_gate before) f → LetsIn (client_phase_gate p) f
let_in_phase limits p before asked f h l = subst (λ (g : Gate). LetsIn g f) (sym (gate_in limits p before asked h)) l

module _ (limits : Limits) (p : Phase) (before : Received) (asked : List Asking) (f : Frame) (q : Phase) (bound : ℕ) (r : Result (Option Event) EndFault)
    (in_phase : InPhase limits p before asked) (let_in : LetsIn (client_gate before) f) where
  pub agreed_judged : (g : Agreed) → p ≡ AgreedTo g
      → (client_bound_behind limits before.ack ≡ client_bound_behind limits (Some g.ack) → LetsIn (answer_gate g.ack.send_buffer_size) f
      → Judged (client_reasons limits (greeted g) [] (content f)) (TookFrame limits (greeted g) [] (content f) q bound) r)
      → Judged (client_reasons limits before asked (content f)) (TookFrame limits before asked (content f) q bound) r
  agreed_judged g is h =
      let here : InPhase limits (AgreedTo g) before asked = subst (λ (w : Phase). InPhase limits w before asked) is in_phase in
      subst (λ (k : List Asking). Judged (client_reasons limits before k (content f)) (TookFrame limits before k (content f) q bound) r) (sym here.1)
      (subst (λ (b : Received). Judged (client_reasons limits b [] (content f)) (TookFrame limits b [] (content f) q bound) r) (sym here.0)
      (h (ap (λ (b : Received). client_bound_behind limits b.ack) here.0) (let_in_phase limits (AgreedTo g) before asked f here let_in)))

  pub open_judged : (t u : Talking) → p ≡ Open t → q ≡ Open u → bound ≡ client_bound_behind limits before.ack
      → (Talks limits t before asked → LetsIn (reply_gate t.agreed.ack.send_buffer_size) f
      → Judged (client_reasons limits before asked (content f)) (ClientTakesFrame limits before asked (content f) u) r)
      → Judged (client_reasons limits before asked (content f)) (TookFrame limits before asked (content f) q bound) r
  open_judged t u is now bound_is h =
      let here : InPhase limits (Open t) before asked = subst (λ (w : Phase). InPhase limits w before asked) is in_phase in
      judged_same (client_reasons limits before asked (content f)) (client_reasons limits before asked (content f))
      (ClientTakesFrame limits before asked (content f) u) (TookFrame limits before asked (content f) q bound) r refl
      (λ e none w.
      record {
        tells = w.tells;
        parts = w.parts;
        phase_is = subst (λ (v : Phase). InPhase limits v (after before (content f)) asked) (sym now) w.talks;
        bound_is = bound_is ∙ sym (ap (client_bound_behind limits) w.ack_is);
      })
      (h here (let_in_phase limits (Open t) before asked f here let_in))

-- ---- as at any end

-- what was asked by the time that so many octets had come was asked once more had come
pub placed_more : (asks : List Placed) (n m : ℕ) → n ≤ m → AllByRecursion (λ (a : Placed). a.0 ≤ n) asks → AllByRecursion (λ (a : Placed). a.0 ≤ m) asks
placed_more asks n m more placed = all-weaken (λ (a : Placed). a.0 ≤ n) (λ (a : Placed). a.0 ≤ m) asks (λ a within. omega (arith, within, more)) placed

list_is : (e : Option Event) → told_by_frame e ≡ told_list client_side e
list_is None = refl
list_is (Some e) = refl

parts_are : (cs : List Chunk) (c : Content) (e : Option Event) → MayEndIn cs c (event_parts e) → MayEndIn cs c (parts_by client_side e)
parts_are cs c None h = tt
parts_are cs c (Some e) h = h

never_last : (e : Option Event) → false ≡ closes_by client_side e
never_last None = refl
never_last (Some e) = refl

module _ (r : ClientRules) (asks : List Placed) (frames : List Frame) (f : Frame) (p : Phase) (bound : ℕ) where
  behind_is : (e : Option Event) → InPhase r.limits p (received (frames ++ f ∷ [])) (asked_in asks)
      → IsBehind client_side (closes_by client_side e) r asks p (frames ++ f ∷ [])
  behind_is None h = h
  behind_is (Some e) h = h

  judged_so : (answer : Result (Option Event) EndFault)
      → refusal (client_rules r.limits asks) frames f ≡ first_reason (client_reasons r.limits (received frames) (asked_in asks) (content f))
      → Judged (client_reasons r.limits (received frames) (asked_in asks) (content f))
      (TookFrame r.limits (received frames) (asked_in asks) (content f) p bound) answer → JudgesNext client_side r asks frames f p bound answer
  judged_so (Ok e) so j = record {
    accepted = so ∙ j.0;
    tells = j.1.tells ∙ list_is e;
    last = never_last e;
    parts = parts_are (received frames).messages (content f) e j.1.parts;
    behind = behind_is e (subst (λ (b : Received). InPhase r.limits p b (asked_in asks)) (sym (received-push frames f)) j.1.phase_is);
    bound_is = j.1.bound_is ∙ ap (λ (b : Received). client_bound_behind r.limits b.ack) (sym (received-push frames f));
  }
  judged_so (Err (Refused code)) so j = so ∙ j
  judged_so (Err (Peer code)) so j = so ∙ j
  judged_so (Err OutOfMemory) so j = j
  judged_so (Err Closed) so j = j

-- what is made of a frame that comes next
pub judged : (r : ClientRules) (old p : Phase) (was bound : ℕ) (f : Frame) (answer : Result (Option Event) EndFault)
    → ((before : Received) (asked : List Asking) → InPhase r.limits old before asked → was ≡ client_bound_behind r.limits before.ack
    → LetsIn (client_gate before) f
    → Judged (client_reasons r.limits before asked (content f)) (TookFrame r.limits before asked (content f) p bound) answer)
    → (asks : List Placed) (frames : List Frame) → ComesNext client_side r asks old was frames f → JudgesNext client_side r asks frames f p bound answer
judged r old p was bound f answer judges asks frames next =
    judged_so r asks frames f p bound answer
    (ap (λ (asked : List Asking). first_reason (client_reasons r.limits (received frames) asked (content f)))
    (asked_before-all (end_of frames f) next.came asks next.later next.placed))
    (judges (received frames) (asked_in asks) next.holds next.bound_is next.let_in)
