-- What a server makes of a frame, by how far the connection has come.
use Rattle.std.proofs.Common.{◌≡◌, ℕ, ◌+◌, ◌*◌, Bool, true, false, IsTrue, List, [], ◌∷◌, Option, Some, None, Result, Ok, Err, ◌++◌, refl, sym, ◌∙◌, ap, subst}
use Rattle.ua_frame.specs.declared.frame.Frame.{Frame}
use Rattle.ua_frame.specs.declared.hello.Hello.{Hello}
use Rattle.ua_frame.specs.declared.kind.Kind.{Kind}
use Rattle.ua_frame.specs.declared.kind.Kind.TheVariants.{Hel, Msg, Opn, Clo}
use Rattle.ua_frame.specs.declared.kind.Kind.TheVariants as kind
use Rattle.ua_frame.specs.declared.limits.Limits.{Limits}
use Rattle.ua_frame.specs.Hello.{hello_gate, hello_in}
use Rattle.ua_frame.specs.Kinds.{lets_in}
use Rattle.ua_chunk.specs.declared.chunk.Chunk.{Chunk}
use Rattle.ua_chunk.specs.Layout.{chunk_in}
use Rattle.ua_channel.specs.declared.running.Running.{Running}
use Rattle.ua_channel.specs.declared.server.Phase.{Phase}
use Rattle.ua_channel.specs.declared.server.Phase.TheVariants.{Waiting, Greeted, Open, Done}
use Rattle.ua_channel.specs.declared.server_rules.ServerRules.{ServerRules}
use Rattle.ua_channel.specs.declared.server_event.Event.{Event}
use Rattle.ua_channel.specs.declared.server_event.Event.TheVariants as event
use Rattle.ua_channel.specs.declared.end_fault.EndFault.{EndFault}
use Rattle.ua_channel.specs.declared.end_fault.EndFault.TheVariants.{Refused, Peer, Closed, OutOfMemory}
use Rattle.ua_channel.specs.Agreement.{Agreement}
use Rattle.ua_channel.specs.Content.{Content, content}
use Rattle.ua_channel.specs.Content.Content.{Greets, Closes}
use Rattle.ua_channel.specs.Received.{Received, nothing_received, or_before, after}
use Rattle.ua_channel.specs.inside.ServerParts.{AgreesTo, IsRefusalFor, IsRefused, JudgesHello, Judges, JudgesClose, told_list}
use Rattle.ua_channel.specs.ServerStands.{HasGreeted, InServerPhase, bound_behind, bound_after}
use Rattle.ua_channel.specs.inside.ServerFrames.{phase_gate, PhaseBehindFrame, JudgesFrame, ServerTakesFrame}
use Rattle.ua_channel.specs.ServerRules.{opening_gate}
use Rattle.ua_channel.specs.ServerTold.{Told as told, server_tells}
use Rattle.ua_frame.specs.declared.gate.Gate.{Gate}
use Rattle.ua_channel.specs.inside.Parts.{MayEndIn}
use Rattle.ua_channel.specs.ServerEvents.{parts_of_event, server_told_of_event}
use Rattle.ua_channel.specs.ServerStands.{server_side}
use Rattle.ua_channel.specs.inside.Ends.{ComesNext, IsBehind, JudgesNext, TakenBy, closes_by, parts_by, told_if}
use Rattle.ua_channel.specs.Received.{received}
use Rattle.ua_channel.proofs.OneFrameMore.{received-push}
use Rattle.ua_channel.proofs.Phases.{closing, gate_is, silent_open, telling_open}
use Rattle.ua_channel.proofs.Carried.{content_hel, content_clo}

-- ---- the kinds that are let in

pub hel_only : (k : Kind) → IsTrue (lets_in hello_gate k) → k ≡ Hel
hel_only Hel h = refl
hel_only kind.Ack h = absurd cc
hel_only kind.Err h = absurd cc
hel_only Msg h = absurd cc
hel_only Opn h = absurd cc
hel_only Clo h = absurd cc

pub opn_only : (size : ℕ) (k : Kind) → IsTrue (lets_in (opening_gate size) k) → k ≡ Opn
opn_only size Hel h = absurd cc
opn_only size kind.Ack h = absurd cc
opn_only size kind.Err h = absurd cc
opn_only size Msg h = absurd cc
opn_only size Opn h = refl
opn_only size Clo h = absurd cc

-- MSG and OPN, where a channel is open, but for a CLO
-- what is known in the phase that was found
pub was : (limits : Limits) (before : Received) (p q : Phase) → p ≡ q → InServerPhase limits p before → InServerPhase limits q before
was limits before p q is h = subst (λ (r : Phase). InServerPhase limits r before) is h

pub place : (p q : Phase) (k : Kind) → p ≡ q → IsTrue (lets_in (phase_gate p) k) → IsTrue (lets_in (phase_gate q) k)
place p q k is h = subst (λ (r : Phase). IsTrue (lets_in (phase_gate r) k)) is h

-- ---- faults

module _ (limits : Limits) (channel : ℕ) (before : Received) where
  -- what is against what a frame carries is against the frame
  pub refuses : (f : Frame) (c : Content) (e : EndFault) → content f ≡ c → IsRefusalFor (IsRefused limits channel before c) e
      → IsRefusalFor (IsRefused limits channel before (content f)) e
  refuses f c e is h = subst (λ (d : Content). IsRefusalFor (IsRefused limits channel before d) e) (sym is) h

  pub refuses_hello : (body : List ℕ) (e : EndFault) → JudgesHello limits body (Err e)
      → IsRefusalFor (IsRefused limits channel before (Greets (hello_in body))) e
  refuses_hello body (Refused code) h = h channel before
  refuses_hello body (Peer code) h = h
  refuses_hello body OutOfMemory h = tt
  refuses_hello body Closed h = h

-- ---- frames

module _ (r : ServerRules) (before : Received) (f : Frame) (bound : ℕ) (bound_is : bound ≡ bound_after r.limits before) where
  -- on an open channel, or by which it opens
  pub running_judged : (run : Running) (c : Content) (answer : Result (Option Event) EndFault) → content f ≡ c → (after before c).hello ≡ before.hello
      → Judges r.limits r.channel before c answer run → JudgesFrame r before (content f) (Open run) bound answer
  running_judged run c (Ok e) is hello j = subst (λ (d : Content). JudgesFrame r before d (Open run) bound (Ok e)) (sym is) (record {
    takes = j.0;
    goes = subst (λ (b : Bool). PhaseBehindFrame b r.limits (Open run) (after before c)) (sym j.1.goes_on) j.1;
    bound_is = bound_is ∙ ap (bound_behind r.limits) (sym hello);
  })
  running_judged run c (Err fault) is hello j = refuses r.limits r.channel before f c fault is j

  pub clo_taken : (chunk : Chunk) → f.kind ≡ Clo → chunk_in f ≡ Some chunk → JudgesClose r.limits r.channel before (Closes chunk) (Ok tt)
      → JudgesFrame r before (content f) Done bound (Ok (Some event.Closed))
  clo_taken chunk is found j = subst (λ (c : Content). JudgesFrame r before c Done bound (Ok (Some event.Closed))) (sym (content_clo f chunk is found))
      (record { takes = record { accepted = j; tells = refl; parts = tt }; goes = refl; bound_is = bound_is })

abbrev with_hello : Option Hello → Received
with_hello hello = record nothing_received { hello = hello }

-- the HEL
pub hel_taken : (r : ServerRules) (before : Received) (f : Frame) (bound : ℕ) (a : Agreement) → f.kind ≡ Hel → before ≡ nothing_received
    → bound ≡ a.ack.receive_buffer_size + 4 * r.limits.max_message_size → AgreesTo r.limits f.body a
    → JudgesFrame r before (content f) (Greeted a) bound (Ok (Some (event.Agreed a)))
hel_taken r before f bound a is none bound_is agrees =
    let received : after before (Greets (hello_in f.body)) ≡ with_hello (Some agrees.hello) = ap (λ (b : Received). after b (Greets (hello_in f.body))) none
    ∙ ap with_hello (ap (or_before None) agrees.reads) in
    let greeted : HasGreeted r.limits a (with_hello (Some agrees.hello)) =
    record { hello = agrees.hello; before_is = refl; agreement_is = agrees.agreement_is; large = agrees.large } in
    subst (λ (c : Content). JudgesFrame r before c (Greeted a) bound (Ok (Some (event.Agreed a)))) (sym (content_hel f is)) (record {
      takes = record {
        accepted = agrees.accepted r.channel before;
        tells = ap (λ (o : Option Hello). server_tells r.limits before (Greets o)) agrees.reads
            ∙ ap (λ (x : Agreement). told.Agreed x ∷ []) (sym agrees.agreement_is);
        parts = tt;
      };
      goes = subst (λ (b : Received). PhaseBehindFrame b.closed r.limits (Greeted a) b) (sym received) greeted;
      bound_is = bound_is ∙ (ap (λ (x : Agreement). x.ack.receive_buffer_size + 4 * r.limits.max_message_size) agrees.agreement_is
          ∙ ap (bound_after r.limits) (sym received));
    })

-- ---- any frame

open_before : (limits : Limits) (p : Phase) (before : Received) → InServerPhase limits p before → before.closed ≡ false
open_before limits Waiting before h = ap (λ (b : Received). b.closed) h
open_before limits (Greeted a) before h = ap (λ (b : Received). b.closed) h.before_is
open_before limits (Open r) before h = h.goes_on
open_before limits Done before h = absurd h

-- it is the last if it is a CLO
last_is : (limits : Limits) (before : Received) (c : Content) (e : Option Event) → server_tells limits before c ≡ told_list e → before.closed ≡ false
    → (after before c).closed ≡ closes_by server_side e
last_is limits before c None tells goes = silent_open limits before c tells goes
last_is limits before c (Some (event.Agreed a)) tells goes = telling_open limits before c (server_told_of_event (event.Agreed a)) tells (λ z. absurd cc) goes
last_is limits before c (Some (event.Opened id handle token lifetime)) tells goes =
    telling_open limits before c (server_told_of_event (event.Opened id handle token lifetime)) tells (λ z. absurd cc) goes
last_is limits before c (Some (event.Asked id token message)) tells goes = telling_open limits before c (server_told_of_event (event.Asked id token message))
    tells
    (λ z. absurd cc) goes
last_is limits before c (Some (event.Aborted id)) tells goes = telling_open limits before c (server_told_of_event (event.Aborted id)) tells
    (λ z. absurd cc) goes
last_is limits before c (Some event.Closed) tells goes = closing limits before c tells

list_is : (e : Option Event) → told_list e ≡ told_if server_side e
list_is None = refl
list_is (Some e) = refl

parts_are : (cs : List Chunk) (c : Content) (e : Option Event) → MayEndIn cs c (parts_of_event e) → MayEndIn cs c (parts_by server_side e)
parts_are cs c None h = tt
parts_are cs c (Some e) h = h

module _ (r : ServerRules) (frames : List Frame) (f : Frame) (p : Phase) (bound : ℕ) where
  behind_is : (b : Bool) → PhaseBehindFrame b r.limits p (after (received frames) (content f)) → IsBehind server_side b r tt p (frames ++ f ∷ [])
  behind_is false h = subst (InServerPhase r.limits p) (sym (received-push frames f)) h
  behind_is true h = h

  taken_so : (e : Option Event) → (received frames).closed ≡ false → ServerTakesFrame r (received frames) (content f) p bound e
      → TakenBy server_side r tt frames f p bound e
  taken_so e goes t =
      let last = last_is r.limits (received frames) (content f) e t.takes.tells goes in
      record {
        accepted = t.takes.accepted;
        tells = t.takes.tells ∙ list_is e;
        last = ap (λ (b : Received). b.closed) (received-push frames f) ∙ last;
        parts = parts_are (received frames).messages (content f) e t.takes.parts;
        behind = behind_is (closes_by server_side e) (subst (λ (b : Bool). PhaseBehindFrame b r.limits p (after (received frames) (content f))) last t.goes);
        bound_is = t.bound_is ∙ ap (bound_after r.limits) (sym (received-push frames f));
      }

  judged_so : (answer : Result (Option Event) EndFault) → (received frames).closed ≡ false → JudgesFrame r (received frames) (content f) p bound answer
      → JudgesNext server_side r tt frames f p bound answer
  judged_so (Ok e) goes j = taken_so e goes j
  judged_so (Err (Refused code)) goes j = j
  judged_so (Err (Peer code)) goes j = j
  judged_so (Err OutOfMemory) goes j = j
  judged_so (Err Closed) goes j = j

-- what is made of one that comes next
pub judged : (r : ServerRules) (old p : Phase) (was bound : ℕ) (f : Frame) (answer : Result (Option Event) EndFault)
    → ((before : Received) → InServerPhase r.limits old before → was ≡ bound_after r.limits before → IsTrue (lets_in (phase_gate old) f.kind)
    → JudgesFrame r before (content f) p bound answer)
    → (k : Unit {0}) (frames : List Frame) → ComesNext server_side r k old was frames f → JudgesNext server_side r k frames f p bound answer
judged r old p was bound f answer judges k frames next =
    let here : IsTrue (lets_in (phase_gate old) f.kind) =
    subst (λ (g : Gate). IsTrue (lets_in g f.kind)) (sym (gate_is r.limits old (received frames) next.holds)) next.let_in.kind in
    judged_so r frames f p bound answer (open_before r.limits old (received frames) next.holds) (judges (received frames) next.holds next.bound_is here)
