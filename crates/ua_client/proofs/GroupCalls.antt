-- What becomes of groups of calls.
use Rattle.std.specs.Prelude.{◌≡◌, ℕ, ◌+◌, ◌-◌, ◌≤◌, ◌<◌, Bool, true, false, cond, is_none, OnOk, OnErr}
use Rattle.std.specs.Prelude.{List, [], ◌∷◌, ◌++◌, length, take, Option, Some, None, Result, Ok, Err}
use Rattle.std.proofs.Common.{refl, sym, ◌∙◌, ap, subst, inl, inr, append-nil, arith, zero, suc, add-zero}
use Rattle.std.proofs.lemmas.List.{length-append}
use Rattle.std.specs.List.{list_any}
use Rattle.ua_builtin.specs.Reasons.{or_else}
use Rattle.ua_frame.specs.declared.frame.Frame.{Frame}
use Rattle.ua_services.specs.Request.{request}
use Rattle.ua_services.specs.declared.request.Request.{Request}
use Rattle.ua_channel.specs.Asks.{Placed, asked_in, next_id}
use Rattle.ua_channel.specs.Client.{ClientGoes, ClientStands, SameClient, ask_refusal, phase_of, client_next}
use Rattle.ua_channel.specs.ClientTold.{ClientTold}
use Rattle.ua_channel.specs.Line.{Traffic, IfTrafficKnown, one_more}
use Rattle.ua_channel.specs.Received.{Received, received}
use Rattle.ua_channel.specs.declared.client.channel.ClientChannel.{ClientChannel}
use Rattle.ua_channel.specs.declared.client.fault.AskFault.{AskFault}
use Rattle.ua_channel.specs.declared.client.fault.AskFault.TheVariants as ask_fault
use Rattle.ua_channel.specs.declared.client.phase.Phase.{Phase}
use Rattle.ua_client.specs.ClientPlace.{ClientPlace, StandsAt, id_at, lane_behind}
use Rattle.ua_client.specs.Calls.{asked_at, sent_at, refusal_at, AreUntold, Collects, CollectsAfter, BreaksAt, IsSentAt}
use Rattle.ua_client.specs.Carried.{Carries, WritesFront}
use Rattle.ua_client.specs.Hearing.{channel_of_connection, untaken_of, MovesConnection, StopsByTraffic, is_line_fault}
use Rattle.ua_client.specs.Kept.{CallsGroup, IsGroupRefusedFor, KeepsRepliesAt, naming_request}
use Rattle.ua_client.specs.Renewing.{IsIdle}
use Rattle.ua_client.specs.Replies.{front_of}
use Rattle.ua_client.specs.Told.{told_of}
use Rattle.ua_client.specs.Sent.{calls_octets, numbers_behind, bodies_of, of_ask, refusal_by, request_refusal, group_refusal, AnswersBy, AsksFrom, RefusesBy}
use Rattle.ua_client.specs.declared.connection.Connection.{Connection}
use Rattle.ua_client.specs.declared.fault.CallsFault.{CallsFault}
use Rattle.ua_client.specs.declared.fault.ClientFault.{ClientFault}
use Rattle.ua_client.specs.declared.fault.ClientFault.TheVariants as fault
use Rattle.ua_client.specs.declared.reply.Reply.{Reply}
use Rattle.ua_client.proofs.Carrying.{carried-nothing, carried-then, carried-as, sends-front}
use Rattle.ua_client.proofs.Hearings.{moves-from, moves-writing}
use Rattle.ua_client.proofs.Fronts.{front-all, front-fewer, front-untold, front-whole}
use Rattle.ua_client.proofs.Incoming.{told-whole}
use Rattle.ua_client.proofs.Judging.{group-judged, is_reason, refused-for}

-- ---- refusals to ask

-- the faults of a refusal to ask
abbrev pub is_asking_fault : ClientFault → Bool
is_asking_fault fault.TooLarge = true
is_asking_fault fault.NotWritable = true
is_asking_fault fault.Exhausted = true
is_asking_fault fault.Closed = true
is_asking_fault other = false

by-ask : (o : Option AskFault) (x : ClientFault) → of_ask o ≡ Some x → is_asking_fault x ≡ true
by-ask None x e = absurd cc
by-ask (Some ask_fault.Exhausted) x e = ap taken (sym e)
  where
    taken : Option ClientFault → Bool
    taken None = true
    taken (Some y) = is_asking_fault y
by-ask (Some ask_fault.RequestTooLarge) x e = ap taken (sym e)
  where
    taken : Option ClientFault → Bool
    taken None = true
    taken (Some y) = is_asking_fault y
by-ask (Some ask_fault.NotOpen) x e = ap taken (sym e)
  where
    taken : Option ClientFault → Bool
    taken None = true
    taken (Some y) = is_asking_fault y
by-ask (Some ask_fault.TooManyPending) x e = ap taken (sym e)
  where
    taken : Option ClientFault → Bool
    taken None = true
    taken (Some y) = is_asking_fault y
by-ask (Some ask_fault.RenewPending) x e = ap taken (sym e)
  where
    taken : Option ClientFault → Bool
    taken None = true
    taken (Some y) = is_asking_fault y
by-ask (Some ask_fault.TooManyTokens) x e = ap taken (sym e)
  where
    taken : Option ClientFault → Bool
    taken None = true
    taken (Some y) = is_asking_fault y
by-ask (Some ask_fault.OutOfMemory) x e = ap taken (sym e)
  where
    taken : Option ClientFault → Bool
    taken None = true
    taken (Some y) = is_asking_fault y

by-request : (b : Bool) (phase : Phase) (more : ℕ) (body : List ℕ) (x : ClientFault) → refusal_by b phase more body ≡ Some x → is_asking_fault x ≡ true
by-request true phase more body x e = by-ask (ask_refusal phase more body) x e
by-request false phase more body x e = ap taken (sym e)
  where
    taken : Option ClientFault → Bool
    taken None = true
    taken (Some y) = is_asking_fault y

by-either : (a b : Option ClientFault) (x : ClientFault) → ((y : ClientFault) → a ≡ Some y → is_asking_fault y ≡ true) → (b ≡ Some x → is_asking_fault x ≡ true)
    → or_else a b ≡ Some x → is_asking_fault x ≡ true
by-either None b x h k e = k e
by-either (Some y) b x h k e = h x e

pub by-group : (phase : Phase) (more : ℕ) (requests : List Request) (x : ClientFault) → group_refusal phase more requests ≡ Some x → is_asking_fault x ≡ true
by-group phase more [] x e = absurd cc
by-group phase more (m ∷ ms) x e =
    by-either (request_refusal phase more m) (group_refusal phase (more + 1) ms) x
    (λ y f. by-request (request.encodable m) phase more (request.canonical m) y f) (by-group phase (more + 1) ms x) e

-- ---- a group

untold-from : (requests : List Request) (id : ℕ) (told : List ClientTold) → ((n : ℕ) → told_of (id + n) told ≡ []) → AreUntold requests id told
untold-from [] id told h = tt
untold-from (r ∷ rs) id told h = (
  subst (λ (k : ℕ). told_of k told ≡ []) (add-zero id) (h 0),
  untold-from rs (id + 1) told (λ n. subst (λ (k : ℕ). told_of k told ≡ []) (on id n) (h (suc n))),
)
  where
    on : (a b : ℕ) → a + suc b ≡ (a + 1) + b
    on a b = omega arith

-- the law of what is told of calls that are not asked yet
abbrev pub ToldBehind : Type 0
ToldBehind = (x : ClientChannel) (asks : List Placed) (octets : List ℕ) (told : List ClientTold) (n : ℕ) → ClientGoes x asks octets told
    → told_of (next_id (asked_in asks) + n) told ≡ []

-- nothing moved
abbrev pub moves-nothing : (x y : Connection) (t : Option Traffic) → untaken_of y ≡ untaken_of x → MovesConnection x y [] t t
moves-nothing x y t same = moves-writing x y [] t t same (carried-nothing t)

-- ---- which requests are refused

few-taken : (n : ℕ) (ms : List Request) → length (take n ms) ≤ length ms
few-taken zero ms = omega arith
few-taken (suc n) [] = omega arith
few-taken (suc n) (m ∷ ms) = let h = few-taken n ms in omega (arith, h)

-- before anything is asked
pub group-refused : {A : Type 0} → (requests : List Request) → length requests ≤ 64
    → (x : Connection) (t : Option Traffic) (reads : ℕ) (c : CallsFault) (replies : List Reply)
    → AnswersBy {A = Unit {0}} (group_refusal (phase_of (channel_of_connection x)) 0 requests) (Err c.fault)
    → RefusesBy (phase_of (channel_of_connection x)) requests c.request c.fault
    → CallsGroup {A = A} requests x x t t reads reads (Err c) replies replies
group-refused {A} requests few x t reads c replies h place = record {
  sent = [];
  moves = moves-nothing x x t refl;
  same = record { limits = refl; url = refl };
  added = [];
  have_is = sym (append-nil replies);
  answers = λ s at idle. (breaks c.fault h s at (group-judged (channel_of_connection x) requests few s at idle), keeps c.fault c.request h place s at idle);
  stops = stops c.fault h;
}
  where
    refused : (y : ClientFault) (n : ℕ) (s : ClientPlace) → StandsAt (channel_of_connection x) s → IsIdle (channel_of_connection x) s
        → (group_refusal (phase_of (channel_of_connection x)) 0 (take n requests) ≡ None)
        × (group_refusal (phase_of (channel_of_connection x)) 0 (take (n + 1) requests) ≡ Some y)
        → IsGroupRefusedFor requests s y n
    refused y n s at idle k =
        let before = few-taken n requests in
        let with = few-taken (n + 1) requests in (
          sym (group-judged (channel_of_connection x) (take n requests) (omega (arith, before, few)) s at idle) ∙ k.0,
          sym (group-judged (channel_of_connection x) (take (n + 1) requests) (omega (arith, with, few)) s at idle) ∙ k.1,
        )

    breaks : (y : ClientFault) → AnswersBy {A = Unit {0}} (group_refusal (phase_of (channel_of_connection x)) 0 requests) (Err y) → (s : ClientPlace)
        → StandsAt (channel_of_connection x) s
        → group_refusal (phase_of (channel_of_connection x)) 0 requests ≡ refusal_at s requests → BreaksAt requests s x [] [] y
    breaks fault.TooLarge e s at there = (refl, refl, at, sym there ∙ e)
    breaks fault.NotWritable e s at there = (refl, refl, at, sym there ∙ e)
    breaks fault.Exhausted e s at there = (refl, refl, at, sym there ∙ e)
    breaks fault.Closed e s at there = let no : is_reason fault.Closed ≡ true = refused-for s requests fault.Closed (sym there ∙ e) in absurd cc
    breaks fault.OutOfMemory e s at there = inl (refl, refl)
    breaks fault.Read e s at there = let no : is_asking_fault fault.Read ≡ true =
        by-group (phase_of (channel_of_connection x)) 0 requests fault.Read e in absurd cc
    breaks fault.Write e s at there = let no : is_asking_fault fault.Write ≡ true =
        by-group (phase_of (channel_of_connection x)) 0 requests fault.Write e in absurd cc
    breaks fault.Ended e s at there = let no : is_asking_fault fault.Ended ≡ true =
        by-group (phase_of (channel_of_connection x)) 0 requests fault.Ended e in absurd cc
    breaks (fault.Peer code) e s at there = let no : is_asking_fault (fault.Peer code) ≡ true =
        by-group (phase_of (channel_of_connection x)) 0 requests (fault.Peer code) e in absurd cc
    breaks (fault.Refused code) e s at there = let no : is_asking_fault (fault.Refused code) ≡ true =
        by-group (phase_of (channel_of_connection x)) 0 requests (fault.Refused code) e in absurd cc
    breaks fault.UnknownResponse e s at there = let no : is_asking_fault fault.UnknownResponse ≡ true =
        by-group (phase_of (channel_of_connection x)) 0 requests fault.UnknownResponse e in absurd cc
    breaks (fault.Service code) e s at there = let no : is_asking_fault (fault.Service code) ≡ true =
        by-group (phase_of (channel_of_connection x)) 0 requests (fault.Service code) e in absurd cc
    breaks fault.TooLong e s at there = let no : is_asking_fault fault.TooLong ≡ true =
        by-group (phase_of (channel_of_connection x)) 0 requests fault.TooLong e in absurd cc
    breaks fault.TooManyTokens e s at there = let no : is_asking_fault fault.TooManyTokens ≡ true =
        by-group (phase_of (channel_of_connection x)) 0 requests fault.TooManyTokens e in absurd cc

    keeps : (y : ClientFault) (n : ℕ) → AnswersBy {A = Unit {0}} (group_refusal (phase_of (channel_of_connection x)) 0 requests) (Err y)
        → RefusesBy (phase_of (channel_of_connection x)) requests n y → (s : ClientPlace) → StandsAt (channel_of_connection x) s
        → IsIdle (channel_of_connection x) s
        → KeepsRepliesAt requests s x [] y n []
    keeps fault.TooLarge n e k s at idle = (refused fault.TooLarge n s at idle k, refl)
    keeps fault.NotWritable n e k s at idle = (refused fault.NotWritable n s at idle k, refl)
    keeps fault.Exhausted n e k s at idle = (refused fault.Exhausted n s at idle k, refl)
    keeps fault.Closed n e k s at idle = let no : is_reason fault.Closed ≡ true =
        refused-for s requests fault.Closed (sym (group-judged (channel_of_connection x) requests few s at idle) ∙ e) in absurd cc
    keeps fault.OutOfMemory n e k s at idle = (k, inl (refl, refl))
    keeps fault.Read n e k s at idle = let no : is_asking_fault fault.Read ≡ true =
        by-group (phase_of (channel_of_connection x)) 0 requests fault.Read e in absurd cc
    keeps fault.Write n e k s at idle = let no : is_asking_fault fault.Write ≡ true =
        by-group (phase_of (channel_of_connection x)) 0 requests fault.Write e in absurd cc
    keeps fault.Ended n e k s at idle = let no : is_asking_fault fault.Ended ≡ true =
        by-group (phase_of (channel_of_connection x)) 0 requests fault.Ended e in absurd cc
    keeps (fault.Peer code) n e k s at idle = let no : is_asking_fault (fault.Peer code) ≡ true =
        by-group (phase_of (channel_of_connection x)) 0 requests (fault.Peer code) e in absurd cc
    keeps (fault.Refused code) n e k s at idle = let no : is_asking_fault (fault.Refused code) ≡ true =
        by-group (phase_of (channel_of_connection x)) 0 requests (fault.Refused code) e in absurd cc
    keeps fault.UnknownResponse n e k s at idle = let no : is_asking_fault fault.UnknownResponse ≡ true =
        by-group (phase_of (channel_of_connection x)) 0 requests fault.UnknownResponse e in absurd cc
    keeps (fault.Service code) n e k s at idle = let no : is_asking_fault (fault.Service code) ≡ true =
        by-group (phase_of (channel_of_connection x)) 0 requests (fault.Service code) e in absurd cc
    keeps fault.TooLong n e k s at idle = let no : is_asking_fault fault.TooLong ≡ true =
        by-group (phase_of (channel_of_connection x)) 0 requests fault.TooLong e in absurd cc
    keeps fault.TooManyTokens n e k s at idle = let no : is_asking_fault fault.TooManyTokens ≡ true =
        by-group (phase_of (channel_of_connection x)) 0 requests fault.TooManyTokens e in absurd cc

    stops : (y : ClientFault) → AnswersBy {A = Unit {0}} (group_refusal (phase_of (channel_of_connection x)) 0 requests) (Err y)
        → StopsByTraffic {A = A} reads reads [] x t (Err y)
    stops fault.TooLarge e = tt
    stops fault.NotWritable e = tt
    stops fault.Exhausted e = tt
    stops fault.Closed e = tt
    stops fault.OutOfMemory e = tt
    stops fault.Read e = let no : is_asking_fault fault.Read ≡ true = by-group (phase_of (channel_of_connection x)) 0 requests fault.Read e in absurd cc
    stops fault.Write e = tt
    stops fault.Ended e = let no : is_asking_fault fault.Ended ≡ true = by-group (phase_of (channel_of_connection x)) 0 requests fault.Ended e in absurd cc
    stops (fault.Peer code) e = tt
    stops (fault.Refused code) e = tt
    stops fault.UnknownResponse e = tt
    stops (fault.Service code) e = tt
    stops fault.TooLong e = let no : is_asking_fault fault.TooLong ≡ true = by-group (phase_of (channel_of_connection x)) 0 requests fault.TooLong e in absurd
        cc
    stops fault.TooManyTokens e = tt

-- a refusal to ask is no fault of the line
pub refused-failures : (requests : List Request) (phase : Phase) (x : ClientFault) → AnswersBy {A = Unit {0}} (group_refusal phase 0 requests) (Err x) → (n : ℕ)
    → cond (is_line_fault x) (one_more n) n ≡ n
refused-failures requests phase fault.Read e n = let no : is_asking_fault fault.Read ≡ true = by-group phase 0 requests fault.Read e in absurd cc
refused-failures requests phase fault.Write e n = let no : is_asking_fault fault.Write ≡ true = by-group phase 0 requests fault.Write e in absurd cc
refused-failures requests phase fault.Ended e n = refl
refused-failures requests phase (fault.Peer code) e n = refl
refused-failures requests phase (fault.Refused code) e n = refl
refused-failures requests phase fault.UnknownResponse e n = refl
refused-failures requests phase (fault.Service code) e n = refl
refused-failures requests phase fault.TooLarge e n = refl
refused-failures requests phase fault.NotWritable e n = refl
refused-failures requests phase fault.Exhausted e n = refl
refused-failures requests phase fault.Closed e n = refl
refused-failures requests phase fault.TooManyTokens e n = refl
refused-failures requests phase fault.OutOfMemory e n = refl
refused-failures requests phase fault.TooLong e n = refl

-- so many more replies are those that are kept
added-count : (had have kept : List Reply) → have ≡ had ++ kept → length have - length had ≡ length kept
added-count had have kept e = let n = ap length e in let m = length-append had kept in omega (arith, n, m)

-- a fault of a group names the first of its requests whose reply is not kept
abbrev pub first_unkept : ClientFault → List Reply → List Reply → CallsFault
first_unkept f had have = record { request = length have - length had; fault = f }

-- no memory to ask
pub group-unasked : {A : Type 0} (requests : List Request) (old new : Connection) (t : Option Traffic) (reads : ℕ) (had have : List Reply) (f : ClientFault)
    → have ≡ had → untaken_of new ≡ untaken_of old → SameClient (channel_of_connection old) (channel_of_connection new) → f ≡ fault.OutOfMemory
    → CallsGroup {A = A} requests old new t t reads reads (Err (first_unkept f had have)) had have
group-unasked {A} requests old new t reads had have f none piece same e =
    subst (λ (x : ClientFault). CallsGroup {A = A} requests old new t t reads reads (Err (first_unkept x had have)) had have) (sym e) (record {
      sent = [];
      moves = moves-nothing old new t piece;
      same = same;
      added = [];
      have_is = none ∙ sym (append-nil had);
      answers = λ s at idle. (inl (refl, refl), (added-count had have [] (none ∙ sym (append-nil had)), inl (refl, refl)));
      stops = tt;
    })

-- nothing was against a group that a channel would ask
pub none-refused : (requests : List Request) → length requests ≤ 64 → (x : ClientChannel) → group_refusal (phase_of x) 0 requests ≡ None → (s : ClientPlace)
    → StandsAt x s → IsIdle x s → refusal_at s requests ≡ None
none-refused requests few x none s at idle = sym (group-judged x requests few s at idle) ∙ none

-- these requests were asked: the channel then, the request id of the first, and what is to be sent
pub record IsAsked (requests : List Request) (old mid : Connection) (first : ℕ) (out : List ℕ) : Type 0 where
  pub bodies : List (List ℕ)
  pub bodies_are : bodies ≡ bodies_of requests
  pub judged : (s : ClientPlace) → StandsAt (channel_of_connection old) s → IsIdle (channel_of_connection old) s → refusal_at s requests ≡ None
  pub piece : untaken_of mid ≡ untaken_of old
  pub same : SameClient (channel_of_connection old) (channel_of_connection mid)
  pub some : 0 < length requests
  pub asks : (xs : List Placed) (os : List ℕ) (fs : List Frame) (r : List ℕ) → ClientStands (channel_of_connection old) xs os fs r
      → AsksFrom bodies (channel_of_connection old) (channel_of_connection mid) xs os fs r (first, out)

module _ (requests : List Request) (old mid : Connection) (first : ℕ) (out : List ℕ) (q : IsAsked requests old mid first out) where
  module _ (s : ClientPlace) (at : StandsAt (channel_of_connection old) s) where
    asked : AsksFrom (bodies_of requests) (channel_of_connection old) (channel_of_connection mid) s.asks s.octets at.goes.frames at.goes.rest (first, out)
    asked = subst (λ (bs : List (List ℕ)). AsksFrom bs (channel_of_connection old) (channel_of_connection mid) s.asks s.octets at.goes.frames at.goes.rest
        (first, out)) q.bodies_are
        (q.asks s.asks s.octets at.goes.frames at.goes.rest at.goes.stands)

    goes-asked : ClientGoes (channel_of_connection mid) (asked_at s requests) s.octets s.told
    goes-asked = record { frames = at.goes.frames; rest = at.goes.rest; stands = asked.1.stands; told_is = at.goes.told_is }

    sent-asked : out ≡ sent_at s requests
    sent-asked =
        asked.1.out_is
        ∙ (ap (λ (b : Received). calls_octets (lane_behind b) (client_next (channel_of_connection old)) (id_at s) (bodies_of requests)) at.before_is
        ∙ ap (λ (n : ℕ). calls_octets (lane_behind s.before) n (id_at s) (bodies_of requests)) at.number_is)

    next-asked : client_next (channel_of_connection mid) ≡ numbers_behind (lane_behind s.before) s.number (bodies_of requests)
    next-asked =
        asked.1.next_is
        ∙ (ap (λ (b : Received). numbers_behind (lane_behind b) (client_next (channel_of_connection old)) (bodies_of requests)) at.before_is
        ∙ ap (λ (n : ℕ). numbers_behind (lane_behind s.before) n (bodies_of requests)) at.number_is)

    length-bodies : length (bodies_of requests) ≡ length requests
    length-bodies = counted requests
      where
        counted : (ms : List Request) → length (bodies_of ms) ≡ length ms
        counted [] = refl
        counted (m ∷ ms) = ap suc (counted ms)

    first-asked : first ≡ id_at s
    first-asked = let n = length-bodies in asked.0 (let some = q.some in omega (arith, n, some))

    untold-asked : ToldBehind → AreUntold requests first s.told
    untold-asked law = subst (λ (n : ℕ). AreUntold requests n s.told) (sym first-asked)
        (untold-from requests (id_at s) s.told (λ n. law (channel_of_connection old) s.asks s.octets s.told n at.goes))

  -- a write that failed
  pub group-unwritten : {A : Type 0} (before after : Option Traffic) (reads : ℕ) (had have : List Reply) → have ≡ had → 0 < length out
      → IfTrafficKnown (WritesFront out) before after
      → CallsGroup {A = A} requests old mid before after reads reads (Err (first_unkept fault.Write had have)) had have
  group-unwritten before after reads had have none some h =
      let front = sends-front out before after h in
      let kept : have ≡ had ++ [] = none ∙ sym (append-nil had) in
      record {
        sent = front.0;
        moves = moves-writing old mid front.0 before after q.piece front.2;
        same = q.same;
        added = [];
        have_is = kept;
        answers = λ s at idle. (
          (
            q.judged s at idle,
            record { more = front.1.more; parts = sym (sent-asked s at) ∙ front.1.parts },
            refl,
            subst (λ (o : List ℕ). length front.0 < length o) (sent-asked s at) (front.3 some),
          ),
          (added-count had have [] kept, refl),
        );
        stops = tt;
      }

  module _ (law : ToldBehind) (new : Connection) (before written after : Option Traffic) (reads left : ℕ)
      (w : IfTrafficKnown (Carries [] out) before written) where
    abbrev written-moves : MovesConnection mid new [] written after → MovesConnection old new out before after
    written-moves m =
        moves-from old mid new out [] before written after after q.piece m
        (carried-as m.got (out ++ []) m.got out before after refl (append-nil out) (carried-then [] out m.got [] before written after w m.carried))

    same-then : SameClient (channel_of_connection mid) (channel_of_connection new) → SameClient (channel_of_connection old) (channel_of_connection new)
    same-then k = record { limits = q.same.limits ∙ k.limits; url = q.same.url ∙ k.url }

    module _ (slots : List (Option Reply)) (had have : List Reply) (kept : have ≡ had ++ front_of slots) where
      collected : {A : Type 0} (result : Result A ClientFault) (c : Collects slots requests first mid new written after reads left result) (s : ClientPlace)
          (at : StandsAt (channel_of_connection old) s)
          → CollectsAfter slots requests (id_at s) new after result (asked_at s requests) (s.octets ++ c.moves.taken) s.told
      collected result c s at =
          subst (λ (n : ℕ). CollectsAfter slots requests n new after result (asked_at s requests) (s.octets ++ c.moves.taken) s.told) (first-asked s at)
          (c.answers (asked_at s requests) s.octets s.told (goes-asked s at) (untold-asked s at law))

      -- a reply that does not come, or is none
      pub group-broken : {A B : Type 0} (f : ClientFault) → Collects {A = B} slots requests first mid new written after reads left (Err f)
          → CallsGroup {A = A} requests old new before after reads left (Err (first_unkept f had have)) had have
      group-broken {A} {B} f c = record {
        sent = out;
        moves = written-moves c.moves;
        same = same-then c.keeps.same;
        added = front_of slots;
        have_is = kept;
        answers = λ s at idle.
            let h = collected (Err f) c s at in (
              breaks f s (q.judged s at idle, sent-asked s at) h,
              keeps f s h,
            );
        stops = stops f c.stops;
      }
        where
          count : length have - length had ≡ length (front_of slots)
          count = added-count had have (front_of slots) kept

          breaks : (y : ClientFault) (s : ClientPlace) → IsSentAt requests s out
              → CollectsAfter {A = B} slots requests (id_at s) new after (Err y) (asked_at s requests) (s.octets ++ c.moves.taken) s.told
              → BreaksAt requests s new out c.moves.taken y
          breaks (fault.Peer code) s sent h = (sent, (h.0, h.1, record { slots = slots; slots_are = h.2.0; missing = h.2.1 }))
          breaks (fault.Refused code) s sent h = (sent, (h.0, h.1, record { slots = slots; slots_are = h.2.0; missing = h.2.1 }))
          breaks fault.Ended s sent h = (sent, (h.0, h.1, record { slots = slots; slots_are = h.2.0; missing = h.2.1 }))
          breaks fault.Read s sent h = (sent, (h.0, h.1, record { slots = slots; slots_are = h.2.0; missing = h.2.1 }))
          breaks fault.TooLong s sent h = (sent, (h.0, h.1, record { slots = slots; slots_are = h.2.0; missing = h.2.1 }))
          breaks fault.UnknownResponse s sent h = (sent, (h.0, h.1, h.2.0))
          breaks fault.OutOfMemory s sent h = inr (sent, (h.0, h.1))
          breaks fault.Write s sent h = absurd h
          breaks fault.TooLarge s sent h = absurd h
          breaks fault.NotWritable s sent h = absurd h
          breaks fault.Exhausted s sent h = absurd h
          breaks fault.Closed s sent h = absurd h
          breaks fault.TooManyTokens s sent h = absurd h
          breaks (fault.Service code) s sent h = absurd h

          keeps : (y : ClientFault) (s : ClientPlace) → CollectsAfter {A = B} slots requests (id_at s) new after (Err y) (asked_at s requests)
              (s.octets ++ c.moves.taken) s.told
              → KeepsRepliesAt requests s new c.moves.taken y (length have - length had) (front_of slots)
          keeps (fault.Peer code) s h = (count, (h.0, h.1, front-untold requests (id_at s) (s.told ++ h.0) slots h.2.0 h.2.1))
          keeps (fault.Refused code) s h = (count, (h.0, h.1, front-untold requests (id_at s) (s.told ++ h.0) slots h.2.0 h.2.1))
          keeps fault.Ended s h = (count, (h.0, h.1, front-untold requests (id_at s) (s.told ++ h.0) slots h.2.0 h.2.1))
          keeps fault.Read s h = (count, (h.0, h.1, front-untold requests (id_at s) (s.told ++ h.0) slots h.2.0 h.2.1))
          keeps fault.TooLong s h = (count, (h.0, h.1, front-untold requests (id_at s) (s.told ++ h.0) slots h.2.0 h.2.1))
          keeps fault.UnknownResponse s h = (count, (h.0, h.1, h.2.1))
          keeps fault.OutOfMemory s h = (count, inr h)
          keeps fault.Write s h = absurd h
          keeps fault.TooLarge s h = absurd h
          keeps fault.NotWritable s h = absurd h
          keeps fault.Exhausted s h = absurd h
          keeps fault.Closed s h = absurd h
          keeps fault.TooManyTokens s h = absurd h
          keeps (fault.Service code) s h = absurd h

          stops : (y : ClientFault) → StopsByTraffic {A = B} reads left c.moves.got new after (Err y)
              → StopsByTraffic {A = A} reads left c.moves.got new after (Err y)
          stops (fault.Peer code) h = h
          stops (fault.Refused code) h = h
          stops fault.Ended h = h
          stops fault.Read h = h
          stops fault.TooLong h = h
          stops fault.UnknownResponse h = h
          stops fault.OutOfMemory h = h
          stops fault.Write h = h
          stops fault.TooLarge h = h
          stops fault.NotWritable h = h
          stops fault.Exhausted h = h
          stops fault.Closed h = h
          stops fault.TooManyTokens h = h
          stops (fault.Service code) h = h

      -- all replies came
      pub group-answered : {A : Type 0} (done : A) → Collects slots requests first mid new written after reads left (Ok done)
          → CallsGroup requests old new before after reads left (Ok done) had have
      group-answered done c = record {
        sent = out;
        moves = written-moves c.moves;
        same = same-then c.keeps.same;
        added = front_of slots;
        have_is = kept;
        answers = λ s at idle.
            let h = collected (Ok done) c s at in (
              sent-asked s at,
              (
                record {
                  asks = asked_at s requests;
                  octets = s.octets ++ c.moves.taken;
                  before = received h.1.frames;
                  told = s.told ++ h.0;
                  number = client_next (channel_of_connection new);
                },
                record { goes = h.1; before_is = refl; number_is = refl },
                h.2.2,
                record {
                  judged = q.judged s at idle;
                  asks = refl;
                  octets = refl;
                  whole = told-whole (channel_of_connection new) (asked_at s requests) (s.octets ++ c.moves.taken) h.2.2.before h.2.2.last h.2.2.tells;
                  heard = h.0;
                  told = refl;
                  number = c.keeps.next ∙ next-asked s at;
                  replies_are = front-all requests (id_at s) (s.told ++ h.0) slots h.2.0 h.2.1;
                },
              ),
            );
        stops = c.stops;
      }

      -- the replies that came are kept
      pub group-kept : (result : Result (Unit {0}) ClientFault) → Collects slots requests first mid new written after reads left result
          → CallsGroup requests old new before after reads left (naming_request (length have - length had) result) had have
      group-kept (Ok done) c = group-answered done c
      group-kept (Err f) c = group-broken f c

-- so many replies more
pub kept-count : (result : Result (Unit {0}) ClientFault) (had have : List Reply) (slots : List (Option Reply)) (n : ℕ) → have ≡ had ++ front_of slots
    → OnOk result (list_any is_none slots ≡ false) → length slots ≡ n
    → OnOk result (length have ≡ length had + n)
kept-count (Ok done) had have slots n kept none count = ap length kept
    ∙ (length-append had (front_of slots) ∙ ap (λ (k : ℕ). length had + k) (front-whole slots none ∙ count))
kept-count (Err f) had have slots n kept none count = tt

-- and fewer where one is missing
pub kept-fewer : (result : Result (Unit {0}) ClientFault) (had have : List Reply) (slots : List (Option Reply)) (n : ℕ) → have ≡ had ++ front_of slots
    → OnErr result (list_any is_none slots ≡ true) → length slots ≡ n
    → OnErr result (length have < length had + n)
kept-fewer (Ok done) had have slots n kept missing count = tt
kept-fewer (Err f) had have slots n kept missing count = let l = ap length kept in let m = length-append had (front_of slots) in let fewer =
    front-fewer slots missing in omega (arith, l, m, fewer, count)

pub kept-more : (had have : List Reply) (slots : List (Option Reply)) → have ≡ had ++ front_of slots → length had ≤ length have
kept-more had have slots kept = let l = ap length kept in let m = length-append had (front_of slots) in omega (arith, l, m)

pub memory-failures : (x : ClientFault) → x ≡ fault.OutOfMemory → (n : ℕ) → cond (is_line_fault x) (one_more n) n ≡ n
memory-failures x e n = ap (λ (y : ClientFault). cond (is_line_fault y) (one_more n) n) e
