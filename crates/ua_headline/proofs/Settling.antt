-- That what a client of `ua_client` does over an honest link are turns.
use Rattle.std.proofs.Common.{◌≡◌, ◌⊎◌, ℕ, ◌+◌, ◌<◌, ◌≤◌, ◌^◌, Bool, true, false, not, leb, List, [], ◌∷◌, ◌++◌, Option, Some}
use Rattle.std.proofs.Common.{None, length, map, refl, sym, ◌∙◌, ap, subst, arith, append_assoc, append-nil, length-append}
use Rattle.std.specs.Prelude.{is_none}
use Rattle.std.specs.List.{list_any}
use Rattle.std.proofs.lemmas.Bool.{lt-leb, not-false}
use Rattle.std.proofs.lemmas.List.{append_cancel_left, length-map}
use Rattle.ua_builtin.specs.Reasons.{first_reason, or_else}
use Rattle.ua_builtin.specs.declared.date_time.DateTime.{DateTime}
use Rattle.ua_frame.specs.Run.{Going, Rules}
use Rattle.ua_frame.specs.declared.ack.Ack.{Ack}
use Rattle.ua_frame.specs.declared.limits.Limits.{Limits}
use Rattle.ua_frame.proofs.Unique.{unique}
use Rattle.ua_chunk.specs.Sequence.{next_number}
use Rattle.ua_chunk.specs.declared.lane.Lane.{Lane}
use Rattle.ua_chunk.proofs.Lists.{filter_append}
use Rattle.ua_channel.specs.Asks.{Placed, asked_in, next_id}
use Rattle.ua_channel.specs.Client.{ClientGoesTelling, client_limits, client_rules_of}
use Rattle.ua_channel.specs.ClientAsks.{is_too_large, most_pending, most_tokens, no_id}
use Rattle.ua_channel.specs.ClientTable.{client_rules}
use Rattle.ua_channel.specs.ClientTokens.{first_channel, held_tokens, open_responses}
use Rattle.ua_channel.specs.ClientTold.{ClientTold, ClientTold as heard, Why}
use Rattle.ua_channel.specs.Received.{Received, has_some, latest, received}
use Rattle.ua_channel.specs.ServerTold.{Told}
use Rattle.ua_channel.specs.declared.client.channel.ClientChannel.{ClientChannel}
use Rattle.ua_channel.specs.declared.client.fault.AskFault.{AskFault}
use Rattle.ua_channel_laws.specs.Answers.{answers_told}
use Rattle.ua_channel_laws.specs.ClientReads.{AtClient, ClientReads, lane_from, with_call}
use Rattle.ua_channel_laws.specs.Outgoing.Outgoing.{CallWith, RenewalAt}
use Rattle.ua_channel_laws.specs.Outgoing.{AreWritable, Outgoing, asks_at, one_reasons, outgoing_number, outgoing_octets, outgoing_refusal, outgoing_told}
use Rattle.ua_channel_laws.specs.Rounds.{BothEnds, answers_lane, round_behind, round_down, round_up}
use Rattle.ua_channel_laws.proofs.Following.{client_told}
use Rattle.ua_channel_laws.proofs.Groups.{none_parts, numbers_agree}
use Rattle.ua_services.proofs.RequestLawful.{lawful_request}
use Rattle.ua_services.specs.Request.{request}
use Rattle.ua_services.specs.declared.request.Request.{Request}
use Rattle.ua_server.specs.State.{State}
use Rattle.ua_client.specs.ClientPlace.{ClientPlace, StandsAt, id_at, lane_behind, lane_by}
use Rattle.ua_client.specs.Renewing.{is_renewed, renewal_at, renewal_refusal}
use Rattle.ua_client.specs.Replies.{AreReplies, AreSlots}
use Rattle.ua_client.specs.Sent.{bodies_of, group_reasons}
use Rattle.ua_client.specs.Told.{is_told_of, told_of}
use Rattle.ua_client.specs.declared.reply.Reply.{Reply}
use Rattle.ua_headline.specs.Clients.{AreAnswered, Deed, HasRenewed, IsAnsweredAt, IsAskable, asks_with, deed_octets, turn_of}
use Rattle.ua_headline.specs.Clients.Deed.{Calls, Renews}
use Rattle.ua_headline.specs.Talk.{Ends, answers_to, left_by}
use Rattle.ua_headline.proofs.HeardIds.{each_told, last_told}
use Rattle.ua_channel_laws.proofs.Lists.{split_last}
use Rattle.ua_headline.proofs.Steps.{AreHere, here_then, tells_then}
use Rattle.ua_headline.proofs.Tells.{ComesLast, took_just}
use Rattle.ua_headline.proofs.Turning.{turn}

-- ---- where a client stands

-- a client stands between two turns
pub record IsSettledAt (e : Ends) (at : BothEnds) (asks : List Placed) (down : List ℕ) (m : ClientPlace) : Type 0 where
  pub x : ClientChannel
  pub limits_are : client_limits x ≡ e.client
  pub stands : StandsAt x m
  pub asks_are : m.asks ≡ asks
  pub octets_are : m.octets ≡ down
  pub number_is : m.number ≡ at.server.next

module _ (x : ClientChannel) (m : ClientPlace) (c : AtClient) (at : StandsAt x m) (r : ClientReads (client_limits x) m.asks m.octets m.told c) where
  before_is : m.before ≡ received r.frames
  before_is = sym at.before_is
      ∙ ap received (unique (client_rules_of x m.asks) m.octets at.goes.frames r.frames at.goes.rest [] Going Going at.goes.stands.run r.run).frames

  acked_here : m.before.ack ≡ Some c.ack
  acked_here = ap (λ (b : Received). b.ack) before_is ∙ r.ack_is

  tokens_here : held_tokens m.before ≡ c.tokens
  tokens_here = ap held_tokens before_is ∙ r.tokens_are

  lane_here : lane_behind m.before ≡ Some (lane_from c)
  lane_here =
      ap lane_behind before_is
      ∙ (ap (λ (a : Option Ack). lane_by a (first_channel (open_responses (received r.frames).openings)) (latest (held_tokens (received r.frames)))) r.ack_is
      ∙ (ap (λ (n : Option ℕ). lane_by (Some c.ack) n (latest (held_tokens (received r.frames)))) r.channel_is
      ∙ ap (λ (k : Option ℕ). lane_by (Some c.ack) (Some c.channel) k) (ap latest r.tokens_are ∙ r.newest_is)))

-- ---- what it does not refuse

some_octets : (m : Request) (b : List ℕ) → request.encodes m b → 0 < length b
some_octets m [] h = absurd (lawful_request.starts m h)
some_octets m (x ∷ b) h = omega arith

none_three : {A : Type 0} (x y z : A) (p q r : Bool) → p ≡ false → q ≡ false → r ≡ false → first_reason ((x, p) ∷ ((y, q) ∷ ((z, r) ∷ []))) ≡ None
none_three x y z false false false e f g = refl
none_three x y z true q r e f g = absurd cc
none_three x y z false true r e f g = absurd cc
none_three x y z false false true e f g = absurd cc

accepted_calls : (c : AtClient) (id : ℕ) (ms : List Request) → first_reason (group_reasons (Some c.ack) id ms) ≡ None → length c.pending + length ms ≤ 64
    → AreWritable (map CallWith (bodies_of ms)) × (outgoing_refusal c id (map CallWith (bodies_of ms)) ≡ None)
accepted_calls c id [] h few = (tt, refl)
accepted_calls c id (m ∷ ms) h few =
    let one = none_parts (not (request.encodable m)) _ _ h in
    let two = none_parts (leb no_id id) _ _ one.1 in
    let three = none_parts (is_too_large c.ack (request.canonical m)) _ _ two.1 in
    let rest = accepted_calls (with_call c id) (id + 1) ms three.1 (omega (arith, few, length-append c.pending (id ∷ []))) in
    let here : first_reason (one_reasons c id (CallWith (request.canonical m))) ≡ None =
    none_three _ _ _ (leb most_pending (length c.pending)) (leb no_id id) (is_too_large c.ack (request.canonical m))
    (lt-leb most_pending (length c.pending) (omega (arith, few))) two.0 three.0 in (
      (some_octets m (request.canonical m) (lawful_request.canonical_encodes m (not-false (request.encodable m) one.0)), rest.0),
      ap (λ (o : Option AskFault). or_else o (outgoing_refusal (with_call c id) (id + 1) (map CallWith (bodies_of ms)))) here ∙ rest.1,
    )

accepted_renewal : (c : AtClient) (id : ℕ) (m : ClientPlace) (time : DateTime) → c.renewals ≡ [] → held_tokens m.before ≡ c.tokens → id_at m ≡ id
    → renewal_refusal m ≡ None → outgoing_refusal c id (RenewalAt time ∷ []) ≡ None
accepted_renewal c id m time none tokens id_is h =
    let one = none_parts (leb most_tokens (length (held_tokens m.before))) _ _ h in
    let two = none_parts (leb no_id (id_at m)) _ _ one.1 in
    ap (λ (o : Option AskFault). or_else o None)
    (none_three _ _ _ (has_some c.renewals) (leb most_tokens (length c.tokens)) (leb no_id id) (ap has_some none)
    (ap (λ (ts : List ℕ). leb most_tokens (length ts)) (sym tokens) ∙ one.0) (ap (leb no_id) (sym id_is) ∙ two.0))

-- ---- replies

-- where something was told of each call no reply is missing
never_missing : (requests : List Request) (id : ℕ) (told : List ClientTold) (slots : List (Option Reply)) → AreSlots requests id told slots
    → ((k : ℕ) → id ≤ k → k < id + length requests → 0 < length (told_of k told)) → list_any is_none slots ≡ true → ⊥
never_missing [] id told [] h each e = let no : false ≡ true = e in absurd cc
never_missing [] id told (slot ∷ slots) h each e = h
never_missing (r ∷ rs) id told [] h each e = h
never_missing (r ∷ rs) id told (None ∷ slots) h each e = let some = each id (omega arith) (omega arith) in omega (arith, some, ap length h.0)
never_missing (r ∷ rs) id told (Some reply ∷ slots) h each e =
    never_missing rs (id + 1) told slots h.1 (λ k from to. each k (omega (arith, from)) (omega (arith, to))) e

-- something was told of the last call that is answered
last_reply : (r : Request) (rs : List Request) (id k : ℕ) (told : List ClientTold) (replies : List Reply) → k ≡ id + length rs
    → AreReplies (r ∷ rs) id told replies → 0 < length (told_of k told)
last_reply r rs id k told [] e h = absurd h
last_reply r [] id k told (reply ∷ replies) e h = omega (arith, ap (λ (n : ℕ). length (told_of n told)) (e ∙ plus_none id), ap length h.0.1)
  where
    plus_none : (n : ℕ) → n + 0 ≡ n
    plus_none n = omega arith
last_reply r (next ∷ rs) id k told (reply ∷ replies) e h = last_reply next rs (id + 1) k told replies (omega (arith, e)) h.1

told_further : (k : ℕ) (us vs : List ClientTold) → 0 < length (told_of k us) → 0 < length (told_of k (us ++ vs))
told_further k us vs some = omega (arith, some, ap length (filter_append (is_told_of k) us vs), length-append (told_of k us) (told_of k vs))

told_behind : (k : ℕ) (us vs : List ClientTold) → 0 < length (told_of k vs) → 0 < length (told_of k (us ++ vs))
told_behind k us vs some = omega (arith, some, ap length (filter_append (is_told_of k) us vs), length-append (told_of k us) (told_of k vs))

-- ---- a deed

some_bodies : (requests : List Request) → 0 < length requests → 0 < length (map CallWith (bodies_of requests))
some_bodies (r ∷ rs) some = omega arith
some_bodies [] some = absurd (omega (arith, some))

some_turn : (m : ClientPlace) (d : Deed) → IsAskable m d → 0 < length (turn_of d)
some_turn m (Calls requests) a = some_bodies requests a.0
some_turn m (Renews time) a = omega arith

module _ (e : Ends) (on : e.channel < 2 ^ 32) (at : BothEnds) (s : State) (times : List DateTime) (up : List ℕ) (ts : List Told) (asks : List Placed)
    (down : List ℕ) (hs : List ClientTold)
    (h : AreHere e at s times up ts asks down hs) (m : ClientPlace) (here : IsSettledAt e at asks down m) where
  reads_there : ClientReads (client_limits here.x) m.asks m.octets hs at.client
  reads_there =
      subst (λ (l : Limits). ClientReads l m.asks m.octets hs at.client) (sym here.limits_are)
      (subst (λ (p : List Placed). ClientReads e.client p m.octets hs at.client) (sym here.asks_are)
      (subst (λ (o : List ℕ). ClientReads e.client asks o hs at.client) (sym here.octets_are) h.connected.client_reads))

  pub told_are : m.told ≡ hs
  told_are = client_told here.x m.asks m.octets m.told hs at.client here.stands.goes reads_there

  reads_here : ClientReads (client_limits here.x) m.asks m.octets m.told at.client
  reads_here = subst (λ (t : List ClientTold). ClientReads (client_limits here.x) m.asks m.octets t at.client) (sym told_are) reads_there

  id_is : id_at m ≡ at.id
  id_is = ap (λ (p : List Placed). next_id (asked_in p)) here.asks_are ∙ sym h.connected.id_is

  lane_is : lane_behind m.before ≡ Some (lane_from at.client)
  lane_is = lane_here here.x m at.client here.stands reads_here

  -- it is accepted
  pub deed_accepted : (d : Deed) → IsAskable m d → AreWritable (turn_of d) × (outgoing_refusal at.client at.id (turn_of d) ≡ None)
  deed_accepted (Calls requests) a =
      let judged : first_reason (group_reasons (Some at.client.ack) at.id requests) ≡ None =
      ap (λ (k : Option Ack). first_reason (group_reasons k at.id requests)) (sym (acked_here here.x m at.client here.stands reads_here))
      ∙ (ap (λ (n : ℕ). first_reason (group_reasons m.before.ack n requests)) (sym id_is) ∙ a.2) in
      accepted_calls at.client at.id requests judged (omega (arith, a.1, ap length h.between.pending))
  deed_accepted (Renews time) a =
      ((a.0, tt), accepted_renewal at.client at.id m time h.between.renewals (tokens_here here.x m at.client here.stands reads_here) id_is a.1)

  -- what is sent of it
  pub deed_sent : (d : Deed) → deed_octets m d ≡ round_up at (turn e at s times (turn_of d))
  deed_sent (Calls requests) =
      ap (λ (l : Option Lane). outgoing_octets l m.number (id_at m) (map CallWith (bodies_of requests))) lane_is
      ∙ (ap (λ (n : ℕ). outgoing_octets (Some (lane_from at.client)) n (id_at m) (map CallWith (bodies_of requests))) here.number_is
      ∙ ap (λ (n : ℕ). outgoing_octets (Some (lane_from at.client)) at.server.next n (map CallWith (bodies_of requests))) id_is)
  deed_sent (Renews time) =
      sym (append-nil (renewal_at m time))
      ∙ (ap (λ (l : Option Lane). outgoing_octets l m.number (id_at m) (RenewalAt time ∷ [])) lane_is
      ∙ (ap (λ (n : ℕ). outgoing_octets (Some (lane_from at.client)) n (id_at m) (RenewalAt time ∷ [])) here.number_is
      ∙ ap (λ (n : ℕ). outgoing_octets (Some (lane_from at.client)) at.server.next n (RenewalAt time ∷ [])) id_is))

  -- what is then asked
  pub deed_asked : (d : Deed) → asks_with m d ≡ asks ++ asks_at (length down) at.id (turn_of d)
  deed_asked (Calls requests) =
      ap (λ (p : List Placed). p ++ asks_at (length m.octets) (id_at m) (map CallWith (bodies_of requests))) here.asks_are
      ∙ (ap (λ (o : List ℕ). asks ++ asks_at (length o) (id_at m) (map CallWith (bodies_of requests))) here.octets_are
      ∙ ap (λ (n : ℕ). asks ++ asks_at (length down) n (map CallWith (bodies_of requests))) id_is)
  deed_asked (Renews time) =
      ap (λ (p : List Placed). p ++ asks_at (length m.octets) (id_at m) (RenewalAt time ∷ [])) here.asks_are
      ∙ (ap (λ (o : List ℕ). asks ++ asks_at (length o) (id_at m) (RenewalAt time ∷ [])) here.octets_are
      ∙ ap (λ (n : ℕ). asks ++ asks_at (length down) n (RenewalAt time ∷ [])) id_is)

  -- ---- where it is answered

  module _ (d : Deed) (a : IsAskable m d) where
    abbrev os : List Outgoing
    os = turn_of d

    abbrev now : BothEnds
    now = round_behind e.server e.channel at (turn e at s times (turn_of d))

    abbrev asks_now : List Placed
    asks_now = asks ++ asks_at (length down) at.id (turn_of d)

    abbrev down_now : List ℕ
    down_now = down ++ round_down e.server e.channel at (turn e at s times (turn_of d))

    abbrev answers_now : List ClientTold
    answers_now = answers_told (answers_lane e.server e.channel at (turn_of d)) (answers_to s times at.server.issued at.id (turn_of d))

    abbrev R : Rules ClientTold Why
    R = client_rules e.client (asks ++ asks_at (length down) at.id (turn_of d))

    pub here_now : AreHere e now (left_by s times (turn_of d)).0 (left_by s times (turn_of d)).1 (up ++ round_up at (turn e at s times (turn_of d)))
        (ts ++ outgoing_told at.client.newest at.server.issued at.id (turn_of d)) (asks ++ asks_at (length down) at.id (turn_of d))
        (down ++ round_down e.server e.channel at (turn e at s times (turn_of d)))
        (hs ++ answers_told (answers_lane e.server e.channel at (turn_of d)) (answers_to s times at.server.issued at.id (turn_of d)))
    here_now = here_then e on at s times up ts asks down hs h os (deed_accepted d a).0 (deed_accepted d a).1

    -- a channel that took octets up to something it was told
    comes_last : (y : ClientChannel) (t : ClientPlace) (before : List ClientTold) (last : ClientTold) → client_limits y ≡ e.client → t.asks ≡ asks_with m d
        → ClientGoesTelling y t.asks t.octets before last → ComesLast R t.octets before last
    comes_last y t before last limits_are asks_are g =
        subst (λ (l : Limits). ComesLast (client_rules l asks_now) t.octets before last) limits_are
        (subst (λ (p : List Placed). ComesLast (client_rules_of y p) t.octets before last) (asks_are ∙ deed_asked d)
        (record { frames = g.frames; frame = g.frame; run = g.stands.run; told_is = g.told_is; tells = g.tells }))

    -- it took just the answers
    took : (t : ClientPlace) (before : List ClientTold) (last : ClientTold) → ComesLast R t.octets before last
        → ((later : List ClientTold) → before ≡ (hs ++ answers_now) ++ later → ⊥)
        → ((l : ClientTold) (later : List ClientTold) → hs ++ answers_now ≡ (before ++ last ∷ []) ++ (l ∷ later) → ⊥)
        → ((more : List ℕ) × (down_now ≡ t.octets ++ more)) ⊎ ((more : List ℕ) × (t.octets ≡ down_now ++ more)) → t.octets ≡ down_now
    took t before last c missing enough beside =
        let r = here_now.connected.client_reads in
        took_just R down_now r.frames (hs ++ answers_now) r.run r.told_is
        (tells_then e on at s times up ts asks down hs h os (deed_accepted d a).0 (deed_accepted d a).1 (some_turn m d a) r.frames r.run)
        t.octets before last c missing enough beside

  -- calls
  calls_settle : (requests : List Request) (a : IsAskable m (Calls requests)) (t : ClientPlace) → AreAnswered e.client m t requests
      → (((more : List ℕ) × (down ++ round_down e.server e.channel at (turn e at s times (turn_of (Calls requests))) ≡ t.octets ++ more))
      ⊎ ((more : List ℕ) × (t.octets ≡ (down ++ round_down e.server e.channel at (turn e at s times (turn_of (Calls requests)))) ++ more)))
      → IsSettledAt e (round_behind e.server e.channel at (turn e at s times (turn_of (Calls requests))))
      (asks ++ asks_at (length down) at.id (turn_of (Calls requests)))
      (down ++ round_down e.server e.channel at (turn e at s times (turn_of (Calls requests)))) t
  calls_settle [] a t r beside = absurd (omega (arith, a.0))
  calls_settle (first ∷ others) a t r beside = record {
    x = r.x;
    limits_are = r.limits_are;
    stands = r.at;
    asks_are = r.answered.asks ∙ deed_asked (Calls (first ∷ others));
    octets_are = took (Calls (first ∷ others)) a t r.came.before r.came.last
        (comes_last (Calls (first ∷ others)) a r.x t r.came.before r.came.last r.limits_are r.answered.asks r.came.tells) missing enough beside;
    number_is =
        r.answered.number
        ∙ (ap (λ (l : Option Lane). outgoing_number l m.number (map CallWith (bodies_of (first ∷ others)))) lane_is
        ∙ (ap (λ (n : ℕ). outgoing_number (Some (lane_from at.client)) n (map CallWith (bodies_of (first ∷ others)))) here.number_is
        ∙ numbers_agree (lane_from at.client) at.server (map CallWith (bodies_of (first ∷ others)))));
  }
    where
      told_there : (k : ℕ) → id_at m ≤ k → k < id_at m + length (first ∷ others)
          → 0 < length
          (told_of k (hs ++ answers_told (answers_lane e.server e.channel at (turn_of (Calls (first ∷ others))))
          (answers_to s times at.server.issued at.id (turn_of (Calls (first ∷ others))))))
      told_there k from to =
          told_behind k hs
          (answers_told (answers_lane e.server e.channel at (turn_of (Calls (first ∷ others))))
          (answers_to s times at.server.issued at.id (turn_of (Calls (first ∷ others)))))
          (each_told (answers_lane e.server e.channel at (turn_of (Calls (first ∷ others)))) s times at.server.issued at.id (bodies_of (first ∷ others)) k
          (omega (arith, from, id_is)) (omega (arith, to, id_is, length-map (first ∷ others) request.canonical)))

      missing : (later : List ClientTold)
          → r.came.before
          ≡ (hs ++ answers_told (answers_lane e.server e.channel at (turn_of (Calls (first ∷ others))))
          (answers_to s times at.server.issued at.id (turn_of (Calls (first ∷ others))))) ++ later → ⊥
      missing later is =
          never_missing (first ∷ others) (id_at m) r.came.before r.came.awaited.slots r.came.awaited.slots_are
          (λ k from to. subst (λ (us : List ClientTold). 0 < length (told_of k us)) (sym is)
          (told_further k (hs ++ answers_told (answers_lane e.server e.channel at (turn_of (Calls (first ∷ others))))
          (answers_to s times at.server.issued at.id (turn_of (Calls (first ∷ others))))) later (told_there k from to))) r.came.awaited.missing

      enough : (l : ClientTold) (later : List ClientTold) → hs ++ answers_told (answers_lane e.server e.channel at (turn_of (Calls (first ∷ others))))
          (answers_to s times at.server.issued at.id (turn_of (Calls (first ∷ others)))) ≡ (r.came.before ++ r.came.last ∷ []) ++ (l ∷ later) → ⊥
      enough l later is =
          let k : ℕ = at.id + length (bodies_of others) in
          let own = last_told (answers_lane e.server e.channel at (turn_of (Calls (first ∷ others)))) s times at.server.issued at.id (request.canonical first)
          (bodies_of others) k refl in
          let all : (hs ++ own.front) ++ own.last ∷ [] ≡ (r.came.before ++ r.came.last ∷ []) ++ (l ∷ later) = append_assoc hs own.front (own.last ∷ [])
          ∙ (ap (λ (us : List ClientTold). hs ++ us) (sym own.parts) ∙ is) in
          let middle = split_last (hs ++ own.front) (r.came.before ++ r.came.last ∷ []) later own.last l all in
          let none : told_of k (hs ++ own.front) ≡ [] = filter_append (is_told_of k) hs own.front
          ∙ (ap (λ (us : List ClientTold). us ++ told_of k own.front) (h.none_later k (omega arith)) ∙ own.none) in
          let some : 0 < length (told_of k t.told) = last_reply first others (id_at m) k t.told r.replies
          (omega (arith, id_is, length-map others request.canonical)) r.answered.replies_are in
          let there : 0 < length (told_of k ((r.came.before ++ r.came.last ∷ []) ++ middle.0)) =
          told_further k (r.came.before ++ r.came.last ∷ []) middle.0 (subst (λ (us : List ClientTold). 0 < length (told_of k us)) r.came.told_is some) in
          omega (arith, there, ap (λ (us : List ClientTold). length (told_of k us)) middle.1, ap length none)

  -- a renewal
  renewal_settles : (time : DateTime) (a : IsAskable m (Renews time)) (t : ClientPlace) → HasRenewed e.client m t
      → (((more : List ℕ) × (down ++ round_down e.server e.channel at (turn e at s times (turn_of (Renews time))) ≡ t.octets ++ more))
      ⊎ ((more : List ℕ) × (t.octets ≡ (down ++ round_down e.server e.channel at (turn e at s times (turn_of (Renews time)))) ++ more)))
      → IsSettledAt e (round_behind e.server e.channel at (turn e at s times (turn_of (Renews time))))
      (asks ++ asks_at (length down) at.id (turn_of (Renews time))) (down ++ round_down e.server e.channel at (turn e at s times (turn_of (Renews time)))) t
  renewal_settles time a t r beside = record {
    x = r.x;
    limits_are = r.limits_are;
    stands = r.renewed.at;
    asks_are = r.renewed.asks ∙ deed_asked (Renews time);
    octets_are =
        took (Renews time) a t (m.told ++ r.renewed.heard) (heard.Renewed r.renewed.token)
        (comes_last (Renews time) a r.x t (m.told ++ r.renewed.heard) (heard.Renewed r.renewed.token) r.limits_are r.renewed.asks r.renewed.tells) missing
        enough beside;
    number_is = r.renewed.number ∙ ap next_number here.number_is;
  }
    where
      missing : (later : List ClientTold) → m.told ++ r.renewed.heard ≡ (hs ++ heard.Renewed (at.server.issued + 1) ∷ []) ++ later → ⊥
      missing later is =
          let first : r.renewed.heard ≡ heard.Renewed (at.server.issued + 1) ∷ later =
          append_cancel_left hs r.renewed.heard (heard.Renewed (at.server.issued + 1) ∷ later)
          (ap (λ (us : List ClientTold). us ++ r.renewed.heard) (sym told_are) ∙ (is ∙ append_assoc hs (heard.Renewed (at.server.issued + 1) ∷ []) later)) in
          let no : true ≡ false = sym (ap (list_any is_renewed) first) ∙ r.renewed.none_before in
          absurd cc

      enough : (l : ClientTold) (later : List ClientTold)
          → hs ++ heard.Renewed (at.server.issued + 1) ∷ [] ≡ ((m.told ++ r.renewed.heard) ++ heard.Renewed r.renewed.token ∷ []) ++ (l ∷ later) → ⊥
      enough l later is =
          omega (
            arith,
            ap length is,
            ap length told_are,
            length-append hs (heard.Renewed (at.server.issued + 1) ∷ []),
            length-append ((m.told ++ r.renewed.heard) ++ heard.Renewed r.renewed.token ∷ []) (l ∷ later),
            length-append (m.told ++ r.renewed.heard) (heard.Renewed r.renewed.token ∷ []),
            length-append m.told r.renewed.heard,
          )

  -- where a deed is answered, the client stands behind its answers
  pub deed_settles : (d : Deed) (a : IsAskable m d) (t : ClientPlace) → IsAnsweredAt e.client m t d
      → (((more : List ℕ) × (down ++ round_down e.server e.channel at (turn e at s times (turn_of d)) ≡ t.octets ++ more))
      ⊎ ((more : List ℕ) × (t.octets ≡ (down ++ round_down e.server e.channel at (turn e at s times (turn_of d))) ++ more)))
      → IsSettledAt e (round_behind e.server e.channel at (turn e at s times (turn_of d))) (asks ++ asks_at (length down) at.id (turn_of d))
      (down ++ round_down e.server e.channel at (turn e at s times (turn_of d))) t
  deed_settles (Calls requests) a t r beside = calls_settle requests a t r beside
  deed_settles (Renews time) a t r beside = renewal_settles time a t r beside
