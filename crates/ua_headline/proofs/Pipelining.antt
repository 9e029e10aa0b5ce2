-- That a client which calls whatever is unanswered sends what it would send one call after another, and refuses as little.
use Rattle.std.proofs.Common.{◌≡◌, ℕ, ◌+◌, ◌<◌, ◌≤◌, Bool, true, false, leb, List, [], ◌∷◌, ◌++◌, length, Option, Some}
use Rattle.std.proofs.Common.{None, refl, sym, ◌∙◌, ap, subst, arith, append_assoc, append-nil, length-append, IsTrue, suc}
use Rattle.std.proofs.lemmas.Bool.{lt-leb}
use Rattle.std.proofs.lemmas.List.{nil_from_length}
use Rattle.ua_builtin.specs.Reasons.{first_reason, or_else}
use Rattle.ua_builtin.specs.DateTime.{date_time}
use Rattle.ua_builtin.specs.declared.date_time.DateTime.{DateTime}
use Rattle.ua_wire.proofs.Readers.{some_is}
use Rattle.ua_frame.specs.Agreement.{ack_to}
use Rattle.ua_frame.specs.Frames.{frame_octets, frames_octets}
use Rattle.ua_frame.specs.After.{AllAfter, each_from}
use Rattle.ua_frame.specs.Run.{Going, events}
use Rattle.ua_frame.proofs.Streams.{events-push}
use Rattle.ua_frame.specs.declared.ack.Ack.{Ack}
use Rattle.ua_frame.specs.declared.frame.Frame.{Frame}
use Rattle.ua_frame.specs.declared.limits.Limits.{Limits}
use Rattle.ua_chunk.specs.Cutting.{chunks_octets, chunks_of, cut_refusal, number_after, pieces}
use Rattle.ua_chunk.specs.declared.fault.CutFault.{CutFault}
use Rattle.ua_chunk.specs.declared.lane.Lane.{Lane}
use Rattle.ua_channel.specs.Asks.{Asking, Placed, asked_in, next_id, pending_calls}
use Rattle.ua_channel.specs.Asks.Asking.{Call, Renewal}
use Rattle.ua_channel.specs.Client.{ClientGoes, SendsCall, SendsRenewal, call_refused, renewal_refused, client_limits, client_next, client_rules_of, phase_of}
use Rattle.ua_channel.specs.ClientAsks.{IsCalled, IsRenewalWith, call_lane, call_reasons, has_no_channel, is_too_large, most_pending, no_id, room_of}
use Rattle.ua_channel.specs.ClientSends.{first_open, hello_frame, hello_to, renewal_frame}
use Rattle.ua_chunk.specs.Sequence.{next_number}
use Rattle.ua_channel.specs.ClientTable.{client_rules, of_ack}
use Rattle.ua_channel.specs.ClientTokens.{first_channel, held_tokens, open_responses}
use Rattle.ua_channel.specs.ClientTold.{ClientTold}
use Rattle.ua_channel.specs.Received.{latest, received}
use Rattle.ua_channel.specs.ServerTold.{Told}
use Rattle.ua_channel.specs.declared.client.channel.ClientChannel.{ClientChannel}
use Rattle.ua_channel.specs.declared.client.fault.AskFault.{AskFault}
use Rattle.ua_channel.specs.declared.client.fault.AskFault.TheVariants.{TooManyPending, Exhausted, RequestTooLarge}
use Rattle.ua_channel.proofs.ClientSending.{call_judged, call_sent, renewal_sent}
use Rattle.ua_channel_laws.specs.AskedEarlier.{AreEarlier}
use Rattle.ua_channel_laws.specs.ClientReads.{ClientReads, lane_from, told_reply}
use Rattle.ua_channel_laws.specs.Outgoing.Outgoing.{CallWith, RenewalAt}
use Rattle.ua_channel_laws.specs.Outgoing.{AreWritable, Outgoing, asking_of, outgoing_refusal}
use Rattle.ua_channel_laws.specs.Rounds.{AreConnected, BothEnds, answers_lane, round_behind, round_down}
use Rattle.ua_channel_laws.specs.Rounds.{round_up, rounds_asks, rounds_down, rounds_heard, rounds_up}
use Rattle.ua_channel_laws.proofs.Following.{client_begins}
use Rattle.ua_channel_laws.proofs.Groups.{none_parts, renewal_is_refused}
use Rattle.ua_channel_laws.proofs.Lists.{split_last}
use Rattle.ua_channel_laws.proofs.ReadOn.{begins_run, events_on}
use Rattle.ua_channel_laws.proofs.Sized.{all_sized, front_sized}
use Rattle.ua_services.specs.Response.{response}
use Rattle.ua_server.specs.Reply.{answered}
use Rattle.ua_server.specs.Said.{behind_first, first_time, output_of, said_of, state_after}
use Rattle.ua_server.specs.State.{State}
use Rattle.ua_server.proofs.SaidInParts.{said-append}
use Rattle.ua_client.specs.Opening.{hello_octets, open_frame_octets}
use Rattle.ua_headline.specs.Headline.{CameBack, Did, History, asked_from, renewals_in, tokens_in, with_op}
use Rattle.ua_headline.specs.Headline.Did.{Opened, Took, Called, Renewed}
use Rattle.ua_headline.specs.Talk.{AreRoundsAccepted, CanOpen, Ends, IsPrefix, TookOf, asks_in, both_opened, heard_in}
use Rattle.ua_headline.specs.Talk.{opening_answer_of_ends, rounds_from, rounds_in, sent_in, told_by_turns, left_by}
use Rattle.ua_headline.proofs.Answered.{dated_behind}
use Rattle.ua_headline.proofs.Brought.{ack_told, acks_told, acks_append, channel_stays, newest_last, tokens_append, tokens_are_told}
use Rattle.ua_headline.proofs.Fronts.{prefix_of_prefix}
use Rattle.ua_headline.proofs.Singly.{AddsOne, adds_one, behind_ops, between_ops, past, singly}
use Rattle.ua_headline.proofs.Tells.{EndTelling}
use Rattle.ua_headline.proofs.TellsAll.{tells_ops}
use Rattle.ua_headline.proofs.Talking.{AsksEarlier, EndsConnect, RoundsReach, connected, said, told_first}
use Rattle.ua_headline.proofs.Turning.{IsBetween, between_first, turn}

-- ---- lists

-- the last of the first ones is the only one
only_one : {A : Type 0} (xs ys : List A) (a x : A) → xs ++ ys ≡ a ∷ [] → latest xs ≡ Some x → x ≡ a
only_one [] ys a x e l = absurd cc
only_one (z ∷ []) ys a x e l = cc
only_one (z ∷ (w ∷ zs)) ys a x e l = absurd (omega (arith, ap length e))

earlier_push : (xs ys : List Placed) (a b : Placed) → AreEarlier xs ys → a.0 ≤ b.0 → a.1 ≡ b.1 → AreEarlier (xs ++ a ∷ []) (ys ++ b ∷ [])
earlier_push [] [] a b h le same = (le, same, tt)
earlier_push [] (y ∷ ys) a b h le same = absurd h
earlier_push (x ∷ xs) [] a b h le same = absurd h
earlier_push (x ∷ xs) (y ∷ ys) a b h le same = (h.0, h.1, earlier_push xs ys a b h.2 le same)

asked_same : (xs ys : List Placed) → AreEarlier xs ys → asked_in xs ≡ asked_in ys
unfolding asked_in
asked_same [] [] h = refl
asked_same [] (y ∷ ys) h = absurd h
asked_same (x ∷ xs) [] h = absurd h
asked_same (x ∷ xs) (y ∷ ys) h = by x.1 y.1 (asked_in xs) (asked_in ys) h.1 (asked_same xs ys h.2)
  where
    by : (a b : Asking) (ks bs : List Asking) → a ≡ b → ks ≡ bs → a ∷ ks ≡ b ∷ bs
    by a b ks bs p q = cc

none_three : {A : Type 0} (x y z : A) (p q r : Bool) → p ≡ false → q ≡ false → r ≡ false → first_reason ((x, p) ∷ ((y, q) ∷ ((z, r) ∷ []))) ≡ None
none_three x y z false false false e f g = refl
none_three x y z true q r e f g = absurd cc
none_three x y z false true r e f g = absurd cc
none_three x y z false false true e f g = absurd cc

-- ---- what the replies tell

no_acks : (o : Option CutFault) (id : ℕ) (body : List ℕ) (rest : List ClientTold) → acks_told (told_reply o id body ∷ rest) ≡ acks_told rest
no_acks None id body rest = refl
no_acks (Some f) id body rest = refl

no_tokens : (o : Option CutFault) (id : ℕ) (body : List ℕ) (rest : List ClientTold) → tokens_in (told_reply o id body ∷ rest) ≡ tokens_in rest
no_tokens None id body rest = refl
no_tokens (Some f) id body rest = refl

module _ (e : Ends) where
  no_acks_heard : (at : BothEnds) (s : State) (times : List DateTime) (ops : List Outgoing)
      → acks_told (rounds_heard e.server e.channel at (rounds_from e at s times (singly ops))) ≡ []
  no_acks_heard at s times [] = refl
  no_acks_heard at s times (CallWith c ∷ ops) =
      let reply : List ℕ = response.canonical (answered s (first_time times) c).1 in
      no_acks (cut_refusal (answers_lane e.server e.channel at (CallWith c ∷ [])) reply) at.id reply _
      ∙ no_acks_heard (round_behind e.server e.channel at (turn e at s times (CallWith c ∷ []))) (answered s (first_time times) c).0 (behind_first times) ops
  no_acks_heard at s times (RenewalAt time ∷ ops) =
      no_acks_heard (round_behind e.server e.channel at (turn e at s times (RenewalAt time ∷ []))) s (behind_first times) ops

  -- a token for each renewal
  as_many_tokens : (at : BothEnds) (s : State) (times : List DateTime) (ops : List Outgoing)
      → length (tokens_in (rounds_heard e.server e.channel at (rounds_from e at s times (singly ops)))) ≡ renewals_in ops
  as_many_tokens at s times [] = refl
  as_many_tokens at s times (CallWith c ∷ ops) =
      let reply : List ℕ = response.canonical (answered s (first_time times) c).1 in
      ap length (no_tokens (cut_refusal (answers_lane e.server e.channel at (CallWith c ∷ [])) reply) at.id reply
      (rounds_heard e.server e.channel (round_behind e.server e.channel at (turn e at s times (CallWith c ∷ [])))
      (rounds_from e (round_behind e.server e.channel at (turn e at s times (CallWith c ∷ []))) (answered s (first_time times) c).0 (behind_first times)
      (singly ops))))
      ∙ as_many_tokens (round_behind e.server e.channel at (turn e at s times (CallWith c ∷ []))) (answered s (first_time times) c).0 (behind_first times) ops
  as_many_tokens at s times (RenewalAt time ∷ ops) =
      let rest = as_many_tokens (round_behind e.server e.channel at (turn e at s times (RenewalAt time ∷ []))) s (behind_first times) ops in
      omega (arith, rest)

  -- they are asked each under the next RequestId
  asked_all : (place : ℕ) (at : BothEnds) (s : State) (times : List DateTime) (calls : List Outgoing)
      → asked_in (rounds_asks e.server e.channel place at (rounds_from e at s times (singly calls))) ≡ asked_from at.id calls
  unfolding asked_in
  asked_all place at s times [] = refl
  asked_all place at s times (c ∷ calls) =
      ap (λ (asked : List Asking). asking_of at.id c ∷ asked)
      (asked_all (place + length (round_down e.server e.channel at (turn e at s times (c ∷ []))))
      (round_behind e.server e.channel at (turn e at s times (c ∷ []))) (left_by s times (c ∷ [])).0 (left_by s times (c ∷ [])).1 calls)

  length_heard : (at : BothEnds) (s : State) (times : List DateTime) (ops : List Outgoing)
      → length (rounds_heard e.server e.channel at (rounds_from e at s times (singly ops))) ≡ length ops
  length_heard at s times [] = refl
  length_heard at s times (CallWith c ∷ ops) =
      let rest = length_heard (round_behind e.server e.channel at (turn e at s times (CallWith c ∷ []))) (answered s (first_time times) c).0
      (behind_first times) ops in
      omega (arith, rest)
  length_heard at s times (RenewalAt time ∷ ops) =
      let rest = length_heard (round_behind e.server e.channel at (turn e at s times (RenewalAt time ∷ []))) s (behind_first times) ops in
      omega (arith, rest)

  pub length_heard_all : (ops : List Outgoing) → length (heard_in e (singly ops)) ≡ length ops + 2
  length_heard_all ops =
      let two : length (heard_in e (singly ops))
      ≡ suc (suc (length (rounds_heard e.server e.channel (both_opened e) (rounds_in e (singly ops))))) = refl in
      omega (arith, two, length_heard (both_opened e) e.first (behind_first e.times) ops)

-- ---- a client

module _ (connect : EndsConnect) (reach : RoundsReach) (earlier : AsksEarlier) (e : Ends) (can : CanOpen e) where
  abbrev pub at_end : List Outgoing → BothEnds
  at_end calls = behind_ops e (both_opened e) e.first (behind_first e.times) calls

  abbrev pub all_down : List Outgoing → List ℕ
  all_down calls = opening_answer_of_ends e ++ rounds_down e.server e.channel (both_opened e) (rounds_in e (singly calls))

  -- what it did is what it does where it calls one after another
  pub record IsPlain (y : ClientChannel) (h : History) : Type 0 where
    pub accepted : AreRoundsAccepted e (both_opened e) (rounds_in e (singly h.ops))
    pub sent_is : h.sent ≡ sent_in e (singly h.ops)
    pub asks_are : AreEarlier h.asks (asks_in e (singly h.ops))
    pub number_is : client_next y ≡ (at_end h.ops).server.next
    pub goes : ClientGoes y h.asks h.got h.heard
    pub limits_are : client_limits y ≡ e.client
    pub got_is : IsPrefix h.got (all_down h.ops)

  -- ---- what came

  module _ (calls : List Outgoing) (accepted : AreRoundsAccepted e (both_opened e) (rounds_in e (singly calls))) (sent : List ℕ)
      (sent_is : sent ≡ sent_in e (singly calls)) (got : List ℕ) (c : CameBack e sent got) where
    pub took_of : TookOf e (singly calls) c.x c.took
    took_of = record {
      can = can;
      accepted = accepted;
      limits_are = c.limits_are;
      channel_is = c.channel_is;
      sent = sent;
      sent_is = ([], sym sent_is ∙ sym (append-nil sent));
      took_is = c.took_is;
    }

    pub came_first : IsPrefix got (all_down calls)
    came_first =
        let p = told_first connect reach e (singly calls) c.x c.took took_of c.told c.goes in
        let more : List ℕ = said_of e.channel (state_after e.channel e.first c.told e.times) p.0 ++ [] in
        prefix_of_prefix got (output_of e.channel e.first c.told Going e.times) (all_down calls) c.got_is (
          more,
          sym (said connect reach e (singly calls) can accepted).said
              ∙ (ap (λ (ts : List Told). output_of e.channel e.first ts Going e.times) p.1 ∙ said-append e.channel e.first c.told p.0 Going e.times),
        )

  -- ---- what it read

  module _ (y : ClientChannel) (h : History) (i : IsPlain y h) where
    abbrev at : BothEnds
    at = at_end h.ops

    abbrev hs : List ClientTold
    hs = heard_in e (singly h.ops)

    pub both : AreConnected e.server e.client e.url e.channel (sent_in e (singly h.ops)) (told_by_turns e (singly h.ops)) (asks_in e (singly h.ops))
        (all_down h.ops) (heard_in e (singly h.ops)) (at_end h.ops)
    both = connected connect reach e (singly h.ops) can i.accepted

    pub reads : ClientReads (client_limits y) h.asks (h.got ++ i.got_is.0) (heard_in e (singly h.ops)) (at_end h.ops).client
    reads =
        subst (λ (l : Limits). ClientReads l h.asks (h.got ++ i.got_is.0) hs at.client) (sym i.limits_are)
        (subst (λ (o : List ℕ). ClientReads e.client h.asks o hs at.client) i.got_is.1
        (earlier e.client h.asks (asks_in e (singly h.ops)) (all_down h.ops) hs at.client i.asks_are both.client_reads))

    later : (gs : List Frame) × (reads.frames ≡ i.goes.frames ++ gs)
    later = begins_run (client_rules_of y h.asks) h.got i.got_is.0 i.goes.frames reads.frames i.goes.rest Going i.goes.stands.run reads.run

    told_later : (more : List ClientTold) × (hs ≡ h.heard ++ more)
    told_later = client_begins y h.asks h.got i.got_is.0 h.heard hs at.client i.goes reads

    acks_all : acks_told hs ≡ ack_to (hello_to e.client e.url) e.server ∷ []
    acks_all = ap (λ (ks : List Ack). ack_to (hello_to e.client e.url) e.server ∷ ks)
        (no_acks_heard e (both_opened e) e.first (behind_first e.times) h.ops)

    tokens_all : length (tokens_in hs) ≡ renewals_in h.ops + 1
    tokens_all =
        let one : length (tokens_in hs)
        ≡ suc (length (tokens_in (rounds_heard e.server e.channel (both_opened e) (rounds_in e (singly h.ops))))) = refl in
        omega (arith, one, as_many_tokens e (both_opened e) e.first (behind_first e.times) h.ops)

    acks_first : acks_told h.heard ++ acks_told told_later.0 ≡ ack_to (hello_to e.client e.url) e.server ∷ []
    acks_first = sym (acks_append h.heard told_later.0) ∙ (ap acks_told (sym told_later.1) ∙ acks_all)

    -- where no renewal is unanswered it was told of all tokens
    tokens_same : length (tokens_in h.heard) ≡ renewals_in h.ops + 1 → tokens_in h.heard ≡ tokens_in hs
    tokens_same many =
        let parts : tokens_in hs ≡ tokens_in h.heard ++ tokens_in told_later.0 = ap tokens_in told_later.1 ∙ tokens_append h.heard told_later.0 in
        sym (append-nil (tokens_in h.heard))
        ∙ (ap (λ (ts : List ℕ). tokens_in h.heard ++ ts)
        (sym (nil_from_length (tokens_in told_later.0)
        (omega (arith, ap length parts, tokens_all, many, length-append (tokens_in h.heard) (tokens_in told_later.0))))) ∙ sym parts)

    -- the ACK, the token and the channel are those behind all replies
    pub the_ack : (a : Ack) → (received i.goes.frames).ack ≡ Some a → a ≡ ack_to (hello_to e.client e.url) e.server
    the_ack a is =
        let here : latest (acks_told h.heard) ≡ Some a =
        ap (λ (ts : List ClientTold). latest (acks_told ts)) (sym i.goes.told_is) ∙ (sym (ack_told (client_limits y) h.asks i.goes.frames) ∙ is) in
        only_one (acks_told h.heard) (acks_told told_later.0) (ack_to (hello_to e.client e.url) e.server) a acks_first here

    same_ack : (a : Ack) → (received i.goes.frames).ack ≡ Some a → a ≡ at.client.ack
    same_ack a is =
        let there : latest (acks_told hs) ≡ Some at.client.ack =
        ap (λ (ts : List ClientTold). latest (acks_told ts)) (sym reads.told_is) ∙ (sym (ack_told (client_limits y) h.asks reads.frames) ∙ reads.ack_is) in
        the_ack a is
        ∙ sym (only_one (acks_told hs) [] (ack_to (hello_to e.client e.url) e.server) at.client.ack (append-nil (acks_told hs) ∙ acks_all) there)

    same_newest : length (tokens_in h.heard) ≡ renewals_in h.ops + 1 → (n : ℕ) → latest (held_tokens (received i.goes.frames)) ≡ Some n → n ≡ at.client.newest
    same_newest many n is =
        let here : latest (tokens_in h.heard) ≡ Some n =
        ap (λ (ts : List ClientTold). latest (tokens_in ts)) (sym i.goes.told_is)
        ∙ (ap latest (sym (tokens_are_told (client_limits y) h.asks i.goes.frames)) ∙ newest_last (received i.goes.frames) n is) in
        let there : latest (tokens_in hs) ≡ Some at.client.newest =
        ap (λ (ts : List ClientTold). latest (tokens_in ts)) (sym reads.told_is)
        ∙ (ap latest (sym (tokens_are_told (client_limits y) h.asks reads.frames))
        ∙ newest_last (received reads.frames) at.client.newest (ap latest reads.tokens_are ∙ reads.newest_is)) in
        some_is n at.client.newest (sym here ∙ (ap latest (tokens_same many) ∙ there))

    same_channel : (n : ℕ) → first_channel (open_responses (received i.goes.frames).openings) ≡ Some n → n ≡ at.client.channel
    same_channel n is =
        some_is n at.client.channel (sym (channel_stays i.goes.frames later.0 n is)
        ∙ (ap (λ (fs : List Frame). first_channel (open_responses (received fs).openings)) (sym later.1) ∙ reads.channel_is))

    id_same : next_id (asked_in h.asks) ≡ at.id
    id_same = ap next_id (asked_same h.asks (asks_in e (singly h.ops)) i.asks_are) ∙ sym both.id_is

    between : IsBetween e (at_end h.ops)
    between = between_ops e (both_opened e) e.first (behind_first e.times) h.ops (between_first e) (dated_behind e.times can.times_fit) i.accepted

    -- ---- an operation more

    one_plain : (o : Outgoing) (z : ClientChannel) (id : ℕ) (out : List ℕ) → AreWritable (o ∷ [])
        → outgoing_refusal (at_end h.ops).client (at_end h.ops).id (o ∷ []) ≡ None
        → out
        ≡ round_up (at_end h.ops)
        (turn e (at_end h.ops) (past e.first (behind_first e.times) h.ops).0 (past e.first (behind_first e.times) h.ops).1 (o ∷ []))
        → client_next z
        ≡ (round_behind e.server e.channel (at_end h.ops)
        (turn e (at_end h.ops) (past e.first (behind_first e.times) h.ops).0 (past e.first (behind_first e.times) h.ops).1 (o ∷ []))).server.next
        → id ≡ (at_end h.ops).id → client_limits z ≡ client_limits y
        → ClientGoes z (h.asks ++ (length h.got, asking_of id o) ∷ []) h.got h.heard → IsPlain z (with_op h id o out)
    one_plain o z id out writable judged out_is next_is id_is own goes =
        let adds : AddsOne e (both_opened e) e.first (behind_first e.times) h.ops o = adds_one e (both_opened e) e.first (behind_first e.times) h.ops o in
        let opening : List ℕ = frame_octets (hello_frame (hello_to e.client e.url)) ++ frame_octets (first_open e.opened) in
        let sent_before : List ℕ = rounds_up e.server e.channel (both_opened e) (rounds_in e (singly h.ops)) in
        let down_before : List ℕ = rounds_down e.server e.channel (both_opened e) (rounds_in e (singly h.ops)) in
        record {
          accepted = adds.accepted i.accepted writable judged;
          sent_is =
              ap (λ (l : List ℕ). l ++ out) i.sent_is
              ∙ (append_assoc opening sent_before out
              ∙ ap (λ (l : List ℕ). opening ++ l) (ap (λ (l : List ℕ). sent_before ++ l) out_is ∙ sym adds.up));
          asks_are =
              subst (AreEarlier (h.asks ++ (length h.got, asking_of id o) ∷ [])) (sym (adds.asks (length (opening_answer_of_ends e))))
              (earlier_push h.asks (asks_in e (singly h.ops)) (length h.got, asking_of id o)
              (length (opening_answer_of_ends e) + length down_before, asking_of at.id o) i.asks_are
              (omega (arith, ap length i.got_is.1, length-append (opening_answer_of_ends e) down_before, length-append h.got i.got_is.0))
              (ap (λ (n : ℕ). asking_of n o) id_is));
          number_is = next_is ∙ ap (λ (b : BothEnds). b.server.next) (sym adds.behind);
          goes = goes;
          limits_are = own ∙ i.limits_are;
          got_is =
              prefix_of_prefix h.got (all_down h.ops) (all_down (h.ops ++ o ∷ [])) i.got_is (
                adds.down.0,
                ap (λ (l : List ℕ). opening_answer_of_ends e ++ l) adds.down.1 ∙ sym (append_assoc (opening_answer_of_ends e) down_before adds.down.0),
              );
        }

    -- ---- a call more

    module _ (z : ClientChannel) (id : ℕ) (body out : List ℕ) (many : length (tokens_in h.heard) ≡ renewals_in h.ops + 1)
        (own : client_limits z ≡ client_limits y) (some : 0 < length body)
        (refused : call_refused y 0 body ≡ None) (sends : SendsCall y (client_next y) body id out (client_next z))
        (goes : ClientGoes z (h.asks ++ (length h.got, Call id) ∷ []) h.got h.heard) where
      abbrev os : List Outgoing
      os = CallWith body ∷ []

      called : IsCalled (received i.goes.frames) (asked_in h.asks) (client_next y) body id out (client_next z)
      called = call_sent (client_limits y) (received i.goes.frames) (asked_in h.asks) (phase_of y) (client_next y) body id out (client_next z)
          i.goes.stands.phase_is sends

      ack_is : called.ack ≡ at.client.ack
      ack_is = same_ack called.ack called.is_open.ack_is

      id_is : id ≡ at.id
      id_is = called.id_is ∙ id_same

      lane_is : call_lane called.ack called.channel called.newest ≡ lane_from at.client
      lane_is =
          ap (λ (a : Ack). call_lane a called.channel called.newest) ack_is
          ∙ (ap (λ (n : ℕ). call_lane at.client.ack n called.newest) (same_channel called.channel called.is_open.channel_is)
          ∙ ap (λ (n : ℕ). call_lane at.client.ack at.client.channel n) (same_newest many called.newest called.is_open.newest_is))

      out_is : out ≡ round_up at (turn e at (past e.first (behind_first e.times) h.ops).0 (past e.first (behind_first e.times) h.ops).1 os)
      out_is =
          called.out_is
          ∙ (ap (λ (l : Lane). chunks_octets (chunks_of l body (client_next y) id)) lane_is
          ∙ (ap (λ (n : ℕ). chunks_octets (chunks_of (lane_from at.client) body n id)) i.number_is
          ∙ (ap (λ (n : ℕ). chunks_octets (chunks_of (lane_from at.client) body at.server.next n)) id_is
          ∙ sym (append-nil (chunks_octets (chunks_of (lane_from at.client) body at.server.next at.id))))))

      next_is : client_next z
          ≡ (round_behind e.server e.channel at
          (turn e at (past e.first (behind_first e.times) h.ops).0 (past e.first (behind_first e.times) h.ops).1 os)).server.next
      next_is =
          called.next_is
          ∙ (ap (λ (n : ℕ). number_after n (pieces (room_of called.ack) body)) i.number_is
          ∙ ap (λ (a : Ack). number_after at.server.next (pieces (room_of a) body)) ack_is)

      id_zero : at.id ≡ next_id (asked_in h.asks) + 0
      id_zero = omega (arith, id_same)

      judged : outgoing_refusal at.client at.id os ≡ None
      judged =
          let all : first_reason (call_reasons (received i.goes.frames) (asked_in h.asks) 0 body) ≡ None =
          sym (call_judged (client_limits y) (received i.goes.frames) (asked_in h.asks) (phase_of y) 0 body i.goes.stands.phase_is) ∙ refused in
          let one = none_parts (has_no_channel (received i.goes.frames)) _ _ all in
          let two = none_parts (leb most_pending (length (pending_calls (received i.goes.frames).messages (asked_in h.asks)) + 0)) _ _ one.1 in
          let three = none_parts (leb no_id (next_id (asked_in h.asks) + 0)) _ _ two.1 in
          let four = none_parts (of_ack (λ (a : Ack). is_too_large a body) (received i.goes.frames).ack) _ _ three.1 in
          ap (λ (o : Option AskFault). or_else o None)
          (none_three TooManyPending Exhausted RequestTooLarge (leb most_pending (length at.client.pending)) (leb no_id at.id) (is_too_large at.client.ack body)
          (lt-leb most_pending (length at.client.pending) (omega (arith, ap length between.pending)))
          (ap (leb no_id) id_zero ∙ three.0)
          (ap (λ (a : Ack). is_too_large a body) (sym ack_is)
          ∙ (sym (ap (of_ack (λ (a : Ack). is_too_large a body)) called.is_open.ack_is) ∙ four.0)))

      pub called_plain : IsPlain z (with_op h id (CallWith body) out)
      called_plain = one_plain (CallWith body) z id out (some, tt) judged out_is next_is id_is own goes

    -- ---- a renewal more, where all is answered

    told_all : length h.heard ≡ length h.ops + 2 → h.heard ≡ hs
    told_all many =
        sym (append-nil h.heard)
        ∙ (ap (λ (ts : List ClientTold). h.heard ++ ts)
        (sym (nil_from_length told_later.0
        (omega (arith, ap length told_later.1, many, length_heard_all e h.ops, length-append h.heard told_later.0)))) ∙ sym told_later.1)

    got_all : length h.heard ≡ length h.ops + 2 → h.got ≡ all_down h.ops
    unfolding AllAfter
    got_all many =
        let r = both.client_reads in
        let R = client_rules e.client (asks_in e (singly h.ops)) in
        let k = i.goes in
        let parts : frames_octets k.frames ++ (k.rest ++ i.got_is.0) ≡ frames_octets r.frames =
        sym (append_assoc (frames_octets k.frames) k.rest i.got_is.0)
        ∙ (ap (λ (l : List ℕ). l ++ i.got_is.0) (sym k.stands.run.whole) ∙ (sym i.got_is.1 ∙ (r.run.whole ∙ append-nil (frames_octets r.frames)))) in
        let more = front_sized k.frames r.frames (k.rest ++ i.got_is.0) (all_sized (client_rules_of y h.asks) [] k.frames k.stands.run.good)
        (all_sized R [] r.frames r.run.good) parts in
        by more.0 more.1 parts
      where
        ends : EndTelling (client_rules e.client (asks_in e (singly h.ops))) both.client_reads.frames
        ends = tells_ops connect reach e can h.ops i.accepted both.client_reads.frames both.client_reads.run

        by : (gs : List Frame) → both.client_reads.frames ≡ i.goes.frames ++ gs
            → frames_octets i.goes.frames ++ (i.goes.rest ++ i.got_is.0) ≡ frames_octets both.client_reads.frames → h.got ≡ all_down h.ops
        by [] same parts =
            let size = ap length parts in
            let again = ap (λ (fs : List Frame). length (frames_octets fs)) (same ∙ append-nil i.goes.frames) in
            sym (append-nil h.got)
            ∙ (ap (λ (l : List ℕ). h.got ++ l)
            (sym (nil_from_length i.got_is.0
            (omega (arith, size, again, length-append (frames_octets i.goes.frames) (i.goes.rest ++ i.got_is.0), length-append i.goes.rest i.got_is.0))))
            ∙ sym i.got_is.1)
        by (g ∷ gs) same parts =
            let R = client_rules e.client (asks_in e (singly h.ops)) in
            let middle = split_last ends.before i.goes.frames gs ends.last g (sym ends.parts ∙ same) in
            absurd (omega (
              arith,
              ends.some,
              ap length (told_all many),
              ap length (sym both.client_reads.told_is ∙ (ap (events R) ends.parts ∙ events-push R ends.before ends.last)),
              length-append (events R ends.before) (R.tells ends.before ends.last),
              ap length (ap (events R) middle.1
                  ∙ (events_on R i.goes.frames middle.0 ∙ ap (λ (ts : List ClientTold). ts ++ each_from R.tells i.goes.frames middle.0) i.goes.told_is)),
              length-append h.heard (each_from R.tells i.goes.frames middle.0),
            ))

    module _ (z : ClientChannel) (id : ℕ) (time : DateTime) (out : List ℕ) (many : length h.heard ≡ length h.ops + 2) (own : client_limits z ≡ client_limits y)
        (dated : IsTrue (date_time.encodable time)) (refused : renewal_refused y ≡ None) (sends : SendsRenewal y (client_next y) time id out (client_next z))
        (goes : ClientGoes z (h.asks ++ (length h.got, Renewal id) ∷ []) h.got h.heard) where
      reads_all : ClientReads (client_limits y) h.asks h.got (heard_in e (singly h.ops)) (at_end h.ops).client
      reads_all = subst (λ (l : List ℕ). ClientReads (client_limits y) h.asks l hs at.client) (sym i.got_is.1 ∙ sym (got_all many)) reads

      asked : IsRenewalWith (received i.goes.frames) (asked_in h.asks) (client_next y) time id out (client_next z)
      asked = renewal_sent (client_limits y) (received i.goes.frames) (asked_in h.asks) (phase_of y) (client_next y) time id out (client_next z)
          i.goes.stands.phase_is sends

      renewal_id : id ≡ at.id
      renewal_id = asked.id_is ∙ id_same

      renewal_judged : outgoing_refusal (at_end h.ops).client (at_end h.ops).id (RenewalAt time ∷ []) ≡ None
      renewal_judged =
          ap (λ (n : ℕ). outgoing_refusal at.client n (RenewalAt time ∷ [])) (sym id_same)
          ∙ (sym (renewal_is_refused y h.asks h.got i.goes.frames i.goes.rest (heard_in e (singly h.ops)) (at_end h.ops).client i.goes.stands reads_all time)
          ∙ refused)

      renewal_out : out
          ≡ round_up (at_end h.ops)
          (turn e (at_end h.ops) (past e.first (behind_first e.times) h.ops).0 (past e.first (behind_first e.times) h.ops).1 (RenewalAt time ∷ []))
      renewal_out =
          asked.out_is
          ∙ (ap (λ (n : ℕ). frame_octets (renewal_frame n (client_next y) id time)) (same_channel asked.channel asked.channel_is)
          ∙ (ap (λ (n : ℕ). frame_octets (renewal_frame at.client.channel n id time)) i.number_is
          ∙ (ap (λ (n : ℕ). frame_octets (renewal_frame at.client.channel at.server.next n time)) renewal_id
          ∙ sym (append-nil (frame_octets (renewal_frame at.client.channel at.server.next at.id time))))))

      pub renewed_plain : IsPlain z (with_op h id (RenewalAt time) out)
      renewed_plain = one_plain (RenewalAt time) z id out (dated, tt) renewal_judged renewal_out (asked.next_is ∙ ap next_number i.number_is) renewal_id own
          goes

  -- ---- all that it did

  pub plain : (y : ClientChannel) (h : History) → Did e y h → IsPlain y h
  plain y h (Opened z got told own number goes back) =
      let is : hello_octets e.client e.url ++ open_frame_octets e.opened ≡ sent_in e [] =
      sym (append-nil (hello_octets e.client e.url ++ open_frame_octets e.opened)) in
      record {
        accepted = tt;
        sent_is = is;
        asks_are = tt;
        number_is = number;
        goes = goes;
        limits_are = own;
        got_is = came_first [] tt (hello_octets e.client e.url ++ open_frame_octets e.opened) is got back;
      }
  plain y h (Took {x = x} {h = k} z more told d own number goes back) =
      let i = plain x k d in
      record {
        accepted = i.accepted;
        sent_is = i.sent_is;
        asks_are = i.asks_are;
        number_is = number ∙ i.number_is;
        goes = goes;
        limits_are = own ∙ i.limits_are;
        got_is = came_first k.ops i.accepted k.sent i.sent_is (k.got ++ more) back;
      }
  plain y h (Called {x = x} {h = k} z id body out d many own some refused sends goes) =
      called_plain x k (plain x k d) z id body out many own some refused sends goes
  plain y h (Renewed {x = x} {h = k} z id time out d many own dated refused sends goes) =
      renewed_plain x k (plain x k d) z id time out many own dated refused sends goes

  pub own_ids : (y : ClientChannel) (h : History) → Did e y h → asked_in h.asks ≡ asked_from 2 h.ops
  own_ids y h d =
      let i = plain y h d in
      asked_same h.asks (asks_in e (singly h.ops)) i.asks_are
      ∙ asked_all e (length (opening_answer_of_ends e)) (both_opened e) e.first (behind_first e.times) h.ops
