-- Which replies a client has, in words of calls alone.
use Rattle.std.proofs.Common.{◌≡◌, ℕ, ◌+◌, ◌≤◌, List, [], ◌∷◌, ◌++◌, length, Result, refl, sym, ◌∙◌, ap, subst, arith, append_assoc, append-nil, length-append}
use Rattle.std.proofs.lemmas.List.{nil_from_length}
use Rattle.ua_builtin.specs.declared.date_time.DateTime.{DateTime}
use Rattle.ua_builtin.specs.declared.status_code.StatusCode.{StatusCode}
use Rattle.ua_frame.specs.After.{AllAfter, each_from}
use Rattle.ua_frame.specs.Frames.{frames_octets}
use Rattle.ua_frame.specs.Run.{Going, events}
use Rattle.ua_frame.specs.declared.hello.Hello.{Hello}
use Rattle.ua_chunk.specs.Cutting.{cut_refusal}
use Rattle.ua_channel.specs.Agreement.{agreement_of, lane_of}
use Rattle.ua_channel.specs.Client.{ClientEnded, client_limits, client_rules_of}
use Rattle.ua_channel.specs.ClientSends.{hello_to}
use Rattle.ua_channel.specs.ClientTable.{client_rules}
use Rattle.ua_channel.specs.ClientTold.{ClientTold, ClientTold as heard, Why}
use Rattle.ua_channel.specs.ServerTold.{Told}
use Rattle.ua_channel.specs.declared.client.channel.ClientChannel.{ClientChannel}
use Rattle.ua_channel_laws.specs.ClientReads.{ClientReads, lane_from, told_reply}
use Rattle.ua_channel_laws.specs.Outgoing.Outgoing.{CallWith, RenewalAt}
use Rattle.ua_channel_laws.specs.Outgoing.{Outgoing, server_behind}
use Rattle.ua_channel_laws.specs.Rounds.{BothEnds, answers_lane, round_behind, rounds_heard}
use Rattle.ua_channel_laws.proofs.Following.{client_begins, client_told}
use Rattle.ua_channel_laws.proofs.ReadOn.{events_on}
use Rattle.ua_channel_laws.proofs.Sized.{all_sized, front_sized}
use Rattle.ua_services.specs.Response.{response}
use Rattle.ua_server.specs.Reply.{answered}
use Rattle.ua_server.specs.Said.{behind_first, first_time, output_of, said_of, state_after}
use Rattle.ua_server.specs.State.{State}
use Rattle.ua_server.proofs.SaidInParts.{said-append}
use Rattle.ua_headline.specs.Headline.{AreAnswered, CameBack, Did, History, handed_in, numbered_from, replies_due, replies_in, reply_of}
use Rattle.ua_headline.specs.Talk.{CanOpen, Ends, IsPrefix, asks_in, both_opened, heard_in, rounds_from, sent_in, told_by_turns, left_by}
use Rattle.ua_headline.proofs.Fronts.{accepted_first, prefix_of_prefix}
use Rattle.ua_headline.proofs.Larger.{replied_as}
use Rattle.ua_headline.proofs.Pipelining.{IsPlain, all_down, at_end, length_heard_all, plain, reads, took_of}
use Rattle.ua_headline.proofs.ShortTold.{heads, tails, told_short}
use Rattle.ua_headline.proofs.Singly.{first_singly, singly}
use Rattle.ua_headline.proofs.Talking.{AsksEarlier, EndsConnect, RoundsReach, connected, first_told, not_failed, said, told_first}
use Rattle.ua_headline.proofs.Turning.{turn}

-- ---- the first of what replies tell

module _ (e : Ends) where
  abbrev heard_at : BothEnds → State → List DateTime → List Outgoing → List ClientTold
  heard_at at s times calls = rounds_heard e.server e.channel at (rounds_from e at s times (singly calls))

  -- what one operation is answered
  abbrev told_at_one : BothEnds → State → List DateTime → Outgoing → ClientTold
  told_at_one at s times (CallWith c) =
      told_reply (cut_refusal (answers_lane e.server e.channel at (CallWith c ∷ [])) (response.canonical (answered s (first_time times) c).1)) at.id
      (response.canonical (answered s (first_time times) c).1)
  told_at_one at s times (RenewalAt time) = heard.Renewed (at.server.issued + 1)

  -- what the client has of it
  has_one : (at : BothEnds) (s : State) (times : List DateTime) (o : Outgoing) (rest : List ClientTold) (done : List Outgoing)
      → at.server.hello ≡ hello_to e.client e.url
      → replies_in rest ≡ replies_due e (left_by s times (o ∷ [])).0 (left_by s times (o ∷ [])).1 (at.id + 1) done
      → replies_in (told_at_one at s times o ∷ rest) ≡ replies_due e s times at.id (o ∷ done)
  has_one at s times (CallWith c) rest done is later =
      let reply : List ℕ = response.canonical (answered s (first_time times) c).1 in
      let used : ℕ = (server_behind (lane_from at.client) at.server (CallWith c ∷ [])).used in
      ap (λ (hello : Hello). replies_in (told_reply (cut_refusal (lane_of e.channel used (agreement_of e.server hello)) reply) at.id reply ∷ rest)) is
      ∙ (replied_as e used at.id reply rest ∙ ap (λ (us : List (ℕ × Result (List ℕ) StatusCode)). (at.id, reply_of e reply) ∷ us) later)
  has_one at s times (RenewalAt time) rest done is later = later

  -- the answers to operations are these, one after another
  heard_one : (at : BothEnds) (s : State) (times : List DateTime) (o : Outgoing) (ops : List Outgoing)
      → rounds_heard e.server e.channel at (rounds_from e at s times (singly (o ∷ ops)))
      ≡ told_at_one at s times o ∷ rounds_heard e.server e.channel (round_behind e.server e.channel at (turn e at s times (o ∷ [])))
      (rounds_from e (round_behind e.server e.channel at (turn e at s times (o ∷ []))) (left_by s times (o ∷ [])).0 (left_by s times (o ∷ [])).1 (singly ops))
  heard_one at s times (CallWith c) ops = refl
  heard_one at s times (RenewalAt time) ops = refl

  same_hello : (at : BothEnds) (s : State) (times : List DateTime) (o : Outgoing) → at.server.hello ≡ hello_to e.client e.url
      → (round_behind e.server e.channel at (turn e at s times (o ∷ []))).server.hello ≡ hello_to e.client e.url
  same_hello at s times (CallWith c) is = is
  same_hello at s times (RenewalAt time) is = is

  -- they are what the first of the calls are answered
  pub record AreFor (at : BothEnds) (s : State) (times : List DateTime) (calls : List Outgoing) (told : List ClientTold) : Type 0 where
    pub done : List Outgoing
    pub first : IsPrefix done calls
    pub replies : replies_in told ≡ replies_due e s times at.id done
    pub size : length told ≡ length done

  are_for : (at : BothEnds) (s : State) (times : List DateTime) (calls : List Outgoing) (told : List ClientTold) → at.server.hello ≡ hello_to e.client e.url
      → IsPrefix told (heard_at at s times calls) → AreFor at s times calls told
  are_for at s times calls [] is p = record { done = []; first = (calls, refl); replies = refl; size = refl }
  are_for at s times [] (t ∷ told) is (more, same) = absurd (omega (arith, ap length same))
  are_for at s times (c ∷ calls) (t ∷ told) is (more, same) =
      let now : BothEnds = round_behind e.server e.channel at (turn e at s times (c ∷ [])) in
      let left : State × List DateTime = left_by s times (c ∷ []) in
      let both : told_at_one at s times c ∷ heard_at now left.0 left.1 calls ≡ t ∷ (told ++ more) = sym (heard_one at s times c calls) ∙ same in
      let one : t ≡ told_at_one at s times c = sym (heads (told_at_one at s times c) t (heard_at now left.0 left.1 calls) (told ++ more) both) in
      let rest = are_for now left.0 left.1 calls told (same_hello at s times c is)
      (more, tails (told_at_one at s times c) t (heard_at now left.0 left.1 calls) (told ++ more) both) in
      record {
        done = c ∷ rest.done;
        first = (rest.first.0, ap (λ (cs : List Outgoing). c ∷ cs) rest.first.1);
        replies = ap (λ (u : ClientTold). replies_in (u ∷ told)) one ∙ has_one at s times c told rest.done is rest.replies;
        size = omega (arith, rest.size);
      }

  -- with the opening
  are_answered : (calls : List Outgoing) (told : List ClientTold) → IsPrefix told (heard_in e (singly calls))
      → (done : List Outgoing) × AreAnswered e calls done told
  are_answered calls [] p = ([], record { first = (calls, refl); replies = refl; alone = omega arith })
  are_answered calls (u ∷ []) (more, is) = (
    [],
    record { first = (calls, refl); replies = ap (λ (v : ClientTold). replies_in (v ∷ [])) (sym (heads _ u _ more is)); alone = omega arith },
  )
  are_answered calls (u ∷ (v ∷ us)) (more, is) =
      let one = heads _ u _ (v ∷ (us ++ more)) is in
      let rest = tails _ u _ (v ∷ (us ++ more)) is in
      let two = heads (heard.Opened e.channel 1) v _ (us ++ more) rest in
      let are = are_for (both_opened e) e.first (behind_first e.times) calls us refl (more, tails (heard.Opened e.channel 1) v _ (us ++ more) rest) in (
        are.done,
        record {
          first = are.first;
          replies =
              ap (λ (w : ClientTold). replies_in (w ∷ (v ∷ us))) (sym one)
              ∙ (ap (λ (w : ClientTold). replies_in (w ∷ us)) (sym two) ∙ are.replies);
          alone = omega (arith, are.size);
        },
      )

-- as many replies are due as calls
length_due : (e : Ends) (s : State) (times : List DateTime) (id : ℕ) (ops : List Outgoing)
    → length (replies_due e s times id ops) ≡ length (numbered_from id ops)
length_due e s times id [] = refl
length_due e s times id (CallWith c ∷ ops) =
    let rest = length_due e (answered s (first_time times) c).0 (behind_first times) (id + 1) ops in omega (arith, rest)
length_due e s times id (RenewalAt time ∷ ops) = length_due e s (behind_first times) (id + 1) ops

more_first : (id : ℕ) (f : Outgoing) (first ops : List Outgoing) → length (numbered_from (id + 1) first) ≤ length (numbered_from (id + 1) ops)
    → length (numbered_from id (f ∷ first)) ≤ length (numbered_from id (f ∷ ops))
more_first id (CallWith body) first ops less = omega (arith, less)
more_first id (RenewalAt time) first ops less = less

-- the first operations have no more calls
fewer_first : (id : ℕ) (first ops : List Outgoing) → IsPrefix first ops → length (numbered_from id first) ≤ length (numbered_from id ops)
fewer_first id [] ops p = omega arith
fewer_first id (f ∷ first) [] (more, is) = absurd (omega (arith, ap length is))
fewer_first id (f ∷ first) (c ∷ ops) (more, is) =
    subst (λ (o : Outgoing). length (numbered_from id (f ∷ first)) ≤ length (numbered_from id (o ∷ ops))) (sym (heads c f ops (first ++ more) is))
    (more_first id f first ops (fewer_first (id + 1) first ops (more, tails c f ops (first ++ more) is)))

-- two lists that begin each other are one
same_both : {A : Type 0} (xs ys : List A) → IsPrefix xs ys → IsPrefix ys xs → xs ≡ ys
same_both {A = A} xs ys (m, p) (n, q) =
    sym (append-nil xs)
    ∙ (ap (λ (ms : List A). xs ++ ms) (sym (nil_from_length m (omega (arith, ap length p, ap length q, length-append xs m, length-append ys n)))) ∙ sym p)

-- as many are the same
as_many : {A : Type 0} (xs ys : List A) → IsPrefix xs ys → length ys ≤ length xs → xs ≡ ys
as_many {A = A} xs ys (m, p) enough =
    sym (append-nil xs)
    ∙ (ap (λ (ms : List A). xs ++ ms) (sym (nil_from_length m (omega (arith, ap length p, enough, length-append xs m)))) ∙ sym p)

-- ---- a client

module _ (connect : EndsConnect) (reach : RoundsReach) (earlier : AsksEarlier) (e : Ends) (can : CanOpen e) (y : ClientChannel) (h : History)
    (d : Did e y h) where
  i : IsPlain connect reach earlier e can y h
  i = plain connect reach earlier e can y h d

  abbrev hs : List ClientTold
  hs = heard_in e (singly h.ops)

  pub heard_first : IsPrefix h.heard (heard_in e (singly h.ops))
  heard_first = client_begins y h.asks h.got i.got_is.0 h.heard (heard_in e (singly h.ops)) (at_end connect reach earlier e can h.ops).client i.goes
      (reads connect reach earlier e can y h i)

  -- of what came to the first calls nothing is told of another
  heard_within : (done : List Outgoing) → IsPrefix done h.ops → IsPrefix h.got (all_down connect reach earlier e can done)
      → IsPrefix h.heard (heard_in e (singly done))
  unfolding AllAfter
  heard_within done first w =
      let accepted = accepted_first e (both_opened e) e.first (behind_first e.times) (singly done) (singly h.ops) (first_singly done h.ops first) i.accepted in
      let r = (connected connect reach e (singly done) can accepted).client_reads in
      let R = client_rules e.client (asks_in e (singly done)) in
      let k = i.goes in
      let parts : frames_octets k.frames ++ (k.rest ++ w.0) ≡ frames_octets r.frames =
      sym (append_assoc (frames_octets k.frames) k.rest w.0)
      ∙ (ap (λ (o : List ℕ). o ++ w.0) (sym k.stands.run.whole) ∙ (sym w.1 ∙ (r.run.whole ∙ append-nil (frames_octets r.frames)))) in
      let later = front_sized k.frames r.frames (k.rest ++ w.0) (all_sized (client_rules_of y h.asks) [] k.frames k.stands.run.good)
      (all_sized R [] r.frames r.run.good) parts in (
        each_from R.tells k.frames later.0,
        sym r.told_is
            ∙ (ap (events R) later.1 ∙ (events_on R k.frames later.0 ∙ ap (λ (us : List ClientTold). us ++ each_from R.tells k.frames later.0) k.told_is)),
      )

  no_more : (c : CameBack e h.sent h.got) → length (replies_in h.heard) ≤ length (handed_in c.told)
  no_more c =
      let t = told_short connect reach earlier e can y h d c.x c.limits_are c.channel_is c.took c.took_is c.told c.goes in
      let accepted =
      accepted_first e (both_opened e) e.first (behind_first e.times) (singly t.0) (singly h.ops) (first_singly t.0 h.ops t.1.first) i.accepted in
      let more : List ℕ = said_of e.channel (state_after e.channel e.first c.told e.times) t.3.0 ++ [] in
      let down : IsPrefix h.got (all_down connect reach earlier e can t.0) =
      prefix_of_prefix h.got (output_of e.channel e.first c.told Going e.times) (all_down connect reach earlier e can t.0) c.got_is (
        more,
        sym (said connect reach e (singly t.0) can accepted).said
            ∙ (ap (λ (ts : List Told). output_of e.channel e.first ts Going e.times) t.3.1 ∙ said-append e.channel e.first c.told t.3.0 Going e.times),
      ) in
      let a = are_answered e t.0 h.heard (heard_within t.0 t.1.first down) in
      omega (
        arith,
        ap length a.1.replies,
        length_due e e.first (behind_first e.times) 2 a.0,
        fewer_first 2 a.0 t.0 a.1.first,
        ap length t.1.handed,
      )

  pub answered_short : (done : List Outgoing) × AreAnswered e h.ops done h.heard
      × ((c : CameBack e h.sent h.got) → length (replies_in h.heard) ≤ length (handed_in c.told))
  answered_short = let a = are_answered e h.ops h.heard heard_first in (a.0, a.1, no_more)

  -- where all was taken and all came
  pub all_short : (c : CameBack e h.sent h.got) → c.took ≡ h.sent → h.got ≡ output_of e.channel e.first c.told Going e.times
      → AreAnswered e h.ops h.ops h.heard × (length h.heard ≡ length h.ops + 2)
  all_short c took got =
      let t = took_of connect reach earlier e can h.ops i.accepted h.sent i.sent_is h.got c in
      let whole : IsPrefix (sent_in e (singly h.ops)) c.took = ([], took ∙ (i.sent_is ∙ sym (append-nil (sent_in e (singly h.ops))))) in
      let told_is : c.told ≡ told_by_turns e (singly h.ops) =
      same_both c.told (told_by_turns e (singly h.ops)) (told_first connect reach e (singly h.ops) c.x c.took t c.told c.goes)
      (first_told connect reach e (singly h.ops) c.x c.took t (singly h.ops) (first_singly h.ops h.ops ([], sym (append-nil h.ops))) c.told c.goes
      whole) in
      let down : h.got ≡ all_down connect reach earlier e can h.ops =
      got
      ∙ (ap (λ (ts : List Told). output_of e.channel e.first ts Going e.times) told_is ∙ (said connect reach e (singly h.ops) can i.accepted).said) in
      let there : ClientReads (client_limits y) h.asks h.got (heard_in e (singly h.ops)) (at_end connect reach earlier e can h.ops).client =
      subst
      (λ (o : List ℕ). ClientReads (client_limits y) h.asks o (heard_in e (singly h.ops)) (at_end connect reach earlier e can h.ops).client)
      (sym i.got_is.1 ∙ sym down) (reads connect reach earlier e can y h i) in
      let same : h.heard ≡ heard_in e (singly h.ops) =
      client_told y h.asks h.got h.heard (heard_in e (singly h.ops)) (at_end connect reach earlier e can h.ops).client i.goes there in
      let size = length_heard_all e h.ops in
      let a = are_answered e h.ops h.heard heard_first in
      let done : a.0 ≡ h.ops = as_many a.0 h.ops a.1.first (omega (arith, a.1.alone, ap length same, size)) in
      (subst (λ (cs : List Outgoing). AreAnswered e h.ops cs h.heard) done a.1, omega (arith, ap length same, size))

  pub not_failed_short : (z : ClientChannel) (more : List ℕ) (told : List ClientTold) (why : Why) → CameBack e h.sent (h.got ++ more)
      → client_limits z ≡ e.client → ClientEnded z h.asks (h.got ++ more) told why → ⊥
  not_failed_short z more told why c limits ended =
      not_failed connect reach earlier e (singly h.ops) c.x z h.asks (h.got ++ more)
      (record {
        took = c.took;
        took_of = took_of connect reach earlier e can h.ops i.accepted h.sent i.sent_is (h.got ++ more) c;
        told = c.told;
        goes = c.goes;
        limits_are = limits;
        asks_are = i.asks_are;
        got_is = c.got_is;
      }) told why ended
