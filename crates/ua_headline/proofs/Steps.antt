-- Where both ends are behind one turn more, and what a server's words are to octets of which it took a prefix.
use Rattle.std.proofs.Common.{◌≡◌, ◌⊎◌, inl, inr, ℕ, ◌+◌, ◌<◌, ◌≤◌, ◌^◌, List, [], ◌∷◌, ◌++◌, None, length, refl, sym, ◌∙◌, ap, subst, arith, append_assoc}
use Rattle.ua_builtin.specs.declared.date_time.DateTime.{DateTime}
use Rattle.ua_frame.specs.After.{each_from}
use Rattle.ua_frame.specs.Run.{Going, Rules, Run, events}
use Rattle.ua_frame.specs.declared.limits.Limits.{Limits}
use Rattle.ua_frame.proofs.Readings.{reading}
use Rattle.ua_frame.proofs.Unique.{unique}
use Rattle.ua_chunk.proofs.Lists.{filter_append}
use Rattle.ua_channel.specs.Asks.{Placed, asked_in, next_id}
use Rattle.ua_channel.specs.ClientTable.{client_rules}
use Rattle.ua_channel.specs.ClientTold.{ClientTold}
use Rattle.ua_channel.specs.ServerStands.{Goes, channel_of, limits_of, rules_of}
use Rattle.ua_channel.specs.ServerTold.{Told}
use Rattle.ua_channel.specs.declared.server.ServerChannel.{ServerChannel}
use Rattle.ua_channel.proofs.Askings.{next-append}
use Rattle.ua_channel_laws.specs.Answers.{Answer, answers_told}
use Rattle.ua_channel_laws.specs.ClientReads.{ClientReads, IsLaneBack}
use Rattle.ua_channel_laws.specs.InStep.{AreInStep}
use Rattle.ua_channel_laws.specs.Outgoing.Outgoing.{CallWith, RenewalAt}
use Rattle.ua_channel_laws.specs.Outgoing.{AreWritable, Outgoing, asks_at, client_behind, outgoing_refusal, outgoing_told}
use Rattle.ua_channel_laws.specs.Rounds.{AreConnected, BothEnds, IsRound, answers_lane, both_sent, round_behind, round_down, round_up}
use Rattle.ua_channel_laws.specs.ServerReads.{AtServer, ServerReads}
use Rattle.ua_channel_laws.proofs.Following.{server_begins}
use Rattle.ua_channel_laws.proofs.Groups.{asks_outgoing, in_step_answers, reads_answers, reads_outgoing}
use Rattle.ua_channel_laws.proofs.InStep.{lane_from_server}
use Rattle.ua_channel_laws.proofs.ReadOn.{events_on}
use Rattle.ua_server.specs.Reply.{answered}
use Rattle.ua_server.specs.Said.{behind_first, first_time, output_of, said_of, state_after}
use Rattle.ua_server.specs.State.{State}
use Rattle.ua_server.proofs.SaidInParts.{said-append}
use Rattle.ua_client.specs.Told.{is_told_of, told_of}
use Rattle.ua_headline.specs.Talk.{Ends, IsPrefix, answers_to, left_by}
use Rattle.ua_headline.proofs.Answered.{AreDated, dated_left}
use Rattle.ua_channel_laws.proofs.Further.{behind, run_further}
use Rattle.ua_headline.proofs.HeardIds.{later_none}
use Rattle.ua_headline.proofs.Heards.{answers_tell}
use Rattle.ua_channel_laws.proofs.Lists.{meets}
use Rattle.ua_headline.proofs.Tells.{TellsLast}
use Rattle.ua_headline.proofs.Turning.{IsBetween, IsSaid, between_then, is_round, said_then, turn}

-- ---- between two turns

-- both ends are connected between two turns: these octets were sent to the server and told it this; those were sent to the client, which asked so and
-- was told that, of no call behind the last
pub record AreHere (e : Ends) (at : BothEnds) (s : State) (times : List DateTime) (up : List ℕ) (ts : List Told) (asks : List Placed) (down : List ℕ)
    (hs : List ClientTold) : Type 0 where
  pub connected : AreConnected e.server e.client e.url e.channel up ts asks down hs at
  pub between : IsBetween e at
  pub dated : AreDated times
  pub said : IsSaid e at ts s times down
  pub none_later : (k : ℕ) → at.id ≤ k → told_of k hs ≡ []

length_asks : (place id : ℕ) (os : List Outgoing) → length (asks_at place id os) ≡ length os
length_asks place id [] = refl
length_asks place id (o ∷ os) = omega (arith, length_asks place (id + 1) os)

pub next_asks : (asks : List Placed) (place id : ℕ) (os : List Outgoing) → next_id (asked_in (asks ++ asks_at place id os)) ≡ next_id (asked_in asks)
    + length os
next_asks asks place id os = omega (arith, next-append asks (asks_at place id os), length_asks place id os)

length_answers : (s : State) (times : List DateTime) (issued id : ℕ) (os : List Outgoing) → length (answers_to s times issued id os) ≡ length os
length_answers s times issued id [] = refl
length_answers s times issued id (CallWith body ∷ os) =
    omega (arith, length_answers (answered s (first_time times) body).0 (behind_first times) issued (id + 1) os)
length_answers s times issued id (RenewalAt time ∷ os) = omega (arith, length_answers s (behind_first times) (issued + 1) (id + 1) os)

module _ (e : Ends) (on : e.channel < 2 ^ 32) (at : BothEnds) (s : State) (times : List DateTime) (up : List ℕ) (ts : List Told) (asks : List Placed)
    (down : List ℕ) (hs : List ClientTold)
    (h : AreHere e at s times up ts asks down hs) (os : List Outgoing) (writable : AreWritable os) (judged : outgoing_refusal at.client at.id os ≡ None) where
  abbrev sent : BothEnds
  sent = both_sent at os

  abbrev answers : List Answer
  answers = answers_to s times at.server.issued at.id os

  abbrev asks_then : List Placed
  asks_then = asks ++ asks_at (length down) at.id os

  round : IsRound e.server e.channel at (turn e at s times os)
  round = is_round e at s times os h.between h.dated writable judged

  server_then : ServerReads e.server e.channel (up ++ round_up at (turn e at s times os)) (ts ++ outgoing_told at.client.newest at.server.issued at.id os)
      sent.server × AreInStep e.server e.client e.url e.channel sent.server sent.client
  server_then = reads_outgoing e.server e.client e.url e.channel on up ts at.server at.client at.id os h.connected.server_reads h.connected.in_step
      h.connected.client_reads.newest_is writable judged round.few

  client_then : ClientReads e.client asks_then down hs sent.client
  client_then =
      subst (λ (id : ℕ). ClientReads e.client (asks ++ asks_at (length down) id os) down hs (client_behind at.client id os)) (sym h.connected.id_is)
      (asks_outgoing e.client down hs asks at.client os h.connected.client_reads)

  back : IsLaneBack e.client sent.client (answers_lane e.server e.channel at os)
  back =
      lane_from_server e.server e.client e.url e.channel sent.server sent.client server_then.1 on
      (omega (arith, server_then.0.few_issued, server_then.1.taken.not_before, server_then.1.taken.issued))

  -- both are connected behind it
  pub here_then : AreHere e (round_behind e.server e.channel at (turn e at s times os)) (left_by s times os).0 (left_by s times os).1
      (up ++ round_up at (turn e at s times os)) (ts ++ outgoing_told at.client.newest at.server.issued at.id os)
      (asks ++ asks_at (length down) at.id os) (down ++ round_down e.server e.channel at (turn e at s times os))
      (hs ++ answers_told (answers_lane e.server e.channel at os) (answers_to s times at.server.issued at.id os))
  here_then = record {
    connected = record {
      server_reads = server_then.0;
      client_reads = reads_answers e.client asks_then (answers_lane e.server e.channel at os) down hs sent.client answers client_then back round.answered;
      in_step = in_step_answers e.server e.client e.url e.channel sent.server sent.client answers server_then.1 round.brings;
      id_is = omega (arith, h.connected.id_is, next_asks asks (length down) at.id os);
    };
    between = between_then e at s times os h.between h.dated writable judged;
    dated = dated_left s times os h.dated;
    said = said_then e at s times os h.between ts down h.said;
    none_later = λ k past.
        filter_append (is_told_of k) hs (answers_told (answers_lane e.server e.channel at os) answers)
        ∙ (ap (λ (us : List ClientTold). us ++ told_of k (answers_told (answers_lane e.server e.channel at os) answers)) (h.none_later k (omega (arith, past)))
        ∙ later_none (answers_lane e.server e.channel at os) s times at.server.issued at.id os k past);
  }

  -- and the client is told something at the last octet of the answers
  pub tells_then : 0 < length os → TellsLast (client_rules e.client (asks ++ asks_at (length down) at.id os))
      (down ++ round_down e.server e.channel at (turn e at s times os))
  tells_then some = answers_tell e.client asks_then (answers_lane e.server e.channel at os) down hs sent.client answers client_then back round.answered
      (omega (arith, some, length_answers s times at.server.issued at.id os))

-- ---- a server that took a prefix of what was sent

-- where it took all of these octets, it was told what they tell
pub told_further : (x : ServerChannel) (took octets : List ℕ) (told ts : List Told) (at : AtServer) → Goes x took told
    → ServerReads (limits_of x) (channel_of x) octets ts at → IsPrefix octets took → IsPrefix ts told
told_further x took octets told ts at g r p =
    let R : Rules Told ℕ = rules_of x in
    let s = reading (behind R r.frames) p.0 in
    let run = run_further R octets p.0 r.frames s.frames [] s.rest s.end r.run s.run in
    let same = unique R took g.frames (r.frames ++ s.frames) g.rest s.rest Going s.end g.stands.run
    (subst (λ (o : List ℕ). Run R o (r.frames ++ s.frames) s.rest s.end) (sym p.1) run) in (
      each_from R.tells r.frames s.frames,
      sym g.told_is
          ∙ (ap (events R) same.frames ∙ (events_on R r.frames s.frames ∙ ap (λ (us : List Told). us ++ each_from R.tells r.frames s.frames) r.told_is)),
    )

-- what it says of more that it is told begins with what it said before
said_first : (e : Ends) (ts more : List Told) → IsPrefix (output_of e.channel e.first ts Going e.times) (output_of e.channel e.first (ts ++ more) Going e.times)
said_first e ts more = (said_of e.channel (state_after e.channel e.first ts e.times) more ++ [], said-append e.channel e.first ts more Going e.times)

module _ (e : Ends) (x : ServerChannel) (limits_are : limits_of x ≡ e.server) (channel_is : channel_of x ≡ e.channel) (took : List ℕ) (told : List Told)
    (g : Goes x took told) where
  pub as_own : (octets : List ℕ) (ts : List Told) (s : AtServer) → ServerReads e.server e.channel octets ts s
      → ServerReads (limits_of x) (channel_of x) octets ts s
  as_own octets ts s r =
      subst (λ (l : Limits). ServerReads l (channel_of x) octets ts s) (sym limits_are)
      (subst (λ (k : ℕ). ServerReads e.server k octets ts s) (sym channel_is) r)

  -- of two beginnings of what was sent one begins the other, and so of what is said of them
  said_beside : (up down : List ℕ) (ts : List Told) (s : AtServer) → ServerReads e.server e.channel up ts s
      → output_of e.channel e.first ts Going e.times ≡ down
      → (((more : List ℕ) × (up ≡ took ++ more)) ⊎ ((more : List ℕ) × (took ≡ up ++ more))) → IsPrefix (output_of e.channel e.first told Going e.times) down
      ⊎ IsPrefix down (output_of e.channel e.first told Going e.times)
  said_beside up down ts s r is (inl m) =
      let p = server_begins x took m.0 told ts s g (subst (λ (o : List ℕ). ServerReads (limits_of x) (channel_of x) o ts s) m.1 (as_own up ts s r)) in
      let q = said_first e told p.0 in
      inl (q.0, sym is ∙ (ap (λ (us : List Told). output_of e.channel e.first us Going e.times) p.1 ∙ q.1))
  said_beside up down ts s r is (inr m) =
      let p = told_further x took up told ts s g (as_own up ts s r) m in
      let q = said_first e ts p.0 in
      inr (q.0, ap (λ (us : List Told). output_of e.channel e.first us Going e.times) p.1 ∙ (q.1 ∙ ap (λ (o : List ℕ). o ++ q.0) is))

  -- so what the client got of it and what is said of the first octets that were sent begin each other
  pub got_beside : (all got up down : List ℕ) (ts : List Told) (s : AtServer) → IsPrefix took all
      → IsPrefix got (output_of e.channel e.first told Going e.times) → IsPrefix up all → ServerReads e.server e.channel up ts s
      → output_of e.channel e.first ts Going e.times ≡ down → ((more : List ℕ) × (down ≡ got ++ more)) ⊎ ((more : List ℕ) × (got ≡ down ++ more))
  got_beside all got up down ts s t w u r is = by (said_beside up down ts s r is (swap (meets up took u.0 t.0 (sym u.1 ∙ t.1))))
    where
      swap : (((more : List ℕ) × (took ≡ up ++ more)) ⊎ ((more : List ℕ) × (up ≡ took ++ more))) → ((more : List ℕ) × (up ≡ took ++ more))
          ⊎ ((more : List ℕ) × (took ≡ up ++ more))
      swap (inl m) = inr m
      swap (inr m) = inl m

      by : IsPrefix (output_of e.channel e.first told Going e.times) down ⊎ IsPrefix down (output_of e.channel e.first told Going e.times)
          → ((more : List ℕ) × (down ≡ got ++ more)) ⊎ ((more : List ℕ) × (got ≡ down ++ more))
      by (inl m) = inl (w.0 ++ m.0, m.1 ∙ (ap (λ (o : List ℕ). o ++ m.0) w.1 ∙ append_assoc got w.0 m.0))
      by (inr m) = meets got down w.0 m.0 (sym w.1 ∙ m.1)
