-- A client over a line to a server, behind one turn more.
use Rattle.std.proofs.Common.{◌≡◌, ℕ, ◌+◌, ◌<◌, IsTrue, List, [], ◌∷◌, ◌++◌, Option, Some, None, Ok, Err}
use Rattle.std.proofs.Common.{map, sym, ◌∙◌, ap, subst, add-zero, append_assoc, arith, length, refl}
use Rattle.std.proofs.lemmas.List.{length-map}
use Rattle.ua_builtin.specs.DateTime.{date_time}
use Rattle.ua_builtin.specs.Reasons.{first_reason}
use Rattle.ua_builtin.specs.declared.date_time.DateTime.{DateTime}
use Rattle.ua_frame.specs.Run.{Going, Over}
use Rattle.ua_frame.proofs.Afters.{AllAfter-push}
use Rattle.ua_chunk.specs.declared.lane.Lane.{Lane}
use Rattle.ua_channel.specs.Client.{SameClient}
use Rattle.ua_channel.specs.ClientAsks.{call_lane}
use Rattle.ua_channel.specs.Line.{Traffic}
use Rattle.ua_channel_laws.specs.ServerReads.{ServerCloses}
use Rattle.ua_channel.specs.ServerTold.{Told, Closed}
use Rattle.ua_services.specs.Request.{request}
use Rattle.ua_services.specs.declared.request.Request.{Request}
use Rattle.ua_server.specs.Said.{output_of, used_in}
use Rattle.ua_server.specs.State.{State}
use Rattle.ua_server.proofs.SaidInParts.{used_in-append}
use Rattle.ua_client.specs.Calls.{AnsweredAll, BrokenAll, all_of}
use Rattle.ua_client.specs.Client.{closing_at, closing_by}
use Rattle.ua_client.specs.Hearing.{MovesConnection, channel_of_connection}
use Rattle.ua_client.specs.Renewing.{Renews}
use Rattle.ua_client.specs.Sent.{bodies_of}
use Rattle.ua_client.specs.ClientPlace.{ClientPlace, StandsAt, id_at}
use Rattle.ua_client.specs.declared.connection.Connection.{Connection}
use Rattle.ua_client.specs.declared.fault.ClientFault.{ClientFault}
use Rattle.ua_client.specs.declared.reply.Reply.{Reply}
use Rattle.ua_client.proofs.Settled.{NonePending}
use Rattle.ua_loopback.specs.Accepted.{IsAcceptedUnder, IsTurnFault, held_behind, tokens_held, turn_reasons_under, turn_refusal_under}
use Rattle.ua_loopback.specs.Beginning.{Beginning}
use Rattle.ua_loopback.specs.Replies.{lane_back_by_token, requests_replies, turn_state}
use Rattle.ua_loopback.specs.Says.{services_after, server_output, answer_times, state_told}
use Rattle.ua_loopback.specs.Sends.{closing_behind, turn_number, turn_octets}
use Rattle.ua_loopback.specs.Talking.{AreTalking, Reads, SoFar, TalksAt, acked_in, answers_in, closed_octets, id_in}
use Rattle.ua_loopback.specs.Talking.{octets_of_turn, state_in, newest_in, told_so_far, with_turn}
use Rattle.ua_loopback.specs.Turns.{id_behind_turn, ids_behind, opening_told, token_behind_turn, turn_told, turns_told}
use Rattle.ua_loopback.proofs.Pushes.{held_push, ids_push, number_push, state_push, told_push, tokens_push}
use Rattle.ua_loopback.proofs.Reaching.{closing_read}
use Rattle.ua_loopback.proofs.Replying.{calls_used, state_renewal}
use Rattle.ua_loopback.proofs.Rounds.{Behind, closing_there}
use Rattle.ua_loopback.proofs.Saying.{left_by_run, said_by_run, said_over}
use Rattle.ua_loopback.proofs.Staying.{said_there}
use Rattle.ua_loopback.proofs.Talks.{answered_behind, asked_refused, asked_state, first_behind, refused_at, refused_octets, renewal_sent}
use Rattle.ua_loopback.proofs.Talks.{renewed_judged, renewing_refused, rounds_octets, talking_as, talks_asked, talks_renewed}

-- ---- what is told, and left

-- with a turn more
pub told_more : (t : SoFar) (moment : DateTime) (turn : Option (List Request))
    → told_so_far (with_turn t moment turn) ≡ told_so_far t ++ turn_told (newest_in t) (id_in t) turn
told_more t moment turn =
    let first : List Told = opening_told t.server.limits t.limits t.url in
    ap (λ (ts : List Told). first ++ ts) (told_push 1 2 t.turns turn)
    ∙ sym (append_assoc first (turns_told 1 2 t.turns) (turn_told (newest_in t) (id_in t) turn))

-- the server reads all that was sent
pub talk_read : (t : SoFar) (site : ClientPlace) (x : Connection) (now : Option Traffic) → TalksAt t site x now → Reads t.server t.octets (told_so_far t)
talk_read t site x now s = (s.talking.served.at_server, s.talking.served.serving.together.server_reads)

-- and its services are as the turns leave them
pub talk_left : (t : SoFar) (site : ClientPlace) (x : Connection) (now : Option Traffic) → TalksAt t site x now → services_after t.server t.octets ≡ state_in t
talk_left t site x now s =
    let r = s.talking.served.serving.together.server_reads in
    left_by_run t.server t.octets r.frames [] Going r.run ∙ (ap (λ (ts : List Told). state_told t.server ts) r.told_is ∙ s.state_is)

-- so many answers were made to that
turn_used : (n token id : ℕ) (turn : Option (List Request)) → n + used_in (turn_told token id turn) ≡ id_behind_turn n turn
turn_used n token id (Some requests) = ap (λ (k : ℕ). n + k) (calls_used token id (bodies_of requests) ∙ length-map requests request.canonical)
turn_used n token id None = refl

turns_used : (n token id : ℕ) (turns : List (Option (List Request))) → n + used_in (turns_told token id turns) ≡ ids_behind n turns
turns_used n token id [] = add-zero n
turns_used n token id (t ∷ turns) =
    let later : ℕ = used_in (turns_told (token_behind_turn token t) (id_behind_turn id t) turns) in
    let parts = used_in-append (turn_told token id t) (turns_told (token_behind_turn token t) (id_behind_turn id t) turns) in
    let one = turn_used n token id t in
    let here : n + used_in (turns_told token id (t ∷ turns)) ≡ id_behind_turn n t + later = omega (arith, parts, one) in
    here ∙ turns_used (id_behind_turn n t) (token_behind_turn token t) (id_behind_turn id t) turns

pub used_so_far : (t : SoFar) → used_in (told_so_far t) ≡ answers_in t
used_so_far t =
    used_in-append (opening_told t.server.limits t.limits t.url) (turns_told 1 2 t.turns) ∙ turns_used 1 1 2 t.turns

-- ---- the same behind a turn

module _ (t : SoFar) (moment : DateTime) (turn : Option (List Request)) (site : ClientPlace) (y : Connection) (after : Option Traffic)
    (s : TalksAt (with_turn t moment turn) site y after) where
  pub turn_read : Reads t.server (with_turn t moment turn).octets (told_so_far t ++ turn_told (newest_in t) (id_in t) turn)
  turn_read = subst (λ (ts : List Told). Reads t.server (with_turn t moment turn).octets ts) (told_more t moment turn)
      (talk_read (with_turn t moment turn) site y after s)

  pub turn_left : services_after t.server (with_turn t moment turn).octets ≡ turn_state (state_in t) t.server.moments (answers_in t) turn
  turn_left = talk_left (with_turn t moment turn) site y after s ∙ state_push t.server.first t.server.moments 1 t.turns turn

-- ---- one turn more

module _ (t : SoFar) (site : ClientPlace) (x : Connection) (before : Option Traffic) (s : TalksAt t site x before) (y : Connection) (after : Option Traffic)
    (sent : List ℕ) where
  abbrev b : Beginning
  b = t.server

  abbrev held : ℕ
  held = tokens_held 1 t.turns

  abbrev lane : Lane
  lane = call_lane (acked_in t) b.channel (newest_in t)

  more_sent : (moment : DateTime) (turn : Option (List Request)) → sent ≡ turn_octets lane site.number (id_in t) moment turn
      → sent ≡ octets_of_turn t moment turn
  more_sent moment turn is = is ∙ ap (λ (n : ℕ). turn_octets lane n (id_in t) moment turn) s.number_is

  more_talking : SameClient (channel_of_connection x) (channel_of_connection y) → (moment : DateTime) (turn : Option (List Request)) (u : ClientPlace)
      → sent ≡ octets_of_turn t moment turn
      → AreTalking b t.limits t.url (t.octets ++ sent) (told_so_far t ++ turn_told (newest_in t) (id_in t) turn) (token_behind_turn (newest_in t) turn)
      (id_behind_turn (id_in t) turn) (held_behind held turn) u y after
      → u.number ≡ turn_number lane site.number turn → first_reason (turn_reasons_under (acked_in t) held (id_in t) turn) ≡ None
      → state_told b (told_so_far t ++ turn_told (newest_in t) (id_in t) turn) ≡ turn_state (state_told b (told_so_far t)) b.moments (used_in (told_so_far t))
      turn
      → TalksAt (with_turn t moment turn) u y after
  more_talking same moment turn u sent_is talking number_is judged state = record {
    url_is = sym same.url ∙ s.url_is;
    dated = s.dated;
    accepted = AllAfter-push (IsAcceptedUnder (acked_in t)) t.turns turn s.accepted judged;
    number_is = number_is ∙ (ap (λ (n : ℕ). turn_number lane n turn) s.number_is ∙ sym (number_push (acked_in t) b.channel 1 2 t.turns turn));
    state_is =
        ap (λ (ts : List Told). state_told b ts) (told_more t moment turn)
        ∙ (state
        ∙ (ap (λ (st : State). turn_state st b.moments (used_in (told_so_far t)) turn) s.state_is
        ∙ (ap (λ (n : ℕ). turn_state (state_in t) b.moments n turn) (used_so_far t) ∙ sym (state_push b.first b.moments 1 t.turns turn))));
    talking =
        talking_as b t.limits t.url (t.octets ++ sent) (t.octets ++ octets_of_turn t moment turn) (told_so_far t ++ turn_told (newest_in t) (id_in t) turn)
        (told_so_far (with_turn t moment turn)) (token_behind_turn (newest_in t) turn) (newest_in (with_turn t moment turn))
        (id_behind_turn (id_in t) turn) (id_in (with_turn t moment turn)) (held_behind held turn) (tokens_held 1 (t.turns ++ turn ∷ [])) u y after
        (ap (λ (o : List ℕ). t.octets ++ o) sent_is) (sym (told_more t moment turn)) (sym (tokens_push 1 t.turns turn)) (sym (ids_push 2 t.turns turn))
        (sym (held_push 1 t.turns turn)) talking;
  }

  module _ (moves : MovesConnection x y sent before after) (same : SameClient (channel_of_connection x) (channel_of_connection y)) where
    -- requests are answered
    module _ (moment : DateTime) (requests : List Request) (replies : List Reply) (u : ClientPlace) (at : StandsAt (channel_of_connection y) u)
        (octets_are : u.octets ≡ site.octets ++ moves.taken)
        (there : Behind b t.limits t.url t.octets (told_so_far t) (newest_in t) (id_in t) held site.number sent replies requests u) where
      pub asked_sent : sent ≡ octets_of_turn t moment (Some requests)
      asked_sent = more_sent moment (Some requests) there.sent_is

      pub asked_more : TalksAt (with_turn t moment (Some requests)) u y after
      asked_more =
          more_talking same moment (Some requests) u asked_sent
          (talks_asked b t.limits t.url t.octets (told_so_far t) (newest_in t) (id_in t) held site x before s.talking y after sent moves same requests replies u
          at
          octets_are there) there.number_is there.judged
          (asked_state b t.limits t.url t.octets (told_so_far t) (newest_in t) (id_in t) held site x before s.talking y after sent moves same requests replies u
          at
          octets_are there)

      asked_replies : map (λ (r : Reply). Some r) replies ≡ requests_replies (lane_back_by_token b t.limits t.url (newest_in t)) (state_in t) b.moments
          (answers_in t) requests
      asked_replies =
          there.replies_are
          ∙ (ap (λ (st : State). requests_replies (lane_back_by_token b t.limits t.url (newest_in t)) st b.moments (used_in (told_so_far t)) requests)
          s.state_is
          ∙ ap (λ (n : ℕ). requests_replies (lane_back_by_token b t.limits t.url (newest_in t)) (state_in t) b.moments n requests) (used_so_far t))

    -- all of them
    module _ (law : NonePending) (moment : DateTime) (requests : List Request) (replies : List Reply)
        (q : AnsweredAll requests site (channel_of_connection y) sent moves.taken replies) where
      there : Behind b t.limits t.url t.octets (told_so_far t) (newest_in t) (id_in t) held site.number sent replies requests q.behind
      there = answered_behind b t.limits t.url t.octets (told_so_far t) (newest_in t) (id_in t) held site x before s.talking y after sent moves same law
          requests
          replies q

      pub calls_sent : sent ≡ octets_of_turn t moment (Some requests)
      calls_sent = asked_sent moment requests replies q.behind q.at (rounds_octets q.rounds) there

      pub calls_talk : TalksAt (with_turn t moment (Some requests)) q.behind y after
      calls_talk = asked_more moment requests replies q.behind q.at (rounds_octets q.rounds) there

      pub calls_replied : map (λ (r : Reply). Some r) replies ≡ requests_replies (lane_back_by_token b t.limits t.url (newest_in t))
          (state_in t) b.moments (answers_in t) requests
      calls_replied = asked_replies moment requests replies q.behind q.at (rounds_octets q.rounds) there

    -- or the first of them, up to one that is refused
    module _ (law : NonePending) (moment : DateTime) (requests : List Request) (f : ClientFault) (is : IsTurnFault f)
        (q : BrokenAll requests site y sent moves.taken f) where
      pub calls_refused : turn_refusal_under (acked_in t) t.turns (Some requests) ≡ Some f
      calls_refused = asked_refused b t.limits t.url t.octets (told_so_far t) (newest_in t) (id_in t) held site x before s.talking y after sent moves same law
          requests f is q

      first_there : Behind b t.limits t.url t.octets (told_so_far t) (newest_in t) (id_in t) held site.number sent q.replies (all_of q.groups) q.behind
      first_there = first_behind b t.limits t.url t.octets (told_so_far t) (newest_in t) (id_in t) held site x before s.talking y after sent moves same law
          requests
          f is q

      pub first_at : StandsAt (channel_of_connection y) q.behind
      first_at = refused_at b t.limits t.url t.octets (told_so_far t) (newest_in t) (id_in t) held site x before s.talking y after sent moves same law requests
          f is
          q

      pub first_octets : q.behind.octets ≡ site.octets ++ moves.taken
      first_octets = refused_octets b t.limits t.url t.octets (told_so_far t) (newest_in t) (id_in t) held site x before s.talking y after sent moves same law
          requests f is q

      pub first_sent : sent ≡ octets_of_turn t moment (Some (all_of q.groups))
      first_sent = asked_sent moment (all_of q.groups) q.replies q.behind first_at first_octets first_there

      pub first_replied : map (λ (r : Reply). Some r) q.replies ≡ requests_replies (lane_back_by_token b t.limits t.url (newest_in t)) (state_in t) b.moments
          (answers_in t) (all_of q.groups)
      first_replied = asked_replies moment (all_of q.groups) q.replies q.behind first_at first_octets first_there

      pub first_talk : TalksAt (with_turn t moment (Some (all_of q.groups))) q.behind y after
      first_talk = asked_more moment (all_of q.groups) q.replies q.behind first_at first_octets first_there

-- the token is renewed
module _ (t : SoFar) (site : ClientPlace) (x : Connection) (before : Option Traffic) (s : TalksAt t site x before) (y : Connection) (after : Option Traffic)
    (moment : DateTime) where
  module _ (dated : IsTrue (date_time.encodable moment)) (done : Unit {0}) (c : Renews {A = Unit {0}} moment x y before after (Ok done))
      (at : StandsAt (channel_of_connection x) site) where
    judged : turn_refusal_under (acked_in t) t.turns None ≡ None
    judged = renewed_judged t.server t.limits t.url t.octets (told_so_far t) (newest_in t) (id_in t) (tokens_held 1 t.turns) site x before s.talking y after
        c.sent
        c.moves c.same moment (sym (c.judged site at))

    pub renewing_sent : c.sent ≡ octets_of_turn t moment None
    renewing_sent =
        more_sent t site x before s y after c.sent moment None
        ((c.answers site at).0 ∙ renewal_sent t.server t.limits t.url t.octets (told_so_far t) (newest_in t) (id_in t) (tokens_held 1 t.turns) site x before
        s.talking y after c.sent c.moves c.same moment)

    pub renewing_talks : TalksAt (with_turn t moment None) (c.answers site at).1.0 y after
    renewing_talks =
        let a = c.answers site at in
        more_talking t site x before s y after c.sent c.same moment None a.1.0 renewing_sent
        (talks_renewed t.server t.limits t.url t.octets (told_so_far t) (newest_in t) (id_in t) (tokens_held 1 t.turns) site x before s.talking y after c.sent
        c.moves c.same moment dated s.dated (sym (c.judged site at)) a.0 a.1.0 a.1.1)
        a.1.1.number judged (state_renewal t.server (told_so_far t) (id_in t) 0 (newest_in t + 1) 3600000)

  -- or not
  pub renewing_not : (f : ClientFault) → IsTurnFault f → Renews {A = Unit {0}} moment x y before after (Err f) → StandsAt (channel_of_connection x) site
      → turn_refusal_under (acked_in t) t.turns None ≡ Some f
  renewing_not f reason c at =
      renewing_refused t.server t.limits t.url t.octets (told_so_far t) (newest_in t) (id_in t) (tokens_held 1 t.turns) site x before s.talking y after c.sent
      c.moves c.same moment f reason (c.answers site at) (c.judged site at)

-- ---- the CLO

module _ (b : Beginning) (octets more : List ℕ) (told : List Told) (q : ServerCloses b.limits b.channel more (told ++ Closed ∷ []))
    (here : server_output b octets ≡ output_of b.channel b.first told Going (answer_times told b.moments)) where
  -- a CLO is not answered
  closing_said : server_output b more ≡ server_output b octets
  closing_said =
      said_by_run b more q.frames [] Over q.run
      ∙ (ap (λ (k : List Told). output_of b.channel b.first k Over (answer_times k b.moments)) q.told_is ∙ (said_over b told ∙ sym here))

module _ (t : SoFar) (site : ClientPlace) (x : Connection) (now : Option Traffic) (s : TalksAt t site x now) (moment : DateTime) where
  pub closing_is : closing_at site moment ≡ closing_behind (acked_in t) t.server.channel moment t.turns
  closing_is =
      closing_there t.server t.limits t.url t.octets (told_so_far t) (newest_in t) (id_in t) (tokens_held 1 t.turns) site (channel_of_connection x)
      s.talking.served moment
      ∙ ap (λ (n : ℕ). closing_by (Some (call_lane (acked_in t) t.server.channel (newest_in t))) n (id_in t) moment) s.number_is

  pub closes_read : ServerCloses t.server.limits t.server.channel (closed_octets t moment) (told_so_far t ++ Closed ∷ [])
  closes_read =
      let r = s.talking.served in
      let used : id_at site < 4294967296 = omega (arith, r.id_is, r.few) in
      subst (λ (o : List ℕ). ServerCloses t.server.limits t.server.channel (t.octets ++ o) (told_so_far t ++ Closed ∷ [])) closing_is
      (closing_read t.server.limits t.url t.server.channel t.octets (told_so_far t) r.at_server (channel_of_connection x) site r.at_client r.on
      r.serving.together moment used)

  pub closes_silent : server_output t.server (closed_octets t moment) ≡ server_output t.server t.octets
  closes_silent =
      closing_said t.server t.octets (closed_octets t moment) (told_so_far t) closes_read
      (said_there t.server t.octets (told_so_far t) s.talking.served.at_server s.talking.served.serving.together.server_reads)
