-- That a call of a client behind a talk does not fail for what the server says.
use Rattle.std.proofs.Common.{◌≡◌, ◌⊎◌, inl, inr, ℕ, ◌+◌, ◌<◌, ◌≤◌, true, false, IsTrue, List, [], ◌∷◌, ◌++◌, Option, Some, None}
use Rattle.std.proofs.Common.{Result, Err, length, length-append, refl, sym, ◌∙◌, ap, subst, arith, append-nil, append_assoc}
use Rattle.std.specs.List.{list_any}
use Rattle.std.proofs.lemmas.List.{append_cancel_left}
use Rattle.ua_wire.specs.Format.{Extends}
use Rattle.ua_builtin.specs.DateTime.{date_time}
use Rattle.ua_builtin.specs.declared.date_time.DateTime.{DateTime}
use Rattle.ua_frame.specs.Agreement.{ack_to, url_length}
use Rattle.ua_frame.specs.Frames.{frame_octets}
use Rattle.ua_frame.specs.Messages.{ack_frame}
use Rattle.ua_frame.specs.Run.{Going}
use Rattle.ua_frame.specs.declared.ack.Ack.{Ack}
use Rattle.ua_frame.specs.declared.limits.Limits.{Limits}
use Rattle.ua_chunk.specs.Sequence.{next_number}
use Rattle.ua_channel.specs.Agreement.{Agreement, agreement_of}
use Rattle.ua_channel.specs.Client.{ClientEnded, ClientGoes, SameClient, client_limits, client_rules_of, url_of}
use Rattle.ua_channel_laws.specs.ClientReads.{AtClient, ClientAgrees, ClientReads, opened_at, with_answer, with_renewal}
use Rattle.ua_channel.specs.ClientSends.{hello_to}
use Rattle.ua_channel.specs.ClientTold.{ClientTold as Heard, ClientTold as heard, Why, ours, peers}
use Rattle.ua_channel.specs.Line.{Traffic, IfTrafficKnown}
use Rattle.ua_channel_laws.specs.ServerReads.{AtServer, ServerCloses}
use Rattle.ua_channel.specs.ServerTold.{Told, Agreed}
use Rattle.ua_channel.specs.declared.client.channel.ClientChannel.{ClientChannel}
use Rattle.ua_channel_laws.proofs.ClientReadsMessages.{reads_ack}
use Rattle.ua_channel_laws.proofs.Following.{client_not_failed, client_told}
use Rattle.ua_channel_laws.proofs.ReadOn.{same_told}
use Rattle.ua_channel_laws.proofs.ServerReadsMessages.{reads_hello}
use Rattle.ua_services.specs.declared.request.Request.{Request}
use Rattle.ua_server.specs.Said.{output_of, used_in}
use Rattle.ua_server.specs.State.{State}
use Rattle.ua_client.specs.Calls.{BreaksAt, BrokenAll, ClientGoesOn, Rounds, all_of, asked_at, refusal_at, sent_at}
use Rattle.ua_client.specs.Carried.{Carries, IsAtEnd, IsPart}
use Rattle.ua_client.specs.Client.{ClosesChannelAt, OpensClient, OpensNothing, closing_at}
use Rattle.ua_client.specs.Hearing.{MovesConnection, StopsByTraffic, channel_of_connection, most_reads, untaken_of}
use Rattle.ua_client.specs.Opening.{BreaksOpening, BreaksSending, BreaksWaiting, GoesWithout, hello_octets, open_frame_octets}
use Rattle.ua_client.specs.Renewing.{RenewsAt, asks_renewed, is_renewed, refused_by, renewal_at, renewal_refusal}
use Rattle.ua_client.specs.Replies.{AreAwaited, IsMisanswered}
use Rattle.ua_client.specs.Sent.{bodies_of}
use Rattle.ua_client.specs.ClientPlace.{ClientPlace, id_at}
use Rattle.ua_client.specs.declared.client.Client.{Client}
use Rattle.ua_client.specs.declared.connection.Connection.{Connection}
use Rattle.ua_client.specs.declared.fault.ClientFault.{ClientFault}
use Rattle.ua_client.specs.declared.fault.ClientFault.TheVariants as fault
use Rattle.ua_client.specs.declared.reply.Reply.{Reply}
use Rattle.ua_client.proofs.Settled.{NonePending}
use Rattle.ua_loopback.specs.Accepted.{acknowledged, held_behind_calls}
use Rattle.ua_loopback.specs.Beginning.{Beginning}
use Rattle.ua_loopback.specs.Faults.{FailsBehind, IsOutside, StopsAfter}
use Rattle.ua_loopback.specs.Replies.{HaveMisanswer, state_behind_requests, turn_state, turns_state}
use Rattle.ua_loopback.specs.Says.{end_by, server_output, answer_times, state_told}
use Rattle.ua_loopback.specs.Talking.{AreTalking, IsLineTo, IsSentOver, StopsOver}
use Rattle.ua_loopback.specs.Together.{opening_answer}
use Rattle.ua_loopback.specs.Turns.{calls_told, id_behind_turn, ids_behind}
use Rattle.ua_loopback.specs.inside.Talking.{CanOpenTo, HasMisanswer, HaveMisanswers}
use Rattle.ua_channel_laws.proofs.Sized.{all_last}
use Rattle.ua_loopback.proofs.Opened.{answer_read, opening_said}
use Rattle.ua_loopback.proofs.Reaching.{opening_read, requests_read, writable}
use Rattle.ua_loopback.proofs.Renewed.{renewal_heard, server_renewed}
use Rattle.ua_loopback.proofs.Replying.{AreWritable, misanswered_among, misanswered_behind, state_calls, used_behind}
use Rattle.ua_loopback.proofs.Rounds.{AreSome, Behind, all_front, refused_there, rounds_served, some_in}
use Rattle.ua_loopback.proofs.Saying.{closing_waits, end_is, front_waits, said_by_run, said_further}
use Rattle.ua_loopback.proofs.Staying.{ToldBehind, asked_fails_not, asked_misanswered, asked_misses_not}
use Rattle.ua_loopback.proofs.Talks.{fronts, got_on, line_on, rounds_octets}

-- ---- why it fails

pub outside_fails : (M : Type 0) (f : ClientFault) → IsOutside f → FailsBehind M f
outside_fails M fault.Write h = tt
outside_fails M fault.OutOfMemory h = tt
outside_fails M fault.Read h = tt
outside_fails M fault.TooLong h = tt
outside_fails M (fault.Peer code) h = h
outside_fails M (fault.Refused code) h = h
outside_fails M (fault.Service code) h = h
outside_fails M fault.Ended h = h
outside_fails M fault.UnknownResponse h = absurd h
outside_fails M fault.NotWritable h = tt
outside_fails M fault.Exhausted h = tt
outside_fails M fault.TooLarge h = tt
outside_fails M fault.TooManyTokens h = tt
outside_fails M fault.Closed h = h

pub fails_by : (M N : Type 0) (f : ClientFault) → (M → N) → FailsBehind M f → FailsBehind N f
fails_by M N fault.Write more h = tt
fails_by M N fault.OutOfMemory more h = tt
fails_by M N fault.Read more h = tt
fails_by M N fault.TooLong more h = tt
fails_by M N (fault.Peer code) more h = h
fails_by M N (fault.Refused code) more h = h
fails_by M N (fault.Service code) more h = h
fails_by M N fault.Ended more h = h
fails_by M N fault.UnknownResponse more h = more h
fails_by M N fault.NotWritable more h = tt
fails_by M N fault.Exhausted more h = tt
fails_by M N fault.TooLarge more h = tt
fails_by M N fault.TooManyTokens more h = tt
fails_by M N fault.Closed more h = h

-- nothing is said of want of memory
memory_stops : (b : Beginning) (up : List ℕ) (f : ClientFault) → f ≡ fault.OutOfMemory → StopsAfter f b up
memory_stops b up f is = record {
  read = λ e. let no : fault.OutOfMemory ≡ fault.Read = sym is ∙ e in absurd cc;
  write = λ e. let no : fault.OutOfMemory ≡ fault.Write = sym is ∙ e in absurd cc;
  long = λ e. let no : fault.OutOfMemory ≡ fault.TooLong = sym is ∙ e in absurd cc;
}

-- ---- what is sent

pub sent_over : (got sent octets : List ℕ) (before after : Option Traffic) → sent ≡ octets → IfTrafficKnown (Carries got sent) before after
    → IsSentOver octets before after
sent_over got sent octets None after is carried = carried
sent_over got sent octets (Some f) None is carried = absurd carried
sent_over got sent octets (Some f) (Some g) is carried = carried.written ∙ ap (λ (o : List ℕ). f.written ++ o) is

nothing_sent : (before after : Option Traffic) → after ≡ before → IsSentOver [] before after
nothing_sent None after is = is
nothing_sent (Some f) (Some g) is = let same : g ≡ f = cc in ap (λ (t : Traffic). t.written) same ∙ sym (append-nil f.written)
nothing_sent (Some f) None is = let no : None ≡ Some f = is in absurd cc

-- these octets and then those
pub sent_both : (first second : List ℕ) (before mid after : Option Traffic) → IsSentOver first before mid → IsSentOver second mid after
    → IsSentOver (first ++ second) before after
sent_both first second (Some f) (Some g) (Some h) p q = q ∙ (ap (λ (o : List ℕ). o ++ second) p ∙ append_assoc f.written first second)
sent_both first second (Some f) (Some g) None p q = absurd q
sent_both first second (Some f) None after p q = absurd p
sent_both first second None None after p q = q
sent_both first second None (Some g) after p q = let no : ◌≡◌ {A = Option Traffic} (Some g) None = p in absurd cc

-- ---- octets

front_of_front : (octets more all : List ℕ) → Extends (octets ++ more) all → Extends octets all
front_of_front octets more all e = record { more = more ++ e.more; parts = e.parts ∙ append_assoc octets more e.more }

-- where all that came is taken and nothing is to come, that is all that the server says
took_said : (b : Beginning) (now : Option Traffic) (sent got taken untaken : List ℕ) → IsLineTo b sent got now → got ≡ taken ++ untaken → untaken ≡ []
    → IsAtEnd now → taken ≡ server_output b sent
took_said b None sent got taken untaken line is none end = absurd line
took_said b (Some g) sent got taken untaken line is none end =
    let said_is : server_output b sent ≡ got ++ g.coming [] = ap (server_output b) (sym (append-nil sent)) ∙ line [] in
    let got_is : got ≡ taken = is ∙ (ap (λ (o : List ℕ). taken ++ o) none ∙ append-nil taken) in
    sym (said_is ∙ (ap (λ (o : List ℕ). got ++ o) end ∙ (append-nil got ∙ got_is)))

-- what was got of it the server said
said_enough : (b : Beginning) (now : Option Traffic) (sent got more : List ℕ) (n : ℕ) → IsLineTo b sent (got ++ more) now → n ≤ length more
    → n ≤ length (server_output b sent)
said_enough b None sent got more n line few = absurd line
said_enough b (Some g) sent got more n line few =
    let said_is : server_output b sent ≡ (got ++ more) ++ g.coming [] = ap (server_output b) (sym (append-nil sent)) ∙ line [] in
    omega (arith, few, ap length said_is, length-append (got ++ more) (g.coming []), length-append got more)

-- ---- behind a talk

module _ (b : Beginning) (limits : Limits) (url : Option (List ℕ)) (octets : List ℕ) (told : List Told) (token id held : ℕ) (site : ClientPlace)
    (x : Connection) (before : Option Traffic) (t : AreTalking b limits url octets told token id held site x before)
    (y : Connection) (after : Option Traffic) (sent : List ℕ) (moves : MovesConnection x y sent before after)
    (same : SameClient (channel_of_connection x) (channel_of_connection y)) where
  limits_then : client_limits (channel_of_connection y) ≡ limits
  limits_then = sym same.limits ∙ t.served.limits_are

  line_then : IsLineTo b (octets ++ sent) (t.got ++ moves.got) after
  line_then = line_on b octets t.got sent moves.got before after t.line moves.carried

  got_then : t.got ++ moves.got ≡ (site.octets ++ moves.taken) ++ untaken_of y
  got_then = got_on t.got moves.got site.octets (untaken_of x) moves.taken (untaken_of y) t.got_is moves.parts

  front_then : Extends (site.octets ++ moves.taken) (server_output b (octets ++ sent))
  front_then = fronts b after (octets ++ sent) (t.got ++ moves.got) (site.octets ++ moves.taken) (untaken_of y) line_then got_then

  all_then : untaken_of y ≡ [] → IsAtEnd after → site.octets ++ moves.taken ≡ server_output b (octets ++ sent)
  all_then none end = took_said b after (octets ++ sent) (t.got ++ moves.got) (site.octets ++ moves.taken) (untaken_of y) line_then got_then none end

  -- ---- requests, of which a group is not answered

  module _ (law : NonePending) (never_before : ToldBehind) (groups : List (List Request)) (group : List Request) (behind : ClientPlace)
      (sent_before sent_then taken_before taken_then : List ℕ) (replies : List Reply)
      (rounds : Rounds (channel_of_connection y) site groups behind sent_before taken_before replies) (some : AreSome (groups ++ group ∷ []))
      (sent_parts : sent ≡ sent_before ++ sent_then) (taken_parts : moves.taken ≡ taken_before ++ taken_then) where
    abbrev all : List Request
    all = all_of groups

    here_is : site.octets ++ moves.taken ≡ behind.octets ++ taken_then
    here_is =
        ap (λ (o : List ℕ). site.octets ++ o) taken_parts
        ∙ (sym (append_assoc site.octets taken_before taken_then) ∙ ap (λ (o : List ℕ). o ++ taken_then) (sym (rounds_octets rounds)))

    all_sent : octets ++ sent ≡ (octets ++ sent_before) ++ sent_then
    all_sent = ap (λ (o : List ℕ). octets ++ o) sent_parts ∙ sym (append_assoc octets sent_before sent_then)

    front_here : Extends (behind.octets ++ taken_then) (server_output b ((octets ++ sent_before) ++ sent_then))
    front_here =
        subst (λ (o : List ℕ). Extends (behind.octets ++ taken_then) (server_output b o)) all_sent
        (subst (λ (o : List ℕ). Extends o (server_output b (octets ++ sent))) here_is front_then)

    all_here : untaken_of y ≡ [] → IsAtEnd after → behind.octets ++ taken_then ≡ server_output b ((octets ++ sent_before) ++ sent_then)
    all_here none end = sym here_is ∙ (all_then none end ∙ ap (server_output b) all_sent)

    -- where both are in front of the group
    first : Behind b limits url octets told token id held site.number sent_before replies all behind
    first =
        let later = said_further b (octets ++ sent_before) sent_then in
        rounds_served b limits url octets told token id held law (channel_of_connection x) t.served limits_then rounds
        (all_front (λ (g : List Request). 0 < length g) groups group some) (server_output b ((octets ++ sent_before) ++ sent_then))
        (front_of_front behind.octets taken_then (server_output b ((octets ++ sent_before) ++ sent_then)) front_here)
        (record { more = later.further; parts = later.parts })

    some_here : 0 < length group
    some_here = all_last (λ (g : List Request). 0 < length g) groups group some

    abbrev told_here : List Told
    told_here = told ++ calls_told token id (bodies_of all)

    same_here : client_limits (channel_of_connection y) ≡ client_limits first.channel
    same_here = limits_then ∙ sym first.served.limits_are

    module _ (judged : refusal_at behind group ≡ None) (sent_is : sent_then ≡ sent_at behind group) where
      front_asked : Extends (behind.octets ++ taken_then) (server_output b ((octets ++ sent_before) ++ sent_at behind group))
      front_asked = subst (λ (o : List ℕ). Extends (behind.octets ++ taken_then) (server_output b ((octets ++ sent_before) ++ o))) sent_is front_here

      fails_not : (heard : List Heard) (why : Why) → ClientEnded (channel_of_connection y) (asked_at behind group) (behind.octets ++ taken_then) heard why → ⊥
      fails_not heard why ended =
          asked_fails_not b url (octets ++ sent_before) told_here first.served.at_server first.channel behind first.served.at_client group first.served.on
          first.served.serving some_here judged
          (channel_of_connection y) same_here (behind.octets ++ taken_then) heard why ended front_asked

      misses_not : ClientGoesOn (channel_of_connection y) (asked_at behind group) (behind.octets ++ taken_then) behind.told (AreAwaited group (id_at behind))
          → untaken_of y ≡ [] → IsAtEnd after → ⊥
      misses_not h none end =
          asked_misses_not b url (octets ++ sent_before) told_here first.served.at_server first.channel behind first.served.at_client group first.served.on
          first.served.serving some_here judged
          (channel_of_connection y) same_here (behind.octets ++ taken_then) h (all_here none end
          ∙ ap (λ (o : List ℕ). server_output b ((octets ++ sent_before) ++ o)) sent_is)

      fits : AreWritable group
      fits =
          writable (acknowledged b.limits limits url) (id + length all) group
          (sym (refused_there b limits url (octets ++ sent_before) told_here token (id + length all) (held_behind_calls held (length all)) behind first.channel
          first.served group) ∙ judged)

      misanswers : ClientGoesOn (channel_of_connection y) (asked_at behind group) (behind.octets ++ taken_then) behind.told (IsMisanswered group (id_at behind))
          → HaveMisanswer (state_told b told) b.moments (used_in told) (all ++ group)
      misanswers h =
          let there = asked_misanswered b url (octets ++ sent_before) told_here first.served.at_server first.channel behind first.served.at_client group
          first.served.on first.served.serving some_here judged
          (channel_of_connection y) same_here (behind.octets ++ taken_then) never_before first.served.serving.together.stands h front_asked fits in
          let state_is = state_calls b told token id all (writable (acknowledged b.limits limits url) id all first.judged) in
          misanswered_behind (state_told b told) b.moments (used_in told) all group
          (subst (λ (n : ℕ). HaveMisanswer (state_behind_requests (state_told b told) b.moments (used_in told) all) b.moments n group)
          (used_behind told token id all)
          (subst (λ (s : State). HaveMisanswer s b.moments (used_in told_here) group) state_is there))

    pub group_fails : (A : Type 0) (f : ClientFault) → BreaksAt group behind y sent_then taken_then f
        → StopsByTraffic {A = A} most_reads most_reads moves.got y after (Err f)
        → FailsBehind (HaveMisanswer (state_told b told) b.moments (used_in told) (all ++ group)) f
    group_fails A (fault.Peer code) h stops = absurd (fails_not h.0.0 h.0.1 (behind.told ++ h.1.0) (peers code.code) h.1.1)
    group_fails A (fault.Refused code) h stops = absurd (fails_not h.0.0 h.0.1 (behind.told ++ h.1.0) (ours code.code) h.1.1)
    group_fails A fault.Ended h stops = absurd (misses_not h.0.0 h.0.1 h.1 stops.0 stops.1)
    group_fails A fault.UnknownResponse h stops = misanswers h.0.0 h.0.1 h.1
    group_fails A fault.Read h stops = tt
    group_fails A fault.Write h stops = tt
    group_fails A fault.OutOfMemory h stops = tt
    group_fails A fault.TooLong h stops = tt
    group_fails A fault.NotWritable h stops = tt
    group_fails A fault.Exhausted h stops = tt
    group_fails A fault.TooLarge h stops = tt
    group_fails A fault.TooManyTokens h stops = tt
    group_fails A (fault.Service code) h stops = h
    group_fails A fault.Closed h stops = h

    reads_here : refusal_at behind group ≡ None → end_by b ((octets ++ sent_before) ++ sent_at behind group) ≡ Going
    reads_here judged =
        let r = requests_read b.limits url b.channel (octets ++ sent_before) told_here first.served.at_server first.channel behind first.served.at_client
        first.served.on first.served.serving.together group judged in
        end_is b ((octets ++ sent_before) ++ sent_at behind group) r.frames [] Going r.run

    pub group_stops : (A : Type 0) (f : ClientFault) → BreaksAt group behind y sent_then taken_then f
        → StopsByTraffic {A = A} most_reads most_reads moves.got y after (Err f) → StopsAfter f b (octets ++ sent)
    group_stops A f h stops = record {
      read = λ is.
          let there : BreaksAt group behind y sent_then taken_then fault.Read = subst (BreaksAt group behind y sent_then taken_then) is h in
          ap (end_by b) (all_sent ∙ ap (λ (o : List ℕ). (octets ++ sent_before) ++ o) there.0.1) ∙ reads_here there.0.0;
      write = λ is.
          let there : BreaksAt group behind y sent_then taken_then fault.Write = subst (BreaksAt group behind y sent_then taken_then) is h in
          ap (end_by b) all_sent
          ∙ front_waits b ((octets ++ sent_before) ++ sent_then) there.1.more
          (ap (end_by b) (append_assoc (octets ++ sent_before) sent_then there.1.more ∙ ap (λ (o : List ℕ). (octets ++ sent_before) ++ o) (sym there.1.parts))
          ∙ reads_here there.0);
      long = λ is.
          let there : StopsByTraffic {A = A} most_reads most_reads moves.got y after (Err fault.TooLong) =
          subst (λ (g : ClientFault). StopsByTraffic {A = A} most_reads most_reads moves.got y after (Err g)) is stops in
          said_enough b after (octets ++ sent) t.got moves.got most_reads line_then there.1;
    }

  pub calls_fail : NonePending → ToldBehind → (requests : List Request) (f : ClientFault) → BrokenAll requests site y sent moves.taken f → (A : Type 0)
      → StopsByTraffic {A = A} most_reads most_reads moves.got y after (Err f)
      → FailsBehind (HaveMisanswer (state_told b told) b.moments (used_in told) requests) f
  calls_fail law never_before requests f q A stops =
      let asked : List Request = all_of q.groups ++ q.group in
      let parts : asked ++ q.others ≡ requests = append_assoc (all_of q.groups) q.group q.others ∙ sym q.parts in
      fails_by (HaveMisanswer (state_told b told) b.moments (used_in told) asked) (HaveMisanswer (state_told b told) b.moments (used_in told) requests) f
      (λ h. subst (λ (ms : List Request). HaveMisanswer (state_told b told) b.moments (used_in told) ms) parts
      (misanswered_among (state_told b told) b.moments (used_in told) asked q.others h))
      (group_fails law never_before q.groups q.group q.behind q.sent_before q.sent_then q.taken_before q.taken_then q.replies q.rounds
      (some_in (q.groups ++ q.group ∷ []) q.sized) q.sent_parts q.taken_parts A f q.breaks stops)

  pub calls_stop : NonePending → ToldBehind → (requests : List Request) (f : ClientFault) → BrokenAll requests site y sent moves.taken f → (A : Type 0)
      → StopsByTraffic {A = A} most_reads most_reads moves.got y after (Err f) → StopsAfter f b (octets ++ sent)
  calls_stop law never_before requests f q A stops =
      group_stops law never_before q.groups q.group q.behind q.sent_before q.sent_then q.taken_before q.taken_then q.replies q.rounds
      (some_in (q.groups ++ q.group ∷ []) q.sized) q.sent_parts q.taken_parts A f q.breaks stops

  -- ---- a renewal

  module _ (moment : DateTime) (dated : IsTrue (date_time.encodable moment)) (answered : (n : ℕ) → IsTrue (date_time.encodable (b.moments n))) where
    abbrev s : AtServer
    s = t.served.at_server

    abbrev c : AtClient
    c = t.served.at_client

    abbrev renewed : List Heard
    renewed = site.told ++ heard.Renewed (s.issued + 1) ∷ []

    abbrev now : AtClient
    now = with_answer (with_renewal c (id_at site)) (s.issued + 1) (next_number c.next)

    reads_renewal : renewal_refusal site ≡ None → sent ≡ renewal_at site moment
        → ClientReads (client_limits (channel_of_connection y)) (asks_renewed site) (server_output b (octets ++ sent)) renewed now
    reads_renewal judged sent_is =
        subst (λ (l : Limits). ClientReads l (asks_renewed site) (server_output b (octets ++ sent)) renewed now) (t.served.limits_are ∙ sym limits_then)
        (subst (λ (o : List ℕ). ClientReads (client_limits (channel_of_connection x)) (asks_renewed site) (server_output b (octets ++ o)) renewed now)
        (sym sent_is)
        (renewal_heard b url octets told s (channel_of_connection x) site c moment t.served.on t.served.serving judged dated t.served.settled answered))

    renewing_fails_not : renewal_refusal site ≡ None → sent ≡ renewal_at site moment → (heard : List Heard) (why : Why)
        → ClientEnded (channel_of_connection y) (asks_renewed site) (site.octets ++ moves.taken) heard why → ⊥
    renewing_fails_not judged sent_is heard why ended =
        client_not_failed (channel_of_connection y) (asks_renewed site) (site.octets ++ moves.taken) front_then.more heard renewed now why ended
        (subst (λ (o : List ℕ). ClientReads (client_limits (channel_of_connection y)) (asks_renewed site) o renewed now) front_then.parts
        (reads_renewal judged sent_is))

    never_true : true ≡ false → ⊥
    never_true e = cc

    renewing_misses_not : renewal_refusal site ≡ None → sent ≡ renewal_at site moment
        → GoesWithout is_renewed (channel_of_connection y) (asks_renewed site) (site.octets ++ moves.taken) site.told → untaken_of y ≡ [] → IsAtEnd after → ⊥
    renewing_misses_not judged sent_is h none end =
        let told_is : site.told ++ h.heard ≡ renewed =
        client_told (channel_of_connection y) (asks_renewed site) (site.octets ++ moves.taken) (site.told ++ h.heard) renewed now h.goes
        (subst (λ (o : List ℕ). ClientReads (client_limits (channel_of_connection y)) (asks_renewed site) o renewed now) (sym (all_then none end))
        (reads_renewal judged sent_is)) in
        let heard_is : h.heard ≡ heard.Renewed (s.issued + 1) ∷ [] = append_cancel_left site.told h.heard (heard.Renewed (s.issued + 1) ∷ []) told_is in
        never_true (sym (ap (list_any is_renewed) heard_is) ∙ h.none)

    renewal_by_fault : (A : Type 0) (f : ClientFault) → RenewsAt {A = A} site moment (channel_of_connection y) sent moves.taken (Err f)
        → refused_by {A = A} (Err f) ≡ renewal_refusal site → StopsByTraffic {A = A} most_reads most_reads moves.got y after (Err f) → FailsBehind ⊥ f
    renewal_by_fault A (fault.Peer code) h e stops = absurd (renewing_fails_not (sym e) h.0 (site.told ++ h.1.heard) (peers code.code) h.1.ended)
    renewal_by_fault A (fault.Refused code) h e stops = absurd (renewing_fails_not (sym e) h.0 (site.told ++ h.1.heard) (ours code.code) h.1.ended)
    renewal_by_fault A fault.Ended h e stops = absurd (renewing_misses_not (sym e) h.0 h.1 stops.0 stops.1)
    renewal_by_fault A fault.UnknownResponse h e stops = h
    renewal_by_fault A fault.Read h e stops = tt
    renewal_by_fault A fault.Write h e stops = tt
    renewal_by_fault A fault.OutOfMemory h e stops = tt
    renewal_by_fault A fault.TooLong h e stops = tt
    renewal_by_fault A fault.NotWritable h e stops = tt
    renewal_by_fault A fault.Exhausted h e stops = tt
    renewal_by_fault A fault.TooLarge h e stops = tt
    renewal_by_fault A fault.TooManyTokens h e stops = tt
    renewal_by_fault A (fault.Service code) h e stops = h
    renewal_by_fault A fault.Closed h e stops = h

    pub renewal_fails : (A : Type 0) (f : ClientFault) → RenewsAt {A = A} site moment (channel_of_connection y) sent moves.taken (Err f)
        → refused_by {A = A} (Err f) ≡ renewal_refusal site → StopsByTraffic {A = A} most_reads most_reads moves.got y after (Err f) → FailsBehind ⊥ f
    renewal_fails A f h e stops = renewal_by_fault A f h e stops

    reads_renewed : renewal_refusal site ≡ None → end_by b (octets ++ renewal_at site moment) ≡ Going
    reads_renewed judged =
        let r = server_renewed b url octets told s (channel_of_connection x) site c moment t.served.on t.served.serving judged dated in
        end_is b (octets ++ renewal_at site moment) r.frames [] Going r.run

    pub renewal_stops : (A : Type 0) (f : ClientFault) → RenewsAt {A = A} site moment (channel_of_connection y) sent moves.taken (Err f)
        → refused_by {A = A} (Err f) ≡ renewal_refusal site → StopsByTraffic {A = A} most_reads most_reads moves.got y after (Err f)
        → StopsAfter f b (octets ++ sent)
    renewal_stops A f h e stops = record {
      read = λ is.
          let there : RenewsAt {A = A} site moment (channel_of_connection y) sent moves.taken (Err fault.Read) =
          subst (λ (g : ClientFault). RenewsAt {A = A} site moment (channel_of_connection y) sent moves.taken (Err g)) is h in
          let judged : None ≡ renewal_refusal site = subst (λ (g : ClientFault). refused_by {A = A} (Err g) ≡ renewal_refusal site) is e in
          ap (λ (o : List ℕ). end_by b (octets ++ o)) there.0 ∙ reads_renewed (sym judged);
      write = λ is.
          let there : RenewsAt {A = A} site moment (channel_of_connection y) sent moves.taken (Err fault.Write) =
          subst (λ (g : ClientFault). RenewsAt {A = A} site moment (channel_of_connection y) sent moves.taken (Err g)) is h in
          let judged : None ≡ renewal_refusal site = subst (λ (g : ClientFault). refused_by {A = A} (Err g) ≡ renewal_refusal site) is e in
          front_waits b (octets ++ sent) there.0.0.more
          (ap (end_by b) (append_assoc octets sent there.0.0.more ∙ ap (λ (o : List ℕ). octets ++ o) (sym there.0.0.parts)) ∙ reads_renewed (sym judged));
      long = λ is.
          let there : StopsByTraffic {A = A} most_reads most_reads moves.got y after (Err fault.TooLong) =
          subst (λ (g : ClientFault). StopsByTraffic {A = A} most_reads most_reads moves.got y after (Err g)) is stops in
          said_enough b after (octets ++ sent) t.got moves.got most_reads line_then there.1;
    }

-- ---- the opening

-- what a server says of the HEL alone
said_first : (b : Beginning) (g : Agreement) → output_of b.channel b.first (Agreed g ∷ []) Going (answer_times (Agreed g ∷ []) b.moments)
    ≡ frame_octets (ack_frame g.ack)
unfolding output_of
said_first b g = append-nil (frame_octets (ack_frame g.ack) ++ []) ∙ append-nil (frame_octets (ack_frame g.ack))

module _ (b : Beginning) (limits : Limits) (url : Option (List ℕ)) (moment : DateTime) (first after : Option Traffic) (why_not : ClientFault)
    (o : OpensClient limits url moment first after (Err why_not)) (able : CanOpenTo b limits url moment) (short : url_length url ≤ 4095)
    (line : IsLineTo b [] [] first) where
  abbrev x : ClientChannel
  x = channel_of_connection o.last

  abbrev sent : List ℕ
  sent = o.opens.sent

  abbrev taken : List ℕ
  taken = o.opens.moves.taken

  abbrev hello : List ℕ
  hello = hello_octets limits url

  abbrev opening : List ℕ
  opening = open_frame_octets moment

  abbrev acked : Ack
  acked = ack_to (hello_to limits url) b.limits

  abbrev all_heard : List Heard
  all_heard = heard.Agreed acked ∷ (heard.Opened b.channel 1 ∷ [])

  abbrev now_open : AtClient
  now_open = opened_at acked b.channel 1 (next_number 1)

  limits_are : client_limits x ≡ limits
  limits_are = sym o.opens.keeps.same.limits ∙ o.fresh.limits_are

  got_is : o.opens.moves.got ≡ taken ++ untaken_of o.last
  got_is = ap (λ (t : List ℕ). t ++ o.opens.moves.got) (sym o.fresh.untaken) ∙ o.opens.moves.parts

  line_open : IsLineTo b sent o.opens.moves.got after
  line_open = line_on b [] [] sent o.opens.moves.got first after line o.opens.moves.carried

  front_is : Extends taken (server_output b sent)
  front_is = fronts b after sent o.opens.moves.got taken (untaken_of o.last) line_open got_is

  all_is : untaken_of o.last ≡ [] → IsAtEnd after → taken ≡ server_output b sent
  all_is none end = took_said b after sent o.opens.moves.got taken (untaken_of o.last) line_open got_is none end

  said_all : server_output b (hello ++ opening) ≡ opening_answer b limits url
  said_all = opening_said b limits url moment able.hello_fits short able.dated

  said_hello : server_output b hello ≡ frame_octets (ack_frame acked)
  said_hello =
      let r = reads_hello b.limits b.channel limits url able.hello_fits short in
      said_by_run b hello r.frames [] Going r.run
      ∙ (ap (λ (t : List Told). output_of b.channel b.first t Going (answer_times t b.moments)) r.told_is
      ∙ said_first b (agreement_of b.limits (hello_to limits url)))

  reads_all : ClientReads (client_limits x) [] (opening_answer b limits url) all_heard now_open
  reads_all = subst (λ (l : Limits). ClientReads l [] (opening_answer b limits url) all_heard now_open) (sym limits_are)
      (answer_read b limits url able.ack_fits able.on (able.answered 0))

  -- what it took is a front of the whole answer
  front_all : ((sent ≡ hello) ⊎ (sent ≡ hello ++ opening)) → Extends taken (opening_answer b limits url)
  front_all (inl is) =
      let later = said_further b hello opening in
      let front : Extends taken (server_output b hello) = subst (λ (u : List ℕ). Extends taken (server_output b u)) is front_is in
      record {
        more = front.more ++ later.further;
        parts = sym said_all ∙ (later.parts ∙ (ap (λ (u : List ℕ). u ++ later.further) front.parts ∙ append_assoc taken front.more later.further));
      }
  front_all (inr is) = subst (λ (u : List ℕ). Extends taken u) said_all (subst (λ (u : List ℕ). Extends taken (server_output b u)) is front_is)

  opening_fails_not : ((sent ≡ hello) ⊎ (sent ≡ hello ++ opening)) → (told : List Heard) (why : Why) → ClientEnded x [] taken told why → ⊥
  opening_fails_not is told why ended =
      let front = front_all is in
      client_not_failed x [] taken front.more told all_heard now_open why ended
      (subst (λ (u : List ℕ). ClientReads (client_limits x) [] u all_heard now_open) front.parts reads_all)

  -- behind the ACK it was told so
  agrees_then : sent ≡ hello → ClientGoes x [] taken [] → untaken_of o.last ≡ [] → IsAtEnd after → ⊥
  agrees_then is goes none end =
      let whole : taken ≡ frame_octets (ack_frame acked) = all_is none end ∙ (ap (server_output b) is ∙ said_hello) in
      let agrees : ClientAgrees (client_limits x) taken (heard.Agreed acked ∷ []) acked =
      subst (λ (u : List ℕ). ClientAgrees (client_limits x) u (heard.Agreed acked ∷ []) acked) (sym whole)
      (subst (λ (l : Limits). ClientAgrees l (frame_octets (ack_frame acked)) (heard.Agreed acked ∷ []) acked) (sym limits_are)
      (reads_ack limits b.limits url able.ack_fits)) in
      let told_is : [] ≡ heard.Agreed acked ∷ [] = same_told (client_rules_of x []) taken goes.frames agrees.frames goes.rest [] [] (heard.Agreed acked ∷ [])
      goes.stands.run agrees.run goes.told_is agrees.told_is in
      omega (arith, ap length told_is)

  -- behind the whole answer it was told that the channel is open
  opens_then : sent ≡ hello ++ opening → (told : Heard) → ClientGoes x [] taken (told ∷ []) → untaken_of o.last ≡ [] → IsAtEnd after → ⊥
  opens_then is told goes none end =
      let whole : taken ≡ opening_answer b limits url = all_is none end ∙ (ap (server_output b) is ∙ said_all) in
      let told_is : told ∷ [] ≡ all_heard = client_told x [] taken (told ∷ []) all_heard now_open goes
      (subst (λ (u : List ℕ). ClientReads (client_limits x) [] u all_heard now_open) (sym whole) reads_all) in
      omega (arith, ap length told_is)

  hello_is : hello_octets (client_limits (channel_of_connection o.begun)) (url_of (channel_of_connection o.begun)) ≡ hello
  hello_is = ap (λ (m : Limits). hello_octets m (url_of (channel_of_connection o.begun))) o.fresh.limits_are
      ∙ ap (λ (u : Option (List ℕ)). hello_octets limits u) o.fresh.url_is

  opening_by_fault : (A : Type 0) (f : ClientFault) → BreaksOpening hello opening x sent taken f
      → StopsByTraffic {A = A} most_reads most_reads o.opens.moves.got o.last after (Err f) → IsOutside f
  opening_by_fault A (fault.Peer code) (inl h) stops = absurd (opening_fails_not (inl h.0) [] (peers code.code) h.1)
  opening_by_fault A (fault.Peer code) (inr h) stops = absurd (opening_fails_not (inr h.0) (heard.Agreed h.1.0 ∷ []) (peers code.code) h.1.1)
  opening_by_fault A (fault.Refused code) (inl h) stops = absurd (opening_fails_not (inl h.0) [] (ours code.code) h.1)
  opening_by_fault A (fault.Refused code) (inr h) stops = absurd (opening_fails_not (inr h.0) (heard.Agreed h.1.0 ∷ []) (ours code.code) h.1.1)
  opening_by_fault A fault.Ended (inl h) stops = absurd (agrees_then h.0 h.1 stops.0 stops.1)
  opening_by_fault A fault.Ended (inr h) stops = absurd (opens_then h.0 (heard.Agreed h.1.0) h.1.1 stops.0 stops.1)
  opening_by_fault A fault.Read h stops = tt
  opening_by_fault A fault.Write h stops = tt
  opening_by_fault A fault.OutOfMemory h stops = tt
  opening_by_fault A fault.TooLong h stops = tt
  opening_by_fault A fault.UnknownResponse h stops = h
  opening_by_fault A fault.NotWritable h stops = h
  opening_by_fault A fault.Exhausted h stops = h
  opening_by_fault A fault.TooLarge h stops = h
  opening_by_fault A fault.TooManyTokens h stops = h
  opening_by_fault A (fault.Service code) h stops = h
  opening_by_fault A fault.Closed h stops = h

  opening_fails : IsOutside why_not
  opening_fails =
      opening_by_fault Client why_not
      (subst (λ (h : List ℕ). BreaksOpening h opening x sent taken why_not) hello_is (o.opens.answers o.fresh.goes)) o.opens.stops

  reads_opening : end_by b (hello ++ opening) ≡ Going
  reads_opening =
      let r = opening_read b.limits b.channel limits url moment able.hello_fits short able.dated in
      end_is b (hello ++ opening) r.frames [] Going r.run

  waits_front : (more : List ℕ) → sent ++ more ≡ hello ++ opening → end_by b sent ≡ Going
  waits_front more parts = front_waits b sent more (ap (end_by b) parts ∙ reads_opening)

  waits_read : BreaksWaiting hello opening x sent taken fault.Read → end_by b sent ≡ Going
  waits_read (inl h) = waits_front opening (ap (λ (u : List ℕ). u ++ opening) h.0)
  waits_read (inr h) = ap (end_by b) h.0 ∙ reads_opening

  waits_written : BreaksSending hello opening x sent taken → end_by b sent ≡ Going
  waits_written (inl h) = waits_front (h.0.0.more ++ opening) (sym (append_assoc sent h.0.0.more opening) ∙ ap (λ (u : List ℕ). u ++ opening) (sym h.0.0.parts))
  waits_written (inr (part, is, front, ack)) =
      waits_front front.0.more (ap (λ (u : List ℕ). u ++ front.0.more) is
      ∙ (append_assoc hello part front.0.more ∙ ap (λ (u : List ℕ). hello ++ u) (sym front.0.parts)))

  opening_stops : StopsAfter why_not b sent
  opening_stops =
      let breaks : BreaksOpening hello opening x sent taken why_not = subst (λ (h : List ℕ). BreaksOpening h opening x sent taken why_not) hello_is
      (o.opens.answers o.fresh.goes) in
      record {
        read = λ is. waits_read (subst (BreaksOpening hello opening x sent taken) is breaks);
        write = λ is. waits_written (subst (BreaksOpening hello opening x sent taken) is breaks);
        long = λ is.
            let there : StopsByTraffic {A = Client} most_reads most_reads o.opens.moves.got o.last after (Err fault.TooLong) =
            subst (λ (g : ClientFault). StopsByTraffic {A = Client} most_reads most_reads o.opens.moves.got o.last after (Err g)) is o.opens.stops in
            said_enough b after sent [] o.opens.moves.got most_reads line_open there.1;
      }

pub open_fails : (b : Beginning) (limits : Limits) (url : Option (List ℕ)) (moment : DateTime) (first after : Option Traffic) (f : ClientFault)
    → (OpensNothing first after (Err f) ⊎ OpensClient limits url moment first after (Err f))
    → CanOpenTo b limits url moment → url_length url ≤ 4095 → IsLineTo b [] [] first → IsOutside f
open_fails b limits url moment first after f (inl nothing) able short line = subst IsOutside (sym (same_fault f fault.OutOfMemory nothing.0)) tt
  where
    same_fault : (g h : ClientFault) → ◌≡◌ {A = Result Client ClientFault} (Err g) (Err h) → g ≡ h
    same_fault g h e = cc
open_fails b limits url moment first after f (inr o) able short line = opening_fails b limits url moment first after f o able short line

pub open_stops : (b : Beginning) (limits : Limits) (url : Option (List ℕ)) (moment : DateTime) (first after : Option Traffic) (f : ClientFault)
    → (OpensNothing first after (Err f) ⊎ OpensClient limits url moment first after (Err f))
    → CanOpenTo b limits url moment → url_length url ≤ 4095 → IsLineTo b [] [] first → StopsOver f b [] first after
open_stops b limits url moment first after f (inl nothing) able short line =
    ([], nothing_sent first after nothing.1, memory_stops b [] f (same_fault f fault.OutOfMemory nothing.0))
  where
    same_fault : (g h : ClientFault) → ◌≡◌ {A = Result Client ClientFault} (Err g) (Err h) → g ≡ h
    same_fault g h e = cc
open_stops b limits url moment first after f (inr o) able short line = (
  o.opens.sent,
  sent_over o.opens.moves.got o.opens.sent o.opens.sent first after refl o.opens.moves.carried,
  opening_stops b limits url moment first after f o able short line,
)

-- ---- the close

pub close_fails : (A : Type 0) (s : ClientPlace) (moment : DateTime) (sent : List ℕ) (f : ClientFault) → ClosesChannelAt {A = A} s moment sent (Err f)
    → IsOutside f
close_fails A s moment out fault.Write h = tt
close_fails A s moment out fault.OutOfMemory h = tt
close_fails A s moment out fault.Read h = tt
close_fails A s moment out fault.TooLong h = tt
close_fails A s moment out (fault.Peer code) h = h
close_fails A s moment out (fault.Refused code) h = h
close_fails A s moment out (fault.Service code) h = h
close_fails A s moment out fault.Ended h = h
close_fails A s moment out fault.UnknownResponse h = h
close_fails A s moment out fault.NotWritable h = h
close_fails A s moment out fault.Exhausted h = h
close_fails A s moment out fault.TooLarge h = h
close_fails A s moment out fault.TooManyTokens h = h
close_fails A s moment out fault.Closed h = h

pub close_stops : (b : Beginning) (A : Type 0) (s : ClientPlace) (moment : DateTime) (octets sent : List ℕ) (told : List Told) (f : ClientFault)
    → ServerCloses b.limits b.channel (octets ++ closing_at s moment) told → ClosesChannelAt {A = A} s moment sent (Err f)
    → StopsAfter f b (octets ++ sent)
close_stops b A s moment octets sent told f reads h = record {
  read = λ is. absurd (subst (λ (g : ClientFault). ClosesChannelAt {A = A} s moment sent (Err g)) is h);
  write = λ is.
      let there : IsPart sent (closing_at s moment) = subst (λ (g : ClientFault). ClosesChannelAt {A = A} s moment sent (Err g)) is h in
      closing_waits b (octets ++ sent) there.0.more told
      (subst (λ (o : List ℕ). ServerCloses b.limits b.channel o told) (ap (λ (o : List ℕ). octets ++ o) there.0.parts
      ∙ sym (append_assoc octets sent there.0.more)) reads)
      (omega (arith, there.1, ap length there.0.parts, length-append sent there.0.more));
  long = λ is. absurd (subst (λ (g : ClientFault). ClosesChannelAt {A = A} s moment sent (Err g)) is h);
}

-- ---- turns

-- the answers to a turn are answers to turns of which it is one
pub misanswers_in : (s : State) (f : ℕ → DateTime) (n : ℕ) (before : List (Option (List Request))) (turn : Option (List Request))
    (behind : List (Option (List Request))) → HasMisanswer (turns_state s f n before) f (ids_behind n before) turn
    → HaveMisanswers s f n (before ++ turn ∷ behind)
misanswers_in s f n [] turn behind h = inl h
misanswers_in s f n (t ∷ before) turn behind h = inr (misanswers_in (turn_state s f n t) f (id_behind_turn n t) before turn behind h)
