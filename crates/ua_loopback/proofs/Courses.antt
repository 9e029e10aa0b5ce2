-- A client's turns over a line, one behind the other.
use Rattle.std.proofs.Common.{◌≡◌, ◌⊎◌, inl, inr, ℕ, ◌+◌, ◌<◌, ◌≤◌, IsTrue, List, [], ◌∷◌, ◌++◌, Option, Some, None, Result, Ok, Err}
use Rattle.std.proofs.Common.{get_or, length, map, take, drop, refl, sym, ◌∙◌, ap, subst, append-nil, append_assoc, arith, length-append}
use Rattle.std.proofs.lemmas.List.{length-map, length-take-le, map-append, take-append-drop, take_all, take_more}
use Rattle.ua_builtin.specs.DateTime.{date_time}
use Rattle.ua_builtin.specs.declared.date_time.DateTime.{DateTime}
use Rattle.ua_frame.specs.Run.{Going}
use Rattle.ua_frame.specs.declared.limits.Limits.{Limits}
use Rattle.ua_channel.specs.Line.{Traffic, IfTrafficKnown}
use Rattle.ua_channel_laws.specs.ServerReads.{ServerCloses}
use Rattle.ua_channel.specs.declared.client.channel.ClientChannel.{ClientChannel}
use Rattle.ua_services.specs.declared.request.Request.{Request}
use Rattle.ua_client.specs.Carried.{Carries}
use Rattle.ua_client.specs.Client.{Closes, ClosesChannelAt, IsReady, OpensClient, OpensNothing, closing_at, connection_of}
use Rattle.ua_client.specs.Hearing.{channel_of_connection, untaken_of}
use Rattle.ua_client.specs.Calls.{AreGroups, all_of}
use Rattle.ua_client.specs.Kept.{CallsInto, KeepsRepliesAt}
use Rattle.ua_client.specs.Renewing.{IsRefusal, IsRenewed, Renews, RenewsAt, renewal_at}
use Rattle.ua_client.specs.ClientPlace.{ClientPlace}
use Rattle.ua_client.specs.declared.client.Client.{Client}
use Rattle.ua_client.specs.declared.connection.Connection.{Connection}
use Rattle.ua_client.specs.declared.fault.ClientFault.{ClientFault}
use Rattle.ua_client.specs.Opening.{BreaksOpening}
use Rattle.ua_client.specs.declared.fault.CallsFault.{CallsFault}
use Rattle.ua_client.specs.declared.fault.ClientFault.TheVariants as fault
use Rattle.ua_client.specs.declared.fault.ClientFault.TheVariants.{OutOfMemory}
use Rattle.ua_client.specs.declared.reply.Reply.{Reply}
use Rattle.ua_client.proofs.Carrying.{carried-as, carried-then}
use Rattle.ua_client.proofs.Settled.{NonePending}
use Rattle.ua_loopback.specs.Accepted.{FirstRefusedUnder, IsTurnFault, acknowledged, turn_refusal_under}
use Rattle.ua_loopback.specs.Beginning.{Beginning}
use Rattle.ua_loopback.specs.Course.{Converses, ClientCourse, opening_octets}
use Rattle.ua_loopback.specs.Course.ClientCourse.{Asked, Renewed}
use Rattle.ua_loopback.specs.Kept.{Served, traffic_of}
use Rattle.ua_loopback.specs.Faults.{BehindRefused, FailsBehind}
use Rattle.ua_loopback.specs.Replies.{lane_back_by_token, turn_replies, replies_to_turns, turns_state}
use Rattle.ua_loopback.specs.Sends.{closing_behind, turns_octets}
use Rattle.ua_loopback.specs.Says.{end_by, services_after, server_output}
use Rattle.ua_loopback.specs.Talking.{IsLineTo, IsTalking, SoFar, StopsOver, TalksAt, acked_in, answers_in, closed_octets, octets_of_turn}
use Rattle.ua_loopback.specs.Talking.{newest_in, state_in, with_turn}
use Rattle.ua_loopback.specs.inside.Talking.{CanOpenTo, HasMisanswer, HaveMisanswers, StaysAfterTurns, StaysBefore}
use Rattle.ua_loopback.specs.inside.Talking.{StaysBehindTurn, StaysTalking, Talked, HasOpenedTo, WentBefore}
use Rattle.ua_loopback.specs.Turns.{conversation_told, ids_behind}
use Rattle.ua_loopback.proofs.Begun.{SettlesOpened, went_first}
use Rattle.ua_loopback.proofs.Faults.{fails_by, misanswers_in, sent_both, sent_over}
use Rattle.ua_loopback.proofs.OneTurn.{calls_refused, calls_replied, calls_sent, calls_talk, closes_read, closes_silent, closing_is, first_at}
use Rattle.ua_loopback.proofs.OneTurn.{first_octets, first_replied, first_sent, first_talk, renewing_not, renewing_sent, renewing_talks, talk_left}
use Rattle.ua_loopback.proofs.Pushes.{octets_push, replies_push}
use Rattle.ua_loopback.proofs.Replying.{some-append}
use Rattle.ua_loopback.proofs.Saying.{end_is}
use Rattle.ua_loopback.proofs.Talks.{breaks_refused, got_on, rounds_octets}

-- ---- a turn that is refused

-- none of a group's replies is kept
none_kept : (requests : List Request) (s : ClientPlace) (new : Connection) (taken : List ℕ) (f : ClientFault) (n : ℕ) (kept : List Reply) → IsTurnFault f
    → KeepsRepliesAt requests s new taken f n kept → kept ≡ []
none_kept requests s new taken fault.NotWritable n kept reason h = h.1
none_kept requests s new taken fault.Exhausted n kept reason h = h.1
none_kept requests s new taken fault.TooLarge n kept reason h = h.1
none_kept requests s new taken fault.TooManyTokens n kept reason h = absurd h
none_kept requests s new taken (fault.Peer code) n kept reason h = absurd reason
none_kept requests s new taken (fault.Refused code) n kept reason h = absurd reason
none_kept requests s new taken (fault.Service code) n kept reason h = absurd reason
none_kept requests s new taken fault.Ended n kept reason h = absurd reason
none_kept requests s new taken fault.Read n kept reason h = absurd reason
none_kept requests s new taken fault.Write n kept reason h = absurd reason
none_kept requests s new taken fault.TooLong n kept reason h = absurd reason
none_kept requests s new taken fault.UnknownResponse n kept reason h = absurd reason
none_kept requests s new taken fault.OutOfMemory n kept reason h = absurd reason
none_kept requests s new taken fault.Closed n kept reason h = absurd reason

-- a renewal that is refused is not asked
is_refusal : (s : ClientPlace) (moment : DateTime) (new : ClientChannel) (sent taken : List ℕ) (f : ClientFault) → IsTurnFault f
    → RenewsAt {A = Unit {0}} s moment new sent taken (Err f) → IsRefusal {A = Unit {0}} (Err f)
is_refusal s moment new sent taken fault.NotWritable reason h = absurd h
is_refusal s moment new sent taken fault.Exhausted reason h = tt
is_refusal s moment new sent taken fault.TooLarge reason h = absurd h
is_refusal s moment new sent taken fault.TooManyTokens reason h = tt
is_refusal s moment new sent taken (fault.Peer code) reason h = absurd reason
is_refusal s moment new sent taken (fault.Refused code) reason h = absurd reason
is_refusal s moment new sent taken (fault.Service code) reason h = absurd reason
is_refusal s moment new sent taken fault.Ended reason h = absurd reason
is_refusal s moment new sent taken fault.Read reason h = absurd reason
is_refusal s moment new sent taken fault.Write reason h = absurd reason
is_refusal s moment new sent taken fault.TooLong reason h = absurd reason
is_refusal s moment new sent taken fault.UnknownResponse reason h = absurd reason
is_refusal s moment new sent taken fault.OutOfMemory reason h = absurd reason
is_refusal s moment new sent taken fault.Closed reason h = absurd reason

-- groups before one are groups
groups_front : (groups : List (List Request)) (group : List Request) → AreGroups (groups ++ group ∷ []) → AreGroups groups
groups_front [] group h = tt
groups_front (g ∷ groups) group h = (h.0, h.1, λ some. h.2 (omega (arith, some, length-append groups (group ∷ []))), groups_front groups group h.3)

-- ---- a turn

module _ (b : Beginning) (limits : Limits) (url : Option (List ℕ)) (moment : DateTime) (opened : ClientPlace) (turns : List (Option (List Request)))
    (x y : Connection) (first now after : Option Traffic) (had have : List Reply) (s : StaysTalking b limits url moment opened turns x first now had) where
  abbrev opening : List ℕ
  opening = opening_octets limits url moment

  abbrev was : StaysAfterTurns moment (opening_octets limits url moment) opened turns x first now had
  was = s.stays

  abbrev talk : SoFar
  talk = record { server = b; limits = limits; url = url; turns = turns; octets = opening ++ was.sent }

  -- what was sent with this turn
  more_sent : (turn : Option (List Request)) (sent : List ℕ) → sent ≡ octets_of_turn talk moment turn
      → was.sent ++ sent ≡ turns_octets (acked_in talk) b.channel moment 1 2 2 (turns ++ turn ∷ [])
  more_sent turn sent is =
      ap (λ (o : List ℕ). o ++ sent) s.sent_is
      ∙ (ap (λ (o : List ℕ). turns_octets (acked_in talk) b.channel moment 1 2 2 turns ++ o) is
      ∙ sym (octets_push (acked_in talk) b.channel moment 1 2 2 turns turn))

  -- the replies with it
  more_replied : (turn : Option (List Request)) (added : List Reply) → have ≡ had ++ added
      → map (λ (r : Reply). Some r) added ≡ turn_replies (lane_back_by_token b limits url (newest_in talk)) (state_in talk) b.moments (answers_in talk) turn
      → map (λ (r : Reply). Some r) have ≡ replies_to_turns b limits url b.first 1 1 (turns ++ turn ∷ [])
  more_replied turn added have_is replied =
      ap (λ (rs : List Reply). map (λ (r : Reply). Some r) rs) have_is
      ∙ (some-append had added
      ∙ (ap (λ (os : List (Option Reply)). os ++ map (λ (r : Reply). Some r) added) s.replied
      ∙ (ap (λ (os : List (Option Reply)). replies_to_turns b limits url b.first 1 1 turns ++ os) replied
      ∙ sym (replies_push b limits url b.first 1 1 turns turn))))

  -- where both ends are behind it
  talks_on : (turn : Option (List Request)) (u : ClientPlace) (sent : List ℕ) → sent ≡ octets_of_turn talk moment turn
      → TalksAt (with_turn talk moment turn) u y after
      → TalksAt (record { server = b; limits = limits; url = url; turns = turns ++ turn ∷ []; octets = opening ++ (was.sent ++ sent) }) u y after
  talks_on turn u sent is talks =
      subst (λ (o : List ℕ). TalksAt (record { server = b; limits = limits; url = url; turns = turns ++ turn ∷ []; octets = o }) u y after)
      (ap (λ (o : List ℕ). (opening ++ was.sent) ++ o) (sym is) ∙ append_assoc opening was.sent sent) talks

  carried_on : (got sent : List ℕ) → IfTrafficKnown (Carries got sent) now after
      → IfTrafficKnown (Carries (was.got ++ got) (opening ++ (was.sent ++ sent))) first after
  carried_on got sent carried =
      carried-as (was.got ++ got) ((opening ++ was.sent) ++ sent) (was.got ++ got) (opening ++ (was.sent ++ sent)) first after refl
      (append_assoc opening was.sent sent)
      (carried-then was.got (opening ++ was.sent) got sent first now after was.carried carried)

  -- requests are asked
  asked_on : NonePending → (requests : List Request) (done : Unit {0}) → CallsInto {A = Unit {0}} requests x y now after (Ok done) had have
      → StaysTalking b limits url moment opened (turns ++ Some requests ∷ []) y first after have
  asked_on law requests done c =
      let a = c.answers was.site was.at in
      let sent_is : c.sent ≡ octets_of_turn talk moment (Some requests) = calls_sent talk was.site x now s.talks y after c.sent c.moves c.same law moment
      requests
      c.added a in
      record {
        stays = record {
          site = a.behind;
          at = a.at;
          sent = was.sent ++ c.sent;
          course = subst (λ (r : List Reply). ClientCourse moment opened (turns ++ Some requests ∷ []) a.behind (was.sent ++ c.sent) r) (sym c.have_is)
              (Asked (Some requests) a.groups was.course (ap (λ (rs : List Request). Some rs) a.parts) a.sized a.rounds);
          got = was.got ++ c.moves.got;
          carried = carried_on c.moves.got c.sent c.moves.carried;
          got_is = got_on was.got c.moves.got was.site.octets (untaken_of x) c.moves.taken (untaken_of y) was.got_is c.moves.parts
              ∙ ap (λ (o : List ℕ). o ++ untaken_of y) (sym (rounds_octets a.rounds));
        };
        sent_is = more_sent (Some requests) c.sent sent_is;
        replied =
            more_replied (Some requests) c.added c.have_is
            (calls_replied talk was.site x now s.talks y after c.sent c.moves c.same law moment requests c.added a);
        talks = talks_on (Some requests) a.behind c.sent sent_is
            (calls_talk talk was.site x now s.talks y after c.sent c.moves c.same law moment requests c.added a);
      }

  -- the token is renewed
  renewed_on : IsTrue (date_time.encodable moment) → (done : Unit {0}) → Renews {A = Unit {0}} moment x y now after (Ok done) → have ≡ had
      → StaysTalking b limits url moment opened (turns ++ None ∷ []) y first after have
  renewed_on dated done c same =
      let a = c.answers was.site was.at in
      let u : ClientPlace = a.1.0 in
      let renewed : IsRenewed (channel_of_connection y) was.site u c.moves.taken = a.1.1 in
      let sent_is : c.sent ≡ octets_of_turn talk moment None = renewing_sent talk was.site x now s.talks y after moment dated done c was.at in
      record {
        stays = record {
          site = u;
          at = renewed.at;
          sent = was.sent ++ c.sent;
          course = subst (λ (o : List ℕ). ClientCourse moment opened (turns ++ None ∷ []) u (was.sent ++ o) have) (sym a.0)
              (subst (λ (r : List Reply). ClientCourse moment opened (turns ++ None ∷ []) u (was.sent ++ renewal_at was.site moment) r) (sym same)
              (Renewed None (channel_of_connection y) was.course refl renewed));
          got = was.got ++ c.moves.got;
          carried = carried_on c.moves.got c.sent c.moves.carried;
          got_is = got_on was.got c.moves.got was.site.octets (untaken_of x) c.moves.taken (untaken_of y) was.got_is c.moves.parts
              ∙ ap (λ (o : List ℕ). o ++ untaken_of y) (sym renewed.octets);
        };
        sent_is = more_sent None c.sent sent_is;
        replied = more_replied None [] (same ∙ sym (append-nil had)) refl;
        talks = talks_on None u c.sent sent_is (renewing_talks talk was.site x now s.talks y after moment dated done c was.at);
      }

  -- a turn that asks these requests, or none
  pub stays_asked : NonePending → (t : Option (List Request)) (requests : List Request) (done : Unit {0}) → t ≡ Some requests
      → CallsInto {A = Unit {0}} requests x y now after (Ok done) had have → StaysTalking b limits url moment opened (turns ++ t ∷ []) y first after have
  stays_asked law t requests done is c = subst (λ (o : Option (List Request)). StaysTalking b limits url moment opened (turns ++ o ∷ []) y first after have)
      (sym is) (asked_on law requests done c)

  pub stays_renewed : IsTrue (date_time.encodable moment) → (t : Option (List Request)) (done : Unit {0}) → t ≡ None
      → Renews {A = Unit {0}} moment x y now after (Ok done) → have ≡ had → StaysTalking b limits url moment opened (turns ++ t ∷ []) y first after have
  stays_renewed dated t done is c same = subst (λ (o : Option (List Request)). StaysTalking b limits url moment opened (turns ++ o ∷ []) y first after have)
      (sym is) (renewed_on dated done c same)

  -- or it is not taken, by the first reason against it

  pub asked_not : NonePending → (t : Option (List Request)) (requests : List Request) (f : CallsFault) → t ≡ Some requests
      → CallsInto {A = Unit {0}} requests x y now after (Err f) had have → IsTurnFault f.fault → turn_refusal_under (acked_in talk) turns t ≡ Some f.fault
  asked_not law t requests f is c reason =
      ap (turn_refusal_under (acked_in talk) turns) is ∙ calls_refused talk was.site x now s.talks y after c.sent c.moves c.same law moment requests f.fault
      reason
      (c.answers was.site was.at).broken

  pub renewed_not : (t : Option (List Request)) (f : ClientFault) → t ≡ None → Renews {A = Unit {0}} moment x y now after (Err f) → IsTurnFault f
      → turn_refusal_under (acked_in talk) turns t ≡ Some f
  renewed_not t f is c reason = ap (turn_refusal_under (acked_in talk) turns) is ∙ renewing_not talk was.site x now s.talks y after moment f reason c was.at

  -- and what stands before it was done

  asked_before : NonePending → (requests : List Request) (f : CallsFault) → CallsInto {A = Unit {0}} requests x y now after (Err f) had have
      → IsTurnFault f.fault → StaysBehindTurn b limits url moment opened turns (Some requests) y first after have
  asked_before law requests f c reason =
      let q = c.answers was.site was.at in
      let a = q.broken in
      let asked : List Request = all_of a.groups in
      let none = breaks_refused a.group a.behind y a.sent_then a.taken_then f.fault reason a.breaks in
      let added_is : c.added ≡ a.replies = q.added_is
      ∙ (ap (λ (rs : List Reply). a.replies ++ rs) (none_kept a.group a.behind y a.taken_then f.fault q.place q.kept reason q.keeps) ∙ append-nil a.replies)
      in
      let have_is : have ≡ had ++ a.replies = c.have_is ∙ ap (λ (rs : List Reply). had ++ rs) added_is in
      let before_is : c.sent ≡ a.sent_before = a.sent_parts ∙ (ap (λ (o : List ℕ). a.sent_before ++ o) none.0 ∙ append-nil a.sent_before) in
      let sent_is : c.sent ≡ octets_of_turn talk moment (Some asked) = first_sent talk was.site x now s.talks y after c.sent c.moves c.same law moment requests
      f.fault reason a in
      let octets_are = first_octets talk was.site x now s.talks y after c.sent c.moves c.same law moment requests f.fault reason a in
      record {
        done = turns ++ Some asked ∷ [];
        done_is = (asked, a.group ++ a.others, a.parts, refl);
        stays = record {
          stays = record {
            site = a.behind;
            at = first_at talk was.site x now s.talks y after c.sent c.moves c.same law moment requests f.fault reason a;
            sent = was.sent ++ c.sent;
            course = subst (λ (o : List ℕ). ClientCourse moment opened (turns ++ Some asked ∷ []) a.behind (was.sent ++ o) have) (sym before_is)
                (subst (λ (r : List Reply). ClientCourse moment opened (turns ++ Some asked ∷ []) a.behind (was.sent ++ a.sent_before) r) (sym have_is)
                (Asked (Some asked) a.groups was.course refl (groups_front a.groups a.group a.sized) a.rounds));
            got = was.got ++ c.moves.got;
            carried = carried_on c.moves.got c.sent c.moves.carried;
            got_is = got_on was.got c.moves.got was.site.octets (untaken_of x) c.moves.taken (untaken_of y) was.got_is c.moves.parts
                ∙ ap (λ (o : List ℕ). o ++ untaken_of y) (sym octets_are);
          };
          sent_is = more_sent (Some asked) c.sent sent_is;
          replied =
              more_replied (Some asked) a.replies have_is
              (first_replied talk was.site x now s.talks y after c.sent c.moves c.same law moment requests f.fault reason a);
          talks = talks_on (Some asked) a.behind c.sent sent_is
              (first_talk talk was.site x now s.talks y after c.sent c.moves c.same law moment requests f.fault reason a);
        };
      }

  pub stays_before : NonePending → (t : Option (List Request)) (requests : List Request) (f : CallsFault) → t ≡ Some requests
      → CallsInto {A = Unit {0}} requests x y now after (Err f) had have → IsTurnFault f.fault
      → StaysBehindTurn b limits url moment opened turns t y first after have
  stays_before law t requests f is c reason = subst (λ (o : Option (List Request)). StaysBehindTurn b limits url moment opened turns o y first after have)
      (sym is)
      (asked_before law requests f c reason)

  pub renewed_before : (t : Option (List Request)) (f : ClientFault) → t ≡ None → Renews {A = Unit {0}} moment x y now after (Err f)
      → (IsRefusal {A = Unit {0}} (Err f) → (y ≡ x) × (after ≡ now)) → have ≡ had → IsTurnFault f
      → StaysBehindTurn b limits url moment opened turns t y first after have
  renewed_before t f is c unchanged same reason =
      let u = unchanged (is_refusal was.site moment (channel_of_connection y) c.sent c.moves.taken f reason (c.answers was.site was.at)) in
      subst (λ (o : Option (List Request)). StaysBehindTurn b limits url moment opened turns o y first after have) (sym is) (record {
        done = turns;
        done_is = refl;
        stays = subst (λ (z : Connection). StaysTalking b limits url moment opened turns z first after have) (sym u.0)
            (subst (λ (l : Option Traffic). StaysTalking b limits url moment opened turns x first l have) (sym u.1)
            (subst (λ (rs : List Reply). StaysTalking b limits url moment opened turns x first now rs) (sym same) s));
      })

-- why it fails that a client talks to a server and takes this turn
pub asked_fails : (b : Beginning) (limits : Limits) (url : Option (List ℕ)) (moment : DateTime) (opened : ClientPlace) (turns : List (Option (List Request)))
    (x : Client) (first now : Option Traffic) (had : List Reply) → StaysTalking b limits url moment opened turns (connection_of x) first now had
    → IsReady x → (t asked : Option (List Request)) → t ≡ asked → (f : ClientFault)
    → ((talk : SoFar) → IsTalking talk x now → FailsBehind (HasMisanswer (state_in talk) talk.server.moments (answers_in talk) asked) f)
    → FailsBehind (HasMisanswer (turns_state b.first b.moments 1 turns) b.moments (ids_behind 1 turns) t) f
asked_fails b limits url moment opened turns x first now had s ready t asked is f fails =
    let talk : SoFar = record { server = b; limits = limits; url = url; turns = turns; octets = opening_octets limits url moment ++ s.stays.sent } in
    subst (λ (o : Option (List Request)). FailsBehind (HasMisanswer (turns_state b.first b.moments 1 turns) b.moments (ids_behind 1 turns) o) f) (sym is)
    (fails talk (record { ready = ready; site = s.stays.site; talks = s.talks }))

-- and what the server makes of all that was sent
pub asked_stops : (b : Beginning) (limits : Limits) (url : Option (List ℕ)) (moment : DateTime) (opened : ClientPlace) (turns : List (Option (List Request)))
    (x : Client) (first now after : Option Traffic) (had : List Reply)
    → StaysTalking b limits url moment opened turns (connection_of x) first now had → IsReady x → (f : ClientFault)
    → ((talk : SoFar) → IsTalking talk x now → StopsOver f talk.server talk.octets now after) → StopsOver f b [] first after
asked_stops b limits url moment opened turns x first now after had s ready f stops =
    let before : List ℕ = opening_octets limits url moment ++ s.stays.sent in
    let there = stops (record { server = b; limits = limits; url = url; turns = turns; octets = before })
    (record { ready = ready; site = s.stays.site; talks = s.talks }) in
    (before ++ there.0, sent_both before there.0 first now after (sent_over s.stays.got before before first now refl s.stays.carried) there.1, there.2)

-- ---- the end

-- it closes
pub talked_all : (b : Beginning) (limits : Limits) (url : Option (List ℕ)) (moment : DateTime) (turns : List (Option (List Request))) (x : Connection)
    (first now after : Option Traffic) (replies : List Reply)
    (w : HasOpenedTo b limits url moment x first now) (y : Connection) (later : Option Traffic) (done : Unit {0})
    → StaysTalking b limits url moment w.opened turns y first later replies → Closes {A = Unit {0}} moment (channel_of_connection y) later after (Ok done)
    → Talked b limits url moment turns first after replies
talked_all b limits url moment turns x first now after replies w y later done s c =
    let opening : List ℕ = opening_octets limits url moment in
    let was = s.stays in
    let talk : SoFar = record { server = b; limits = limits; url = url; turns = turns; octets = opening ++ was.sent } in
    let sent_is : c.sent ≡ closing_at was.site moment = c.answers was.site was.at in
    let closing : closing_at was.site moment ≡ closing_behind (acked_in talk) b.channel moment turns = closing_is talk was.site y later s.talks moment in
    let all : opening ++ (was.sent ++ closing_at was.site moment) ≡ closed_octets talk moment =
    sym (append_assoc opening was.sent (closing_at was.site moment)) ∙ ap (λ (o : List ℕ). (opening ++ was.sent) ++ o) closing in
    record {
      channel = w.channel;
      opened = w.opened;
      opens = w.opens;
      opened_at = w.opened_at;
      last = was.site;
      sent = was.sent;
      course = was.course;
      got = was.got;
      carried = carried-as (was.got ++ []) ((opening ++ was.sent) ++ c.sent) was.got (opening ++ (was.sent ++ closing_at was.site moment)) first after
          (append-nil was.got)
          (ap (λ (o : List ℕ). (opening ++ was.sent) ++ o) sent_is ∙ append_assoc opening was.sent (closing_at was.site moment))
          (carried-then was.got (opening ++ was.sent) [] c.sent first later after was.carried c.carried);
      accepted = s.talks.accepted;
      replied = s.replied;
      state_is = s.talks.state_is;
      up_is =
          ap (λ (o : List ℕ). opening ++ (o ++ closing_at was.site moment)) s.sent_is
          ∙ ap (λ (o : List ℕ). opening ++ (turns_octets (acked_in talk) b.channel moment 1 2 2 turns ++ o)) closing;
      took = s.talks.talking.served.serving.taken ∙ (sym (closes_silent talk was.site y later s.talks moment) ∙ ap (server_output b) (sym all));
      closes = subst (λ (o : List ℕ). ServerCloses b.limits b.channel o (conversation_told b.limits limits url turns)) (sym all)
          (closes_read talk was.site y later s.talks moment);
    }

-- over a line to a server
pub conversed : (b : Beginning) (limits : Limits) (url : Option (List ℕ)) (moment : DateTime) (turns : List (Option (List Request))) (old new : Served)
    (replies : List Reply) → old.up ≡ []
    → Talked b limits url moment turns (Some (traffic_of b old)) (Some (traffic_of b new)) replies
    → Converses limits url moment turns new.up (server_output b new.up) replies
conversed b limits url moment turns old new replies none t =
    let sent : List ℕ = opening_octets limits url moment ++ (t.sent ++ closing_at t.last moment) in
    let up_is : new.up ≡ sent = t.carried.written ∙ ap (λ (o : List ℕ). o ++ sent) none in
    record {
      x = t.channel;
      opened = t.opened;
      opens = t.opens;
      opened_at = t.opened_at;
      last = t.last;
      sent = t.sent;
      course = t.course;
      up_is = up_is;
      took = t.took ∙ ap (server_output b) (sym up_is);
    }

-- and the server was told just this
pub closed_by : (b : Beginning) (limits : Limits) (url : Option (List ℕ)) (moment : DateTime) (turns : List (Option (List Request))) (old new : Served)
    (replies : List Reply) → old.up ≡ []
    → Talked b limits url moment turns (Some (traffic_of b old)) (Some (traffic_of b new)) replies
    → ServerCloses b.limits b.channel new.up (conversation_told b.limits limits url turns)
closed_by b limits url moment turns old new replies none t =
    subst (λ (o : List ℕ). ServerCloses b.limits b.channel o (conversation_told b.limits limits url turns))
    (sym (t.carried.written ∙ ap (λ (o : List ℕ). o ++ (opening_octets limits url moment ++ (t.sent ++ closing_at t.last moment))) none)) t.closes

-- the line as it begins
pub line_begins : (b : Beginning) (old : Served) → old.up ≡ [] → old.read ≡ 0 → IsLineTo b [] [] (Some (traffic_of b old))
line_begins b old none nothing_read = λ more. sym (ap (λ (n : ℕ). drop n (server_output b (old.up ++ more))) nothing_read
    ∙ ap (λ (u : List ℕ). server_output b (u ++ more)) none)

-- ---- turns, one behind the other

-- the turns of a caller's own type: a value of it is a turn
module _ {A : Type 0} (turn_of : A → Option (List Request)) where
  -- so many turns were taken
  pub record TakenSoFar (moment : DateTime) (turns : List A) (index : ℕ) (x y : Client) (before now : Option Traffic) (had have : List Reply) : Type 0 where
    pub stays : (b : Beginning) (limits : Limits) (url : Option (List ℕ)) (opened : ClientPlace) (first : Option Traffic)
        → StaysTalking b limits url moment opened [] (connection_of x) first before had
        → StaysTalking b limits url moment opened (map turn_of (take index turns)) (connection_of y) first now have
    pub ready : IsReady y

  pub taken_none : (moment : DateTime) (turns : List A) (x : Client) (before : Option Traffic) (had : List Reply) → IsReady x
      → TakenSoFar moment turns 0 x x before before had had
  taken_none moment turns x before had ready = record { stays = λ b limits url opened first s. s; ready = ready }

  -- the turns up to the next one
  turns_on : (turns : List A) (index : ℕ) (t : A) → index < length turns → t ≡ get_or turns index t
      → map turn_of (take (index + 1) turns) ≡ map turn_of (take index turns) ++ turn_of t ∷ []
  turns_on turns index t less is =
      ap (map turn_of) (take_more turns index t less ∙ ap (λ (u : A). take index turns ++ u ∷ []) (sym is)) ∙ map-append turn_of (take index turns) (t ∷ [])

  pub taken_more : (moment : DateTime) (turns : List A) (index : ℕ) (x y z : Client) (before now after : Option Traffic) (had have later : List Reply) (t : A)
      → TakenSoFar moment turns index x y before now had have
      → index < length turns → t ≡ get_or turns index t
      → ((b : Beginning) (limits : Limits) (url : Option (List ℕ)) (opened : ClientPlace) (done : List (Option (List Request))) (first : Option Traffic)
      → StaysTalking b limits url moment opened done (connection_of y) first now have
      → StaysTalking b limits url moment opened (done ++ turn_of t ∷ []) (connection_of z) first after later)
      → IsReady z → TakenSoFar moment turns (index + 1) x z before after had later
  taken_more moment turns index x y z before now after had have later t so less is turn ready = record {
    stays = λ b limits url opened first s.
        subst (λ (ts : List (Option (List Request))). StaysTalking b limits url moment opened ts (connection_of z) first after later)
        (sym (turns_on turns index t less is))
        (turn b limits url opened (map turn_of (take index turns)) first (so.stays b limits url opened first s));
    ready = ready;
  }

  -- the next one is not taken
  pub refused_next : (moment : DateTime) (turns : List A) (index : ℕ) (x y : Client) (before now : Option Traffic) (had have : List Reply) (t : A)
      (f : ClientFault) → TakenSoFar moment turns index x y before now had have
      → index < length turns → t ≡ get_or turns index t
      → ((b : Beginning) (limits : Limits) (url : Option (List ℕ)) (opened : ClientPlace) (done : List (Option (List Request))) (first : Option Traffic)
      → StaysTalking b limits url moment opened done (connection_of y) first now have
      → turn_refusal_under (acknowledged b.limits limits url) done (turn_of t) ≡ Some f)
      → (b : Beginning) (limits : Limits) (url : Option (List ℕ)) (opened : ClientPlace) (first : Option Traffic)
      → StaysTalking b limits url moment opened [] (connection_of x) first before had
      → FirstRefusedUnder (acknowledged b.limits limits url) (map turn_of turns) index f
  refused_next moment turns index x y before now had have t f so less is refused b limits url opened first s =
      let done = so.stays b limits url opened first s in
      record {
        before = map turn_of (take index turns);
        turn = turn_of t;
        behind = map turn_of (drop (index + 1) turns);
        parts =
            ap (map turn_of) (sym (take-append-drop (index + 1) turns))
            ∙ (map-append turn_of (take (index + 1) turns) (drop (index + 1) turns)
            ∙ (ap (λ (ts : List (Option (List Request))). ts ++ map turn_of (drop (index + 1) turns)) (turns_on turns index t less is)
            ∙ append_assoc (map turn_of (take index turns)) (turn_of t ∷ []) (map turn_of (drop (index + 1) turns))));
        place_is = length-map (take index turns) turn_of ∙ length-take-le index turns (omega (arith, less));
        accepted = done.talks.accepted;
        refused = refused b limits url opened (map turn_of (take index turns)) first done;
      }

  -- what stands before it was done
  pub before_next : (moment : DateTime) (turns : List A) (index : ℕ) (x y z : Client) (before now after : Option Traffic) (had have later : List Reply) (t : A)
      → TakenSoFar moment turns index x y before now had have
      → index < length turns → t ≡ get_or turns index t
      → ((b : Beginning) (limits : Limits) (url : Option (List ℕ)) (opened : ClientPlace) (done : List (Option (List Request))) (first : Option Traffic)
      → StaysTalking b limits url moment opened done (connection_of y) first now have
      → StaysBehindTurn b limits url moment opened done (turn_of t) (connection_of z) first after later)
      → (b : Beginning) (limits : Limits) (url : Option (List ℕ)) (opened : ClientPlace) (first : Option Traffic)
      → StaysTalking b limits url moment opened [] (connection_of x) first before had
      → StaysBefore b limits url moment opened (map turn_of turns) index (connection_of z) first after later
  before_next moment turns index x y z before now after had have later t so less is refused b limits url opened first s =
      let behind = refused b limits url opened (map turn_of (take index turns)) first (so.stays b limits url opened first s) in
      record {
        done = behind.done;
        done_is = record {
          before = map turn_of (take index turns);
          turn = turn_of t;
          behind = map turn_of (drop (index + 1) turns);
          parts =
              ap (map turn_of) (sym (take-append-drop (index + 1) turns))
              ∙ (map-append turn_of (take (index + 1) turns) (drop (index + 1) turns)
              ∙ (ap (λ (ts : List (Option (List Request))). ts ++ map turn_of (drop (index + 1) turns)) (turns_on turns index t less is)
              ∙ append_assoc (map turn_of (take index turns)) (turn_of t ∷ []) (map turn_of (drop (index + 1) turns))));
          place_is = length-map (take index turns) turn_of ∙ length-take-le index turns (omega (arith, less));
          done_is = behind.done_is;
        };
        stays = behind.stays;
      }

  -- or fails
  pub fails_next : (moment : DateTime) (turns : List A) (index : ℕ) (x y : Client) (before now : Option Traffic) (had have : List Reply) (t : A)
      (f : ClientFault) → TakenSoFar moment turns index x y before now had have
      → index < length turns → t ≡ get_or turns index t
      → ((b : Beginning) (limits : Limits) (url : Option (List ℕ)) (opened : ClientPlace) (done : List (Option (List Request))) (first : Option Traffic)
      → StaysTalking b limits url moment opened done (connection_of y) first now have
      → FailsBehind (HasMisanswer (turns_state b.first b.moments 1 done) b.moments (ids_behind 1 done) (turn_of t)) f)
      → (b : Beginning) (limits : Limits) (url : Option (List ℕ)) (opened : ClientPlace) (first : Option Traffic)
      → StaysTalking b limits url moment opened [] (connection_of x) first before had
      → FailsBehind (HaveMisanswers b.first b.moments 1 (map turn_of turns)) f
  fails_next moment turns index x y before now had have t f so less is fails b limits url opened first s =
      let done : List (Option (List Request)) = map turn_of (take index turns) in
      let rest : List (Option (List Request)) = map turn_of (drop (index + 1) turns) in
      let parts : map turn_of turns ≡ done ++ turn_of t ∷ rest =
      ap (map turn_of) (sym (take-append-drop (index + 1) turns))
      ∙ (map-append turn_of (take (index + 1) turns) (drop (index + 1) turns)
      ∙ (ap (λ (ts : List (Option (List Request))). ts ++ rest) (turns_on turns index t less is) ∙ append_assoc done (turn_of t ∷ []) rest)) in
      fails_by (HasMisanswer (turns_state b.first b.moments 1 done) b.moments (ids_behind 1 done) (turn_of t))
      (HaveMisanswers b.first b.moments 1 (map turn_of turns)) f
      (λ h. subst (λ (ts : List (Option (List Request))). HaveMisanswers b.first b.moments 1 ts) (sym parts)
      (misanswers_in b.first b.moments 1 done (turn_of t) rest h))
      (fails b limits url opened done first (so.stays b limits url opened first s))

  pub taken_all : (moment : DateTime) (turns : List A) (index : ℕ) (x y : Client) (before now : Option Traffic) (had have : List Reply)
      → TakenSoFar moment turns index x y before now had have → length turns ≤ index
      → (b : Beginning) (limits : Limits) (url : Option (List ℕ)) (opened : ClientPlace) (first : Option Traffic)
      → StaysTalking b limits url moment opened [] (connection_of x) first before had
      → StaysTalking b limits url moment opened (map turn_of turns) (connection_of y) first now have
  taken_all moment turns index x y before now had have so enough b limits url opened first s =
      subst (λ (ts : List A). StaysTalking b limits url moment opened (map turn_of ts) (connection_of y) first now have) (take_all index turns enough)
      (so.stays b limits url opened first s)

-- ---- what calls of a client say

-- it opened
pub went_by : (limits : Limits) (url : Option (List ℕ)) (moment : DateTime) (before after : Option Traffic) (client : Client) → SettlesOpened
    → (OpensNothing before after (Ok client) ⊎ OpensClient limits url moment before after (Ok client)) → (b : Beginning) → CanOpenTo b limits url moment
    → IsLineTo b [] [] before → HasOpenedTo b limits url moment (connection_of client) before after
went_by limits url moment before after client law (inl nothing) b able line = let none : ◌≡◌ {A = Result Client ClientFault} (Ok client) (Err OutOfMemory) =
    nothing.0 in absurd cc
went_by limits url moment before after client law (inr o) b able line = went_first b limits url moment before after client law o able line

pub ready_by : (limits : Limits) (url : Option (List ℕ)) (moment : DateTime) (before after : Option Traffic) (client : Client)
    → (OpensNothing before after (Ok client) ⊎ OpensClient limits url moment before after (Ok client)) → IsReady client
ready_by limits url moment before after client (inl nothing) = let none : ◌≡◌ {A = Result Client ClientFault} (Ok client) (Err OutOfMemory) =
    nothing.0 in absurd cc
ready_by limits url moment before after client (inr o) = o.over.1

-- neither its opening nor its close fails for a reason against a turn

pub opens_by : (limits : Limits) (url : Option (List ℕ)) (moment : DateTime) (before after : Option Traffic) (f : ClientFault) → IsTurnFault f
    → (OpensNothing before after (Err f) ⊎ OpensClient limits url moment before after (Err f)) → ⊥
opens_by limits url moment before after f is (inl nothing) = memory_not f is (err_is f OutOfMemory nothing.0)
  where
    err_is : (g h : ClientFault) → ◌≡◌ {A = Result Client ClientFault} (Err g) (Err h) → g ≡ h
    err_is g h e = cc

    memory_not : (g : ClientFault) → IsTurnFault g → g ≡ OutOfMemory → ⊥
    memory_not g reason e = subst IsTurnFault e reason
opens_by limits url moment before after f is (inr o) = by _ _ _ _ _ f is (o.opens.answers o.fresh.goes)
  where
    by : (hello opening : List ℕ) (x : ClientChannel) (sent taken : List ℕ) (g : ClientFault) → IsTurnFault g → BreaksOpening hello opening x sent taken g → ⊥
    by _ _ _ _ _ fault.NotWritable reason k = k
    by _ _ _ _ _ fault.Exhausted reason k = k
    by _ _ _ _ _ fault.TooLarge reason k = k
    by _ _ _ _ _ fault.TooManyTokens reason k = k
    by _ _ _ _ _ (fault.Peer code) reason k = reason
    by _ _ _ _ _ (fault.Refused code) reason k = reason
    by _ _ _ _ _ (fault.Service code) reason k = reason
    by _ _ _ _ _ fault.Ended reason k = reason
    by _ _ _ _ _ fault.Read reason k = reason
    by _ _ _ _ _ fault.Write reason k = reason
    by _ _ _ _ _ fault.TooLong reason k = reason
    by _ _ _ _ _ fault.UnknownResponse reason k = reason
    by _ _ _ _ _ fault.OutOfMemory reason k = reason
    by _ _ _ _ _ fault.Closed reason k = reason

pub closes_by : (s : ClientPlace) (moment : DateTime) (sent : List ℕ) (f : ClientFault) → IsTurnFault f → ClosesChannelAt {A = Unit {0}} s moment sent (Err f)
    → ⊥
closes_by s moment sent fault.NotWritable is k = k
closes_by s moment sent fault.Exhausted is k = k
closes_by s moment sent fault.TooLarge is k = k
closes_by s moment sent fault.TooManyTokens is k = k
closes_by s moment sent (fault.Peer code) is k = is
closes_by s moment sent (fault.Refused code) is k = is
closes_by s moment sent (fault.Service code) is k = is
closes_by s moment sent fault.Ended is k = is
closes_by s moment sent fault.Read is k = is
closes_by s moment sent fault.Write is k = is
closes_by s moment sent fault.TooLong is k = is
closes_by s moment sent fault.UnknownResponse is k = is
closes_by s moment sent fault.OutOfMemory is k = is
closes_by s moment sent fault.Closed is k = is

-- ---- what stands before a turn that is refused

-- it was done, and no more
pub behind_refused : (b : Beginning) (limits : Limits) (url : Option (List ℕ)) (moment : DateTime) (turns : List (Option (List Request))) (place : ℕ)
    (old new : Served) (replies : List Reply) → old.up ≡ []
    → WentBefore b limits url moment turns place (Some (traffic_of b old)) (Some (traffic_of b new)) replies
    → BehindRefused b limits url moment turns place new.up replies
behind_refused b limits url moment turns place old new replies none w =
    let s = w.stays.stays in
    let opening : List ℕ = opening_octets limits url moment in
    let talk : SoFar = record { server = b; limits = limits; url = url; turns = w.stays.done; octets = opening ++ s.stays.sent } in
    let up_is : new.up ≡ opening ++ s.stays.sent = s.stays.carried.written ∙ ap (λ (o : List ℕ). o ++ (opening ++ s.stays.sent)) none in
    record {
      done = w.stays.done;
      done_is = w.stays.done_is;
      sent = up_is ∙ ap (λ (o : List ℕ). opening ++ o) s.sent_is;
      replied = s.replied;
      state = ap (services_after b) up_is ∙ talk_left talk s.stays.site w.connection (Some (traffic_of b new)) s.talks;
    }

-- the server refused nothing of it, and waits for more
pub waits_refused : (b : Beginning) (limits : Limits) (url : Option (List ℕ)) (moment : DateTime) (turns : List (Option (List Request))) (place : ℕ)
    (old new : Served) (replies : List Reply) → old.up ≡ []
    → WentBefore b limits url moment turns place (Some (traffic_of b old)) (Some (traffic_of b new)) replies → end_by b new.up ≡ Going
waits_refused b limits url moment turns place old new replies none w =
    let s = w.stays.stays in
    let octets : List ℕ = opening_octets limits url moment ++ s.stays.sent in
    let up_is : new.up ≡ octets = s.stays.carried.written ∙ ap (λ (o : List ℕ). o ++ octets) none in
    let r = s.talks.talking.served.serving.together.server_reads in
    ap (end_by b) up_is ∙ end_is b octets r.frames [] Going r.run
