-- That what a client of `ua_client` did so far over an honest link are turns, the last of them maybe in part.
use Rattle.std.proofs.Common.{◌≡◌, ℕ, ◌<◌, ◌^◌, List, [], ◌∷◌, ◌++◌, Option, Some, None, length, map}
use Rattle.std.proofs.Common.{refl, sym, ◌∙◌, ap, subst, arith, append_assoc, append-nil, length-append}
use Rattle.ua_builtin.specs.declared.date_time.DateTime.{DateTime}
use Rattle.ua_frame.specs.Agreement.{ack_to}
use Rattle.ua_frame.specs.Frames.{frame_octets}
use Rattle.ua_frame.specs.Run.{Going, Rules}
use Rattle.ua_frame.specs.declared.limits.Limits.{Limits}
use Rattle.ua_channel.specs.Asks.{Placed}
use Rattle.ua_channel.specs.Client.{client_limits}
use Rattle.ua_channel.specs.ClientSends.{first_open, hello_frame, hello_to}
use Rattle.ua_channel.specs.ClientTable.{client_rules}
use Rattle.ua_channel.specs.ClientTold.{ClientTold, ClientTold as heard, Why}
use Rattle.ua_channel.specs.ServerStands.{Goes, channel_of, limits_of}
use Rattle.ua_channel.specs.ServerTold.{Told}
use Rattle.ua_channel.specs.declared.client.channel.ClientChannel.{ClientChannel}
use Rattle.ua_channel.specs.declared.server.ServerChannel.{ServerChannel}
use Rattle.ua_channel_laws.specs.AskedEarlier.{AreEarlier}
use Rattle.ua_channel_laws.specs.Answers.{answers_told}
use Rattle.ua_channel_laws.specs.ClientReads.{IsAnswered}
use Rattle.ua_channel_laws.specs.Outgoing.{Outgoing, asks_at}
use Rattle.ua_channel_laws.specs.Rounds.{BothEnds, round_behind, round_down, round_up, rounds_asks, rounds_up, answers_lane, rounds_heard}
use Rattle.ua_server.specs.Said.{behind_first, first_time, output_of}
use Rattle.ua_server.specs.State.{State}
use Rattle.ua_client.specs.ClientPlace.{ClientPlace}
use Rattle.ua_headline.specs.Clients.{Deed, Did, DidSoFar, IsAnsweredAt, IsLinked, IsDoing, deed_octets, turn_of, turns_of}
use Rattle.ua_headline.specs.Clients.Deed.{Calls, Renews}
use Rattle.ua_headline.specs.Talk.{AreRoundsAccepted, CanOpen, Ends, GotOf, IsPrefix, TookOf, asks_in, both_opened}
use Rattle.ua_headline.specs.Talk.{left_by, opening_answer_of_ends, rounds_from, rounds_in, answers_to, heard_in}
use Rattle.ua_headline.proofs.Answered.{dated_behind, dated_first}
use Rattle.ua_headline.proofs.Fronts.{behind_both, prefix_of_prefix}
use Rattle.ua_headline.proofs.Heards.{opened_tells}
use Rattle.ua_headline.proofs.Settling.{IsSettledAt, deed_accepted, deed_asked, deed_sent, deed_settles, here_now, told_are}
use Rattle.ua_headline.proofs.Steps.{AreHere, got_beside}
use Rattle.ua_headline.proofs.Talking.{EndsConnect}
use Rattle.ua_headline.proofs.Tells.{ComesLast, took_just}
use Rattle.ua_headline.proofs.Turning.{between_first, is_said_first, told_first, turn}

-- ---- what a client took

took_more : (limits : Limits) (m t : ClientPlace) (d : Deed) → IsAnsweredAt limits m t d → IsPrefix m.octets t.octets
took_more limits m t (Calls requests) r = (r.taken, r.answered.octets)
took_more limits m t (Renews time) r = (r.taken, r.renewed.octets)

did_more : (limits : Limits) (m : ClientPlace) (deeds : List Deed) (t : ClientPlace) (sent : List ℕ) → Did limits m deeds t sent → IsPrefix m.octets t.octets
did_more limits m [] t sent d = ([], ap (λ (p : ClientPlace). p.octets) d.0 ∙ sym (append-nil m.octets))
did_more limits m (d ∷ deeds) t sent (a, (next, more, answered, is, rest)) = prefix_of_prefix m.octets next.octets t.octets (took_more limits m next d answered)
    (did_more limits next deeds t more rest)

-- ---- all that it did

-- from where both are, this was accepted, sent and asked
pub record AreTurns (e : Ends) (at : BothEnds) (s : State) (times : List DateTime) (asks : List Placed) (down : List ℕ) (hs : List ClientTold)
    (deeds : List Deed) (t : ClientPlace) (turns : List (List Outgoing)) (asked : List Placed) (sent : List ℕ) : Type 0 where
  pub accepted : AreRoundsAccepted e at (rounds_from e at s times turns)
  pub sent_is : IsPrefix sent (rounds_up e.server e.channel at (rounds_from e at s times turns))
  pub asks_are : asked ≡ asks ++ rounds_asks e.server e.channel (length down) at (rounds_from e at s times turns)
  -- and behind what was answered of it the client was told just the answers
  pub heard_are : t.told ≡ hs ++ rounds_heard e.server e.channel at (rounds_from e at s times (map turn_of deeds))

module _ (e : Ends) (on : e.channel < 2 ^ 32) (x : ServerChannel) (limits_are : limits_of x ≡ e.server) (channel_is : channel_of x ≡ e.channel) (took : List ℕ)
    (told : List Told) (g : Goes x took told)
    (all got : List ℕ) (took_is : IsPrefix took all) (got_is : IsPrefix got (output_of e.channel e.first told Going e.times)) where
  no_turn : (at : BothEnds) (s : State) (times : List DateTime) (asks : List Placed) (down : List ℕ) (hs : List ClientTold) (t : ClientPlace)
      (asked : List Placed) (done part : List ℕ) → asked ≡ asks → done ≡ [] → part ≡ [] → t.told ≡ hs
      → AreTurns e at s times asks down hs [] t [] asked (done ++ part)
  no_turn at s times asks down hs t asked done part is none nothing told_is = record {
    accepted = tt;
    sent_is = ([], sym (append-nil (done ++ part) ∙ (ap (λ (o : List ℕ). o ++ part) none ∙ nothing)));
    asks_are = is ∙ sym (append-nil asks);
    heard_are = told_is ∙ sym (append-nil hs);
  }

  so_far : (deeds : List Deed) (now : Option Deed) (at : BothEnds) (s : State) (times : List DateTime) (up : List ℕ) (ts : List Told) (asks : List Placed)
      (down : List ℕ) (hs : List ClientTold) → AreHere e at s times up ts asks down hs
      → (m : ClientPlace) → IsSettledAt e at asks down m → (t : ClientPlace) (done part : List ℕ) (asked : List Placed) → Did e.client m deeds t done
      → IsDoing t now asked part → IsPrefix t.octets got → IsPrefix (up ++ done) all
      → AreTurns e at s times asks down hs deeds t (turns_of deeds now) asked (done ++ part)
  so_far [] None at s times up ts asks down hs h m here t done part asked did doing w u =
      no_turn at s times asks down hs t asked done part (doing.0 ∙ (ap (λ (p : ClientPlace). p.asks) did.0 ∙ here.asks_are)) did.1 doing.1
      (ap (λ (p : ClientPlace). p.told) did.0 ∙ told_are e on at s times up ts asks down hs h m here)
  so_far [] (Some d) at s times up ts asks down hs h m here t done part asked did doing w u =
      let there : IsDoing m (Some d) asked part = subst (λ (p : ClientPlace). IsDoing p (Some d) asked part) did.0 doing in
      let out : List ℕ = round_up at (turn e at s times (turn_of d)) in
      record {
        accepted = (deed_accepted e on at s times up ts asks down hs h m here d there.0, tt);
        sent_is = (
          there.2.0,
          append-nil out
              ∙ (sym (deed_sent e on at s times up ts asks down hs h m here d) ∙ (there.2.1 ∙ ap (λ (o : List ℕ). (o ++ part) ++ there.2.0) (sym did.1))),
        );
        asks_are =
            there.1
            ∙ (deed_asked e on at s times up ts asks down hs h m here d
            ∙ ap (λ (p : List Placed). asks ++ p) (sym (append-nil (asks_at (length down) at.id (turn_of d)))));
        heard_are = ap (λ (p : ClientPlace). p.told) did.0 ∙ (told_are e on at s times up ts asks down hs h m here ∙ sym (append-nil hs));
      }
  so_far (d ∷ deeds) now at s times up ts asks down hs h m here t done part asked (a, (next, more, answered, is, rest)) doing w u =
      let r = turn e at s times (turn_of d) in
      let then : BothEnds = round_behind e.server e.channel at r in
      let left : State × List DateTime = left_by s times (turn_of d) in
      let out : List ℕ = round_up at r in
      let back : List ℕ = round_down e.server e.channel at r in
      let mine : List Placed = asks_at (length down) at.id (turn_of d) in
      let hear = here_now e on at s times up ts asks down hs h m here d a in
      let sent_here : deed_octets m d ≡ out = deed_sent e on at s times up ts asks down hs h m here d in
      let whole : up ++ done ≡ (up ++ out) ++ more = ap (λ (o : List ℕ). up ++ o) (is ∙ ap (λ (o : List ℕ). o ++ more) sent_here)
      ∙ sym (append_assoc up out more) in
      let up_then : IsPrefix ((up ++ out) ++ more) all = (u.0, u.1 ∙ ap (λ (o : List ℕ). o ++ u.0) whole) in
      let up_is : IsPrefix (up ++ out) all = prefix_of_prefix (up ++ out) ((up ++ out) ++ more) all (more, refl) up_then in
      let got_then : IsPrefix next.octets (output_of e.channel e.first told Going e.times) =
      prefix_of_prefix next.octets got (output_of e.channel e.first told Going e.times)
      (prefix_of_prefix next.octets t.octets got (did_more e.client next deeds t more rest) w) got_is in
      let beside = got_beside e x limits_are channel_is took told g all next.octets (up ++ out) (down ++ back) _ _ took_is got_then up_is
      hear.connected.server_reads hear.said.said in
      let settled = deed_settles e on at s times up ts asks down hs h m here d a next answered beside in
      let later = so_far deeds now then left.0 left.1 (up ++ out) _ (asks ++ mine) (down ++ back) _ hear next settled t more part asked rest doing w up_then in
      let rounds = rounds_from e then left.0 left.1 (turns_of deeds now) in
      let sent = behind_both out (more ++ part) (rounds_up e.server e.channel then rounds) later.sent_is in
      record {
        accepted = (deed_accepted e on at s times up ts asks down hs h m here d a, later.accepted);
        sent_is = (
          sent.0,
          sent.1 ∙ ap (λ (o : List ℕ). o ++ sent.0) (sym (append_assoc out more part)
              ∙ ap (λ (o : List ℕ). o ++ part) (ap (λ (o : List ℕ). o ++ more) (sym sent_here) ∙ sym is)),
        );
        asks_are =
            later.asks_are
            ∙ (append_assoc asks mine (rounds_asks e.server e.channel (length (down ++ back)) then rounds)
            ∙ ap (λ (n : ℕ). asks ++ (mine ++ rounds_asks e.server e.channel n then rounds)) (length-append down back));
        heard_are =
            later.heard_are
            ∙ append_assoc hs (answers_told (answers_lane e.server e.channel at (turn_of d)) (answers_to s times at.server.issued at.id (turn_of d)))
            (rounds_heard e.server e.channel then (rounds_from e then left.0 left.1 (map turn_of deeds)));
      }

-- ---- from the opening

earlier_same : (asks : List Placed) → AreEarlier asks asks
earlier_same [] = tt
earlier_same (a ∷ asks) = (omega arith, refl, earlier_same asks)

module _ (connect : EndsConnect) (e : Ends) (can : CanOpen e) (x : ServerChannel) (limits_are : limits_of x ≡ e.server) (channel_is : channel_of x ≡ e.channel)
    (took : List ℕ) (told : List Told) (g : Goes x took told)
    (deeds : List Deed) (now : Option Deed) (asks : List Placed) (got sent : List ℕ) (d : DidSoFar e deeds now asks got sent) (took_is : IsPrefix took sent)
    (got_is : IsPrefix got (output_of e.channel e.first told Going e.times)) where
  answer_fits : IsAnswered e.channel 1 1 0 1 3600000 (first_time e.times)
  answer_fits = record {
    channel_small = can.channel_fits;
    number_small = omega arith;
    id_small = omega arith;
    handle_small = omega arith;
    token_small = omega arith;
    lifetime_small = omega arith;
    moment_fits = dated_first e.times can.times_fit;
  }

  abbrev up_first : List ℕ
  up_first = frame_octets (hello_frame (hello_to e.client e.url)) ++ frame_octets (first_open e.opened)

  abbrev heard_first : List ClientTold
  heard_first = heard.Agreed (ack_to (hello_to e.client e.url) e.server) ∷ (heard.Opened e.channel 1 ∷ [])

  here_first : AreHere e (both_opened e) e.first (behind_first e.times) up_first (told_first e) [] (opening_answer_of_ends e) heard_first
  here_first = record {
    connected = connect e.server e.client e.url e.channel 3600000 e.opened (first_time e.times) can.hello_fits can.url_fits can.ack_fits can.opened_fits
        answer_fits;
    between = between_first e;
    dated = dated_behind e.times can.times_fit;
    said = is_said_first e;
    none_later = λ k past. refl;
  }

  abbrev R : Rules ClientTold Why
  R = client_rules e.client []

  opened_last : ComesLast (client_rules e.client []) d.first.octets (heard.Agreed d.opens.ack ∷ []) (heard.Opened d.opens.channel d.opens.token)
  opened_last =
      subst (λ (l : Limits). ComesLast (client_rules l []) d.first.octets (heard.Agreed d.opens.ack ∷ []) (heard.Opened d.opens.channel d.opens.token))
      d.limits_are
      (record {
        frames = d.opens.tells.frames;
        frame = d.opens.tells.frame;
        run = d.opens.tells.stands.run;
        told_is = d.opens.tells.told_is;
        tells = d.opens.tells.tells;
      })

  missing : (later : List ClientTold)
      → heard.Agreed d.opens.ack ∷ [] ≡ (heard.Agreed (ack_to (hello_to e.client e.url) e.server) ∷ (heard.Opened e.channel 1 ∷ [])) ++ later → ⊥
  missing later is = omega (arith, ap length is)

  enough : (l : ClientTold) (later : List ClientTold)
      → heard.Agreed (ack_to (hello_to e.client e.url) e.server) ∷ (heard.Opened e.channel 1 ∷ [])
      ≡ (heard.Agreed d.opens.ack ∷ [] ++ heard.Opened d.opens.channel d.opens.token ∷ []) ++ (l ∷ later) → ⊥
  enough l later is = omega (arith, ap length is)

  first_got : IsPrefix d.first.octets got
  first_got = prefix_of_prefix d.first.octets d.last.octets got (did_more e.client d.first deeds d.last d.done d.did) (d.taken, d.got_is)

  first_up : IsPrefix up_first sent
  first_up = (d.done ++ d.part, d.sent_is)

  settled_first : IsSettledAt e (both_opened e) [] (opening_answer_of_ends e) d.first
  settled_first = record {
    x = d.x;
    limits_are = d.limits_are;
    stands = d.at;
    asks_are = d.none_asked;
    octets_are =
        let r = here_first.connected.client_reads in
        took_just R (opening_answer_of_ends e) r.frames heard_first r.run r.told_is
        (opened_tells e.client e.server e.url e.channel 3600000 (first_time e.times) can.ack_fits answer_fits r.frames r.run)
        d.first.octets (heard.Agreed d.opens.ack ∷ []) (heard.Opened d.opens.channel d.opens.token) opened_last missing enough
        (got_beside e x limits_are channel_is took told g sent d.first.octets up_first (opening_answer_of_ends e) (told_first e) _ took_is
        (prefix_of_prefix d.first.octets got (output_of e.channel e.first told Going e.times) first_got got_is) first_up here_first.connected.server_reads
        here_first.said.said);
    number_is = d.number_is;
  }

  turns_are : AreTurns e (both_opened e) e.first (behind_first e.times) [] (opening_answer_of_ends e) heard_first deeds d.last (turns_of deeds now) asks
      (d.done ++ d.part)
  turns_are =
      so_far e can.channel_fits x limits_are channel_is took told g sent got took_is got_is deeds now (both_opened e) e.first (behind_first e.times) up_first
      (told_first e) [] (opening_answer_of_ends e) heard_first here_first d.first settled_first
      d.last d.done d.part asks d.did d.doing (d.taken, d.got_is) (d.part, d.sent_is ∙ sym (append_assoc up_first d.done d.part))

  -- what the server took of it is a prefix of the turns
  pub took_of_turns : TookOf e (turns_of deeds now) x took
  took_of_turns = record {
    can = can;
    accepted = turns_are.accepted;
    limits_are = limits_are;
    channel_is = channel_is;
    sent = sent;
    sent_is =
        let p = behind_both up_first (d.done ++ d.part) (rounds_up e.server e.channel (both_opened e) (rounds_in e (turns_of deeds now))) turns_are.sent_is in
        (p.0, p.1 ∙ ap (λ (o : List ℕ). o ++ p.0) (sym d.sent_is));
    took_is = took_is;
  }

  -- and what the client got is a prefix of the answers
  got_of_turns : (y : ClientChannel) → client_limits y ≡ e.client → GotOf e (turns_of deeds now) x y asks got
  got_of_turns y own = record {
    took = took;
    took_of = took_of_turns;
    told = told;
    goes = g;
    limits_are = own;
    asks_are = subst (λ (p : List Placed). AreEarlier p (asks_in e (turns_of deeds now))) (sym turns_are.asks_are)
        (earlier_same (asks_in e (turns_of deeds now)));
    got_is = got_is;
  }

  -- what the client was told behind what was answered
  told_of_turns : d.last.told ≡ heard_in e (map turn_of deeds)
  told_of_turns = turns_are.heard_are

pub linked_got : (connect : EndsConnect) (e : Ends) (deeds : List Deed) (now : Option Deed) (x : ServerChannel) (y : ClientChannel) (asks : List Placed)
    (got : List ℕ) → IsLinked e deeds now x asks got → client_limits y ≡ e.client → GotOf e (turns_of deeds now) x y asks got
linked_got connect e deeds now x y asks got l own = got_of_turns connect e l.can x l.limits_are l.channel_is l.took l.told l.goes deeds now asks got l.sent
    l.did l.took_is l.got_is y own

pub linked_told : (connect : EndsConnect) (e : Ends) (deeds : List Deed) (now : Option Deed) (x : ServerChannel) (asks : List Placed) (got : List ℕ)
    (l : IsLinked e deeds now x asks got) → l.did.last.told ≡ heard_in e (map turn_of deeds)
linked_told connect e deeds now x asks got l = told_of_turns connect e l.can x l.limits_are l.channel_is l.took l.told l.goes deeds now asks got l.sent l.did
    l.took_is l.got_is
