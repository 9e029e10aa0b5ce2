-- What a server was told, and what a client has, at any point of a conversation.
use Rattle.std.proofs.Common.{◌≡◌, ◌⊎◌, inl, inr, ℕ, ◌<◌, ◌≤◌, ◌^◌, IsTrue, List, [], ◌∷◌, ◌++◌, Option}
use Rattle.std.proofs.Common.{length, sym, ◌∙◌, ap, subst, arith, append_assoc, append-nil, length-append}
use Rattle.ua_builtin.specs.DateTime.{date_time}
use Rattle.ua_builtin.specs.declared.date_time.DateTime.{DateTime}
use Rattle.ua_frame.specs.After.{AllAfter, each_from}
use Rattle.ua_frame.specs.Agreement.{ack_to, url_length}
use Rattle.ua_frame.specs.Frames.{frame_octets, frames_octets}
use Rattle.ua_frame.specs.Messages.{ack, ack_frame, hello}
use Rattle.ua_frame.specs.Run.{Going, Rules, Run, events}
use Rattle.ua_frame.specs.declared.frame.Frame.{Frame}
use Rattle.ua_frame.specs.declared.limits.Limits.{Limits}
use Rattle.ua_frame.proofs.Readings.{reading}
use Rattle.ua_frame.proofs.Streams.{events-push}
use Rattle.ua_frame.proofs.Unique.{unique}
use Rattle.ua_channel.specs.Agreement.{agreement_of}
use Rattle.ua_channel.specs.Asks.{Placed}
use Rattle.ua_channel.specs.Client.{ClientEnded, ClientGoes, client_limits, client_rules_of}
use Rattle.ua_channel.specs.ClientSends.{first_open, hello_frame, hello_to}
use Rattle.ua_channel.specs.ClientTable.{client_rules}
use Rattle.ua_channel.specs.ClientTold.{ClientTold, ClientTold as heard, Why}
use Rattle.ua_channel.specs.ServerRules.{server_rules}
use Rattle.ua_channel.specs.ServerSends.{opened_frame}
use Rattle.ua_channel.specs.ServerStands.{ClosedAt, Goes, RefusedAt, channel_of, limits_of, rules_of}
use Rattle.ua_channel.specs.ServerTold.{Told, Agreed, Opened}
use Rattle.ua_channel.specs.declared.client.channel.ClientChannel.{ClientChannel}
use Rattle.ua_channel.specs.declared.server.ServerChannel.{ServerChannel}
use Rattle.ua_channel_laws.specs.AskedEarlier.{AreEarlier}
use Rattle.ua_channel_laws.specs.ClientReads.{AtClient, ClientReads, IsAnswered, opened_at}
use Rattle.ua_channel_laws.specs.Outgoing.{Outgoing}
use Rattle.ua_channel_laws.specs.Rounds.{AreConnected, AreRounds, BothEnds, Round, round_behind, round_up, rounds_asks}
use Rattle.ua_channel_laws.specs.Rounds.{rounds_behind, rounds_down, rounds_heard, rounds_told, rounds_up}
use Rattle.ua_channel_laws.specs.ServerReads.{AtServer, ServerReads, greeted_at, with_token}
use Rattle.ua_channel_laws.proofs.Following.{client_begins, client_not_failed, server_begins, server_not_closed, server_not_refused}
use Rattle.ua_channel_laws.proofs.ReadOn.{begins_run, events_on}
use Rattle.ua_server.specs.Said.{behind_first, first_time, output_of, said_of, state_after}
use Rattle.ua_server.specs.State.{State}
use Rattle.ua_server.specs.Stepping.{ServerStands}
use Rattle.ua_server.proofs.SaidInParts.{said-append}
use Rattle.ua_headline.specs.Talk.{AreRoundsAccepted, AreFirstOf, CanOpen, Ends, GotOf, IsPrefix, TookOf, asks_in}
use Rattle.ua_headline.specs.Talk.{both_opened, heard_in, opening_answer_of_ends, rounds_in, sent_in, state_from, told_by_turns}
use Rattle.ua_headline.proofs.Answered.{dated_behind, dated_first}
use Rattle.ua_headline.proofs.Fronts.{accepted_first, behind_both, prefix_of_prefix, sent_first}
use Rattle.ua_channel_laws.proofs.Further.{behind, run_further}
use Rattle.ua_headline.proofs.Lasts.{opening_tells, turn_tells}
use Rattle.ua_channel_laws.proofs.Lists.{meets, split_last}
use Rattle.ua_headline.proofs.Tells.{EndTelling, TellsLast}
use Rattle.ua_channel_laws.proofs.Sized.{all_sized, front_sized}
use Rattle.ua_headline.proofs.Turning.{AreSaid, are_rounds, are_said, between_first, is_said_first}
use Rattle.ua_channel_laws.proofs.Groups.{sendable}

-- ---- the laws that this stands on

-- both ends are connected behind the opening
abbrev pub EndsConnect : Type 0
EndsConnect = (server client : Limits) (url : Option (List ℕ)) (channel lifetime : ℕ) (asked answered : DateTime) →
    IsTrue (hello.encodable (hello_to client url)) → url_length url ≤ 4095 → IsTrue (ack.encodable (ack_to (hello_to client url) server)) →
    IsTrue (date_time.encodable asked) → IsAnswered channel 1 1 0 1 lifetime answered →
    AreConnected server client url channel (frame_octets (hello_frame (hello_to client url)) ++ frame_octets (first_open asked))
    (Agreed (agreement_of server (hello_to client url)) ∷ (Opened 1 0 1 3600000 ∷ []))
    [] (frame_octets (ack_frame (ack_to (hello_to client url) server)) ++ frame_octets (opened_frame channel 1 1 0 1 lifetime answered))
    (heard.Agreed (ack_to (hello_to client url) server) ∷ (heard.Opened channel 1 ∷ []))
    (record { server = with_token (greeted_at (hello_to client url)); client = opened_at (ack_to (hello_to client url) server) channel 1 2; id = 2 })

-- they are so behind rounds
abbrev pub RoundsReach : Type 0
RoundsReach = (server client : Limits) (url : Option (List ℕ)) (channel : ℕ) (up : List ℕ) (told : List Told) (asks : List Placed) (down : List ℕ)
    (heard : List ClientTold) (at : BothEnds) (rounds : List Round) →
    channel < 2 ^ 32 → AreConnected server client url channel up told asks down heard at → AreRounds server channel at rounds →
    AreConnected server client url channel (up ++ rounds_up server channel at rounds) (told ++ rounds_told server channel at rounds)
    (asks ++ rounds_asks server channel (length down) at rounds)
    (down ++ rounds_down server channel at rounds) (heard ++ rounds_heard server channel at rounds) (rounds_behind server channel at rounds)

-- a client reads the same where it asked earlier
abbrev pub AsksEarlier : Type 0
AsksEarlier = (limits : Limits) (earlier asks : List Placed) (octets : List ℕ) (told : List ClientTold) (at : AtClient) → AreEarlier earlier asks
    → ClientReads limits asks octets told at → ClientReads limits earlier octets told at

-- at the last octet of turns the server is told something
module _ (reach : RoundsReach) (e : Ends) (on : e.channel < 2 ^ 32) where
  abbrev own : Rules Told ℕ
  own = server_rules e.server e.channel

  rounds_tell : (up : List ℕ) (told : List Told) (asks : List Placed) (down : List ℕ) (hears : List ClientTold) (at : BothEnds) (rounds : List Round)
      → AreConnected e.server e.client e.url e.channel up told asks down hears at
      → AreRounds e.server e.channel at rounds → TellsLast (server_rules e.server e.channel) up
      → TellsLast (server_rules e.server e.channel) (up ++ rounds_up e.server e.channel at rounds)
  rounds_tell up told asks down hears at [] k are last = subst (TellsLast own) (sym (append-nil up)) last
  rounds_tell up told asks down hears at (r ∷ rounds) k are last =
      let now : BothEnds = round_behind e.server e.channel at r in
      let out : List ℕ = round_up at r in
      let one : TellsLast own (up ++ out) =
      turn_tells e.server e.client e.url e.channel on up told at.server at.client at.id r.outgoing k.server_reads k.in_step k.client_reads.newest_is
      (sendable at.client at.id r.outgoing are.0.writable are.0.accepted) are.0.few last in
      let then = reach e.server e.client e.url e.channel up told asks down hears at (r ∷ []) on k (are.0, tt) in
      subst (TellsLast own)
      (ap (λ (o : List ℕ). (up ++ o) ++ rounds_up e.server e.channel now rounds) (append-nil out)
      ∙ append_assoc up out (rounds_up e.server e.channel now rounds))
      (rounds_tell (up ++ (out ++ [])) _ _ _ _ now rounds then are.1 (subst (λ (o : List ℕ). TellsLast own (up ++ o)) (sym (append-nil out)) one))

-- ---- whole turns

module _ (connect : EndsConnect) (reach : RoundsReach) (e : Ends) (turns : List (List Outgoing)) (can : CanOpen e)
    (accepted : AreRoundsAccepted e (both_opened e) (rounds_in e turns)) where
  abbrev written : List ℕ
  written = opening_answer_of_ends e ++ rounds_down e.server e.channel (both_opened e) (rounds_in e turns)

  opens : IsAnswered e.channel 1 1 0 1 3600000 (first_time e.times)
  opens = record {
    channel_small = can.channel_fits;
    number_small = omega arith;
    id_small = omega arith;
    handle_small = omega arith;
    token_small = omega arith;
    lifetime_small = omega arith;
    moment_fits = dated_first e.times can.times_fit;
  }

  pub connected : AreConnected e.server e.client e.url e.channel (sent_in e turns) (told_by_turns e turns) (asks_in e turns)
      (opening_answer_of_ends e ++ rounds_down e.server e.channel (both_opened e) (rounds_in e turns)) (heard_in e turns)
      (rounds_behind e.server e.channel (both_opened e) (rounds_in e turns))
  connected =
      reach e.server e.client e.url e.channel _ _ _ _ _ (both_opened e) (rounds_in e turns) can.channel_fits
      (connect e.server e.client e.url e.channel 3600000 e.opened (first_time e.times) can.hello_fits can.url_fits can.ack_fits can.opened_fits opens)
      (are_rounds e (both_opened e) e.first (behind_first e.times) turns (between_first e) (dated_behind e.times can.times_fit) accepted)

  pub tells_last : TellsLast (server_rules e.server e.channel) (sent_in e turns)
  tells_last =
      rounds_tell reach e can.channel_fits _ _ _ _ _ (both_opened e) (rounds_in e turns)
      (connect e.server e.client e.url e.channel 3600000 e.opened (first_time e.times) can.hello_fits can.url_fits can.ack_fits can.opened_fits opens)
      (are_rounds e (both_opened e) e.first (behind_first e.times) turns (between_first e) (dated_behind e.times can.times_fit) accepted)
      (opening_tells e.server e.channel e.client e.url e.opened can.hello_fits can.url_fits can.opened_fits)

  pub said : AreSaid e (told_by_turns e turns) (state_from e.first (behind_first e.times) turns) written
  said = are_said e (both_opened e) e.first (behind_first e.times) turns _ (opening_answer_of_ends e) (between_first e) (dated_behind e.times can.times_fit)
      accepted
      (is_said_first e)

-- the first turns are accepted where all are
accepted_in : (e : Ends) (first turns : List (List Outgoing)) → AreFirstOf first turns → AreRoundsAccepted e (both_opened e) (rounds_in e turns)
    → AreRoundsAccepted e (both_opened e) (rounds_in e first)
accepted_in e first turns f h = accepted_first e (both_opened e) e.first (behind_first e.times) first turns f h

pub sent_in_first : (e : Ends) (first turns : List (List Outgoing)) → AreFirstOf first turns → IsPrefix (sent_in e first) (sent_in e turns)
sent_in_first e first turns f = behind_both _ _ _ (sent_first e (both_opened e) e.first (behind_first e.times) first turns f)

-- ---- what the server took

module _ (connect : EndsConnect) (reach : RoundsReach) (e : Ends) (turns : List (List Outgoing)) (x : ServerChannel) (took : List ℕ)
    (t : TookOf e turns x took) where
  abbrev at : AtServer
  at = (rounds_behind e.server e.channel (both_opened e) (rounds_in e turns)).server

  took_first : IsPrefix took (sent_in e turns)
  took_first = prefix_of_prefix took t.sent (sent_in e turns) t.took_is t.sent_is

  -- a server reads such octets as it does
  as_own : (octets : List ℕ) (told : List Told) (s : AtServer) → ServerReads e.server e.channel octets told s
      → ServerReads (limits_of x) (channel_of x) octets told s
  as_own octets told s r =
      subst (λ (l : Limits). ServerReads l (channel_of x) octets told s) (sym t.limits_are)
      (subst (λ (k : ℕ). ServerReads e.server k octets told s) (sym t.channel_is) r)

  reads : ServerReads (limits_of x) (channel_of x) (took ++ took_first.0) (told_by_turns e turns) at
  reads = subst (λ (o : List ℕ). ServerReads (limits_of x) (channel_of x) o (told_by_turns e turns) at) took_first.1
      (as_own (sent_in e turns) (told_by_turns e turns) at (connected connect reach e turns t.can t.accepted).server_reads)

  -- it was told a prefix of the turns
  pub told_first : (told : List Told) → Goes x took told → IsPrefix told (told_by_turns e turns)
  told_first told g = server_begins x took took_first.0 told (told_by_turns e turns) at g reads

  pub not_refused : (told : List Told) (code : ℕ) → RefusedAt x took told code → ⊥
  not_refused told code r = server_not_refused x took took_first.0 told (told_by_turns e turns) at code r reads

  pub not_closed : (told : List Told) → ClosedAt x took told → ⊥
  not_closed told c = server_not_closed x took took_first.0 told (told_by_turns e turns) at c reads

  -- the first turns, where they were sent whole
  module _ (first : List (List Outgoing)) (f : AreFirstOf first turns) where
    abbrev there : AtServer
    there = (rounds_behind e.server e.channel (both_opened e) (rounds_in e first)).server

    first_reads : ServerReads (limits_of x) (channel_of x) (sent_in e first) (told_by_turns e first) there
    first_reads = as_own (sent_in e first) (told_by_turns e first) there
        (connected connect reach e first t.can (accepted_in e first turns f t.accepted)).server_reads

    pub first_told : (told : List Told) → Goes x took told → IsPrefix (sent_in e first) took → IsPrefix (told_by_turns e first) told
    first_told told g p =
        let R : Rules Told ℕ = rules_of x in
        let s = reading (behind R first_reads.frames) p.0 in
        let run = run_further R (sent_in e first) p.0 first_reads.frames s.frames [] s.rest s.end first_reads.run s.run in
        let same = unique R took g.frames (first_reads.frames ++ s.frames) g.rest s.rest Going s.end g.stands.run
        (subst (λ (o : List ℕ). Run R o (first_reads.frames ++ s.frames) s.rest s.end) (sym p.1) run) in (
          each_from R.tells first_reads.frames s.frames,
          sym g.told_is
              ∙ (ap (events R) same.frames
              ∙ (events_on R first_reads.frames s.frames ∙ ap (λ (ts : List Told). ts ++ each_from R.tells first_reads.frames s.frames) first_reads.told_is)),
        )

    -- they are told only where they were
    too_early : (told : List Told) (g : Goes x took told) (o : ℕ) (more : List ℕ) → sent_in e first ≡ took ++ o ∷ more → IsPrefix (told_by_turns e first) told
        → ⊥
    too_early told g o more e_is p =
        let R : Rules Told ℕ = rules_of x in
        let r = first_reads in
        let later = begins_run R took (o ∷ more) g.frames r.frames g.rest Going g.stands.run (subst (λ (a : List ℕ). Run R a r.frames [] Going) e_is r.run) in
        by later.0 later.1
      where
        rules : Rules Told ℕ
        rules = rules_of x

        ends : EndTelling (rules_of x) first_reads.frames
        ends =
            subst (λ (l : Limits). TellsLast (server_rules l (channel_of x)) (sent_in e first)) (sym t.limits_are)
            (subst (λ (k : ℕ). TellsLast (server_rules e.server k) (sent_in e first)) (sym t.channel_is)
            (tells_last connect reach e first t.can (accepted_in e first turns f t.accepted)))
            first_reads.frames first_reads.run

        by : (later : List Frame) → first_reads.frames ≡ g.frames ++ later → ⊥
        by [] same =
            omega (
              arith,
              ap length e_is,
              ap length first_reads.run.whole,
              ap length g.stands.run.whole,
              ap (λ (fs : List Frame). length (frames_octets fs)) (same ∙ append-nil g.frames),
              length-append took (o ∷ more),
              length-append (frames_octets first_reads.frames) [],
              length-append (frames_octets g.frames) g.rest,
            )
        by (h ∷ hs) same =
            let middle = split_last ends.before g.frames hs ends.last h (sym ends.parts ∙ same) in
            omega (
              arith,
              ends.some,
              ap length p.1,
              length-append (told_by_turns e first) p.0,
              ap length (sym first_reads.told_is ∙ (ap (events rules) ends.parts ∙ events-push rules ends.before ends.last)),
              length-append (events rules ends.before) (rules.tells ends.before ends.last),
              ap length (ap (events rules) middle.1
                  ∙ (events_on rules g.frames middle.0 ∙ ap (λ (ts : List Told). ts ++ each_from rules.tells g.frames middle.0) g.told_is)),
              length-append told (each_from rules.tells g.frames middle.0),
            )

    pub first_whole : (told : List Told) → Goes x took told → IsPrefix (told_by_turns e first) told → IsPrefix (sent_in e first) took
    first_whole told g p =
        by (meets took (sent_in e first) took_first.0 (sent_in_first e first turns f).0 (sym took_first.1 ∙ (sent_in_first e first turns f).1))
      where
        by : (((more : List ℕ) × (sent_in e first ≡ took ++ more)) ⊎ ((more : List ℕ) × (took ≡ sent_in e first ++ more))) → IsPrefix (sent_in e first) took
        by (inr m) = m
        by (inl ([], same)) = ([], sym (append-nil took) ∙ (sym same ∙ sym (append-nil (sent_in e first))))
        by (inl (o ∷ more, same)) = absurd (too_early told g o more same p)

    -- the state that they leave
    pub first_left : (told : List Told) (now : State) → ServerStands x took told e.first e.times now → told ≡ told_by_turns e first
        → now ≡ state_from e.first (behind_first e.times) first
    first_left told now stands is =
        sym stands.state_is
        ∙ (ap (λ (k : ℕ). (state_after k e.first told e.times).state) t.channel_is
        ∙ (ap (λ (ts : List Told). (state_after e.channel e.first ts e.times).state) is
        ∙ (said connect reach e first t.can (accepted_in e first turns f t.accepted)).state))

-- ---- what the client got

module _ (connect : EndsConnect) (reach : RoundsReach) (earlier : AsksEarlier) (e : Ends) (turns : List (List Outgoing)) (x : ServerChannel) (y : ClientChannel)
    (asks : List Placed) (got : List ℕ) (c : GotOf e turns x y asks got) where
  abbrev here : AtClient
  here = (rounds_behind e.server e.channel (both_opened e) (rounds_in e turns)).client

  abbrev all : List ℕ
  all = opening_answer_of_ends e ++ rounds_down e.server e.channel (both_opened e) (rounds_in e turns)

  -- what the server says of what it was told is a prefix of what it says of the turns
  written_first : IsPrefix (output_of e.channel e.first c.told Going e.times) all
  written_first =
      let p = told_first connect reach e turns x c.took c.took_of c.told c.goes in
      let more : List ℕ = said_of e.channel (state_after e.channel e.first c.told e.times) p.0 ++ [] in (
        more,
        sym (said connect reach e turns c.took_of.can c.took_of.accepted).said
            ∙ (ap (λ (ts : List Told). output_of e.channel e.first ts Going e.times) p.1 ∙ said-append e.channel e.first c.told p.0 Going e.times),
      )

  got_first : IsPrefix got all
  got_first = prefix_of_prefix got (output_of e.channel e.first c.told Going e.times) all c.got_is written_first

  client_reads : ClientReads (client_limits y) asks (got ++ got_first.0) (heard_in e turns) here
  client_reads =
      subst (λ (l : Limits). ClientReads l asks (got ++ got_first.0) (heard_in e turns) here) (sym c.limits_are)
      (subst (λ (o : List ℕ). ClientReads e.client asks o (heard_in e turns) here) got_first.1
      (earlier e.client asks (asks_in e turns) all (heard_in e turns) here c.asks_are
      (connected connect reach e turns c.took_of.can c.took_of.accepted).client_reads))

  pub heard_first : (hears : List ClientTold) → ClientGoes y asks got hears → IsPrefix hears (heard_in e turns)
  heard_first hears k = client_begins y asks got got_first.0 hears (heard_in e turns) here k client_reads

  pub not_failed : (hears : List ClientTold) (why : Why) → ClientEnded y asks got hears why → ⊥
  not_failed hears why k = client_not_failed y asks got got_first.0 hears (heard_in e turns) here why k client_reads

  -- and nothing of a call of which the server was not told
  pub heard_just : (first : List (List Outgoing)) → AreFirstOf first turns → c.told ≡ told_by_turns e first → (hears : List ClientTold)
      → ClientGoes y asks got hears
      → IsPrefix hears (heard_in e first)
  unfolding AllAfter
  heard_just first f is hears k =
      let accepted = accepted_in e first turns f c.took_of.accepted in
      let r = (connected connect reach e first c.took_of.can accepted).client_reads in
      let R = client_rules e.client (asks_in e first) in
      let whole : opening_answer_of_ends e ++ rounds_down e.server e.channel (both_opened e) (rounds_in e first) ≡ got ++ c.got_is.0 =
      sym (said connect reach e first c.took_of.can accepted).said
      ∙ (ap (λ (ts : List Told). output_of e.channel e.first ts Going e.times) (sym is) ∙ c.got_is.1) in
      let parts : frames_octets k.frames ++ (k.rest ++ c.got_is.0) ≡ frames_octets r.frames =
      sym (append_assoc (frames_octets k.frames) k.rest c.got_is.0)
      ∙ (ap (λ (o : List ℕ). o ++ c.got_is.0) (sym k.stands.run.whole) ∙ (sym whole ∙ (r.run.whole ∙ append-nil (frames_octets r.frames)))) in
      let later = front_sized k.frames r.frames (k.rest ++ c.got_is.0) (all_sized (client_rules_of y asks) [] k.frames k.stands.run.good)
      (all_sized R [] r.frames r.run.good) parts in (
        each_from R.tells k.frames later.0,
        sym r.told_is
            ∙ (ap (events R) later.1 ∙ (events_on R k.frames later.0 ∙ ap (λ (us : List ClientTold). us ++ each_from R.tells k.frames later.0) k.told_is)),
      )
