-- That both ends are in step behind the opening of a client over a line to a server.
use Rattle.std.proofs.Common.{◌≡◌, ℕ, ◌≤◌, List, [], ◌∷◌, ◌++◌, Option, Ok, length, refl, sym, ◌∙◌, ap, subst, arith, append-nil, length-append}
use Rattle.std.proofs.lemmas.List.{nil_from_length}
use Rattle.ua_wire.specs.Format.{Extends}
use Rattle.ua_builtin.specs.declared.date_time.DateTime.{DateTime}
use Rattle.ua_frame.specs.After.{each_from}
use Rattle.ua_frame.specs.Agreement.{ack_to, url_length}
use Rattle.ua_frame.specs.Frames.{IsSized, frame_octets, frames_octets}
use Rattle.ua_frame.specs.Messages.{ack_frame}
use Rattle.ua_frame.specs.Run.{Going, Run, events}
use Rattle.ua_frame.specs.declared.frame.Frame.{Frame}
use Rattle.ua_frame.specs.declared.limits.Limits.{Limits}
use Rattle.ua_chunk.specs.Sequence.{next_number}
use Rattle.ua_opening.specs.Message.{message}
use Rattle.ua_opening.proofs.Lengths.{open_response_length}
use Rattle.ua_opening.specs.Plain.{open_response_of}
use Rattle.ua_opening.specs.SecureChannel.{open_response}
use Rattle.ua_frame.proofs.Afters.{AllAfter-nil}
use Rattle.ua_channel.specs.Asks.{Placed, asked_in, next_id}
use Rattle.ua_channel.specs.Client.{client_limits, client_rules_of, url_of}
use Rattle.ua_channel_laws.specs.ClientReads.{ClientAgrees, ClientReads, opened_at}
use Rattle.ua_channel.specs.ClientSends.{hello_to}
use Rattle.ua_channel.specs.ClientTable.{client_rules}
use Rattle.ua_channel.specs.ClientTold.{ClientTold as Heard, ClientTold as heard}
use Rattle.ua_channel.specs.Line.{Traffic, IfTrafficKnown}
use Rattle.ua_channel_laws.specs.ServerReads.{greeted_at, with_token}
use Rattle.ua_channel.specs.ServerSends.{opened_frame}
use Rattle.ua_channel.specs.ServerTold.{Told}
use Rattle.ua_channel.specs.Agreement.{agreement_of}
use Rattle.ua_channel.specs.declared.client.channel.ClientChannel.{ClientChannel}
use Rattle.ua_channel_laws.proofs.ClientReadsMessages.{reads_ack}
use Rattle.ua_channel_laws.proofs.ReadOn.{begins_run, events_on, one_octets, told_behind}
use Rattle.ua_channel.proofs.OpeningFrames.{opening_size}
use Rattle.ua_client.specs.Carried.{Carries}
use Rattle.ua_client.specs.Client.{IsReady, OpensClient, connection_of}
use Rattle.ua_client.specs.Hearing.{channel_of_connection, untaken_of}
use Rattle.ua_client.specs.Opening.{IsOpened, OpensAfter, hello_octets, open_frame_octets}
use Rattle.ua_client.specs.Renewing.{IsSettled}
use Rattle.ua_client.specs.ClientPlace.{ClientPlace, StandsAt, id_at}
use Rattle.ua_client.specs.declared.client.Client.{Client}
use Rattle.ua_client.specs.declared.connection.Connection.{Connection}
use Rattle.ua_client.proofs.Carrying.{carried-as}
use Rattle.ua_loopback.specs.Accepted.{IsAcceptedUnder, acknowledged}
use Rattle.ua_loopback.specs.Beginning.{Beginning}
use Rattle.ua_loopback.specs.Course.ClientCourse.{Begun}
use Rattle.ua_loopback.specs.Course.{opening_octets}
use Rattle.ua_loopback.specs.Says.{server_output, state_told}
use Rattle.ua_loopback.specs.Talking.{AreTalking, IsLineTo, TalksAt, opening}
use Rattle.ua_loopback.specs.inside.Talking.{CanOpenTo, StaysTalking, HasOpenedTo}
use Rattle.ua_loopback.specs.Together.{AreServing, opening_answer}
use Rattle.ua_loopback.specs.Turns.{opening_told}
use Rattle.ua_channel_laws.proofs.Sized.{frames_behind}
use Rattle.ua_channel_laws.proofs.Lists.{split_last}
use Rattle.ua_loopback.proofs.Opened.{answer_read, begin_together, opening_said, state_first_two}
use Rattle.ua_loopback.proofs.Refused.{short_url}
use Rattle.ua_loopback.proofs.Talks.{fronts, line_on, talking_as}

-- that a client which opened is settled
abbrev pub SettlesOpened : Type 0
SettlesOpened = (x : ClientChannel) (octets : List ℕ) → IsOpened x octets → (s : ClientPlace) × (s.octets ≡ octets) × (s.asks ≡ []) × StandsAt x s × IsSettled s

no_asks : asked_in [] ≡ []
unfolding asked_in
no_asks = refl

-- ---- it took all that the server says of the opening

module _ (b : Beginning) (url : Option (List ℕ)) (x : ClientChannel) (octets : List ℕ) (moment : DateTime) (o : IsOpened x octets)
    (can : CanOpenTo b (client_limits x) url moment) (front : Extends octets (opening_answer b (client_limits x) url)) where
  abbrev opn : Frame
  opn = opened_frame b.channel 1 1 0 1 3600000 (b.moments 0)

  abbrev acked : List ℕ
  acked = frame_octets (ack_frame (ack_to (hello_to (client_limits x) url) b.limits))

  agrees : ClientAgrees (client_limits x) acked (heard.Agreed (ack_to (hello_to (client_limits x) url) b.limits) ∷ [])
      (ack_to (hello_to (client_limits x) url) b.limits)
  agrees = reads_ack (client_limits x) b.limits url can.ack_fits

  sized : IsSized opn
  sized = omega (
    arith,
    opening_size b.channel 1 1 ((message 449 open_response).canonical (open_response_of (b.moments 0) 0 b.channel 1 3600000)),
    open_response_length (b.moments 0) 0 b.channel 1 3600000,
  )

  read : ClientReads (client_limits x) [] (opening_answer b (client_limits x) url)
      (heard.Agreed (ack_to (hello_to (client_limits x) url) b.limits) ∷ (heard.Opened b.channel 1 ∷ []))
      (opened_at (ack_to (hello_to (client_limits x) url) b.limits) b.channel 1 (next_number 1))
  read = answer_read b (client_limits x) url can.ack_fits can.on (can.answered 0)

  frames_are : read.frames ≡ agrees.frames ++ opn ∷ []
  frames_are =
      frames_behind (client_rules (client_limits x) []) acked agrees.frames read.frames (opn ∷ []) agrees.run
      (subst (λ (t : List ℕ). Run (client_rules (client_limits x) []) (acked ++ t) read.frames [] Going) (sym (one_octets opn)) read.run) (sized, tt)

  abbrev here : List Frame
  here = o.tells.frames ++ o.tells.frame ∷ []

  here_told : events (client_rules_of x []) here ≡ heard.Agreed o.ack ∷ (heard.Opened o.channel o.token ∷ [])
  here_told = told_behind (client_rules_of x []) o.tells.frames o.tells.frame (heard.Agreed o.ack ∷ []) (heard.Opened o.channel o.token) o.tells.told_is
      o.tells.tells

  -- the frames of the ACK tell less
  not_within : (more : List Frame) → agrees.frames ≡ here ++ more → ⊥
  not_within more e =
      let all = sym agrees.told_is
      ∙ (ap (events (client_rules_of x [])) e
      ∙ (events_on (client_rules_of x []) here more ∙ ap (λ (ts : List Heard). ts ++ each_from (client_rules_of x []).tells here more) here_told)) in
      omega (arith, ap length all)

  took_by : (later : List Frame) → read.frames ≡ here ++ later → octets ≡ opening_answer b (client_limits x) url
  took_by [] e =
      let whole = ap length read.run.whole in
      let part = ap length o.tells.stands.run.whole in
      let more = ap length front.parts in
      let same = ap (λ (fs : List Frame). length (frames_octets fs)) (e ∙ append-nil here) in
      sym (front.parts
      ∙ (ap (λ (t : List ℕ). octets ++ t)
      (nil_from_length front.more
      (omega (
        arith,
        whole,
        part,
        more,
        same,
        length-append (frames_octets read.frames) [],
        length-append (frames_octets here) [],
        length-append octets front.more,
      )))
      ∙ append-nil octets))
  took_by (f ∷ later) e =
      let middle = split_last agrees.frames here later opn f (sym frames_are ∙ e) in
      absurd (not_within middle.0 middle.1)

  pub opening_taken : octets ≡ opening_answer b (client_limits x) url
  opening_taken =
      let later = begins_run (client_rules_of x []) octets front.more here read.frames [] Going o.tells.stands.run
      (subst (λ (t : List ℕ). Run (client_rules_of x []) t read.frames [] Going) front.parts read.run) in
      took_by later.0 later.1

-- ---- both are in step

module _ (b : Beginning) (limits : Limits) (url : Option (List ℕ)) (moment : DateTime) (first after : Option Traffic) (client : Client) (law : SettlesOpened)
    (o : OpensClient limits url moment first after (Ok client)) (able : CanOpenTo b limits url moment) (line : IsLineTo b [] [] first) where
  abbrev l : Limits
  l = client_limits (channel_of_connection o.last)

  at : OpensAfter (hello_octets (client_limits (channel_of_connection o.begun)) (url_of (channel_of_connection o.begun))) (open_frame_octets moment)
      (channel_of_connection o.last) o.opens.sent
      o.opens.moves.taken (Ok client)
  at = o.opens.answers o.fresh.goes

  -- where it stands
  pub settled_there : (s : ClientPlace) × (s.octets ≡ o.opens.moves.taken) × (s.asks ≡ []) × StandsAt (channel_of_connection o.last) s × IsSettled s
  settled_there = law (channel_of_connection o.last) o.opens.moves.taken at.1

  opens_there : IsOpened (channel_of_connection o.last) settled_there.0.octets
  opens_there = subst (IsOpened (channel_of_connection o.last)) (sym settled_there.1) at.1

  limits_are : l ≡ limits
  limits_are = sym o.opens.keeps.same.limits ∙ o.fresh.limits_are

  can : CanOpenTo b l url moment
  can = subst (λ (m : Limits). CanOpenTo b m url moment) (sym limits_are) able

  sent_is : o.opens.sent ≡ opening_octets limits url moment
  sent_is =
      at.0
      ∙ ap (λ (t : List ℕ). t ++ open_frame_octets moment)
      (ap (λ (m : Limits). hello_octets m (url_of (channel_of_connection o.begun))) o.fresh.limits_are
      ∙ ap (λ (u : Option (List ℕ)). hello_octets limits u) o.fresh.url_is)

  got_is : o.opens.moves.got ≡ settled_there.0.octets ++ untaken_of o.last
  got_is = ap (λ (t : List ℕ). t ++ o.opens.moves.got) (sym o.fresh.untaken)
      ∙ (o.opens.moves.parts ∙ ap (λ (t : List ℕ). t ++ untaken_of o.last) (sym settled_there.1))

  carried_so : (sent : List ℕ) → o.opens.sent ≡ sent → IfTrafficKnown (Carries o.opens.moves.got sent) first after
  carried_so sent is = carried-as o.opens.moves.got o.opens.sent o.opens.moves.got sent first after refl is o.opens.moves.carried

  sent_by : o.opens.sent ≡ opening_octets l url moment
  sent_by = sent_is ∙ ap (λ (m : Limits). opening_octets m url moment) (sym limits_are)

  line_then : IsLineTo b (opening_octets l url moment) o.opens.moves.got after
  line_then = line_on b [] [] (opening_octets l url moment) o.opens.moves.got first after line (carried_so (opening_octets l url moment) sent_by)

  front_is : Extends settled_there.0.octets (server_output b (opening_octets l url moment))
  front_is = fronts b after (opening_octets l url moment) o.opens.moves.got settled_there.0.octets (untaken_of o.last) line_then got_is

  short : url_length url ≤ 4095
  short = short_url b l url moment (channel_of_connection o.last) settled_there.0.octets can.hello_fits can.url_fits opens_there front_is

  said_is : server_output b (opening_octets l url moment) ≡ opening_answer b l url
  said_is = opening_said b l url moment can.hello_fits short can.dated

  octets_are : settled_there.0.octets ≡ server_output b (opening_octets l url moment)
  octets_are = opening_taken b url (channel_of_connection o.last) settled_there.0.octets moment opens_there can
      (subst (Extends settled_there.0.octets) said_is front_is)
      ∙ sym said_is

  serves : AreServing b url (opening_octets l url moment) (opening_told b.limits l url) (with_token (greeted_at (hello_to l url)))
      (channel_of_connection o.last) settled_there.0 (opened_at (ack_to (hello_to l url) b.limits) b.channel 1 (next_number 1))
  serves = begin_together b url moment (channel_of_connection o.last) settled_there.0 can.hello_fits short can.dated can.ack_fits can.on can.answered
      settled_there.3
      settled_there.2 octets_are (o.opens.keeps.next ∙ o.fresh.next_is)

  first_id : id_at settled_there.0 ≡ 2
  first_id = ap (λ (p : List Placed). next_id (asked_in p)) settled_there.2 ∙ ap next_id no_asks

  talks_by : AreTalking b l url (opening_octets l url moment) (opening_told b.limits l url) 1 2 1 settled_there.0 o.last after
  talks_by = record {
    got = o.opens.moves.got;
    line = line_then;
    got_is = got_is;
    served = record {
      limits_are = refl;
      on = can.on;
      settled = settled_there.4;
      at_server = with_token (greeted_at (hello_to l url));
      at_client = opened_at (ack_to (hello_to l url) b.limits) b.channel 1 (next_number 1);
      serving = serves;
      tokens_are = refl;
      newest_is = refl;
      id_is = first_id;
      few = omega arith;
      held_is = refl;
    };
  }

  opened_talks : (octets : List ℕ) → opening_octets limits url moment ≡ octets
      → TalksAt (record { server = b; limits = limits; url = url; turns = []; octets = octets }) settled_there.0 o.last after
  opened_talks octets is = record {
    url_is = sym o.opens.keeps.same.url ∙ o.fresh.url_is;
    dated = able.answered;
    accepted = AllAfter-nil (IsAcceptedUnder (acknowledged b.limits limits url));
    number_is = sym settled_there.3.number_is ∙ (o.opens.keeps.next ∙ o.fresh.next_is);
    state_is = ap (λ (ts : List Told). state_told b ts) (append-nil (opening_told b.limits limits url))
        ∙ state_first_two b (agreement_of b.limits (hello_to limits url));
    talking =
        talking_as b limits url (opening_octets limits url moment) octets (opening_told b.limits limits url) (opening_told b.limits limits url ++ []) 1 1 2 2 1
        1 settled_there.0 o.last after
        is (sym (append-nil (opening_told b.limits limits url))) refl refl refl
        (subst (λ (m : Limits). AreTalking b m url (opening_octets m url moment) (opening_told b.limits m url) 1 2 1 settled_there.0 o.last after) limits_are
        talks_by);
  }

  pub went_first : HasOpenedTo b limits url moment (connection_of client) first after
  went_first = record {
    channel = channel_of_connection o.last;
    opened = settled_there.0;
    opens = opens_there;
    opened_at = settled_there.3;
    stays = subst (λ (c : Connection). StaysTalking b limits url moment settled_there.0 [] c first after []) (sym o.over.0) (record {
      stays = record {
        site = settled_there.0;
        at = settled_there.3;
        sent = [];
        course = Begun;
        got = o.opens.moves.got;
        carried = carried_so (opening_octets limits url moment ++ []) (sent_is ∙ sym (append-nil (opening_octets limits url moment)));
        got_is = got_is;
      };
      sent_is = refl;
      replied = refl;
      talks = opened_talks (opening_octets limits url moment ++ []) (sym (append-nil (opening_octets limits url moment)));
    });
  }

  -- the talk as it begins
  pub opened_talk : TalksAt (opening b limits url moment) settled_there.0 (connection_of client) after
  opened_talk = subst (λ (c : Connection). TalksAt (opening b limits url moment) settled_there.0 c after) (sym o.over.0)
      (opened_talks (opening_octets limits url moment) refl)

  pub opened_ready : IsReady client
  opened_ready = o.over.1
