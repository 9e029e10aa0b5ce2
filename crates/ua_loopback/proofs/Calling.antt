-- What calls of a client over a line to a server come to, behind a talk so far.
use Rattle.std.proofs.Common.{◌≡◌, ◌⊎◌, inl, inr, ℕ, IsTrue, List, [], ◌∷◌, ◌++◌, Option, Some, None, Result, Ok, Err, ◌≤◌, map, refl, sym, subst}
use Rattle.std.specs.Prelude.{IfErr, IfOk, OnOk}
use Rattle.ua_builtin.specs.DateTime.{date_time}
use Rattle.ua_builtin.specs.declared.date_time.DateTime.{DateTime}
use Rattle.ua_frame.specs.Agreement.{url_length}
use Rattle.ua_frame.specs.declared.limits.Limits.{Limits}
use Rattle.ua_channel.specs.Line.{Traffic}
use Rattle.ua_channel_laws.specs.ServerReads.{ServerCloses}
use Rattle.ua_channel.specs.ServerTold.{Closed}
use Rattle.ua_services.specs.declared.request.Request.{Request}
use Rattle.ua_server.specs.Sound.{IsSoundState}
use Rattle.ua_server.specs.State.{State}
use Rattle.ua_client.specs.Calls.{CallsAll, CallsAllAt, all_of}
use Rattle.ua_client.specs.Client.{Closes, IsLeft, IsReady, OpensClient, OpensNothing, client_channel, connection_of}
use Rattle.ua_client.specs.Hearing.{fault_alone}
use Rattle.ua_client.specs.Kept.{CallsInto, CallsIntoAt}
use Rattle.ua_client.specs.Renewing.{Renews}
use Rattle.ua_client.specs.ClientPlace.{ClientPlace, StandsAt}
use Rattle.ua_client.specs.declared.client.Client.{Client}
use Rattle.ua_client.specs.declared.connection.Connection.{Connection}
use Rattle.ua_client.specs.declared.fault.CallsFault.{CallsFault}
use Rattle.ua_client.specs.declared.fault.ClientFault.{ClientFault}
use Rattle.ua_client.specs.declared.fault.ClientFault.TheVariants as fault
use Rattle.ua_client.specs.declared.fault.ClientFault.TheVariants.{OutOfMemory}
use Rattle.ua_client.specs.declared.reply.Reply.{Reply}
use Rattle.ua_client.proofs.Settled.{NonePending}
use Rattle.ua_server.specs.Said.{used_in}
use Rattle.ua_loopback.specs.Accepted.{IsTurnFault, tokens_held, turn_refusal_under}
use Rattle.ua_loopback.specs.Beginning.{Beginning}
use Rattle.ua_loopback.specs.Faults.{FailsBehind, IsOutside}
use Rattle.ua_loopback.specs.Replies.{HaveMisanswer, lane_back_by_token, requests_replies, turn_state}
use Rattle.ua_loopback.specs.Says.{services_after}
use Rattle.ua_loopback.specs.Talking.{IsBehindFirst, IsLineTo, IsSentOver, IsTalking, Reads, SoFar, StopsOver, acked_in, answers_in}
use Rattle.ua_loopback.specs.Talking.{closed_octets, id_in, newest_in, octets_of_turn, opening, state_in, told_so_far, with_turn}
use Rattle.ua_loopback.specs.Turns.{turn_told}
use Rattle.ua_loopback.specs.inside.Talking.{CanOpenTo}
use Rattle.ua_loopback.proofs.Begun.{SettlesOpened, opened_ready, opened_talk, settled_there}
use Rattle.ua_loopback.proofs.Faults.{calls_fail, calls_stop, close_stops, open_fails, open_stops, renewal_fails, renewal_stops, sent_over}
use Rattle.ua_loopback.proofs.OneTurn.{calls_refused, calls_replied, calls_sent, calls_talk, closes_read}
use Rattle.ua_loopback.proofs.OneTurn.{closing_is, first_talk, renewing_not, renewing_sent, renewing_talks, turn_left, turn_read, used_so_far}
use Rattle.ua_loopback.proofs.Sounds.{always_answered}
use Rattle.ua_loopback.proofs.Staying.{ToldBehind}

-- ---- it opens

module _ (limits : Limits) (url : Option (List ℕ)) (moment : DateTime) (before after : Option Traffic) (b : Beginning) (able : CanOpenTo b limits url moment)
    (line : IsLineTo b [] [] before) where
  pub opens_talk : SettlesOpened → (result : Result Client ClientFault) → (OpensNothing before after result ⊎ OpensClient limits url moment before after result)
      → IfOk result (λ client. IsTalking (opening b limits url moment) client after)
  opens_talk law (Err f) o = tt
  opens_talk law (Ok client) (inl nothing) = let none : ◌≡◌ {A = Result Client ClientFault} (Ok client) (Err OutOfMemory) = nothing.0 in absurd cc
  opens_talk law (Ok client) (inr o) = record {
    ready = opened_ready b limits url moment before after client law o able line;
    site = (settled_there b limits url moment before after client law o able line).0;
    talks = opened_talk b limits url moment before after client law o able line;
  }

  pub opens_fails : url_length url ≤ 4095 → (result : Result Client ClientFault)
      → (OpensNothing before after result ⊎ OpensClient limits url moment before after result) → IfErr result (λ f. IsOutside f)
  opens_fails short (Ok client) o = tt
  opens_fails short (Err f) o = open_fails b limits url moment before after f o able short line

  pub opens_stop : url_length url ≤ 4095 → (result : Result Client ClientFault)
      → (OpensNothing before after result ⊎ OpensClient limits url moment before after result)
      → IfErr result (λ f. StopsOver f b [] before after)
  opens_stop short (Ok client) o = tt
  opens_stop short (Err f) o = open_stops b limits url moment before after f o able short line

-- ---- calls whose replies are added

into_at : {A : Type 0} (requests : List Request) (s : ClientPlace) (new : Connection) (sent taken : List ℕ) (result : Result A CallsFault) (added : List Reply)
    → CallsIntoAt requests s new sent taken result added
    → CallsAllAt (λ (found : A). added) requests s new sent taken (fault_alone result)
into_at requests s new sent taken (Ok found) added h = h
into_at requests s new sent taken (Err f) added h = h.broken

-- are calls of the same requests
pub into_all : {A : Type 0} (requests : List Request) (x y : Connection) (before after : Option Traffic) (result : Result A CallsFault) (had have : List Reply)
    (c : CallsInto requests x y before after result had have)
    → CallsAll (λ (found : A). c.added) requests x y before after (fault_alone result)
into_all requests x y before after result had have c = record {
  sent = c.sent;
  moves = c.moves;
  same = c.same;
  answers = λ s at. into_at requests s y c.sent c.moves.taken result c.added (c.answers s at);
  stops = c.stops;
}

-- ---- behind a turn

module _ (t : SoFar) (moment : DateTime) (turn : Option (List Request)) (y : Client) (after : Option Traffic)
    (k : IsTalking (with_turn t moment turn) y after) where
  pub reads_turn : Reads t.server (with_turn t moment turn).octets (told_so_far t ++ turn_told (newest_in t) (id_in t) turn)
  reads_turn = turn_read t moment turn k.site (connection_of y) after k.talks

  pub leaves_turn : services_after t.server (with_turn t moment turn).octets ≡ turn_state (state_in t) t.server.moments (answers_in t) turn
  leaves_turn = turn_left t moment turn k.site (connection_of y) after k.talks

-- a client may be called behind a fault that is a reason against a turn
goes_on : (y : Client) (f : ClientFault) → IsTurnFault f → IsLeft {A = Unit {0}} (Err f) y → IsReady y
goes_on y fault.NotWritable is left = left
goes_on y fault.Exhausted is left = left
goes_on y fault.TooLarge is left = left
goes_on y fault.TooManyTokens is left = left
goes_on y (fault.Peer code) is left = absurd is
goes_on y (fault.Refused code) is left = absurd is
goes_on y (fault.Service code) is left = absurd is
goes_on y fault.Ended is left = absurd is
goes_on y fault.Read is left = absurd is
goes_on y fault.Write is left = absurd is
goes_on y fault.TooLong is left = absurd is
goes_on y fault.UnknownResponse is left = absurd is
goes_on y fault.OutOfMemory is left = absurd is
goes_on y fault.Closed is left = absurd is

module _ (t : SoFar) (x : Client) (before : Option Traffic) (k : IsTalking t x before) where
  -- where it stands
  pub stands_there : StandsAt (client_channel x) k.site
  stands_there = k.talks.talking.served.serving.together.stands

  -- ---- it calls

  module _ {A : Type 0} (view : A → List Reply) (requests : List Request) (y : Client) (after : Option Traffic) (law : NonePending) where
    pub asks_on : (moment : DateTime) (result : Result A ClientFault) → CallsAll view requests (connection_of x) (connection_of y) before after result
        → IsLeft result y → OnOk result (IsTalking (with_turn t moment (Some requests)) y after)
    asks_on moment (Err f) c left = tt
    asks_on moment (Ok found) c left =
        let q = c.answers k.site stands_there in
        record {
          ready = left;
          site = q.behind;
          talks = calls_talk t k.site (connection_of x) before k.talks (connection_of y) after c.sent c.moves c.same law moment requests (view found) q;
        }

    pub asks_sent : (moment : DateTime) (result : Result A ClientFault) → CallsAll view requests (connection_of x) (connection_of y) before after result
        → OnOk result (IsSentOver (octets_of_turn t moment (Some requests)) before after)
    asks_sent moment (Err f) c = tt
    asks_sent moment (Ok found) c =
        sent_over c.moves.got c.sent (octets_of_turn t moment (Some requests)) before after
        (calls_sent t k.site (connection_of x) before k.talks (connection_of y) after c.sent c.moves c.same law moment requests (view found)
        (c.answers k.site stands_there)) c.moves.carried

    pub asks_replied : (result : Result A ClientFault) → CallsAll view requests (connection_of x) (connection_of y) before after result
        → IfOk result (λ found. map (λ (r : Reply). Some r) (view found) ≡ requests_replies (lane_back_by_token t.server t.limits t.url (newest_in t))
        (state_in t) t.server.moments (answers_in t) requests)
    asks_replied (Err f) c = tt
    asks_replied (Ok found) c =
        calls_replied t k.site (connection_of x) before k.talks (connection_of y) after c.sent c.moves c.same law (t.server.moments 0) requests (view found)
        (c.answers k.site stands_there)

    pub asks_refused : (result : Result A ClientFault) → CallsAll view requests (connection_of x) (connection_of y) before after result
        → IfErr result (λ f. IsTurnFault f → turn_refusal_under (acked_in t) t.turns (Some requests) ≡ Some f)
    asks_refused (Ok found) c = tt
    asks_refused (Err f) c = λ is.
        calls_refused t k.site (connection_of x) before k.talks (connection_of y) after c.sent c.moves c.same law (t.server.moments 0) requests f is
        (c.answers k.site stands_there)

    pub asks_first : (moment : DateTime) (result : Result A ClientFault) → CallsAll view requests (connection_of x) (connection_of y) before after result
        → IsLeft result y
        → IfErr result (λ f. IsTurnFault f → IsBehindFirst t moment requests y after)
    asks_first moment (Ok found) c left = tt
    asks_first moment (Err f) c left = λ is.
        let q = c.answers k.site stands_there in
        record {
          done = all_of q.groups;
          others = q.group ++ q.others;
          parts = q.parts;
          talking = record {
            ready = goes_on y f is left;
            site = q.behind;
            talks = first_talk t k.site (connection_of x) before k.talks (connection_of y) after c.sent c.moves c.same law moment requests f is q;
          };
        }

    pub asks_fails : ToldBehind → (result : Result A ClientFault) → CallsAll view requests (connection_of x) (connection_of y) before after result
        → IfErr result (λ f. FailsBehind (HaveMisanswer (state_in t) t.server.moments (answers_in t) requests) f)
    asks_fails never_before (Ok found) c = tt
    asks_fails never_before (Err f) c =
        subst (λ (n : ℕ). FailsBehind (HaveMisanswer (state_in t) t.server.moments n requests) f) (used_so_far t)
        (subst (λ (s : State). FailsBehind (HaveMisanswer s t.server.moments (used_in (told_so_far t)) requests) f) k.talks.state_is
        (calls_fail t.server t.limits t.url t.octets (told_so_far t) (newest_in t) (id_in t) (tokens_held 1 t.turns) k.site
        (connection_of x) before k.talks.talking
        (connection_of y) after c.sent c.moves c.same law never_before
        requests f (c.answers k.site stands_there) A c.stops))

    pub asks_answered : ToldBehind → (result : Result A ClientFault) → CallsAll view requests (connection_of x) (connection_of y) before after result
        → IsSoundState t.server.first
        → IfErr result (λ f. f ≡ fault.UnknownResponse → ⊥)
    asks_answered never_before (Ok found) c sound = tt
    asks_answered never_before (Err f) c sound = λ is. always_answered t requests f sound k.talks.dated (asks_fails never_before (Err f) c) is

    pub asks_stop : ToldBehind → (result : Result A ClientFault) → CallsAll view requests (connection_of x) (connection_of y) before after result
        → IfErr result (λ f. StopsOver f t.server t.octets before after)
    asks_stop never_before (Ok found) c = tt
    asks_stop never_before (Err f) c = (
      c.sent,
      sent_over c.moves.got c.sent c.sent before after refl c.moves.carried,
      calls_stop t.server t.limits t.url t.octets (told_so_far t) (newest_in t) (id_in t) (tokens_held 1 t.turns) k.site
          (connection_of x) before k.talks.talking
          (connection_of y) after c.sent c.moves c.same law never_before
          requests f (c.answers k.site stands_there) A c.stops,
    )

  -- and adds the replies
  module _ (requests : List Request) (y : Client) (after : Option Traffic) (law : NonePending) (never_before : ToldBehind) (f : CallsFault)
      (had have : List Reply)
      (c : CallsInto {A = Unit {0}} requests (connection_of x) (connection_of y) before after (Err f) had have) where
    pub into_fails : FailsBehind (HaveMisanswer (state_in t) t.server.moments (answers_in t) requests) f.fault
    into_fails = asks_fails (λ (done : Unit {0}). c.added) requests y after law never_before (Err f.fault)
        (into_all requests (connection_of x) (connection_of y) before after (Err f) had have c)

    pub into_stops : StopsOver f.fault t.server t.octets before after
    into_stops = asks_stop (λ (done : Unit {0}). c.added) requests y after law never_before (Err f.fault)
        (into_all requests (connection_of x) (connection_of y) before after (Err f) had have c)

  -- ---- it renews its token

  module _ (y : Client) (after : Option Traffic) (moment : DateTime) where
    pub renews_on : IsTrue (date_time.encodable moment) → (result : Result (Unit {0}) ClientFault)
        → Renews moment (connection_of x) (connection_of y) before after result → IsLeft result y
        → OnOk result (IsTalking (with_turn t moment None) y after)
    renews_on dated (Err f) c left = tt
    renews_on dated (Ok done) c left = record {
      ready = left;
      site = (c.answers k.site stands_there).1.0;
      talks = renewing_talks t k.site (connection_of x) before k.talks (connection_of y) after moment dated done c stands_there;
    }

    pub renews_sent : IsTrue (date_time.encodable moment) → (result : Result (Unit {0}) ClientFault)
        → Renews moment (connection_of x) (connection_of y) before after result
        → OnOk result (IsSentOver (octets_of_turn t moment None) before after)
    renews_sent dated (Err f) c = tt
    renews_sent dated (Ok done) c =
        sent_over c.moves.got c.sent (octets_of_turn t moment None) before after
        (renewing_sent t k.site (connection_of x) before k.talks (connection_of y) after moment dated done c stands_there) c.moves.carried

    pub renews_not : (result : Result (Unit {0}) ClientFault) → Renews moment (connection_of x) (connection_of y) before after result
        → IfErr result (λ f. IsTurnFault f → turn_refusal_under (acked_in t) t.turns None ≡ Some f)
    renews_not (Ok done) c = tt
    renews_not (Err f) c = λ is. renewing_not t k.site (connection_of x) before k.talks (connection_of y) after moment f is c stands_there

    pub renews_fails : IsTrue (date_time.encodable moment) → (result : Result (Unit {0}) ClientFault)
        → Renews moment (connection_of x) (connection_of y) before after result → IfErr result (λ f. FailsBehind ⊥ f)
    renews_fails dated (Ok done) c = tt
    renews_fails dated (Err f) c =
        renewal_fails t.server t.limits t.url t.octets (told_so_far t) (newest_in t) (id_in t) (tokens_held 1 t.turns) k.site
        (connection_of x) before k.talks.talking (connection_of y) after c.sent c.moves c.same moment dated k.talks.dated
        (Unit {0}) f (c.answers k.site stands_there) (c.judged k.site stands_there) c.stops

    pub renews_stop : IsTrue (date_time.encodable moment) → (result : Result (Unit {0}) ClientFault)
        → Renews moment (connection_of x) (connection_of y) before after result
        → IfErr result (λ f. StopsOver f t.server t.octets before after)
    renews_stop dated (Ok done) c = tt
    renews_stop dated (Err f) c = (
      c.sent,
      sent_over c.moves.got c.sent c.sent before after refl c.moves.carried,
      renewal_stops t.server t.limits t.url t.octets (told_so_far t) (newest_in t) (id_in t) (tokens_held 1 t.turns) k.site
          (connection_of x) before k.talks.talking
          (connection_of y) after c.sent c.moves c.same moment dated k.talks.dated
          (Unit {0}) f (c.answers k.site stands_there) (c.judged k.site stands_there) c.stops,
    )

  -- ---- it closes

  module _ (moment : DateTime) where
    pub closes_there : ServerCloses t.server.limits t.server.channel (closed_octets t moment) (told_so_far t ++ Closed ∷ [])
    closes_there = closes_read t k.site (connection_of x) before k.talks moment

    pub closes_stop : (after : Option Traffic) (result : Result (Unit {0}) ClientFault) → Closes moment (client_channel x) before after result
        → IfErr result (λ f. StopsOver f t.server t.octets before after)
    closes_stop after (Ok done) c = tt
    closes_stop after (Err f) c = (
      c.sent,
      sent_over [] c.sent c.sent before after refl c.carried,
      close_stops t.server (Unit {0}) k.site moment t.octets c.sent (told_so_far t ++ Closed ∷ []) f
          (subst (λ (o : List ℕ). ServerCloses t.server.limits t.server.channel (t.octets ++ o) (told_so_far t ++ Closed ∷ []))
          (sym (closing_is t k.site (connection_of x) before k.talks moment)) closes_there)
          (c.answers k.site stands_there),
    )
