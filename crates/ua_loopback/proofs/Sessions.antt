-- A session that is begun over a line to a server, behind a talk so far.
use Rattle.std.proofs.Common.{◌≡◌, ◌⊎◌, inl, inr, ℕ, ◌+◌, List, [], ◌∷◌, ◌++◌, Option, Some, None}
use Rattle.std.proofs.Common.{Result, Ok, Err, length, map, refl, sym, ◌∙◌, ap, subst, arith}
use Rattle.std.specs.Prelude.{IfErr, IfOk}
use Rattle.ua_builtin.specs.declared.date_time.DateTime.{DateTime}
use Rattle.ua_builtin.specs.declared.node_id.NodeId.{NodeId}
use Rattle.ua_builtin.specs.declared.status_code.StatusCode.{StatusCode}
use Rattle.ua_channel.specs.Asks.{Placed, asked_in, next_id}
use Rattle.ua_channel.specs.Line.{Traffic}
use Rattle.ua_channel.specs.Client.{url_of}
use Rattle.ua_services.specs.declared.request.Request.{Request}
use Rattle.ua_services.specs.SessionRequests.{activate_session_as, create_session}
use Rattle.ua_server.specs.Sound.{IsSoundState}
use Rattle.ua_server.specs.State.{State}
use Rattle.ua_client.specs.Calls.{BreaksAt, Rounds, sent_at}
use Rattle.ua_client.specs.Calls.Rounds.{NoRound, OneRound}
use Rattle.ua_client.specs.Client.{IsLeft, IsReady, connection_of}
use Rattle.ua_client.specs.Hearing.{channel_of_connection}
use Rattle.ua_client.specs.Sent.{bodies_of}
use Rattle.ua_client.specs.Session.{ActivatesBehind, BeginsSessionAs, Replies, ServesAt, activating_at, brings_any, brings_token, creating_at, reply_failure}
use Rattle.ua_client.specs.ClientPlace.{ClientPlace, id_at}
use Rattle.ua_client.specs.declared.client.Client.{Client}
use Rattle.ua_client.specs.declared.connection.Connection.{Connection}
use Rattle.ua_client.specs.declared.fault.ClientFault.{ClientFault}
use Rattle.ua_client.specs.declared.fault.ClientFault.TheVariants as fault
use Rattle.ua_client.specs.declared.reply.Reply.{Reply}
use Rattle.ua_client.proofs.Askings.{next-calls}
use Rattle.ua_client.proofs.Settled.{NonePending}
use Rattle.ua_server.specs.Said.{used_in}
use Rattle.ua_loopback.specs.Accepted.{tokens_held}
use Rattle.ua_loopback.specs.Faults.{FailsBehind}
use Rattle.ua_loopback.specs.Replies.{HaveMisanswer, lane_back_by_token, requests_replies}
use Rattle.ua_loopback.specs.Says.{state_told}
use Rattle.ua_loopback.specs.Talking.{AreSession, FailsSession, IsSentOver, IsTalking, MisanswersSession}
use Rattle.ua_loopback.specs.Talking.{SoFar, id_in, newest_in, octets_of_turn, session_requests, state_in, told_so_far, with_turn}
use Rattle.ua_loopback.proofs.Faults.{sent_over}
use Rattle.ua_loopback.proofs.Faults.{fails_by, group_fails}
use Rattle.ua_loopback.proofs.OneTurn.{asked_more, asked_sent, used_so_far}
use Rattle.ua_loopback.proofs.Rounds.{Behind}
use Rattle.ua_loopback.proofs.Sounds.{session_answered}
use Rattle.ua_loopback.proofs.Staying.{ToldBehind}
use Rattle.ua_loopback.proofs.Talks.{asked_behind, rounds_octets}

module _ (t : SoFar) (x : Client) (before : Option Traffic) (k : IsTalking t x before) (y : Client) (after : Option Traffic) (law : NonePending)
    (policy_id : Option (List ℕ)) (moment : DateTime) (token : NodeId)
    (c : BeginsSessionAs policy_id moment (connection_of x) (connection_of y) before after (Ok token)) where
  abbrev url : Option (List ℕ)
  url = url_of (channel_of_connection (connection_of x))

  -- behind CreateSession
  there : ActivatesBehind url policy_id moment k.site (connection_of y) c.sent c.moves.taken (λ (given : NodeId). given ≡ token) (Ok tt)
  there = c.answers k.site k.talks.talking.served.serving.together.stands

  -- and behind ActivateSession
  activated : Replies (activating_at policy_id there.token moment there.between) there.between (channel_of_connection (connection_of y)) there.sent_then
      there.taken_then
      (λ (reply : Reply). (reply_failure reply ≡ None) × brings_any tt reply)
  activated = there.further.1

  abbrev first : Request
  first = creating_at url moment k.site

  abbrev second : Request
  second = activating_at policy_id there.token moment there.between

  rounds : Rounds (channel_of_connection (connection_of y)) k.site ((first ∷ []) ∷ ((second ∷ []) ∷ [])) activated.behind
      (sent_at k.site (first ∷ []) ++ sent_at there.between (second ∷ [])) (there.taken_before ++ there.taken_then) (there.reply ∷ (activated.reply ∷ []))
  rounds =
      OneRound (second ∷ []) (channel_of_connection (connection_of y))
      (OneRound (first ∷ []) there.channel NoRound (record { same = there.same; at = there.at; came = there.created.came }) there.created.answered)
      (record { same = record { limits = refl; url = refl }; at = activated.at; came = activated.replied.came }) activated.replied.answered

  sent_is : c.sent ≡ sent_at k.site (first ∷ []) ++ sent_at there.between (second ∷ [])
  sent_is =
      there.sent_parts
      ∙ (ap (λ (o : List ℕ). o ++ there.sent_then) there.created.sent_is ∙ ap (λ (o : List ℕ). sent_at k.site (first ∷ []) ++ o) activated.replied.sent_is)

  -- the request id of the second
  id_then : id_at there.between ≡ id_in t + 1
  id_then =
      let id_is : id_at k.site ≡ id_in t = k.talks.talking.served.id_is in
      let ids : id_at there.between ≡ id_at k.site + length (bodies_of (first ∷ [])) =
      ap (λ (p : List Placed). next_id (asked_in p)) there.created.answered.asks
      ∙ next-calls k.site.asks (length k.site.octets) (id_at k.site) (bodies_of (first ∷ [])) in
      omega (arith, ids, id_is)

  are_session : first ∷ (second ∷ []) ≡ session_requests t policy_id token moment
  are_session =
      ap (λ (u : Option (List ℕ)). create_session u moment (id_at k.site) ∷ (second ∷ [])) k.talks.url_is
      ∙ (ap (λ (n : ℕ). create_session t.url moment n ∷ (second ∷ [])) k.talks.talking.served.id_is
      ∙ (ap (λ (n : ℕ). create_session t.url moment (id_in t) ∷ (activate_session_as policy_id there.token moment n ∷ [])) id_then
      ∙ ap (λ (given : NodeId). create_session t.url moment (id_in t) ∷ (activate_session_as policy_id given moment (id_in t + 1) ∷ [])) there.further.0))

  behind_there : Behind t.server t.limits t.url t.octets (told_so_far t) (newest_in t) (id_in t) (tokens_held 1 t.turns) k.site.number c.sent
      (there.reply ∷ (activated.reply ∷ [])) (first ∷ (second ∷ [])) activated.behind
  behind_there =
      asked_behind t.server t.limits t.url t.octets (told_so_far t) (newest_in t) (id_in t) (tokens_held 1 t.turns) k.site
      (connection_of x) before k.talks.talking
      (connection_of y) after c.sent c.moves c.same law activated.behind rounds
      (omega arith, (omega arith, tt)) sent_is there.taken_parts

  pub session_sent : IsSentOver (octets_of_turn t moment (Some (session_requests t policy_id token moment))) before after
  session_sent =
      sent_over c.moves.got c.sent (octets_of_turn t moment (Some (session_requests t policy_id token moment))) before after
      (asked_sent t k.site (connection_of x) before k.talks (connection_of y) after c.sent c.moves c.same moment (first ∷ (second ∷ []))
      (there.reply ∷ (activated.reply ∷ [])) activated.behind activated.at
      (rounds_octets rounds ∙ ap (λ (o : List ℕ). k.site.octets ++ o) (sym there.taken_parts)) behind_there
      ∙ ap (λ (ms : List Request). octets_of_turn t moment (Some ms)) are_session)
      c.moves.carried

  pub session_on : IsReady y → IsTalking (with_turn t moment (Some (session_requests t policy_id token moment))) y after
  session_on ready =
      subst (λ (ms : List Request). IsTalking (with_turn t moment (Some ms)) y after) are_session (record {
        ready = ready;
        site = activated.behind;
        talks = asked_more t k.site (connection_of x) before k.talks (connection_of y) after c.sent c.moves c.same moment (first ∷ (second ∷ []))
            (there.reply ∷ (activated.reply ∷ [])) activated.behind activated.at
            (rounds_octets rounds ∙ ap (λ (o : List ℕ). k.site.octets ++ o) (sym there.taken_parts)) behind_there;
      })

-- ---- a session that is not begun

-- a service whose request is called by itself failed, or the call did
served_or_broken : (A : Type 0) (request : Request) (brings : A → Reply → Type 0) (s : ClientPlace) (new : Connection) (sent taken : List ℕ) (f : ClientFault)
    → ServesAt {A = A} request brings s new sent taken (Err f)
    → ((code : StatusCode) × (f ≡ fault.Service code) × Replies request s (channel_of_connection new) sent taken
    (λ (reply : Reply). reply_failure reply ≡ Some code))
    ⊎ BreaksAt (request ∷ []) s new sent taken f
served_or_broken A request brings s new sent taken (fault.Service code) h = inl (code, refl, h)
served_or_broken A request brings s new sent taken fault.Read h = inr h
served_or_broken A request brings s new sent taken fault.Write h = inr h
served_or_broken A request brings s new sent taken fault.Ended h = inr h
served_or_broken A request brings s new sent taken (fault.Peer code) h = inr h
served_or_broken A request brings s new sent taken (fault.Refused code) h = inr h
served_or_broken A request brings s new sent taken fault.UnknownResponse h = inr h
served_or_broken A request brings s new sent taken fault.TooLarge h = inr h
served_or_broken A request brings s new sent taken fault.NotWritable h = inr h
served_or_broken A request brings s new sent taken fault.Exhausted h = inr h
served_or_broken A request brings s new sent taken fault.Closed h = inr h
served_or_broken A request brings s new sent taken fault.OutOfMemory h = inr h
served_or_broken A request brings s new sent taken fault.TooLong h = inr h
served_or_broken A request brings s new sent taken fault.TooManyTokens h = inr h

broken_session : (t : SoFar) (policy_id : Option (List ℕ)) (moment : DateTime) (f : ClientFault) → FailsBehind (MisanswersSession t policy_id moment) f
    → FailsSession t policy_id moment f
broken_session t policy_id moment (fault.Service code) h = absurd h
broken_session t policy_id moment fault.Read h = h
broken_session t policy_id moment fault.Write h = h
broken_session t policy_id moment fault.Ended h = h
broken_session t policy_id moment (fault.Peer code) h = h
broken_session t policy_id moment (fault.Refused code) h = h
broken_session t policy_id moment fault.UnknownResponse h = h
broken_session t policy_id moment fault.TooLarge h = h
broken_session t policy_id moment fault.NotWritable h = h
broken_session t policy_id moment fault.Exhausted h = h
broken_session t policy_id moment fault.Closed h = h
broken_session t policy_id moment fault.OutOfMemory h = h
broken_session t policy_id moment fault.TooLong h = h
broken_session t policy_id moment fault.TooManyTokens h = h

module _ (t : SoFar) (x : Client) (before : Option Traffic) (k : IsTalking t x before) (y : Client) (after : Option Traffic) (law : NonePending)
    (policy_id : Option (List ℕ)) (moment : DateTime) (never_before : ToldBehind) (f : ClientFault)
    (c : BeginsSessionAs policy_id moment (connection_of x) (connection_of y) before after (Err f)) where
  abbrev address : Option (List ℕ)
  address = url_of (channel_of_connection (connection_of x))

  abbrev creating : Request
  creating = creating_at address moment k.site

  abbrev held : ℕ
  held = tokens_held 1 t.turns

  abbrev z : Connection
  z = connection_of y

  -- by the answers to requests that are those of a session
  fails_so : (requests : List Request) → AreSession t policy_id moment requests
      → FailsBehind (HaveMisanswer (state_told t.server (told_so_far t)) t.server.moments (used_in (told_so_far t)) requests) f
      → FailsSession t policy_id moment f
  fails_so requests are h =
      broken_session t policy_id moment f
      (fails_by (HaveMisanswer (state_told t.server (told_so_far t)) t.server.moments (used_in (told_so_far t)) requests) (MisanswersSession t policy_id moment)
      f
      (λ bad. (
        requests,
        are,
        subst (λ (n : ℕ). HaveMisanswer (state_in t) t.server.moments n requests) (used_so_far t)
            (subst (λ (s : State). HaveMisanswer s t.server.moments (used_in (told_so_far t)) requests) k.talks.state_is bad),
      )) h)

  -- or by the replies to them
  refused_so : (code : StatusCode) → f ≡ fault.Service code → (requests : List Request) → AreSession t policy_id moment requests
      → (first : List Reply) (last : Reply) → reply_failure last ≡ Some code
      → map (λ (r : Reply). Some r) (first ++ last ∷ []) ≡ requests_replies (lane_back_by_token t.server t.limits t.url (newest_in t))
      (state_told t.server (told_so_far t))
      t.server.moments (used_in (told_so_far t)) requests → FailsSession t policy_id moment f
  refused_so code is requests are first last failed replied =
      subst (FailsSession t policy_id moment) (sym is) (record {
        requests = requests;
        are = are;
        before = first;
        last = last;
        replied =
            replied
            ∙ (ap (λ (s : State). requests_replies (lane_back_by_token t.server t.limits t.url (newest_in t)) s t.server.moments (used_in (told_so_far t))
            requests) k.talks.state_is
            ∙ ap (λ (n : ℕ). requests_replies (lane_back_by_token t.server t.limits t.url (newest_in t)) (state_in t) t.server.moments n requests)
            (used_so_far t));
        failed = failed;
      })

  -- ---- CreateSession failed

  is_creating : creating ∷ [] ≡ create_session t.url moment (id_in t) ∷ []
  is_creating =
      ap (λ (u : Option (List ℕ)). create_session u moment (id_at k.site) ∷ []) k.talks.url_is
      ∙ ap (λ (n : ℕ). create_session t.url moment n ∷ []) k.talks.talking.served.id_is

  first_fails : ServesAt {A = NodeId} creating brings_token k.site z c.sent c.moves.taken (Err f) → FailsSession t policy_id moment f
  first_fails h = by (served_or_broken NodeId creating brings_token k.site z c.sent c.moves.taken f h)
    where
      by : (((code : StatusCode) × (f ≡ fault.Service code) × Replies creating k.site (channel_of_connection z) c.sent c.moves.taken
          (λ (reply : Reply). reply_failure reply ≡ Some code)) ⊎ BreaksAt (creating ∷ []) k.site z c.sent c.moves.taken f)
          → FailsSession t policy_id moment f
      by (inl (code, is, r)) =
          let one : Rounds (channel_of_connection z) k.site ((creating ∷ []) ∷ []) r.behind (sent_at k.site (creating ∷ [])) c.moves.taken (r.reply ∷ []) =
          OneRound (creating ∷ []) (channel_of_connection z) NoRound (record { same = record { limits = refl; url = refl }; at = r.at; came = r.replied.came })
          r.replied.answered in
          let there = asked_behind t.server t.limits t.url t.octets (told_so_far t) (newest_in t) (id_in t) held k.site (connection_of x) before k.talks.talking
          z
          after c.sent c.moves c.same law r.behind one
          (omega arith, tt) r.replied.sent_is refl in
          refused_so code is (creating ∷ []) (inl is_creating) [] r.reply r.says there.replies_are
      by (inr breaks) =
          fails_so (creating ∷ []) (inl is_creating)
          (group_fails t.server t.limits t.url t.octets (told_so_far t) (newest_in t) (id_in t) held k.site (connection_of x) before k.talks.talking z after
          c.sent
          c.moves c.same law never_before
          [] (creating ∷ []) k.site [] c.sent [] c.moves.taken [] NoRound (omega arith, tt) refl refl NodeId f breaks c.stops)

  -- ---- or ActivateSession behind it

  module _ (w : ActivatesBehind address policy_id moment k.site z c.sent c.moves.taken (λ (given : NodeId). Unit {0}) (Err f)) where
    abbrev activating : Request
    activating = activating_at policy_id w.token moment w.between

    one : Rounds (channel_of_connection z) k.site ((creating ∷ []) ∷ []) w.between (sent_at k.site (creating ∷ [])) w.taken_before (w.reply ∷ [])
    one = OneRound (creating ∷ []) w.channel NoRound (record { same = w.same; at = w.at; came = w.created.came }) w.created.answered

    parts_sent : c.sent ≡ sent_at k.site (creating ∷ []) ++ w.sent_then
    parts_sent = w.sent_parts ∙ ap (λ (o : List ℕ). o ++ w.sent_then) w.created.sent_is

    id_later : id_at w.between ≡ id_in t + 1
    id_later =
        let id_is : id_at k.site ≡ id_in t = k.talks.talking.served.id_is in
        let ids : id_at w.between ≡ id_at k.site + length (bodies_of (creating ∷ [])) =
        ap (λ (p : List Placed). next_id (asked_in p)) w.created.answered.asks
        ∙ next-calls k.site.asks (length k.site.octets) (id_at k.site) (bodies_of (creating ∷ [])) in
        omega (arith, ids, id_is)

    session_is : creating ∷ (activating ∷ []) ≡ session_requests t policy_id w.token moment
    session_is =
        ap (λ (ms : List Request). ms ++ (activating ∷ [])) is_creating
        ∙ ap (λ (n : ℕ). create_session t.url moment (id_in t) ∷ (activate_session_as policy_id w.token moment n ∷ [])) id_later

    second_by :
        (((code : StatusCode) × (f ≡ fault.Service code) × Replies activating w.between (channel_of_connection z) w.sent_then w.taken_then
        (λ (reply : Reply). reply_failure reply ≡ Some code)) ⊎ BreaksAt (activating ∷ []) w.between z w.sent_then w.taken_then f)
        → FailsSession t policy_id moment f
    second_by (inl (code, is, r)) =
        let two : Rounds (channel_of_connection z) k.site ((creating ∷ []) ∷ ((activating ∷ []) ∷ [])) r.behind
        (sent_at k.site (creating ∷ []) ++ sent_at w.between (activating ∷ [])) (w.taken_before ++ w.taken_then) (w.reply ∷ (r.reply ∷ [])) =
        OneRound (activating ∷ []) (channel_of_connection z) one (record { same = record { limits = refl; url = refl }; at = r.at; came = r.replied.came })
        r.replied.answered in
        let behind = asked_behind t.server t.limits t.url t.octets (told_so_far t) (newest_in t) (id_in t) held k.site (connection_of x) before k.talks.talking
        z
        after c.sent c.moves c.same law r.behind two
        (omega arith, (omega arith, tt)) (parts_sent ∙ ap (λ (o : List ℕ). sent_at k.site (creating ∷ []) ++ o) r.replied.sent_is) w.taken_parts in
        refused_so code is (creating ∷ (activating ∷ [])) (inr (w.token, session_is)) (w.reply ∷ []) r.reply r.says behind.replies_are
    second_by (inr breaks) =
        fails_so (creating ∷ (activating ∷ [])) (inr (w.token, session_is))
        (group_fails t.server t.limits t.url t.octets (told_so_far t) (newest_in t) (id_in t) held k.site (connection_of x) before k.talks.talking z after
        c.sent
        c.moves c.same law never_before
        ((creating ∷ []) ∷ []) (activating ∷ []) w.between (sent_at k.site (creating ∷ [])) w.sent_then w.taken_before w.taken_then (w.reply ∷ []) one
        (omega arith, (omega arith, tt)) parts_sent w.taken_parts NodeId f breaks c.stops)

    second_fails : FailsSession t policy_id moment f
    second_fails = second_by (served_or_broken (Unit {0}) activating brings_any w.between z w.sent_then w.taken_then f w.further.1)

  pub session_fails : FailsSession t policy_id moment f
  session_fails = by (c.answers k.site k.talks.talking.served.serving.together.stands)
    where
      by : (ServesAt {A = NodeId} creating brings_token k.site z c.sent c.moves.taken (Err f)
          ⊎ ActivatesBehind address policy_id moment k.site z c.sent c.moves.taken (λ (given : NodeId). Unit {0}) (Err f)) → FailsSession t policy_id moment f
      by (inl h) = first_fails h
      by (inr h) = second_fails h

-- ---- by what it came to

module _ (t : SoFar) (x : Client) (before : Option Traffic) (k : IsTalking t x before) (y : Client) (after : Option Traffic) (law : NonePending)
    (policy_id : Option (List ℕ)) (moment : DateTime) where
  pub begins_on : (result : Result NodeId ClientFault) → BeginsSessionAs policy_id moment (connection_of x) (connection_of y) before after result
      → IsLeft result y
      → IfOk result (λ token. IsTalking (with_turn t moment (Some (session_requests t policy_id token moment))) y after)
  begins_on (Err f) c left = tt
  begins_on (Ok token) c left = session_on t x before k y after law policy_id moment token c left

  pub begins_sent : (result : Result NodeId ClientFault) → BeginsSessionAs policy_id moment (connection_of x) (connection_of y) before after result
      → IfOk result (λ token. IsSentOver (octets_of_turn t moment (Some (session_requests t policy_id token moment))) before after)
  begins_sent (Err f) c = tt
  begins_sent (Ok token) c = session_sent t x before k y after law policy_id moment token c

  pub begins_fails : ToldBehind → (result : Result NodeId ClientFault)
      → BeginsSessionAs policy_id moment (connection_of x) (connection_of y) before after result → IfErr result (λ f. FailsSession t policy_id moment f)
  begins_fails never_before (Ok token) c = tt
  begins_fails never_before (Err f) c = session_fails t x before k y after law policy_id moment never_before f c

  pub begins_answered : ToldBehind → (result : Result NodeId ClientFault)
      → BeginsSessionAs policy_id moment (connection_of x) (connection_of y) before after result → IsSoundState t.server.first
      → IfErr result (λ f. f ≡ fault.UnknownResponse → ⊥)
  begins_answered never_before (Ok token) c sound = tt
  begins_answered never_before (Err f) c sound = λ is. session_answered t policy_id moment f sound k.talks.dated (begins_fails never_before (Err f) c) is
