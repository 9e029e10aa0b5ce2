-- That the session which a client begins over a connection is one that the services made and activated.
use Rattle.std.proofs.Common.{◌≡◌, ℕ, ◌+◌, Bool, true, false, not, IsTrue, List, [], ◌∷◌, ◌++◌, Option, Some, None, Ok}
use Rattle.std.proofs.Common.{map, refl, sym, ◌∙◌, ap, subst, arith, append_assoc, append-nil, length-append}
use Rattle.ua_wire.proofs.Readers.{some_is}
use Rattle.ua_builtin.specs.Reasons.{first_reason}
use Rattle.ua_builtin.specs.Status.{of_code}
use Rattle.ua_builtin.specs.declared.date_time.DateTime.{DateTime}
use Rattle.ua_builtin.specs.declared.node_id.NodeId.{NodeId}
use Rattle.ua_chunk.specs.Cutting.{cut_refusal}
use Rattle.ua_chunk.specs.declared.fault.CutFault.{CutFault}
use Rattle.ua_opening.specs.Plain.{request_header_of}
use Rattle.ua_opening.specs.declared.header.RequestHeader.{RequestHeader}
use Rattle.ua_channel.specs.Client.{SameClient, url_of}
use Rattle.ua_channel.specs.Line.{Traffic}
use Rattle.ua_channel.specs.declared.server.ServerChannel.{ServerChannel}
use Rattle.ua_channel_laws.specs.Outgoing.Outgoing.{CallWith}
use Rattle.ua_channel_laws.specs.Outgoing.{Outgoing}
use Rattle.ua_channel_laws.proofs.Groups.{none_parts}
use Rattle.ua_services.specs.Request.{kind_of_request, request}
use Rattle.ua_services.specs.Response.{response}
use Rattle.ua_services.specs.SessionRequests.{activate_session_as, create_session}
use Rattle.ua_services.specs.declared.request.Request.{Request}
use Rattle.ua_services.specs.declared.request.Request.TheVariants.{GetEndpoints, CreateSession, ActivateSession, CloseSession, Read, Write}
use Rattle.ua_services.specs.declared.request.RequestKind.TheVariants as kind
use Rattle.ua_services.specs.declared.response.Response.{Response}
use Rattle.ua_server.specs.Answer.{answer, session_header, unless}
use Rattle.ua_server.specs.Sessions.{activate_reasons, activation_given, create_reasons, session_given, with_activated}
use Rattle.ua_server.specs.Said.{behind_first, first_time}
use Rattle.ua_server.specs.Sound.{IsSoundState}
use Rattle.ua_server.specs.State.{State, activated, is_activated, is_own, session_token, with_next_session}
use Rattle.ua_server.specs.Status.{bad_session_id_invalid}
use Rattle.ua_server.specs.declared.session.Session.{Session}
use Rattle.ua_client.specs.Client.{connection_of}
use Rattle.ua_client.specs.ClientPlace.{ClientPlace, id_at}
use Rattle.ua_client.specs.Hearing.{MovesConnection, channel_of_connection}
use Rattle.ua_client.specs.Session.{ActivatesBehind, Replies, activating_at, brings_any, creating_at, reply_failure, response_failure, token_in}
use Rattle.ua_client.specs.declared.client.Client.{Client}
use Rattle.ua_client.specs.declared.reply.Reply.{Reply}
use Rattle.ua_client.specs.declared.reply.Reply.TheVariants.{Response as Responds}
use Rattle.ua_headline.specs.AsAnswered.{HasActiveSession, IsCreatedWith, IsGoodActivation, IsSessionOfServices}
use Rattle.ua_headline.specs.AsAnswered.{answered_after, lane_to_client, reply_over, reply_unless_cut, services_with_session}
use Rattle.ua_headline.specs.Calling.{AreServersReplies, HasDoneAll, IsOneConnection, activating_after, creating_after, with_creating}
use Rattle.ua_headline.specs.Clients.{Deed, Did, turn_of}
use Rattle.ua_headline.specs.Clients.Deed.{Calls}
use Rattle.ua_headline.specs.EachCall.{id_after, operations_of, services_before}
use Rattle.ua_headline.specs.Talk.{Ends, heard_in}
use Rattle.ua_headline.proofs.AsAnswered.{group_encodable, one_after}
use Rattle.ua_headline.proofs.Calling.{all_done, did_behind, limits_then}
use Rattle.ua_headline.proofs.Doing.{linked_told}
use Rattle.ua_headline.proofs.EachCall.{answered_as, left_parts}
use Rattle.ua_headline.proofs.Replied.{calls, id_behind, id_done, linked, operations_behind, own_replies}
use Rattle.ua_headline.proofs.SessionCalls.{replied_one}
use Rattle.ua_headline.proofs.Talking.{EndsConnect}

-- ---- what the services did where they did not fail

-- a response that did not fail is that of the service, and no ServiceFault
free_of : (o : Option ℕ) (s : State) (moment : DateTime) (asking : RequestHeader) (given : State × Response)
    → response_failure (unless o s moment asking given).1 ≡ None → (o ≡ None) × (unless o s moment asking given ≡ given)
free_of None s moment asking given good = (refl, refl)
free_of (Some code) s moment asking given good = let no : Some (of_code code) ≡ None = good in absurd cc

-- CreateSession
is_created : (s : State) (moment : DateTime) (q : Request) (token : NodeId) → kind_of_request q ≡ kind.CreateSession
    → response_failure (answer s moment q).1 ≡ None → token_in (Responds (answer s moment q).1) ≡ Some token
    → IsCreatedWith token (answer s moment q).1
is_created s moment (CreateSession m) token is good brings =
    let free = free_of (first_reason (create_reasons s)) s moment m.request_header (with_next_session s, session_given s moment m) good in
    subst (λ (g : State × Response). IsCreatedWith token g.1) (sym free.1)
    (refl, some_is (session_token (s.made + 1)) token (ap (λ (g : State × Response). token_in (Responds g.1)) (sym free.1) ∙ brings))
is_created s moment (GetEndpoints m) token is good brings = absurd cc
is_created s moment (ActivateSession m) token is good brings = absurd cc
is_created s moment (CloseSession m) token is good brings = absurd cc
is_created s moment (Read m) token is good brings = absurd cc
is_created s moment (Write m) token is good brings = absurd cc

-- ActivateSession, and what it leaves
own_activated : (token : NodeId) (o : Option Session) → not (is_own token o) ≡ false
    → (is_own token (activated o) ≡ true) × (is_activated (activated o) ≡ true)
own_activated token None e = absurd cc
own_activated token (Some session) e = (not_true (is_own token (Some session)) e, refl)
  where
    not_true : (b : Bool) → not b ≡ false → b ≡ true
    not_true true e = refl
    not_true false e = absurd cc

is_good_activation : (s : State) (moment : DateTime) (q : Request) (asking : RequestHeader) → kind_of_request q ≡ kind.ActivateSession
    → session_header q ≡ Some asking → response_failure (answer s moment q).1 ≡ None
    → IsGoodActivation (answer s moment q).1 × HasActiveSession asking.authentication_token (answer s moment q).0
is_good_activation s moment (ActivateSession m) asking is header good =
    let free = free_of (first_reason (activate_reasons s m)) s moment m.request_header (with_activated s, activation_given moment m) good in
    let own = none_parts (not (is_own m.request_header.authentication_token s.session)) bad_session_id_invalid _ free.0 in
    let of_header : m.request_header ≡ asking = some_is m.request_header asking header in
    subst (λ (g : State × Response). IsGoodActivation g.1 × HasActiveSession asking.authentication_token g.0) (sym free.1) (
      refl,
      subst (λ (h : RequestHeader). HasActiveSession h.authentication_token (with_activated s)) of_header
          (own_activated m.request_header.authentication_token s.session own.0),
    )
is_good_activation s moment (GetEndpoints m) asking is header good = absurd cc
is_good_activation s moment (CreateSession m) asking is header good = absurd cc
is_good_activation s moment (CloseSession m) asking is header good = absurd cc
is_good_activation s moment (Read m) asking is header good = absurd cc
is_good_activation s moment (Write m) asking is header good = absurd cc

-- a reply by which the service did not fail is its response
not_cut : (o : Option CutFault) (r : Response) (reply : Reply) → reply ≡ reply_unless_cut o r → reply_failure reply ≡ None → reply ≡ Responds r
not_cut None r reply e good = e
not_cut (Some f) r reply e good =
    let no : Some (of_code 0x80B9_0000) ≡ None = sym (ap reply_failure e) ∙ good in absurd cc

-- ---- over a connection

module _ (connect : EndsConnect) (e : Ends) (deeds : List Deed) (server : ServerChannel) (x y : Client) (read written : List ℕ)
    (h : HasDoneAll e deeds x read written) (before after : Option Traffic)
    (sent : List ℕ) (moves : MovesConnection (connection_of x) (connection_of y) sent before after)
    (same : SameClient (channel_of_connection (connection_of x)) (channel_of_connection (connection_of y)))
    (j : IsOneConnection e server (read ++ moves.got) (written ++ sent)) (sound : IsSoundState e.first) where
  abbrev m : ClientPlace
  m = h.done.did.last

  abbrev first : List Outgoing
  first = operations_of (map turn_of deeds)

  -- the services' response to a request by which they did not fail
  response_is : (os : List Outgoing) (q : Request) (reply : Reply) → (reply ≡ reply_over (lane_to_client e) (answered_after e os q).1)
      → reply_failure reply ≡ None → reply ≡ Responds (answered_after e os q).1
  response_is os q reply is good =
      not_cut (cut_refusal (lane_to_client e) (response.canonical (answered_after e os q).1)) (answered_after e os q).1 reply is good

  module _ (policy_id : Option (List ℕ)) (moment : DateTime) (token : NodeId)
      (w : ActivatesBehind (url_of (channel_of_connection (connection_of x))) policy_id moment h.done.did.last (connection_of y) sent moves.taken
      (λ (given : NodeId). given ≡ token) (Ok tt)) where
    abbrev r : Replies (activating_at policy_id w.token moment w.between) w.between (channel_of_connection (connection_of y)) w.sent_then w.taken_then
        (λ (reply : Reply). (reply_failure reply ≡ None) × brings_any tt reply)
    r = w.further.1

    abbrev creating : Request
    creating = creating_at (url_of (channel_of_connection (connection_of x))) moment h.done.did.last

    abbrev activating : Request
    activating = activating_at policy_id w.token moment w.between

    abbrev ds : List Deed
    ds = Calls (creating ∷ []) ∷ (Calls (activating ∷ []) ∷ [])

    created : Did e.client h.done.did.last (Calls (creating ∷ []) ∷ []) w.between w.sent_before
    created =
        replied_one e.client (channel_of_connection (connection_of y)) w.channel creating m w.between w.sent_before w.taken_before w.reply w.same
        (limits_then e deeds x y read written h before after sent moves same) w.at w.created

    did : Did e.client h.done.did.last ds r.behind sent
    did =
        subst (λ (o : List ℕ). Did e.client m ds r.behind o) (sym w.sent_parts)
        (did_behind e.client m w.between r.behind (Calls (creating ∷ []) ∷ []) (Calls (activating ∷ []) ∷ []) w.sent_before w.sent_then created
        (replied_one e.client (channel_of_connection (connection_of y)) (channel_of_connection (connection_of y)) activating w.between r.behind w.sent_then
        w.taken_then r.reply (record { limits = refl; url = refl }) (limits_then e deeds x y read written h before after sent moves same) r.at r.replied))

    octets_are : r.behind.octets ≡ m.octets ++ moves.taken
    octets_are =
        r.replied.answered.octets
        ∙ (ap (λ (o : List ℕ). o ++ w.taken_then) w.created.answered.octets
        ∙ (append_assoc m.octets w.taken_before w.taken_then ∙ ap (λ (o : List ℕ). m.octets ++ o) (sym w.taken_parts)))

    abbrev done : HasDoneAll e (deeds ++ ds) y (read ++ moves.got) (written ++ sent)
    done = all_done e deeds x y read written h before after sent moves same ds r.behind did r.at octets_are

    told : r.behind.told ≡ heard_in e (map turn_of (deeds ++ ds))
    told =
        linked_told connect e (deeds ++ ds) None server done.done.asks done.done.taken
        (linked e (deeds ++ ds) None y (read ++ moves.got) (written ++ sent) server done.done j)

    parts : operations_of (map turn_of (deeds ++ ds)) ≡ first ++ (calls (creating ∷ []) ++ (calls (activating ∷ []) ++ []))
    parts = operations_behind deeds ds

    abbrev then : List Outgoing
    then = first ++ CallWith (request.canonical creating) ∷ []

    id_then : id_at w.between ≡ id_after then
    id_then =
        let one_on : id_at w.between ≡ id_at m + 1 = id_behind e.client m (Calls (creating ∷ []) ∷ []) w.between w.sent_before created in
        omega (arith, one_on, id_done e deeds x read written h, length-append first (CallWith (request.canonical creating) ∷ []))

    -- both replies are the server's
    one : AreServersReplies e first (creating ∷ []) (w.reply ∷ [])
    one =
        own_replies e (map turn_of (deeds ++ ds)) (creating ∷ []) (w.reply ∷ []) first (calls (activating ∷ []) ++ []) (id_at m)
        (id_done e deeds x read written h) parts w.between.told (r.replied.answered.heard, sym told ∙ r.replied.answered.told)
        w.created.answered.replies_are

    two : AreServersReplies e then (activating ∷ []) (r.reply ∷ [])
    two =
        own_replies e (map turn_of (deeds ++ ds)) (activating ∷ []) (r.reply ∷ []) then [] (id_at w.between) id_then
        (parts ∙ sym (append_assoc first (CallWith (request.canonical creating) ∷ []) (calls (activating ∷ []) ++ []))) r.behind.told
        ([], sym told ∙ sym (append-nil r.behind.told)) r.replied.answered.replies_are

    -- and so the services' responses
    first_response : w.reply ≡ Responds (answered_after e first creating).1
    first_response =
        response_is first creating w.reply
        (one_after e j.can sound first creating w.reply (group_encodable m.before.ack (id_at m) (creating ∷ []) w.created.answered.judged).0 one.0) w.good

    second_response : r.reply ≡ Responds (answered_after e then activating).1
    second_response =
        response_is then activating r.reply
        (one_after e j.can sound then activating r.reply
        (group_encodable w.between.before.ack (id_at w.between) (activating ∷ []) r.replied.answered.judged).0 two.0) r.says.0

    -- ---- the requests

    creating_is : creating ≡ create_session e.url moment (id_after first)
    creating_is =
        ap (λ (u : Option (List ℕ)). create_session u moment (id_at m)) h.done.url_is
        ∙ ap (λ (id : ℕ). create_session e.url moment id) (id_done e deeds x read written h)

    then_is : then ≡ operations_of (map turn_of (with_creating e deeds moment))
    then_is =
        ap (λ (q : Request). first ++ CallWith (request.canonical q) ∷ []) creating_is ∙ sym (operations_behind deeds (creating_after e deeds moment ∷ []))

    -- a session that is activated after these operations under this token
    abbrev IsActive : List Outgoing → NodeId → ℕ → Type 0
    IsActive os given handle =
        IsGoodActivation (answered_after e os (activate_session_as policy_id given moment handle)).1
        × HasActiveSession given (answered_after e os (activate_session_as policy_id given moment handle)).0

    active : IsActive (operations_of (map turn_of (with_creating e deeds moment))) token (id_after (operations_of (map turn_of (with_creating e deeds moment))))
    active =
        subst (λ (os : List Outgoing). IsActive os token (id_after os)) then_is
        (subst (λ (id : ℕ). IsActive then token id) id_then
        (subst (λ (given : NodeId). IsActive then given (id_at w.between)) w.further.0
        (is_good_activation (services_before e then).0 (first_time (services_before e then).1) activating
        (request_header_of w.token moment (id_at w.between)) refl refl (sym (ap reply_failure second_response) ∙ r.says.0))))

    -- the state that both operations leave
    abbrev done_first : List Outgoing
    done_first = operations_of (map turn_of (with_creating e deeds moment))

    abbrev activation : Request
    activation = activate_session_as policy_id token moment (id_after done_first)

    activating_is : activating ≡ activation
    activating_is =
        ap (λ (given : NodeId). activate_session_as policy_id given moment (id_at w.between)) w.further.0
        ∙ ap (λ (id : ℕ). activate_session_as policy_id token moment id) (id_then ∙ ap id_after then_is)

    activation_fits : IsTrue (request.encodable activation)
    activation_fits =
        subst (λ (q : Request). IsTrue (request.encodable q)) activating_is
        (group_encodable w.between.before.ack (id_at w.between) (activating ∷ []) r.replied.answered.judged).0

    left_is : services_with_session e deeds policy_id token moment ≡ (answered_after e done_first activation).0
    left_is =
        let now : State × List DateTime = services_before e done_first in
        ap (λ (os : List Outgoing). (services_before e os).0)
        (operations_behind (with_creating e deeds moment) (activating_after (with_creating e deeds moment) policy_id token moment ∷ []))
        ∙ (ap (λ (p : State × List DateTime). p.0) (left_parts e.first (behind_first e.times) done_first (CallWith (request.canonical activation) ∷ []))
        ∙ ap (λ (g : State × Response). g.0) (answered_as now.0 (first_time now.1) activation activation_fits))

    pub made : IsSessionOfServices e deeds policy_id moment token
    made = record {
      created =
          subst (λ (q : Request). IsCreatedWith token (answered_after e first q).1) creating_is
          (is_created (services_before e first).0 (first_time (services_before e first).1) creating token refl (sym (ap reply_failure first_response) ∙ w.good)
          (sym (ap token_in first_response) ∙ (w.brought ∙ ap (λ (given : NodeId). Some given) w.further.0)));
      activated = active.0;
      active = subst (HasActiveSession token) (sym left_is) active.1;
    }
