-- What a client has of the responses of the services (OPC 10000-4, 5.3, 5.7.2 and 5.7.3): each reply
-- is such a response itself, and the token of a session is the one that its CreateSession response
-- brought.
use Rattle.std.specs.Prelude.{◌≡◌, ℕ, ◌+◌, ◌++◌, IsTrue, List, [], ◌∷◌, map, Option, Some, None}
use Rattle.ua_builtin.specs.Status.{of_code}
use Rattle.ua_builtin.specs.declared.date_time.DateTime.{DateTime}
use Rattle.ua_builtin.specs.declared.node_id.NodeId.{NodeId}
use Rattle.ua_chunk.specs.Cutting.{cut_refusal}
use Rattle.ua_chunk.specs.declared.fault.CutFault.{CutFault}
use Rattle.ua_chunk.specs.declared.lane.Lane.{Lane}
use Rattle.ua_channel.specs.Agreement.{agreement_of, lane_of}
use Rattle.ua_channel.specs.ClientSends.{hello_to}
use Rattle.ua_channel_laws.specs.Outgoing.Outgoing.{CallWith}
use Rattle.ua_channel_laws.specs.Outgoing.{Outgoing}
use Rattle.ua_services.specs.Request.{request}
use Rattle.ua_services.specs.Response.{response}
use Rattle.ua_services.specs.SessionRequests.{activate_session_as, create_session}
use Rattle.ua_services.specs.declared.request.Request.{Request}
use Rattle.ua_services.specs.declared.response.Response.{Response}
use Rattle.ua_services.specs.declared.response.Response.TheVariants.{ActivateSession, CreateSession}
use Rattle.ua_server.specs.Answer.{answer}
use Rattle.ua_server.specs.Said.{first_time}
use Rattle.ua_server.specs.State.{State, is_activated, is_own}
use Rattle.ua_client.specs.declared.reply.Reply.{Reply}
use Rattle.ua_client.specs.declared.reply.Reply.TheVariants.{Response as Responds, Aborted}
use Rattle.ua_headline.specs.Calling.{activating_after, with_creating}
use Rattle.ua_headline.specs.Clients.{Deed, turn_of}
use Rattle.ua_headline.specs.EachCall.{id_after, operations_of, services_before}
use Rattle.ua_headline.specs.Talk.{Ends}

-- ---- a reply

-- the reply that a client has of a response: this response, each field of it; or, where it is larger
-- than the client takes, or than the server allows itself, the code Bad_ResponseTooLarge
abbrev pub reply_unless_cut : Option CutFault → Response → Reply
reply_unless_cut None r = Responds r
reply_unless_cut (Some fault) r = Aborted (of_code 0x80B9_0000)

-- that of a response which goes back in this lane
abbrev pub reply_over : Lane → Response → Reply
reply_over back r = reply_unless_cut (cut_refusal back (response.canonical r)) r

-- ---- replies to requests, one after another

-- the services' responses to requests, each in the state that those before it left, at these times,
-- from this number on, as a client has them that go back in this lane
abbrev pub replies_of_services : Lane → State → (ℕ → DateTime) → ℕ → List Request → List Reply
replies_of_services back s moments n [] = []
replies_of_services back s moments n (m ∷ ms) =
    reply_over back (answer s (moments n) m).1 ∷ replies_of_services back (answer s (moments n) m).0 moments (n + 1) ms

-- ---- the same behind the operations of a client

-- what the services make of a request that is called after these operations, in the state that
-- these left, at the next time: the state that they leave, and their response
abbrev pub answered_after : Ends → List Outgoing → Request → State × Response
answered_after e before m = answer (services_before e before).0 (first_time (services_before e before).1) m

-- the lane of the responses to this client: it cuts by the client's limits, which are the same for
-- each token
abbrev pub lane_to_client : Ends → Lane
lane_to_client e = lane_of e.channel 1 (agreement_of e.server (hello_to e.client e.url))

-- the services' responses to requests that are called after these operations, as the client has them
abbrev pub replies_after : Ends → List Outgoing → List Request → List Reply
replies_after e before [] = []
replies_after e before (m ∷ ms) =
    reply_over (lane_to_client e) (answered_after e before m).1 ∷ replies_after e (before ++ CallWith (request.canonical m) ∷ []) ms

-- ---- a session

-- what the services make of the CreateSession that a client calls at this time after these
-- operations (OPC 10000-4, 5.7.2)
abbrev pub creation_after : Ends → List Deed → DateTime → State × Response
creation_after e deeds moment =
    let before = operations_of (map turn_of deeds) in answered_after e before (create_session e.url moment (id_after before))

-- and of the ActivateSession that it calls after that, under this token, by the token policy with
-- this PolicyId (OPC 10000-4, 5.7.3)
abbrev pub activation_after : Ends → List Deed → Option (List ℕ) → NodeId → DateTime → State × Response
activation_after e deeds policy_id token moment =
    let before = operations_of (map turn_of (with_creating e deeds moment)) in
    answered_after e before (activate_session_as policy_id token moment (id_after before))

-- a response is a CreateSessionResponse with the ServiceResult Good, and its AuthenticationToken is
-- this one (OPC 10000-4, 5.7.2)
abbrev pub IsCreatedWith : NodeId → Response → Type 0
IsCreatedWith token (CreateSession r) = (r.response_header.service_result ≡ of_code 0) × (r.authentication_token ≡ token)
IsCreatedWith token other = ⊥

-- a response is an ActivateSessionResponse with the ServiceResult Good (OPC 10000-4, 5.7.3)
abbrev pub IsGoodActivation : Response → Type 0
IsGoodActivation (ActivateSession r) = r.response_header.service_result ≡ of_code 0
IsGoodActivation other = ⊥

-- services have a session, this is its token, and it is activated
abbrev pub HasActiveSession : NodeId → State → Type 0
HasActiveSession token s = IsTrue (is_own token s.session) × IsTrue (is_activated s.session)

-- the state of the services after both
abbrev pub services_with_session : Ends → List Deed → Option (List ℕ) → NodeId → DateTime → State
services_with_session e deeds policy_id token moment =
    let created = with_creating e deeds moment in
    (services_before e (operations_of (map turn_of (created ++ activating_after created policy_id token moment ∷ [])))).0

-- the session of this token, which a client began after these operations, is one of the services
pub record IsSessionOfServices (e : Ends) (deeds : List Deed) (policy_id : Option (List ℕ)) (moment : DateTime) (token : NodeId) : Type 0 where
  -- they created it with this token
  pub created : IsCreatedWith token (creation_after e deeds moment).1
  -- they activated it
  pub activated : IsGoodActivation (activation_after e deeds policy_id token moment).1
  -- and they have it when both operations are done
  pub active : HasActiveSession token (services_with_session e deeds policy_id token moment)
