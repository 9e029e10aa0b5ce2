-- What is requested of a server in a session that is kept for one question after the other, and
-- what is printed of it. Each step is that of a conversation with one question (`Session`).
use Rattle.std.specs.Prelude.{◌≡◌, ◌⊎◌, ℕ, ℤ, List, Option, Some, None, Result, Ok, Err, MatchResult}
use Rattle.ua_builtin.specs.declared.date_time.DateTime.{DateTime}
use Rattle.ua_builtin.specs.declared.node_id.NodeId.{NodeId}
use Rattle.ua_client.specs.Client.{IsReady, client_channel, connection_of}
use Rattle.ua_client.specs.ClientPlace.{ClientPlace, StandsAt, id_at, usable_id}
use Rattle.ua_client.specs.Renewing.{Renews}
use Rattle.ua_client.specs.declared.client.Client.{Client}
use Rattle.ua_client.specs.declared.reply.Reply.{Reply}
use Rattle.ua_frame.specs.declared.limits.Limits.{Limits}
use Rattle.ua_services.specs.SessionRequests.{get_endpoints}
use Rattle.ua_answers.specs.declared.style.AnswerStyle.{AnswerStyle}
use Rattle.ua_answers.specs.declared.style.EndpointStyle.{EndpointStyle}
use Rattle.ua_session.specs.Line.{LineState}
use Rattle.ua_session.specs.Question.{PrintsAnswers, request_of_question}
use Rattle.ua_session.specs.Replies.{PrintsEndpoints}
use Rattle.ua_session.specs.Session.{EndsSession, EndsUnbegun, FindsPolicy, first_call, handle_unbegun}
use Rattle.ua_session.specs.Steps.{AsksRequest, BeginsSessionBy, CallsClient, ClosesClient, OpensServer, first_fault_of}
use Rattle.ua_session.specs.declared.client_session.ClientSession.{ClientSession}
use Rattle.ua_session.specs.declared.fault.QuestionFault.{QuestionFault}
use Rattle.ua_session.specs.declared.fault.NotBegun.{NotBegun}
use Rattle.ua_session.specs.declared.policy.TokenPolicy.{TokenPolicy}
use Rattle.ua_session.specs.declared.question.Question.{Question}
use Rattle.ua_session.specs.declared.verdict.Verdict.{Verdict}

-- ---- beginning

-- a session was begun by the token policy with this PolicyId; if none was begun that is told, and
-- one that stays at the server nevertheless was ended
pub record BeginsNamed {M : Type 0} (gives : M → ℤ → M → Type 0) (policy_id : Option (List ℕ)) (handle : ℕ) (first last : M) (old new : Client)
    (before after : LineState) (result : Result NodeId QuestionFault) : Type 0 where
  pub begun_at : DateTime
  pub behind : M
  pub given : gives first begun_at.ticks behind
  pub begun : Result NodeId NotBegun
  pub client : Client
  pub once_begun : LineState
  pub begins : BeginsSessionBy policy_id begun_at old client before once_begun begun
  pub further : MatchResult begun
      (λ token. (result ≡ Ok token) × (last ≡ behind) × (new ≡ client) × (after ≡ once_begun))
      (λ refused. (result ≡ Err refused.fault) × EndsUnbegun gives refused.token (handle_unbegun handle refused.fault) behind last client new once_begun after)

-- the PolicyId was found, and a session begun by it; if none was found that is told
pub record BeginsByPolicy {M : Type 0} (gives : M → ℤ → M → Type 0) (url : Option (List ℕ)) (policy : TokenPolicy) (first last : M) (old new : Client)
    (before after : LineState) (result : Result NodeId QuestionFault) : Type 0 where
  pub found : Result (Option (List ℕ)) QuestionFault
  pub behind : M
  pub client : Client
  pub once_found : LineState
  pub finds : FindsPolicy gives url policy first behind old client before once_found found
  pub further : MatchResult found
      (λ policy_id. BeginsNamed gives policy_id (first_call policy) behind last client new once_found after result)
      (λ fault. (result ≡ Err fault) × (last ≡ behind) × (new ≡ client) × (after ≡ once_found))

-- a client without a session was closed; the fault is told, or that an allocation failed
pub record ClosesUnused {M : Type 0} (gives : M → ℤ → M → Type 0) (fault : QuestionFault) (client : Client) (first last : M) (before after : LineState)
    (result : Result ClientSession QuestionFault) : Type 0 where
  pub closed_at : DateTime
  pub given : gives first closed_at.ticks last
  pub closed : Result (Unit {0}) QuestionFault
  pub closes : ClosesClient closed_at client before after closed
  pub result_is : result ≡ first_fault_of (Err fault) closed

-- the session of a client, with this token, at the server of this URL
abbrev pub IsSessionOf : Client → Option (List ℕ) → NodeId → Result ClientSession QuestionFault → Type 0
IsSessionOf client url token (Ok s) = (s.client ≡ client) × (s.url ≡ url) × (s.token ≡ token)
IsSessionOf client url token (Err fault) = ⊥

-- an open client began a session by a token policy, or was closed
pub record BeginsOver {M : Type 0} (gives : M → ℤ → M → Type 0) (url : Option (List ℕ)) (policy : TokenPolicy) (client : Client) (first last : M)
    (before after : LineState) (result : Result ClientSession QuestionFault) : Type 0 where
  pub begun : Result NodeId QuestionFault
  pub behind : M
  pub new : Client
  pub once_begun : LineState
  pub begins : BeginsByPolicy gives url policy first behind client new before once_begun begun
  pub further : MatchResult begun
      (λ token. IsSessionOf new url token result × (last ≡ behind) × (after ≡ once_begun))
      (λ fault. ClosesUnused gives fault new behind last once_begun after result)

-- a client was opened to a server, by this URL, and began a session by a token policy, each step at
-- the next time; if it did not that is told, and a client that was opened was closed
pub record OpensSession {M : Type 0} (gives : M → ℤ → M → Type 0) (limits : Limits) (url : Option (List ℕ)) (policy : TokenPolicy) (first last : M)
    (before after : LineState) (result : Result ClientSession QuestionFault) : Type 0 where
  pub opened_at : DateTime
  pub behind : M
  pub given : gives first opened_at.ticks behind
  pub opened : Result Client QuestionFault
  pub once_open : LineState
  pub opens : OpensServer limits url opened_at before once_open opened
  pub further : MatchResult opened
      (λ client. BeginsOver gives url policy client behind last once_open after result)
      (λ fault. (result ≡ Err fault) × (last ≡ behind) × (after ≡ once_open))

-- ---- between two steps

-- the RequestHandle of the next request is the RequestId of its call, unless all were used
abbrev pub IsNextHandle : Client → ℕ → Type 0
IsNextHandle client handle = IsReady client → (s : ClientPlace) → StandsAt (client_channel client) s → (usable_id (id_at s) ≡ Some handle)
    ⊎ (usable_id (id_at s) ≡ None)

-- the session stays the one of this token, at the server of this URL
abbrev pub StaysSession : ClientSession → ClientSession → Type 0
StaysSession old new = (new.token ≡ old.token) × (new.url ≡ old.url)

-- ---- steps

-- a question was asked in the session at this time, and the reply printed
pub record AsksQuestion {O : Type 0} (contents : O → Option (List ℕ)) (style : AnswerStyle) (question : Question) (moment : DateTime) (old new : ClientSession)
    (before after : LineState) (had have : O) (result : Result Verdict QuestionFault) : Type 0 where
  pub handle : ℕ
  pub next : IsNextHandle old.client handle
  pub called : Result Reply QuestionFault
  pub asks : AsksRequest (request_of_question question old.token moment handle) old.client new.client before after called
  pub prints : PrintsAnswers contents style question had have called result
  pub stays : StaysSession old new

-- the server was asked for its endpoints at this time, and the reply printed
pub record AsksEndpointsIn {O : Type 0} (contents : O → Option (List ℕ)) (style : EndpointStyle) (moment : DateTime) (old new : ClientSession)
    (before after : LineState) (had have : O) (result : Result (Unit {0}) QuestionFault) : Type 0 where
  pub handle : ℕ
  pub next : IsNextHandle old.client handle
  pub called : Result Reply QuestionFault
  pub asks : AsksRequest (get_endpoints old.url moment handle) old.client new.client before after called
  pub prints : PrintsEndpoints contents style had have called result
  pub stays : StaysSession old new

-- the token of the SecureChannel was renewed at this time
pub record RenewsToken (moment : DateTime) (old new : ClientSession) (before after : LineState) (result : Result (Unit {0}) QuestionFault) : Type 0 where
  pub renews : CallsClient (λ answer. Renews moment (connection_of old.client) (connection_of new.client) before.traffic after.traffic answer) old.client
      new.client before after result
  pub stays : StaysSession old new

-- ---- the end

-- the session was ended and the client closed, each at the next time, also after a fault
pub record EndsAll {M : Type 0} (gives : M → ℤ → M → Type 0) (s : ClientSession) (first last : M) (before after : LineState)
    (result : Result (Unit {0}) QuestionFault) : Type 0 where
  pub handle : ℕ
  pub next : IsNextHandle s.client handle
  pub ended_at : DateTime
  pub behind : M
  pub ending_given : gives first ended_at.ticks behind
  pub ended : Result (Unit {0}) QuestionFault
  pub client : Client
  pub once_ended : LineState
  pub ends : EndsSession s.token handle ended_at s.client client before once_ended ended
  pub closed_at : DateTime
  pub closing_given : gives behind closed_at.ticks last
  pub closed : Result (Unit {0}) QuestionFault
  pub closes : ClosesClient closed_at client once_ended after closed
  pub result_is : result ≡ first_fault_of ended closed
