-- What `ua read` and `ua write` request of a server in a session of its own, and what is printed of
-- it.
use Rattle.std.specs.Prelude.{◌≡◌, ◌⊎◌, ◌+◌, ◌-◌, ℕ, ℤ, List, Option, Some, None, Result, Ok, Err, MatchResult}
use Rattle.ua_builtin.specs.declared.date_time.DateTime.{DateTime}
use Rattle.ua_builtin.specs.declared.node_id.NodeId.{NodeId}
use Rattle.ua_client.specs.declared.client.Client.{Client}
use Rattle.ua_client.specs.declared.reply.Reply.{Reply}
use Rattle.ua_frame.specs.declared.limits.Limits.{Limits}
use Rattle.ua_services.specs.SessionRequests.{close_session}
use Rattle.ua_answers.specs.declared.style.AnswerStyle.{AnswerStyle}
use Rattle.ua_session.specs.Endpoints.{CallsEndpoints}
use Rattle.ua_session.specs.Line.{LineState}
use Rattle.ua_session.specs.Policy.{ChoosesBy}
use Rattle.ua_session.specs.Question.{PrintsAnswers, request_of_question}
use Rattle.ua_session.specs.Replies.{Expects}
use Rattle.ua_session.specs.Steps.{AsksRequest, BeginsSessionBy, CallsRequest, Runs, first_fault_of}
use Rattle.ua_session.specs.declared.fault.QuestionFault.{QuestionFault}
use Rattle.ua_session.specs.declared.fault.QuestionFault.TheVariants.{NoMemory, Service}
use Rattle.ua_session.specs.declared.fault.NotBegun.{NotBegun}
use Rattle.ua_session.specs.declared.policy.TokenPolicy.{TokenPolicy}
use Rattle.ua_session.specs.declared.policy.TokenPolicy.TheVariants.{Auto, Named}
use Rattle.ua_session.specs.declared.question.Question.{Question}
use Rattle.ua_session.specs.declared.verdict.Verdict.{Verdict}

-- ---- the token policy

-- GetEndpoints was called at the next time, and a PolicyId chosen by the reply
pub record AsksPolicy {M : Type 0} (gives : M → ℤ → M → Type 0) (url : Option (List ℕ)) (first last : M) (old new : Client) (before after : LineState)
    (result : Result (Option (List ℕ)) QuestionFault) : Type 0 where
  pub moment : DateTime
  pub given : gives first moment.ticks last
  pub called : Result Reply QuestionFault
  pub asks : CallsEndpoints url moment old new before after called
  pub chooses : ChoosesBy called result

-- the PolicyId by which a session is to be begun: the one that is named, unless an allocation
-- failed, and nothing was done; or the server was asked for it
abbrev pub FindsPolicy : {M : Type 0} → (M → ℤ → M → Type 0) → Option (List ℕ) → TokenPolicy → M → M → Client → Client → LineState → LineState
    → Result (Option (List ℕ)) QuestionFault → Type 0
FindsPolicy gives url (Named id) first last old new before after result = ((result ≡ Ok id) ⊎ (result ≡ Err NoMemory)) × (last ≡ first) × (new ≡ old)
    × (after ≡ before)
FindsPolicy gives url Auto first last old new before after result = AsksPolicy gives url first last old new before after result

-- ---- the session

-- the RequestId of the first call in a session: the OPN has 1, the calls that begin the session
-- have 2 and 3, and one more if the server is asked for the token policy first
abbrev pub first_call : TokenPolicy → ℕ
first_call (Named id) = 4
first_call Auto = 5

-- the RequestId of the call after a question; a question that was not sent used none
abbrev pub handle_behind_question : ℕ → Result Reply QuestionFault → ℕ
handle_behind_question handle (Ok reply) = handle + 1
handle_behind_question handle (Err fault) = handle

-- the session of a token is ended, by a CloseSession with this RequestHandle
pub record EndsSession (token : NodeId) (handle : ℕ) (moment : DateTime) (old new : Client) (before after : LineState)
    (result : Result (Unit {0}) QuestionFault) : Type 0 where
  pub called : Result Reply QuestionFault
  pub calls : CallsRequest (close_session token moment handle) old new before after called
  pub expects : Expects called result

-- the RequestId of the call after a session that was not begun, where that of the first call in it
-- would have been this: one less, unless a service answered that it failed
abbrev pub handle_unbegun : ℕ → QuestionFault → ℕ
handle_unbegun handle (Service code) = handle
handle_unbegun handle other = handle - 1

-- a session was not begun: one that stays at the server nevertheless is ended, whatever the outcome
pub record ClosesUnbegun {M : Type 0} (gives : M → ℤ → M → Type 0) (token : NodeId) (handle : ℕ) (first last : M) (old new : Client)
    (before after : LineState) : Type 0 where
  pub moment : DateTime
  pub given : gives first moment.ticks last
  pub ended : Result (Unit {0}) QuestionFault
  pub ends : EndsSession token handle moment old new before after ended

-- the same, if there is such a session
abbrev pub EndsUnbegun : {M : Type 0} → (M → ℤ → M → Type 0) → Option NodeId → ℕ → M → M → Client → Client → LineState → LineState → Type 0
EndsUnbegun gives None handle first last old new before after = (last ≡ first) × (new ≡ old) × (after ≡ before)
EndsUnbegun gives (Some token) handle first last old new before after = ClosesUnbegun gives token handle first last old new before after

-- a question was asked under the token of a session, with this RequestHandle, the reply printed,
-- and the session ended after that, also after a fault; each RequestHandle is the RequestId of its
-- call
pub record AsksUnder {M O : Type 0} (gives : M → ℤ → M → Type 0) (contents : O → Option (List ℕ)) (style : AnswerStyle) (question : Question) (token : NodeId)
    (handle : ℕ) (first last : M) (old new : Client) (before after : LineState) (had have : O) (result : Result Verdict QuestionFault) : Type 0 where
  pub asked_at : DateTime
  pub behind : M
  pub asking_given : gives first asked_at.ticks behind
  pub called : Result Reply QuestionFault
  pub asked : Client
  pub answered : LineState
  pub asks : AsksRequest (request_of_question question token asked_at handle) old asked before answered called
  pub printed : Result Verdict QuestionFault
  pub prints : PrintsAnswers contents style question had have called printed
  pub ended_at : DateTime
  pub ending_given : gives behind ended_at.ticks last
  pub ended : Result (Unit {0}) QuestionFault
  pub ends : EndsSession token (handle_behind_question handle called) ended_at asked new answered after ended
  pub result_is : result ≡ first_fault_of printed ended

-- a session was begun by the token policy with this PolicyId, a question asked in it, and the
-- session ended; if none was begun that is told, and nothing was written, but one that stays at the
-- server nevertheless was ended
pub record AsksInSession {M O : Type 0} (gives : M → ℤ → M → Type 0) (contents : O → Option (List ℕ)) (style : AnswerStyle) (question : Question)
    (policy_id : Option (List ℕ)) (handle : ℕ) (first last : M) (old new : Client) (before after : LineState) (had have : O)
    (result : Result Verdict QuestionFault) : Type 0 where
  pub begun_at : DateTime
  pub behind : M
  pub given : gives first begun_at.ticks behind
  pub begun : Result NodeId NotBegun
  pub client : Client
  pub once_begun : LineState
  pub begins : BeginsSessionBy policy_id begun_at old client before once_begun begun
  pub further : MatchResult begun
      (λ token. AsksUnder gives contents style question token handle behind last client new once_begun after had have result)
      (λ refused. (result ≡ Err refused.fault) × (have ≡ had) × EndsUnbegun gives refused.token (handle_unbegun handle refused.fault) behind last client new
      once_begun after)

-- the PolicyId was found, and a question asked in a session that is begun by it; if none was found
-- that is told, and nothing was written
pub record AsksByPolicy {M O : Type 0} (gives : M → ℤ → M → Type 0) (contents : O → Option (List ℕ)) (url : Option (List ℕ)) (policy : TokenPolicy)
    (style : AnswerStyle) (question : Question) (first last : M) (old new : Client) (before after : LineState) (had have : O)
    (result : Result Verdict QuestionFault) : Type 0 where
  pub found : Result (Option (List ℕ)) QuestionFault
  pub behind : M
  pub client : Client
  pub once_found : LineState
  pub finds : FindsPolicy gives url policy first behind old client before once_found found
  pub further : MatchResult found
      (λ policy_id. AsksInSession gives contents style question policy_id (first_call policy) behind last client new once_found after had have result)
      (λ fault. (result ≡ Err fault) × (last ≡ behind) × (new ≡ client) × (after ≡ once_found) × (have ≡ had))

-- a client was opened, asked a question in a session that is begun by a token policy, and closed
abbrev pub RunsQuestion : {M O : Type 0} → (M → ℤ → M → Type 0) → (O → Option (List ℕ)) → Limits → Option (List ℕ) → TokenPolicy → AnswerStyle → Question → M
    → M → LineState → LineState → O → O → Result Verdict QuestionFault → Type 0
RunsQuestion gives contents limits url policy style question first last before after had have result =
    Runs gives limits url first last before after had have
    (λ x y m n s t printed. AsksByPolicy gives contents url policy style question m n x y s t had have printed) result
