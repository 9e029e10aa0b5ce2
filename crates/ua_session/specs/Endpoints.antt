-- What `ua endpoints` requests of a server, and what is printed of it.
use Rattle.std.specs.Prelude.{ℕ, ℤ, List, Option, Result}
use Rattle.ua_builtin.specs.declared.date_time.DateTime.{DateTime}
use Rattle.ua_client.specs.declared.client.Client.{Client}
use Rattle.ua_client.specs.declared.reply.Reply.{Reply}
use Rattle.ua_frame.specs.declared.limits.Limits.{Limits}
use Rattle.ua_services.specs.SessionRequests.{get_endpoints}
use Rattle.ua_answers.specs.declared.style.EndpointStyle.{EndpointStyle}
use Rattle.ua_session.specs.Line.{LineState}
use Rattle.ua_session.specs.Replies.{PrintsEndpoints}
use Rattle.ua_session.specs.Steps.{AsksRequest, Runs}
use Rattle.ua_session.specs.declared.fault.QuestionFault.{QuestionFault}

-- GetEndpoints was called on a server, by this URL, at this time, as the first call of a client:
-- its RequestId 2 is its RequestHandle
abbrev pub CallsEndpoints : Option (List ℕ) → DateTime → Client → Client → LineState → LineState → Result Reply QuestionFault → Type 0
CallsEndpoints url moment old new before after called = AsksRequest (get_endpoints url moment 2) old new before after called

-- GetEndpoints was called at the next time, and the reply was printed
pub record AsksEndpoints {M O : Type 0} (gives : M → ℤ → M → Type 0) (contents : O → Option (List ℕ)) (url : Option (List ℕ)) (style : EndpointStyle)
    (first last : M) (old new : Client) (before after : LineState) (had have : O) (result : Result (Unit {0}) QuestionFault) : Type 0 where
  pub moment : DateTime
  pub given : gives first moment.ticks last
  pub called : Result Reply QuestionFault
  pub asks : CallsEndpoints url moment old new before after called
  pub prints : PrintsEndpoints contents style had have called result

-- a client was opened, asked for the endpoints, and closed
abbrev pub RunsEndpoints : {M O : Type 0} → (M → ℤ → M → Type 0) → (O → Option (List ℕ)) → Limits → Option (List ℕ) → EndpointStyle → M → M → LineState
    → LineState → O → O → Result (Unit {0}) QuestionFault → Type 0
RunsEndpoints gives contents limits url style first last before after had have result =
    Runs gives limits url first last before after had have (λ x y m n s t printed. AsksEndpoints gives contents url style m n x y s t had have printed) result
