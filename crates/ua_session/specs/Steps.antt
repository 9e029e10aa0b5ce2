-- The steps of a conversation with a server, each a call of its client (`ua_client`), whose fault
-- is told.
use Rattle.std.specs.Prelude.{◌≡◌, ◌⊎◌, ℕ, ℤ, IsTrue, List, [], ◌∷◌, Option, Result, Ok, Err, MatchResult}
use Rattle.ua_builtin.specs.DateTime.{date_time}
use Rattle.ua_builtin.specs.declared.date_time.DateTime.{DateTime}
use Rattle.ua_builtin.specs.declared.node_id.NodeId.{NodeId}
use Rattle.ua_client.specs.Calls.{CallsAll}
use Rattle.ua_client.specs.Client.{Closes, HasFailedOrClosed, IsLeft, IsReady, OpensClient, OpensNothing, client_channel, connection_of}
use Rattle.ua_client.specs.Session.{TriesSession, session_alone, session_closed}
use Rattle.ua_client.specs.declared.fault.SessionFault.{SessionFault}
use Rattle.ua_client.specs.declared.client.Client.{Client}
use Rattle.ua_client.specs.declared.fault.ClientFault.{ClientFault}
use Rattle.ua_client.specs.declared.fault.ClientFault.TheVariants.{Closed}
use Rattle.ua_client.specs.declared.reply.Reply.{Reply}
use Rattle.ua_frame.specs.declared.limits.Limits.{Limits}
use Rattle.ua_services.specs.declared.request.Request.{Request}
use Rattle.ua_session.specs.Line.{FailsAsTold, LineState}
use Rattle.ua_session.specs.Told.{of_client}
use Rattle.ua_session.specs.declared.fault.QuestionFault.{QuestionFault}
use Rattle.ua_session.specs.declared.fault.NotBegun.{NotBegun}
use Rattle.ua_session.specs.declared.fault.QuestionFault.TheVariants.{NoMemory, Output}

-- ---- what is told

-- the outcome of a client's call, its fault as it is told
abbrev pub told : {A : Type 0} → Result A ClientFault → Result A QuestionFault
told (Ok found) = Ok found
told (Err fault) = Err (of_client fault)

-- the first fault of two results, or what the first one is if there is none; that the writer failed
-- is told before all others, and that an allocation failed before any other, so that what was left
-- undone after a fault for lack of memory is seen
abbrev pub first_fault_of : {A : Type 0} → Result A QuestionFault → Result (Unit {0}) QuestionFault → Result A QuestionFault
first_fault_of (Ok found) (Ok done) = Ok found
first_fault_of (Ok found) (Err fault) = Err fault
first_fault_of (Err (Output error)) other = Err (Output error)
first_fault_of (Err fault) (Err NoMemory) = Err NoMemory
first_fault_of (Err fault) other = Err fault

-- ---- opening

-- an opening of a client to a server, by this URL, at this time, which can be encoded, and its
-- outcome
pub record OpensAt (limits : Limits) (url : Option (List ℕ)) (moment : DateTime) (before after : LineState)
    (result : Result Client QuestionFault) : Type 0 where
  pub dated : IsTrue (date_time.encodable moment)
  pub answer : Result Client ClientFault
  pub opens : OpensNothing before.traffic after.traffic answer ⊎ OpensClient limits url moment before.traffic after.traffic answer
  pub fails : FailsAsTold answer before after
  pub told_is : result ≡ told answer

-- a client was opened to a server, by this URL, or it was not and this is told: an allocation
-- failed before anything was done, or the client's outcome
abbrev pub OpensServer : Limits → Option (List ℕ) → DateTime → LineState → LineState → Result Client QuestionFault → Type 0
OpensServer limits url moment before after result = ((result ≡ Err NoMemory) × (after ≡ before)) ⊎ OpensAt limits url moment before after result

-- ---- calls

-- a call of a client: one that may be called does this, and may be called again except after a
-- fault after which it is done; one that is done returns `Closed` and changes nothing
pub record CallsClient {A : Type 0} (Does : Result A ClientFault → Type 0) (old new : Client) (before after : LineState)
    (result : Result A QuestionFault) : Type 0 where
  pub answer : Result A ClientFault
  pub does : IsReady old → Does answer × IsLeft answer new
  pub stays : HasFailedOrClosed old → (answer ≡ Err Closed) × (new ≡ old) × (after ≡ before)
  pub fails : FailsAsTold answer before after
  pub told_is : result ≡ told answer

-- a session is begun, or not: the client's outcome as it is told
abbrev pub told_session : Result NodeId SessionFault → Result NodeId NotBegun
told_session (Ok token) = Ok token
told_session (Err refused) = Err (record { token = refused.token; fault = of_client refused.fault })

-- a request is called
abbrev pub CallsRequest : Request → Client → Client → LineState → LineState → Result Reply QuestionFault → Type 0
CallsRequest request old new before after result =
    CallsClient (λ answer. CallsAll (λ reply. reply ∷ []) (request ∷ []) (connection_of old) (connection_of new) before.traffic after.traffic answer) old new
    before after result

-- a request is called, or an allocation failed before it was made, and nothing was done
abbrev pub AsksRequest : Request → Client → Client → LineState → LineState → Result Reply QuestionFault → Type 0
AsksRequest request old new before after result = ((result ≡ Err NoMemory) × (new ≡ old) × (after ≡ before)) ⊎ CallsRequest request old new before after result

-- a session is begun by the token policy with this PolicyId, or not: a client that may be called
-- does this, and may be called again except after a fault after which it is done; one that is done
-- returns `Closed` and changes nothing
pub record BeginsSessionBy (policy_id : Option (List ℕ)) (moment : DateTime) (old new : Client) (before after : LineState)
    (result : Result NodeId NotBegun) : Type 0 where
  pub answer : Result NodeId SessionFault
  pub does : IsReady old → TriesSession policy_id moment (connection_of old) (connection_of new) before.traffic after.traffic answer
      × IsLeft (session_alone answer) new
  pub stays : HasFailedOrClosed old → (answer ≡ Err session_closed) × (new ≡ old) × (after ≡ before)
  pub fails : FailsAsTold (session_alone answer) before after
  pub told_is : result ≡ told_session answer

-- ---- closing

-- a client is closed: one that may be called writes its CLO, one that is done returns `Closed` and
-- changes nothing
pub record ClosesClient (moment : DateTime) (client : Client) (before after : LineState) (result : Result (Unit {0}) QuestionFault) : Type 0 where
  pub answer : Result (Unit {0}) ClientFault
  pub closes : IsReady client → Closes moment (client_channel client) before.traffic after.traffic answer
  pub stays : HasFailedOrClosed client → (answer ≡ Err Closed) × (after ≡ before)
  pub fails : FailsAsTold answer before after
  pub told_is : result ≡ told answer

-- ---- a whole conversation

-- a client was used, with this property, and the client was closed after it, also after a fault;
-- the first fault is told, or that an allocation failed
pub record Uses {A M : Type 0} (gives : M → ℤ → M → Type 0) (last : M) (after : LineState) (Asked : Client → M → LineState → Result A QuestionFault → Type 0)
    (result : Result A QuestionFault) : Type 0 where
  pub asked : Client
  pub behind : M
  pub answered : LineState
  pub printed : Result A QuestionFault
  pub asks : Asked asked behind answered printed
  pub closed_at : DateTime
  pub given : gives behind closed_at.ticks last
  pub closed : Result (Unit {0}) QuestionFault
  pub closes : ClosesClient closed_at asked answered after closed
  pub result_is : result ≡ first_fault_of printed closed

-- a client was opened to a server, by this URL, used, with this property, and closed, each step at
-- the next time; if none was opened that is told, and nothing was written
pub record Runs {A M O : Type 0} (gives : M → ℤ → M → Type 0) (limits : Limits) (url : Option (List ℕ)) (first last : M) (before after : LineState)
    (had have : O)
    (Asked : Client → Client → M → M → LineState → LineState → Result A QuestionFault → Type 0) (result : Result A QuestionFault) : Type 0 where
  pub opened_at : DateTime
  pub behind : M
  pub given : gives first opened_at.ticks behind
  pub opened : Result Client QuestionFault
  pub once_open : LineState
  pub opens : OpensServer limits url opened_at before once_open opened
  pub further : MatchResult opened
      (λ client. IsReady client × Uses gives last after (λ asked later answered printed. Asked client asked behind later once_open answered printed) result)
      (λ fault. (result ≡ Err fault) × (last ≡ behind) × (after ≡ once_open) × (have ≡ had))
