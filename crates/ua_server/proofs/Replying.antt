-- A reply to a request that was read where it is answered.
use Rattle.std.specs.Prelude.{◌≡◌, ◌<◌, ◌⊎◌, ℕ, List, length, Option, Some, None, Result, Ok, Err, IfErr}
use Rattle.std.proofs.Common.{refl, sym, ◌∙◌, ap, inl, inr}
use Rattle.ua_builtin.specs.declared.date_time.DateTime.{DateTime}
use Rattle.ua_builtin.specs.declared.status_code.StatusCode.{StatusCode}
use Rattle.ua_services.specs.Request.{kind_of_request}
use Rattle.ua_services.specs.Response.{header_of_response, response}
use Rattle.ua_services.specs.declared.fault.RequestFault.{RequestFault}
use Rattle.ua_services.specs.declared.fault.RequestFault.TheVariants.{OutOfMemory}
use Rattle.ua_services.specs.declared.request.Request.{Request}
use Rattle.ua_services.specs.declared.request.RequestKind.{RequestKind}
use Rattle.ua_services.specs.declared.response.Response.{Response}
use Rattle.ua_server.specs.Answer.{answer}
use Rattle.ua_server.specs.Reply.{IsBodyWithin, answered_by}
use Rattle.ua_server.specs.Requests.{count_asked, encoding_asked, items_asked, kind_asked}
use Rattle.ua_server.specs.State.{State}
use Rattle.ua_server.specs.Stored.{results_of}
use Rattle.ua_server.specs.declared.reply.AnswerBody.{AnswerBody}
use Rattle.ua_server.specs.declared.reply.Replied.{Replied}
use Rattle.ua_server.specs.declared.watch.AnsweredRequest.{AnsweredRequest}
use Rattle.ua_server.specs.inside.Replying.{IsRepliedTo, request_told}

-- what is told of a request of this kind that asks for so many items, and is answered so
abbrev pub told_by : RequestKind → ℕ → State × Response → AnsweredRequest
told_by kind items given = record { kind = Some kind; encoding = None; items = items; code = (header_of_response given.1).service_result }

-- a reply that tells what was answered to a request
pub record Tells (most : Option ℕ) (kind : RequestKind) (items : ℕ) (given : State × Response) (new : State) (told : Replied) : Type 0 where
  pub body : IsBodyWithin most (response.canonical given.1) told.body.items
  pub some : 0 < length told.body.items
  pub request : told.request ≡ told_by kind items given
  pub results : told.results ≡ results_of given.1
  pub state : new ≡ given.0

-- these bytes are a request of this kind that asks for so many items, and is answered so
pub record IsAnswered (read : Result Request RequestFault) (s : State) (moment : DateTime) (kind : RequestKind) (items : ℕ)
    (given : State × Response) : Type 0 where
  pub request : Request
  pub read_is : read ≡ Ok request
  pub kind_is : kind_of_request request ≡ kind
  pub items_are : items_asked request ≡ items
  pub answer_is : answer s moment request ≡ given

-- a reply that was made of the body of a response
pub tells : (most : Option ℕ) (kind : RequestKind) (items : ℕ) (given : State × Response) (new : State) (answer : AnswerBody) (told : Replied)
    → told.body ≡ answer.body → told.request ≡ record { kind = Some kind; encoding = None; items = items; code = answer.code } → told.results ≡ answer.results
    → IsBodyWithin most (response.canonical given.1) answer.body.items → 0 < length answer.body.items
    → answer.code ≡ (header_of_response given.1).service_result → answer.results ≡ results_of given.1 → new ≡ given.0
    → Tells most kind items given new told
tells most kind items given new answer told body request results within some code statuses state = record {
  body = rw body within;
  some = rw body some;
  request = request ∙ ap (λ (c : StatusCode). record { kind = Some kind; encoding = None; items = items; code = c }) code;
  results = results ∙ statuses;
  state = state;
}

by_request : (most : Option ℕ) (read : Result Request RequestFault) (s new : State) (moment : DateTime) (m : Request) (given : State × Response)
    (told : Replied)
    → read ≡ Ok m → answer s moment m ≡ given → Tells most (kind_of_request m) (items_asked m) given new told → IsRepliedTo most read s moment new (Ok told)
by_request most read s new moment m given told is answers t = rw (is, answers) (t.body, t.some, (λ octets. t.request), t.results, t.state)

-- a request that was read, and answered
pub replied : (most : Option ℕ) (read : Result Request RequestFault) (s new : State) (moment : DateTime) (kind : RequestKind) (items : ℕ)
    (given : State × Response) (told : Replied)
    → IsAnswered read s moment kind items given → Tells most kind items given new told → IsRepliedTo most read s moment new (Ok told)
replied most read s new moment kind items given told a t =
    by_request most read s new moment a.request given told a.read_is a.answer_is (rw (a.kind_is, a.items_are) t)

-- no request was read
pub unread : (most : Option ℕ) (read : Result Request RequestFault) (s : State) (moment : DateTime) (fault : RequestFault)
    → (read ≡ Err fault) ⊎ (fault ≡ OutOfMemory) → IsRepliedTo most read s moment s (Err fault)
unread most read s moment fault (inl is) = inl (is, refl)
unread most read s moment fault (inr is) = inr (is, inl refl)

-- memory was refused
pub no_memory : (most : Option ℕ) (read : Result Request RequestFault) (s new : State) (moment : DateTime)
    → (new ≡ s) ⊎ (new ≡ (answered_by read s moment).0) → IsRepliedTo most read s moment new (Err OutOfMemory)
no_memory most read s new moment left = inr (refl, left)

-- ---- a request that is neither a Read nor a Write

-- a reader answers this, or that memory was refused
abbrev Reads : Result Request RequestFault → Result Request RequestFault → Type 0
Reads r expected = (r ≡ expected) ⊎ (r ≡ Err OutOfMemory)

pub other_read : (m : Request) (read : Result Request RequestFault) → Reads (Ok m) read → read ≡ Ok m
other_read m read (inl is) = sym is
other_read m read (inr is) = absurd cc

pub other_unread : (fault : RequestFault) (read : Result Request RequestFault) → Reads (Err fault) read → (read ≡ Err fault) ⊎ (fault ≡ OutOfMemory)
other_unread fault read (inl is) = inl (sym is)
other_unread fault read (inr is) = inr cc

pub other_left : (s new : State) (read : Result Request RequestFault) (m : Request) (moment : DateTime) → read ≡ Ok m
    → (new ≡ s) ⊎ (new ≡ (answer s moment m).0) → (new ≡ s) ⊎ (new ≡ (answered_by read s moment).0)
other_left s new read m moment is left = rw is left

-- ---- the whole body

-- what was read behind the NodeId is what the body is read as
pub as_read : (most : Option ℕ) (all here : Result Request RequestFault) (s new : State) (moment : DateTime) (r : Result Replied RequestFault) → all ≡ here
    → IsRepliedTo most here s moment new r → IsRepliedTo most all s moment new r
as_read most all here s new moment r is h = rw is h
