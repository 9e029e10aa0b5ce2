-- The reply to what bytes are read as, before it is known whether they are a request.
use Rattle.std.specs.Prelude.{◌≡◌, ◌<◌, ◌⊎◌, ℕ, List, length, Option, Result, Ok, Err}
use Rattle.ua_builtin.specs.declared.date_time.DateTime.{DateTime}
use Rattle.ua_services.specs.Response.{header_of_response, response}
use Rattle.ua_services.specs.declared.fault.RequestFault.{RequestFault}
use Rattle.ua_services.specs.declared.fault.RequestFault.TheVariants.{OutOfMemory}
use Rattle.ua_services.specs.declared.request.Request.{Request}
use Rattle.ua_server.specs.Reply.{IsBodyWithin, answered_by}
use Rattle.ua_server.specs.Requests.{count_asked, encoding_asked, kind_asked}
use Rattle.ua_server.specs.State.{State}
use Rattle.ua_server.specs.Stored.{results_of}
use Rattle.ua_server.specs.declared.reply.Replied.{Replied}
use Rattle.ua_server.specs.declared.watch.AnsweredRequest.{AnsweredRequest}

-- what is told of what bytes, the last argument, are read as, before it is sent
abbrev pub request_told : Result Request RequestFault → State → DateTime → List ℕ → AnsweredRequest
request_told read s moment octets = record {
  kind = kind_asked read;
  encoding = encoding_asked read octets;
  items = count_asked read;
  code = (header_of_response (answered_by read s moment).1).service_result;
}

-- what bytes are read as is replied to in this state at this time: by a body of at most so many
-- bytes, the results of a Write and the state that is left; or it is no request, and the state is
-- unchanged; or memory was refused, and the state is unchanged or the one that is left
abbrev pub IsRepliedTo : Option ℕ → Result Request RequestFault → State → DateTime → State → Result Replied RequestFault → Type 0
IsRepliedTo most read s moment new (Ok told) =
    IsBodyWithin most (response.canonical (answered_by read s moment).1) told.body.items
    × (0 < length told.body.items)
    × ((octets : List ℕ) → told.request ≡ request_told read s moment octets)
    × (told.results ≡ results_of (answered_by read s moment).1)
    × (new ≡ (answered_by read s moment).0)
IsRepliedTo most read s moment new (Err fault) =
    ((read ≡ Err fault) × (new ≡ s)) ⊎ ((fault ≡ OutOfMemory) × ((new ≡ s) ⊎ (new ≡ (answered_by read s moment).0)))
