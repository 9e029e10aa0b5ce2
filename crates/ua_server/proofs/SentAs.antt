-- What is told of a request once its answer goes, or an abort in its place.
use Rattle.std.specs.Prelude.{◌≡◌, true, false, Option, Some, None}
use Rattle.std.specs.Option.{is_some}
use Rattle.std.proofs.Common.{refl, ap}
use Rattle.ua_builtin.specs.Status.{of_code}
use Rattle.ua_builtin.specs.declared.status_code.StatusCode.{StatusCode}
use Rattle.ua_chunk.specs.declared.fault.CutFault.{CutFault}
use Rattle.ua_server.specs.Requests.{code_by}
use Rattle.ua_server.specs.Status.{bad_response_too_large}
use Rattle.ua_server.specs.declared.watch.AnsweredRequest.{AnsweredRequest}

abbrev pub with-code : AnsweredRequest → StatusCode → AnsweredRequest
with-code r code = record { kind = r.kind; encoding = r.encoding; items = r.items; code = code }

code-aborted : (o : Option CutFault) (code : StatusCode) → is_some o ≡ true → of_code bad_response_too_large ≡ code_by o code
code-aborted None code e = absurd cc
code-aborted (Some fault) code e = refl

code-whole : (o : Option CutFault) (code : StatusCode) → is_some o ≡ false → code ≡ code_by o code
code-whole None code e = refl
code-whole (Some fault) code e = absurd cc

pub sent-aborted : (r : AnsweredRequest) (o : Option CutFault) → is_some o ≡ true
    → with-code r (of_code bad_response_too_large) ≡ with-code r (code_by o r.code)
sent-aborted r o is = ap (with-code r) (code-aborted o r.code is)

pub sent-whole : (r : AnsweredRequest) (o : Option CutFault) → is_some o ≡ false → r ≡ with-code r (code_by o r.code)
sent-whole r o is = ap (with-code r) (code-whole o r.code is)
