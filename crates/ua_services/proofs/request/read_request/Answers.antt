use Rattle.std.proofs.Common.{ap, ◌∙◌}
use Rattle.std.proofs.lemmas.Result.{err_from_is_err_and}
use Rattle.std.specs.Prelude.{Result, Err}
use Rattle.ua_services.specs.Request.{read_as_request, request_read}
use Rattle.ua_services.specs.declared.fault.RequestFault.{RequestFault}
use Rattle.ua_services.specs.declared.request.Request.{Request}
use Rattle.ua_services.specs.declared.request.RequestKind.{RequestKind}
use Rattle.ua_services.specs.declared.request.RequestKind.TheVariants.{Read}
use Rattle.ua_services.proofs.RequestRead.{read_behind, failed, request_found, request_refused, request_counted}
use Rattle.ua_services.proofs.request.read_request.Goals as goal

pub returns-in_err-kind : goal.returns-in_err-kind
returns-in_err-kind g c =
    let p = err_from_is_err_and c.from_residual.result c.from_residual.ensures.1 in
    let octets = g.S.Source.octets c.args.src.now in
    let r : Result Request RequestFault = Err c.in_err-kind.field-0.0 in
    let read = failed c.in_err-kind.field-0.0 (request_read octets) c.in_err-kind.ensures.refused in
    rw (p.1, p.2) (record {
      read = read;
      found = request_found octets r read;
      counted = request_counted octets r read;
      refused = request_refused octets r read;
    })

pub returns-in-Read : goal.returns-in-Read
returns-in-Read g c =
    let octets = g.S.Source.octets c.args.src.now in
    let r = c.read_last.result in
    let read = read_behind r (request_read octets) (read_as_request Read (g.S.Source.octets c.read_request_kind.new.src))
    (c.in_ok-kind.ensures.found ∙ ap (λ (k : RequestKind). read_as_request k (g.S.Source.octets c.read_request_kind.new.src)) c.in-Read.is)
    c.read_last.ensures in
    record { read = read; found = request_found octets r read; counted = request_counted octets r read; refused = request_refused octets r read }

pub returns-in_default : goal.returns-in_default
returns-in_default g c =
    let octets = g.S.Source.octets c.args.src.now in
    let r = c.read_request_of_kind.result in
    let read = read_behind r (request_read octets) (read_as_request c.in_ok-kind.kind (g.S.Source.octets c.read_request_kind.new.src))
    c.in_ok-kind.ensures.found c.read_request_of_kind.ensures in
    record { read = read; found = request_found octets r read; counted = request_counted octets r read; refused = request_refused octets r read }
