use Rattle.std.proofs.Common.{ap, ◌∙◌}
use Rattle.std.proofs.lemmas.Result.{err_from_is_err_and}
use Rattle.std.specs.Prelude.{Result, Err}
use Rattle.ua_services.specs.Response.{read_as_response, response_read}
use Rattle.ua_services.specs.declared.fault.ResponseFault.{ResponseFault}
use Rattle.ua_services.specs.declared.response.Response.{Response}
use Rattle.ua_services.specs.declared.response.ResponseKind.{ResponseKind}
use Rattle.ua_services.specs.declared.response.ResponseKind.TheVariants.{Read}
use Rattle.ua_services.proofs.ResponseRead.{read_behind, failed, response_found, response_refused, response_counted}
use Rattle.ua_services.proofs.response.read_response.Goals as goal

pub returns-in_err-kind : goal.returns-in_err-kind
returns-in_err-kind g c =
    let p = err_from_is_err_and c.from_residual.result c.from_residual.ensures.1 in
    let octets = g.S.Source.octets c.args.src.now in
    let r : Result Response ResponseFault = Err c.in_err-kind.field-0.0 in
    let read = failed c.in_err-kind.field-0.0 (response_read octets) c.in_err-kind.ensures.refused in
    rw (p.1, p.2) (record {
      read = read;
      found = response_found octets r read;
      counted = response_counted octets r read;
      refused = response_refused octets r read;
    })

pub returns-in-Read : goal.returns-in-Read
returns-in-Read g c =
    let octets = g.S.Source.octets c.args.src.now in
    let r = c.read_last.result in
    let read = read_behind r (response_read octets) (read_as_response Read (g.S.Source.octets c.body_kind.new.src))
    (c.in_ok-kind.ensures.found ∙ ap (λ (k : ResponseKind). read_as_response k (g.S.Source.octets c.body_kind.new.src)) c.in-Read.is)
    c.read_last.ensures in
    record { read = read; found = response_found octets r read; counted = response_counted octets r read; refused = response_refused octets r read }

pub returns-in_default : goal.returns-in_default
returns-in_default g c =
    let octets = g.S.Source.octets c.args.src.now in
    let r = c.read_other.result in
    let read = read_behind r (response_read octets) (read_as_response c.in_ok-kind.kind (g.S.Source.octets c.body_kind.new.src))
    c.in_ok-kind.ensures.found c.read_other.ensures in
    record { read = read; found = response_found octets r read; counted = response_counted octets r read; refused = response_refused octets r read }
