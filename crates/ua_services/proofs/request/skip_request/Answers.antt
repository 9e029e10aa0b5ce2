use Rattle.std.proofs.lemmas.Result.{err_from_is_err_and}
use Rattle.std.specs.Prelude.{Err}
use Rattle.ua_services.specs.Request.{read_as_request, request_read}
use Rattle.ua_services.proofs.RequestRead.{failed}
use Rattle.ua_services.proofs.RequestSkipped.{body_skipped, skips}
use Rattle.ua_services.proofs.request.skip_request.Goals as goal

pub returns-in_err-kind : goal.returns-in_err-kind
returns-in_err-kind g c =
    let p = err_from_is_err_and c.from_residual.result c.from_residual.ensures.1 in
    let read = request_read (g.S.Source.octets c.args.src.now) in
    rw (p.1, p.2) (record { kind = skips (Err c.in_err-kind.field-0.0) read (failed c.in_err-kind.field-0.0 read c.in_err-kind.ensures.refused) })

pub returns : goal.returns
returns g c = record {
  kind = body_skipped c.skip_last.result (request_read (g.S.Source.octets c.args.src.now))
      (read_as_request c.in_ok-kind.kind (g.S.Source.octets c.read_request_kind.new.src))
      c.in_ok-kind.ensures.found c.skip_last.ensures;
}
