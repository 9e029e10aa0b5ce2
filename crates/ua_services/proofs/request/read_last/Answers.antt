use Rattle.std.proofs.Common.{sym, inl}
use Rattle.std.proofs.lemmas.Result.{err_from_is_err_and}
use Rattle.ua_services.specs.Request.{read_as_request}
use Rattle.ua_services.specs.declared.request.RequestKind.TheVariants.{Read}
use Rattle.ua_services.proofs.RequestRead.{failed}
use Rattle.ua_services.proofs.request.read_last.Goals as goal

pub returns-in_err-read_read_request : goal.returns-in_err-read_read_request
returns-in_err-read_read_request g c =
    let p = err_from_is_err_and c.from_residual.result c.from_residual.ensures.1 in
    rw (p.1, p.2) (failed c.in_err-read_read_request.field-0.0 (read_as_request Read (g.S.Source.octets c.args.src.now))
    c.in_err-read_read_request.ensures.refused)

pub returns : goal.returns
returns g c = inl (sym c.in_ok-read_read_request.ensures.read)
