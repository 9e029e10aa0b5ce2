use Rattle.std.proofs.Common.{sym, ◌∙◌}
use Rattle.ua_services.specs.Request.{request, request_read}
use Rattle.ua_services.specs.declared.fault.RequestFault.TheVariants as fault
use Rattle.ua_opening.specs.Message.{body_of}
use Rattle.ua_fields.proofs.Found.{missing, there}
use Rattle.ua_fields.proofs.body.found_request.Goals as goal

pub returns-in-Ok : goal.returns-in-Ok
unfolding request_read
returns-in-Ok g c =
    there (body_of request (g.S.Source.octets c.args.src.now)) _ c.read_request.result c.in-Ok.request fault.OutOfMemory c.read_request.ensures.read c.in-Ok.is

pub returns-in-Err-Unsupported : goal.returns-in-Err-Unsupported
unfolding request_read
returns-in-Err-Unsupported g c =
    missing (body_of request (g.S.Source.octets c.args.src.now)) _ c.read_request.result c.in-Err-Unsupported.field-0 fault.OutOfMemory
    c.read_request.ensures.read c.in-Err-Unsupported.is (λ e. let both = sym c.in-Err-Unsupported.field-0-is ∙ e in cc)

pub returns-in-Err-Unreadable : goal.returns-in-Err-Unreadable
unfolding request_read
returns-in-Err-Unreadable g c =
    missing (body_of request (g.S.Source.octets c.args.src.now)) _ c.read_request.result c.in-Err-Unreadable.field-0 fault.OutOfMemory
    c.read_request.ensures.read c.in-Err-Unreadable.is (λ e. let both = sym c.in-Err-Unreadable.field-0-is ∙ e in cc)
