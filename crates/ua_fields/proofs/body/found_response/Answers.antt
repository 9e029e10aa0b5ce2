use Rattle.std.proofs.Common.{sym, ◌∙◌}
use Rattle.ua_services.specs.Response.{response, response_read}
use Rattle.ua_services.specs.declared.fault.ResponseFault.TheVariants as fault
use Rattle.ua_opening.specs.Message.{body_of}
use Rattle.ua_fields.proofs.Found.{missing, there}
use Rattle.ua_fields.proofs.body.found_response.Goals as goal

pub returns-in-Ok : goal.returns-in-Ok
unfolding response_read
returns-in-Ok g c =
    there (body_of response (g.S.Source.octets c.args.src.now)) _ c.read_response.result c.in-Ok.response fault.OutOfMemory c.read_response.ensures.read
    c.in-Ok.is

pub returns-in-Err-Unknown : goal.returns-in-Err-Unknown
unfolding response_read
returns-in-Err-Unknown g c =
    missing (body_of response (g.S.Source.octets c.args.src.now)) _ c.read_response.result c.in-Err-Unknown.field-0 fault.OutOfMemory
    c.read_response.ensures.read c.in-Err-Unknown.is (λ e. let both = sym c.in-Err-Unknown.field-0-is ∙ e in cc)

pub returns-in-Err-Unreadable : goal.returns-in-Err-Unreadable
unfolding response_read
returns-in-Err-Unreadable g c =
    missing (body_of response (g.S.Source.octets c.args.src.now)) _ c.read_response.result c.in-Err-Unreadable.field-0 fault.OutOfMemory
    c.read_response.ensures.read c.in-Err-Unreadable.is (λ e. let both = sym c.in-Err-Unreadable.field-0-is ∙ e in cc)
