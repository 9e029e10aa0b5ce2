use Rattle.ua_opening.specs.Message.{body_of, message}
use Rattle.ua_opening.specs.Open.{answer_read}
use Rattle.ua_opening.specs.SecureChannel.{close_request, open_request}
use Rattle.ua_services.specs.Request.{request}
use Rattle.ua_services.specs.Response.{response}
use Rattle.ua_fields.proofs.body.push_body.Goals as goal

pub returns-in-Request : goal.returns-in-Request
returns-in-Request g c = rw c.in-Request.is (c.push_found.ensures (body_of request (g.S.Source.octets c.args.src.now)) c.found_request.ensures)

pub returns-in-Response : goal.returns-in-Response
returns-in-Response g c =
    rw c.in-Response.is (c.push_found-in-Response.ensures (body_of response (g.S.Source.octets c.args.src.now)) c.found_response.ensures)

pub returns-in-OpenRequest : goal.returns-in-OpenRequest
returns-in-OpenRequest g c =
    rw c.in-OpenRequest.is (c.push_found-in-OpenRequest.ensures (body_of (message 446 open_request) (g.S.Source.octets c.args.src.now))
    c.found_open_request.ensures)

pub returns-in-OpenResponse : goal.returns-in-OpenResponse
returns-in-OpenResponse g c =
    rw c.in-OpenResponse.is (c.push_found-in-OpenResponse.ensures (answer_read (g.S.Source.octets c.args.src.now)) c.found_open_answer.ensures)

pub returns-in-CloseRequest : goal.returns-in-CloseRequest
returns-in-CloseRequest g c =
    rw c.in-CloseRequest.is (c.push_found-in-CloseRequest.ensures (body_of (message 452 close_request) (g.S.Source.octets c.args.src.now))
    c.found_close_request.ensures)
