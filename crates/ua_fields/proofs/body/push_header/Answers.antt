use Rattle.ua_opening.specs.Header.{service_fault}
use Rattle.ua_opening.specs.SecureChannel.{close_request}
use Rattle.ua_fields.specs.Bodies.{behind_id}
use Rattle.ua_fields.proofs.body.push_header.Goals as goal

pub returns-in-Client : goal.returns-in-Client
returns-in-Client g c = rw c.in-Client.is (c.push_found.ensures (behind_id close_request (g.S.Source.octets c.args.src.now)) c.found_behind.ensures)

pub returns-in-Server : goal.returns-in-Server
returns-in-Server g c =
    rw c.in-Server.is (c.push_found-in-Server.ensures (behind_id service_fault (g.S.Source.octets c.args.src.now)) c.found_behind-in-Server.ensures)
