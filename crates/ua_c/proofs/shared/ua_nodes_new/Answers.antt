use Rattle.ua_c.proofs.Connected.{nodes_made}
use Rattle.ua_c.proofs.shared.ua_nodes_new.Goals as goal

-- the nodes that were made
pub returns-in-Ok : goal.returns-in-Ok
returns-in-Ok c =
    nodes_made c.args.file.now c.args.url.now c.args.application_uri.now c.args.name.now c.args.max_message_size c.args.out.now.value c.seat.new.out.value
    c.shared.new.line c.shared.new.reason c.seat.result
    c.in-Ok.nodes c.in-Ok.ensures.2 c.in-Ok.ensures.0 c.in-Ok.ensures.1 c.seat.ensures
