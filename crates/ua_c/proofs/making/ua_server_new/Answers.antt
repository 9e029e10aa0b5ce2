use Rattle.ua_c.proofs.Made.{server_made}
use Rattle.ua_c.proofs.making.ua_server_new.Goals as goal

-- the server that was made
pub returns-in-Ok : goal.returns-in-Ok
returns-in-Ok c =
    server_made c.args.nodes.now c.args.limits.now c.args.url.now c.args.channel c.args.out.now.value c.seat.new.out.value c.station.new.line c.seat.result
    c.in-Some.limits c.in-Ok.station c.in-Some.ensures.0 c.in-Some.ensures.1 c.in-Ok.ensures.1 c.in-Ok.ensures.0 c.seat.ensures
