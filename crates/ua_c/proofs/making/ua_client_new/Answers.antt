use Rattle.ua_c.proofs.Made.{client_made}
use Rattle.ua_c.proofs.making.ua_client_new.Goals as goal

-- the client that was made
pub returns-in-Ok : goal.returns-in-Ok
returns-in-Ok c =
    let new = c.new-client.ensures in
    client_made c.args.limits.now c.args.url.now c.args.out.now.value c.seat.new.out.value c.seat.result c.in-Some.limits c.in-Ok.url c.new-client.result
    c.in-Some.ensures.0 c.in-Some.ensures.1 c.in-Ok.ensures.value new.stands new.limits new.url new.next c.seat.ensures
