use Rattle.ua_c.proofs.Connected.{connection_made}
use Rattle.ua_c.proofs.connecting.ua_connection_new.Goals as goal

-- the connection that was made
pub returns-in-Some : goal.returns-in-Some
returns-in-Some c =
    let new = c.new-connection.ensures in
    connection_made c.args.limits.now c.args.channel c.args.out.now.value c.seat.new.out.value c.seat.result c.in-Some.limits
    (record { connection = c.new-connection.result; written = c.nothing-written.result })
    c.in-Some.ensures.0 c.in-Some.ensures.1
    (record { among = new.among; history = new.history; holds = new.holds; session_is = new.session; limits_is = new.limits; channel_is = new.channel })
    c.nothing-written.ensures c.seat.ensures
