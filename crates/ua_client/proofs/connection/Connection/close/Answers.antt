use Rattle.std.proofs.Common.{ℕ, List, ◌<◌, length, subst}
use Rattle.ua_channel.specs.Line.{IfTrafficKnown}
use Rattle.ua_client.specs.Carried.{WritesFront}
use Rattle.ua_client.proofs.Closings.{closes-front}
use Rattle.ua_client.proofs.connection.Connection.close.Goals as goal

pub returns-clause-closes : goal.returns-clause-closes
returns-clause-closes g c =
    closes-front c.args.self.now.channel c.args.moment c.in-Ok.octets.items (g.L.Line.traffic c.args.line.now) (g.L.Line.traffic c.send_whole.new.line)
    c.in-Ok.ensures.sent
    (subst (λ (o : List ℕ). 0 < length o) c.deref.ensures.value c.in-Err.ensures.some)
    (subst (λ (o : List ℕ). IfTrafficKnown (WritesFront o) (g.L.Line.traffic c.args.line.now) (g.L.Line.traffic c.send_whole.new.line)) c.deref.ensures.value
    c.in-Err.ensures.written)
