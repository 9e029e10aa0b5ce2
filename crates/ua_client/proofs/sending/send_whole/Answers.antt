use Rattle.std.proofs.Common.{arith}
use Rattle.ua_client.proofs.Carrying.{sent-whole, sent-front}
use Rattle.ua_client.proofs.sending.send_whole.Goals as goal

pub returns-in-Ok-clause-written : goal.returns-in-Ok-clause-written
returns-in-Ok-clause-written g c = sent-whole c.args.octets.now (g.L.Line.traffic c.args.line.now) (g.L.Line.traffic c.write_whole.new.line)
    c.in-Ok.ensures.wrote

pub returns-in-Err-clause-written : goal.returns-in-Err-clause-written
returns-in-Err-clause-written g c = sent-front c.args.octets.now c.in-Err.field-0 (g.L.Line.traffic c.args.line.now) (g.L.Line.traffic c.write_whole.new.line)
    c.in-Err.ensures.within c.in-Err.ensures.wrote

pub returns-in-Err-clause-some : goal.returns-in-Err-clause-some
returns-in-Err-clause-some g c = omega (arith, c.in-Err.ensures.within)
