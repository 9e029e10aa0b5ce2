use Rattle.ua_client.proofs.Sessions.{serves-broken, serves-judged}
use Rattle.ua_client.proofs.connection.Connection.serve.Goals as goal

pub returns-in-Ok-clause-serves : goal.returns-in-Ok-clause-serves
returns-in-Ok-clause-serves g c =
    serves-judged c.args.request c.args.self.now c.call_one-replied.new.self (g.L.Line.traffic c.args.line.now) (g.L.Line.traffic c.call_one-replied.new.line)
    c.args.reads.now c.call_one-replied.new.reads
    c.in-Ok.reply c.judge_reply.result c.in-Ok.ensures.calls c.judge_reply.ensures.good c.judge_reply.ensures.bad

pub returns-in-Err-clause-serves : goal.returns-in-Err-clause-serves
returns-in-Err-clause-serves g c =
    serves-broken c.args.request c.args.self.now c.call_one-replied.new.self (g.L.Line.traffic c.args.line.now) (g.L.Line.traffic c.call_one-replied.new.line)
    c.args.reads.now c.call_one-replied.new.reads
    c.in-Err.fault c.in-Err.ensures.calls
