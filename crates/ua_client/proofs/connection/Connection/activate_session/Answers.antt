use Rattle.ua_client.specs.Session.{activating_at, brings_any}
use Rattle.ua_client.proofs.Sessions.{made-broken, made-not, made-served}
use Rattle.ua_client.proofs.connection.Connection.activate_session.Goals as goal

pub returns-in-Err-clause-activates : goal.returns-in-Err-clause-activates
returns-in-Err-clause-activates g c =
    made-not (activating_at c.args.policy_id c.args.token.now c.args.moment) brings_any c.args.self.now (g.L.Line.traffic c.args.line.now) c.args.reads.now
    c.in-Err.fault c.in-Err.ensures

pub returns-in-Ok-serve-clause-activates : goal.returns-in-Ok-serve-clause-activates
returns-in-Ok-serve-clause-activates g c =
    made-served c.in-Ok.request c.args.self.now c.serve.new.self (g.L.Line.traffic c.args.line.now) (g.L.Line.traffic c.serve.new.line) c.args.reads.now
    c.serve.new.reads
    (activating_at c.args.policy_id c.args.token.now c.args.moment) c.in-Ok.ensures brings_any c.in-Ok-serve.reply tt tt c.in-Ok-serve.ensures.serves

pub returns-in-Err-serve-clause-activates : goal.returns-in-Err-serve-clause-activates
returns-in-Err-serve-clause-activates g c =
    made-broken c.in-Ok.request c.args.self.now c.serve.new.self (g.L.Line.traffic c.args.line.now) (g.L.Line.traffic c.serve.new.line) c.args.reads.now
    c.serve.new.reads
    (activating_at c.args.policy_id c.args.token.now c.args.moment) c.in-Ok.ensures brings_any c.in-Err-serve.fault c.in-Err-serve.ensures.serves
