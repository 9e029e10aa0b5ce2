use Rattle.std.specs.Prelude.{Ok, Err}
use Rattle.ua_client.specs.Client.{connection_of}
use Rattle.ua_client.proofs.Sessions.{begins-told}
use Rattle.ua_client.proofs.client.Client.begin_session_as.Goals as goal

pub returns-in-Ok-clause-begins : goal.returns-in-Ok-clause-begins
returns-in-Ok-clause-begins g c = λ ready.
    begins-told c.args.policy_id c.args.moment (connection_of c.args.self.now) (connection_of c.try_begin_session.new.self) (g.L.Line.traffic c.args.line.now)
    (g.L.Line.traffic c.try_begin_session.new.line) (Ok c.in-Ok.token) (c.in-Ok.ensures.begins ready)

pub returns-in-Err-clause-begins : goal.returns-in-Err-clause-begins
returns-in-Err-clause-begins g c = λ ready.
    begins-told c.args.policy_id c.args.moment (connection_of c.args.self.now) (connection_of c.try_begin_session.new.self) (g.L.Line.traffic c.args.line.now)
    (g.L.Line.traffic c.try_begin_session.new.line) (Err c.in-Err.failed) (c.in-Err.ensures.begins ready)
