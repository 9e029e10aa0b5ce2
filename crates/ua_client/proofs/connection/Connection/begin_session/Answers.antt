use Rattle.ua_client.proofs.Sessions.{begins-first, begins-second, begins-both}
use Rattle.ua_client.proofs.connection.Connection.begin_session.Goals as goal

pub returns-in-Err-clause-begins : goal.returns-in-Err-clause-begins
returns-in-Err-clause-begins g c =
    begins-first c.args.policy_id c.args.moment c.args.self.now c.create_session.new.self (g.L.Line.traffic c.args.line.now)
    (g.L.Line.traffic c.create_session.new.line) c.create_session.new.reads c.in-Err.fault c.in-Err.ensures.creates
    (λ s at. c.clients_are_settled.ensures.idle c.args.self.now.channel s c.requires.settled at)

pub returns-in-Ok-activate_session-clause-begins : goal.returns-in-Ok-activate_session-clause-begins
returns-in-Ok-activate_session-clause-begins g c =
    begins-both c.args.policy_id c.args.moment c.args.self.now c.create_session.new.self c.activate_session.new.self (g.L.Line.traffic c.args.line.now)
    (g.L.Line.traffic c.create_session.new.line) (g.L.Line.traffic c.activate_session.new.line)
    c.create_session.new.reads c.activate_session.new.reads c.in-Ok.token c.in-Ok.ensures.creates c.requires.settled c.clients_are_settled.ensures.idle
    c.in-Ok-activate_session.ensures.activates

pub returns-in-Err-activate_session-clause-begins : goal.returns-in-Err-activate_session-clause-begins
returns-in-Err-activate_session-clause-begins g c =
    begins-second c.args.policy_id c.args.moment c.args.self.now c.create_session.new.self c.activate_session.new.self (g.L.Line.traffic c.args.line.now)
    (g.L.Line.traffic c.create_session.new.line) (g.L.Line.traffic c.activate_session.new.line)
    c.create_session.new.reads c.activate_session.new.reads c.in-Ok.token c.in-Ok.ensures.creates c.requires.settled c.clients_are_settled.ensures.idle
    c.in-Err-activate_session.fault c.in-Err-activate_session.ensures.activates
