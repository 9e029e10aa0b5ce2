use Rattle.ua_client.specs.Client.{connection_of}
use Rattle.ua_client.proofs.Sessions.{begins-unasked}
use Rattle.ua_services.specs.SessionRequests.{anonymous_id}
use Rattle.ua_client.proofs.client.Client.begin_session.Goals as goal

pub returns-in-Err-clause-begins : goal.returns-in-Err-clause-begins
returns-in-Err-clause-begins g c = λ ready. begins-unasked anonymous_id c.args.moment (connection_of c.args.self.now) (g.L.Line.traffic c.args.line.now)
