use Rattle.ua_session.proofs.InSession.{endpoints_leave, endpoints_written}
use Rattle.ua_session.proofs.client_session.ClientSession.ask_endpoints.Goals as goal

pub returns-clause-answered : goal.returns-clause-answered
returns-clause-answered g c = endpoints_written g.O.Write.contents _ _ _ c.args.out.now c.print_endpoints.new.out c.print_endpoints.ensures

pub returns-clause-left : goal.returns-clause-left
returns-clause-left g c = endpoints_leave g.O.Write.contents _ _ _ c.args.out.now c.print_endpoints.new.out c.print_endpoints.ensures
