use Rattle.ua_session.proofs.Failing.{endpoints_failed}
use Rattle.ua_session.proofs.Runs.{endpoints_left, endpoints_answer}
use Rattle.ua_session.proofs.endpoints.endpoints_over.Goals as goal

pub returns-in-Ok-clause-left : goal.returns-in-Ok-clause-left
returns-in-Ok-clause-left g c = endpoints_left g.O.Write.contents _ _ _ _ _ c.args.out.now c.ask_endpoints-asked.new.out c.ask_endpoints-asked.ensures.prints
    c.first_of.ensures

pub returns-in-Ok-clause-answered : goal.returns-in-Ok-clause-answered
returns-in-Ok-clause-answered g c = endpoints_answer g.O.Write.contents _ _ _ _ _ c.args.out.now c.ask_endpoints-asked.new.out
    c.ask_endpoints-asked.ensures.prints c.first_of.ensures

pub returns-in-Ok-clause-failed : goal.returns-in-Ok-clause-failed
returns-in-Ok-clause-failed g c = endpoints_failed _ _ _ _ _ _ _ _ _ _ _ _ _ _ _ _ _ _ _ _ c.in-Ok.ensures.opens c.in-Ok.ensures.ready
    c.ask_endpoints-asked.ensures c.close-closed.ensures c.first_of.ensures
