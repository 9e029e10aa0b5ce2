use Rattle.ua_session.proofs.InSession.{question_leaves, question_written}
use Rattle.ua_session.proofs.client_session.ClientSession.ask.Goals as goal

pub returns-clause-answered : goal.returns-clause-answered
returns-clause-answered g c = question_written g.O.Write.contents _ _ _ _ c.args.out.now c.print.new.out c.print.ensures

pub returns-clause-left : goal.returns-clause-left
returns-clause-left g c = question_leaves g.O.Write.contents _ _ _ _ c.args.out.now c.print.new.out c.print.ensures
