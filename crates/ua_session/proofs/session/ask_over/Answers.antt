use Rattle.ua_session.proofs.Failing.{question_failed}
use Rattle.ua_session.proofs.Runs.{question_left, question_answers}
use Rattle.ua_session.proofs.session.ask_over.Goals as goal

pub returns-in-Ok-clause-left : goal.returns-in-Ok-clause-left
returns-in-Ok-clause-left g c = question_left _ _ _ _ _ _ _ _ _ _ _ _ _ _ _ _ _ c.ask_by_policy-asked.ensures c.first_of.ensures

pub returns-in-Ok-clause-answered : goal.returns-in-Ok-clause-answered
returns-in-Ok-clause-answered g c = question_answers _ _ _ _ _ _ _ _ _ _ _ _ _ _ _ _ _ c.ask_by_policy-asked.ensures c.first_of.ensures

pub returns-in-Ok-clause-failed : goal.returns-in-Ok-clause-failed
returns-in-Ok-clause-failed g c = question_failed _ _ _ _ _ _ _ _ _ _ _ _ _ _ _ _ _ _ _ _ _ _ c.in-Ok.ensures.opens c.in-Ok.ensures.ready
    c.ask_by_policy-asked.ensures c.close-closed.ensures c.first_of.ensures
