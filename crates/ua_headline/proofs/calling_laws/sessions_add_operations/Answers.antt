use Rattle.ua_headline.proofs.SessionCalls.{session_done, session_fails}
use Rattle.ua_headline.proofs.calling_laws.sessions_add_operations.Goals as goal

pub returns-clause-answered : goal.returns-clause-answered
returns-clause-answered c = λ e deeds policy_id moment x y read written before after token h k.
    session_done e deeds x y read written h before after k.sent k.moves k.same policy_id moment token (k.answers h.done.did.last h.at)

pub returns-clause-failed : goal.returns-clause-failed
returns-clause-failed c = λ e deeds policy_id moment x y read written before after fault h k.
    session_fails e deeds x y read written h before after k.sent k.moves k.same policy_id moment fault (k.answers h.done.did.last h.at)
