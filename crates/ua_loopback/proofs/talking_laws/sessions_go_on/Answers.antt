use Rattle.ua_loopback.proofs.Sessions.{begins_answered, begins_fails, begins_on, begins_sent}
use Rattle.ua_loopback.proofs.talking_laws.sessions_go_on.Goals as goal

pub returns-clause-stays : goal.returns-clause-stays
returns-clause-stays c = λ t policy_id moment x y before after result k begins left.
    begins_on t x before k y after c.clients_are_settled.ensures.none_pending policy_id moment result begins left

pub returns-clause-sends : goal.returns-clause-sends
returns-clause-sends c = λ t policy_id moment x y before after result k begins.
    begins_sent t x before k y after c.clients_are_settled.ensures.none_pending policy_id moment result begins

pub returns-clause-fails : goal.returns-clause-fails
returns-clause-fails c = λ t policy_id moment x y before after result k begins.
    begins_fails t x before k y after c.clients_are_settled.ensures.none_pending policy_id moment c.calls_are_told_behind.ensures result begins

pub returns-clause-answered : goal.returns-clause-answered
returns-clause-answered c = λ t policy_id moment x y before after result k begins sound.
    begins_answered t x before k y after c.clients_are_settled.ensures.none_pending policy_id moment c.calls_are_told_behind.ensures result begins sound
