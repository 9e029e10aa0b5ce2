use Rattle.std.proofs.Common.{◌≡◌, ◌⊎◌, Some, map}
use Rattle.ua_client.specs.declared.fault.ClientFault.TheVariants.{UnknownResponse}
use Rattle.ua_loopback.specs.Accepted.{IsTurnFault, turn_refusal_under}
use Rattle.ua_loopback.specs.Faults.{FailsBehind, IsOutside}
use Rattle.ua_loopback.specs.Replies.{HaveMisanswer, lane_back_by_token, requests_replies}
use Rattle.ua_loopback.specs.Talking.{acked_in, answers_in, newest_in, state_in}
use Rattle.ua_headline.proofs.Answering.{err_by_all, found_by, own_or_outside}
use Rattle.ua_headline.proofs.answering_laws.accepted_calls_are_answered.Goals as goal

pub returns-clause-faults : goal.returns-clause-faults
returns-clause-faults g c = λ replies t requests x y before after result talks calls sound.
    err_by_all (FailsBehind (HaveMisanswer (state_in t) t.server.moments (answers_in t) requests))
    (λ f. IsTurnFault f → turn_refusal_under (acked_in t) t.turns (Some requests) ≡ Some f) (λ f. f ≡ UnknownResponse → ⊥)
    (λ f. (turn_refusal_under (acked_in t) t.turns (Some requests) ≡ Some f) ⊎ IsOutside f) result
    (own_or_outside (HaveMisanswer (state_in t) t.server.moments (answers_in t) requests) (turn_refusal_under (acked_in t) t.turns (Some requests)))
    (c.calls_go_on.ensures.fails replies t requests x y before after result talks calls)
    (c.calls_go_on.ensures.refused replies t requests x y before after result talks calls)
    (c.calls_go_on.ensures.answered replies t requests x y before after result talks calls sound)

pub returns-clause-answered : goal.returns-clause-answered
returns-clause-answered g c = λ replies t requests x y before after result talks calls sound accepted had few.
    found_by t.server t.octets before after few
    (λ found. map Some (replies found) ≡ requests_replies (lane_back_by_token t.server t.limits t.url (newest_in t)) (state_in t) t.server.moments
    (answers_in t) requests)
    (turn_refusal_under (acked_in t) t.turns (Some requests)) result accepted had
    (c.calls_go_on.ensures.replied replies t requests x y before after result talks calls)
    (returns-clause-faults g c replies t requests x y before after result talks calls sound)
    (c.calls_go_on.ensures.stops replies t requests x y before after result talks calls)
