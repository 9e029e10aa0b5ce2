use Rattle.std.proofs.Common.{◌≡◌, ◌⊎◌, None, Some}
use Rattle.ua_loopback.specs.Accepted.{IsTurnFault, turn_refusal_under}
use Rattle.ua_loopback.specs.Faults.{FailsBehind, IsOutside}
use Rattle.ua_loopback.specs.Talking.{IsTalking, acked_in, with_turn}
use Rattle.ua_headline.proofs.Answering.{err_by_both, found_by, ok_by, own_or_outside_ever, unit_found}
use Rattle.ua_headline.proofs.answering_laws.accepted_renewals_are_answered.Goals as goal

pub returns-clause-faults : goal.returns-clause-faults
returns-clause-faults c = λ t x y before after result talks renews.
    err_by_both (FailsBehind ⊥) (λ f. IsTurnFault f → turn_refusal_under (acked_in t) t.turns None ≡ Some f)
    (λ f. (turn_refusal_under (acked_in t) t.turns None ≡ Some f) ⊎ IsOutside f) result (own_or_outside_ever (turn_refusal_under (acked_in t) t.turns None))
    (c.renewals_go_on.ensures.fails t x y before after result talks renews) (c.renewals_go_on.ensures.refused t x y before after result talks renews)

pub returns-clause-answered : goal.returns-clause-answered
returns-clause-answered c = λ t x y before after result talks renews left accepted had few.
    unit_found (IsTalking (with_turn t c.args.moment None) y after) result
    (found_by t.server t.octets before after few (λ found. IsTalking (with_turn t c.args.moment None) y after)
    (turn_refusal_under (acked_in t) t.turns None) result accepted had
    (ok_by (IsTalking (with_turn t c.args.moment None) y after) result
    (c.renewals_go_on.ensures.stays t x y before after result talks renews left))
    (returns-clause-faults c t x y before after result talks renews) (c.renewals_go_on.ensures.stops t x y before after result talks renews))
