use Rattle.std.proofs.Common.{◌≡◌, ◌⊎◌, [], None, Some, inr, refl}
use Rattle.ua_loopback.specs.Faults.{IsOutside}
use Rattle.ua_loopback.specs.Talking.{IsTalking, opening}
use Rattle.ua_headline.proofs.Answering.{err_by, found_by}
use Rattle.ua_headline.proofs.answering_laws.openings_are_answered.Goals as goal

pub returns : goal.returns
returns c = record {
  answered = λ b url before after result fits can line short opens had few.
      found_by b [] before after few (λ client. IsTalking (opening b c.args.limits url c.args.moment) client after) None result refl had
      (c.openings_begin_talks.ensures.begins b url before after result fits can line opens)
      (err_by IsOutside (λ f. (None ≡ Some f) ⊎ IsOutside f) result (λ f o. inr o)
      (c.openings_begin_talks.ensures.fails b url before after result fits can line short opens))
      (c.openings_begin_talks.ensures.stops b url before after result fits can line short opens);
}
