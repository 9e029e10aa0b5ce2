use Rattle.ua_answers.proofs.Ends.{then_text}
use Rattle.ua_answers.specs.Answers.{plain_endpoint}
use Rattle.ua_answers.proofs.answer.push_plain_endpoint.Goals as goal

pub returns : goal.returns
unfolding plain_endpoint
returns c = then_text _ _ _ _ _ _ c.in_ok-push_address.ensures c.push_policies_part.ensures
