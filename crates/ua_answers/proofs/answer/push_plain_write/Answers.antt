use Rattle.ua_answers.proofs.Ends.{then_one}
use Rattle.ua_answers.specs.Answers.{plain_write}
use Rattle.ua_answers.proofs.answer.push_plain_write.Goals as goal

pub returns : goal.returns
unfolding plain_write
returns c = then_one _ _ _ _ _ _ c.in_ok-push_status.ensures c.push_str.ensures.bytes
