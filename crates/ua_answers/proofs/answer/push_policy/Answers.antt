use Rattle.ua_answers.proofs.Ends.{then_three}
use Rattle.ua_answers.specs.Answers.{policy_line}
use Rattle.ua_answers.proofs.answer.push_policy.Goals as goal

pub returns : goal.returns
unfolding policy_line
returns c = then_three _ _ _ _ _ _ _ _ _ _ c.in_ok-push_str.ensures.bytes c.in_ok-push_string.ensures c.in_ok-write.ensures.bytes c.push_str-2.ensures.bytes
