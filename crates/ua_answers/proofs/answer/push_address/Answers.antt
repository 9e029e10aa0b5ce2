use Rattle.ua_answers.proofs.Ends.{then_three}
use Rattle.ua_answers.specs.Answers.{address_line}
use Rattle.ua_answers.proofs.answer.push_address.Goals as goal

pub returns : goal.returns
unfolding address_line
returns c = then_three _ _ _ _ _ _ _ _ _ _ c.in_ok-push_string.ensures c.in_ok-write.ensures.bytes c.in_ok-push_string-2.ensures c.push_str.ensures.bytes
