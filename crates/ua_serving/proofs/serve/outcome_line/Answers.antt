use Rattle.std.proofs.Common.{rules, append_assoc}
use Rattle.ua_serving.specs.Served.{connection_line}
use Rattle.ua_serving.proofs.serve.outcome_line.Goals as goal

pub returns : goal.returns
unfolding connection_line
returns c = record {
  text = c.in_ok-push_outcome.ensures.text;
  text_is = c.in_ok-push_outcome.ensures.text_is;
  line_is = search (rules, append_assoc);
}
