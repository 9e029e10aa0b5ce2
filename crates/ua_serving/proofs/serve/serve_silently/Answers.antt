use Rattle.std.proofs.lemmas.Result.{IfOk-weaker}
use Rattle.ua_serving.proofs.serve.serve_silently.Goals as goal

pub returns : goal.returns
returns g c = IfOk-weaker c.outcome_line.result _ _ (λ text said. record {
  limits = c.limits_for.result;
  limited = c.limits_for.ensures;
  outcome = c.serve_application-outcome.result;
  served = ((_, _), c.serve_application-outcome.ensures.serves);
  text = said.text;
  text_is = said.text_is;
  line_is = said.line_is;
}) c.outcome_line.ensures
