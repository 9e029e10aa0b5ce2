use Rattle.ua_serving.proofs.serve.limits_for.Goals as goal

pub returns : goal.returns
returns c = record { own = c.limits.result; ours = c.limits.ensures; limits_are = c.with_responses.ensures }
