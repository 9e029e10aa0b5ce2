use Rattle.ua_answers.specs.Json.{policy_json}
use Rattle.ua_answers.proofs.Tokens.{array_put, one_last, put_one}
use Rattle.ua_answers.proofs.object.put_policy_array.Goals as goal

pub returns : goal.returns
returns c =
    array_put c.end_array.result c.args.line.now c.begin_array.new.self c.put_each_policy.new.line c.end_array.new.self policy_json c.args.policies.now
    (put_one c.in_ok-begin_array.ensures) c.in_ok-put_each_policy.ensures
    (one_last c.end_array.ensures)
