use Rattle.std.proofs.Common.{codes}
use Rattle.ua_answers.specs.Json.{policies_json}
use Rattle.ua_answers.proofs.Tokens.{field_put, put_one}
use Rattle.ua_answers.proofs.object.put_policy_field.Goals as goal

pub returns : goal.returns
returns c = field_put c.put_policy_list.result c.args.line.now c.key.new.self c.put_policy_list.new.line (codes "policies") (policies_json c.args.policies.now)
    (put_one c.in_ok-key.ensures) c.put_policy_list.ensures
