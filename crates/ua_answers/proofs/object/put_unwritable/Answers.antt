use Rattle.std.proofs.Common.{codes, true}
use Rattle.json.specs.Json.{boolean}
use Rattle.ua_answers.proofs.Tokens.{field_put, one_last, put_one}
use Rattle.ua_answers.proofs.object.put_unwritable.Goals as goal

pub returns : goal.returns
returns c = field_put c.boolean.result c.args.line.now c.key.new.self c.boolean.new.self (codes "unwritable") (boolean true) (put_one c.in_ok-key.ensures)
    (one_last c.boolean.ensures)
