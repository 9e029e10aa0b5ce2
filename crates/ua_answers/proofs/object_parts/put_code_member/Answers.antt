use Rattle.ua_answers.specs.ObjectParts.{code_object}
use Rattle.ua_answers.proofs.Tokens.{field_put, put_one}
use Rattle.ua_answers.proofs.object_parts.put_code_member.Goals as goal

pub returns-in_ok-key-in-Some : goal.returns-in_ok-key-in-Some
returns-in_ok-key-in-Some c =
    rw c.in-Some.is (field_put c.put_code.result c.args.line.now c.key.new.self c.put_code.new.line c.args.name.now
    (code_object c.args.names c.in-Some.status.code) (put_one c.in_ok-key-in-Some.ensures) c.put_code.ensures)
