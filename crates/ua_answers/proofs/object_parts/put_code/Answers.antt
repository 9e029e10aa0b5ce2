use Rattle.std.proofs.Common.{◌∷◌, [], codes}
use Rattle.json.specs.Json as json
use Rattle.json.specs.Token as token
use Rattle.ua_answers.specs.Json.{name_fields}
use Rattle.ua_texts.specs.Names.{name_of_code}
use Rattle.ua_texts.specs.Shown.{code_text}
use Rattle.ua_answers.specs.Tokens.{fields_tokens}
use Rattle.ua_answers.proofs.Tokens.{object_whole, one_last, put_one, put_then}
use Rattle.ua_answers.proofs.object_parts.put_code.Goals as goal

pub returns : goal.returns
returns c =
    let name = name_fields c.args.names (name_of_code c.args.status.code) in
    let code = code_text c.args.status.code in
    let members = put_then c.begin_object.new.self c.put_digits.new.line c.put_name.new.line (token.key (codes "code") ∷ token.string code ∷ [])
    (fields_tokens name) c.in_ok-put_digits.ensures c.in_ok-put_name.ensures in
    object_whole c.end_object.result c.args.line.now c.begin_object.new.self c.put_name.new.line c.end_object.new.self
    ((codes "code", json.string code) ∷ name) (put_one c.in_ok-begin_object.ensures) members (one_last c.end_object.ensures)
