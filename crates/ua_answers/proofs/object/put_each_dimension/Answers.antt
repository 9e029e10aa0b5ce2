use Rattle.std.proofs.Common.{codes, map}
use Rattle.ua_answers.specs.Json.{json_array, signed_json}
use Rattle.ua_answers.proofs.Tokens.{field_put, put_one}
use Rattle.ua_answers.proofs.object.put_each_dimension.Goals as goal

pub returns : goal.returns
returns c =
    field_put c.put_size_list.result c.args.line.now c.key.new.self c.put_size_list.new.line (codes "dimensions") (json_array (map signed_json c.args.dims.now))
    (put_one c.in_ok-key.ensures) c.put_size_list.ensures
