use Rattle.ua_answers.specs.Json.{signed_json}
use Rattle.ua_answers.proofs.Tokens.{array_put, one_last, put_one}
use Rattle.ua_answers.proofs.object.put_size_list.Goals as goal

pub returns : goal.returns
returns c =
    array_put c.end_array.result c.args.line.now c.begin_array.new.self c.put_sizes.new.line c.end_array.new.self signed_json c.args.dims.now
    (put_one c.in_ok-begin_array.ensures) c.in_ok-put_sizes.ensures
    (one_last c.end_array.ensures)
