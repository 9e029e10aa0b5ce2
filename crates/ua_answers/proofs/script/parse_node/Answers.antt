use Rattle.std.proofs.lemmas.Result.{err_from_is_err_and}
use Rattle.ua_answers.proofs.Steps.{id_refused}
use Rattle.ua_answers.proofs.script.parse_node.Goals as goal

pub returns-in_err-parse_text : goal.returns-in_err-parse_text
returns-in_err-parse_text c =
    let p = err_from_is_err_and c.from_residual.result c.from_residual.ensures.1 in
    rw (p.1, p.2) (id_refused c.args.text.now c.in_err-parse_text.field-0.0 c.in_err-parse_text.ensures.none)
