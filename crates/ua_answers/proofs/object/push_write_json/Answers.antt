use Rattle.std.proofs.Common.{◌∙◌, List, ◌++◌, ap, string_bytes}
use Rattle.json.specs.Token.{Token}
use Rattle.ua_answers.specs.Json.{status_fields, write_json}
use Rattle.ua_answers.specs.Tokens.{fields_tokens}
use Rattle.ua_answers.proofs.Tokens.{line_is}
use Rattle.ua_answers.proofs.object.push_write_json.Goals as goal

pub returns : goal.returns
unfolding write_json
returns c =
    let status = status_fields c.args.style.names c.args.node.now c.args.status.code in
    line_is c.end_line.result (string_bytes c.args.out.now) (string_bytes c.end_line.new.out) c.put_status.new.line.tokens status (c.in_ok-put_status.ensures.1
    ∙ ap (λ (t : List Token). t ++ fields_tokens status) c.in_ok-line.ensures.1) c.end_line.ensures
