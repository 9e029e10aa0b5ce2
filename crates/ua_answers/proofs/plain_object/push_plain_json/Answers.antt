use Rattle.std.proofs.Common.{◌≡◌, ◌∙◌, ap, refl, string_bytes}
use Rattle.ua_texts.specs.Names.{number_of}
use Rattle.ua_answers.proofs.Ends.{status_number}
use Rattle.ua_answers.proofs.PlainTokens.{json_added}
use Rattle.ua_answers.proofs.plain_object.push_plain_json.Goals as goal

pub returns : goal.returns
returns c =
    let answer = c.args.answer.now in
    let code : c.unwrap_or-status.result.code ≡ number_of answer.status = ap (λ s. s.code) c.unwrap_or-status.ensures ∙ status_number answer.status _ refl in
    json_added c.end_line.result c.args.style c.args.node.now answer c.unwrap_or-status.result.code (string_bytes c.args.out.now)
    (string_bytes c.end_line.new.out) c.in_ok-line.line c.put_status.new.line c.put_plain_value.new.line
    c.put_plain_times.new.line code c.in_ok-line.ensures.1 c.in_ok-put_status.ensures c.in_ok-put_plain_value.ensures c.in_ok-put_plain_times.ensures
    c.end_line.ensures
