use Rattle.std.proofs.Common.{◌≡◌, ◌∙◌, ap, refl}
use Rattle.ua_texts.specs.Names.{number_of}
use Rattle.ua_answers.proofs.Ends.{status_number}
use Rattle.ua_answers.proofs.PlainPairs.{read_added}
use Rattle.ua_answers.proofs.plain_answer.push_plain_line.Goals as goal

pub returns : goal.returns
returns c =
    let code : c.unwrap_or.result.code ≡ number_of c.args.answer.now.status = ap (λ s. s.code) c.unwrap_or.ensures
    ∙ status_number c.args.answer.now.status _ refl in
    read_added c.push_str.result c.args.style c.args.node.now c.args.answer.now c.unwrap_or.result.code _ _ _ _ _ code c.in_ok-push_status.ensures
    c.in_ok-push_plain_value_part.ensures c.in_ok-push_plain_times_part.ensures
    c.push_str.ensures.bytes
