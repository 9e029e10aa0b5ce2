use Rattle.std.proofs.Common.{◌≡◌, ◌++◌, ◌∙◌, ap, refl, string_bytes}
use Rattle.ua_answers.proofs.Ends.{status_number, then_three}
use Rattle.ua_answers.specs.Answers.{plain_read, status_text}
use Rattle.ua_texts.specs.Names.{number_of}
use Rattle.ua_answers.proofs.answer.push_plain_read.Goals as goal

pub returns : goal.returns
unfolding plain_read
returns c =
    let code : c.unwrap_or.result.code ≡ number_of c.args.answer.now.status = ap (λ s. s.code) c.unwrap_or.ensures
    ∙ status_number c.args.answer.now.status _ refl in
    then_three _ _ _ _ _ _ _ _ _ _ (c.in_ok-push_status.ensures
    ∙ ap (λ k. string_bytes c.args.out.now ++ status_text c.args.style.names c.args.node.now k) code) c.in_ok-push_value_part.ensures
    c.in_ok-push_times_part.ensures c.push_str.ensures.bytes
