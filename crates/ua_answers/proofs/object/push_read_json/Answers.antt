use Rattle.std.proofs.Common.{◌≡◌, ◌∙◌, List, ℕ, ◌∷◌, ◌++◌, ap, refl, sym, string_bytes}
use Rattle.json.specs.Token.{Token, begin_object}
use Rattle.ua_answers.specs.Json.{read_json, status_fields, time_fields, value_fields}
use Rattle.ua_answers.specs.Tokens.{fields_tokens}
use Rattle.ua_texts.specs.Names.{number_of}
use Rattle.ua_answers.proofs.Ends.{status_number}
use Rattle.ua_answers.proofs.Tokens.{fields-append, line_is, put_then}
use Rattle.ua_answers.proofs.object.push_read_json.Goals as goal

pub returns : goal.returns
unfolding read_json
returns c =
    let answer = c.args.answer.now in
    let status = status_fields c.args.style.names c.args.node.now (number_of answer.status) in
    let value = value_fields answer.value in
    let times = time_fields c.args.style.times answer in
    let code : c.unwrap_or-status.result.code ≡ number_of answer.status = ap (λ s. s.code) c.unwrap_or-status.ensures ∙ status_number answer.status _ refl in
    let was = c.in_ok-put_status.ensures in
    let first : (c.put_status.new.line.before ≡ c.in_ok-line.line.before) × (c.put_status.new.line.tokens ≡ c.in_ok-line.line.tokens ++ fields_tokens status) =
    (was.0, was.1 ∙ ap (λ (k : ℕ). c.in_ok-line.line.tokens ++ fields_tokens (status_fields c.args.style.names c.args.node.now k)) code) in
    let rest = put_then c.put_status.new.line c.put_value.new.line c.put_times.new.line (fields_tokens value) (fields_tokens times) c.in_ok-put_value.ensures
    c.in_ok-put_times.ensures in
    let put = put_then c.in_ok-line.line c.put_status.new.line c.put_times.new.line (fields_tokens status) (fields_tokens value ++ fields_tokens times) first
    rest in
    let parts = fields-append status (value ++ times) ∙ ap (λ (t : List Token). fields_tokens status ++ t) (fields-append value times) in
    line_is c.end_line.result (string_bytes c.args.out.now) (string_bytes c.end_line.new.out) c.put_times.new.line.tokens (status ++ (value ++ times))
    (put.1 ∙ ap (λ (t : List Token). t ++ (fields_tokens status ++ (fields_tokens value ++ fields_tokens times))) c.in_ok-line.ensures.1
    ∙ ap (λ (t : List Token). begin_object ∷ t) (sym parts))
    c.end_line.ensures
