use Rattle.std.proofs.Common.{◌∙◌, List, ◌∷◌, ◌++◌, ap, sym, string_bytes}
use Rattle.json.specs.Token.{Token, begin_object}
use Rattle.ua_answers.specs.Json.{address_fields, endpoint_json, policy_fields}
use Rattle.ua_answers.specs.Tokens.{fields_tokens}
use Rattle.ua_answers.proofs.Tokens.{fields-append, line_is, put_then}
use Rattle.ua_answers.proofs.object.push_endpoint_json.Goals as goal

pub returns : goal.returns
unfolding endpoint_json
returns c =
    let address = address_fields c.args.endpoint.now in
    let policies = policy_fields c.args.style.policies c.args.endpoint.now.user_identity_tokens in
    let put = put_then c.in_ok-line.line c.put_address.new.line c.put_policies.new.line (fields_tokens address)
    (fields_tokens policies) c.in_ok-put_address.ensures c.in_ok-put_policies.ensures in
    line_is c.end_line.result (string_bytes c.args.out.now) (string_bytes c.end_line.new.out) c.put_policies.new.line.tokens (address ++ policies)
    (put.1 ∙ ap (λ (t : List Token). t ++ (fields_tokens address ++ fields_tokens policies)) c.in_ok-line.ensures.1
    ∙ ap (λ (t : List Token). begin_object ∷ t) (sym (fields-append address policies)))
    c.end_line.ensures
