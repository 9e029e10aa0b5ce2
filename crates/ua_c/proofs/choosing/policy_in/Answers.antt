use Rattle.std.specs.Prelude.{string_bytes}
use Rattle.std.proofs.Common.{rules, ◌≡◌, IfOk, subst}
use Rattle.ua_services.specs.Policy.{array_items}
use Rattle.ua_c.specs.Choosing.{IsChosenAmong}
use Rattle.ua_c.proofs.Chosen.{chosen_in}
use Rattle.ua_c.proofs.choosing.policy_in.Goals as goal

-- what the list gives
pub returns-in-GetEndpoints-clause-text : goal.returns-in-GetEndpoints-clause-text
returns-in-GetEndpoints-clause-text c =
    let same : c.unwrap_or-endpoints.result.now ≡ array_items c.in-GetEndpoints.message.endpoints = search rules in
    chosen_in c.args.response.now c.in-GetEndpoints.message.endpoints c.policy_among.result (search rules)
    (subst (λ e. IfOk c.policy_among.result (λ text. IsChosenAmong e (string_bytes text))) same c.policy_among.ensures.text)
