use Rattle.std.proofs.Common.{rules, ◌≡◌, subst}
use Rattle.ua_client.specs.declared.reply.Reply.TheVariants.{Response as Responds}
use Rattle.ua_services.specs.Policy.{array_items}
use Rattle.ua_session.specs.Policy.{ChoosesAmong}
use Rattle.ua_session.proofs.Choosing.{chosen_by}
use Rattle.ua_session.proofs.policy.choose_in.Goals as goal

pub returns-in-GetEndpoints : goal.returns-in-GetEndpoints
returns-in-GetEndpoints c =
    let same : c.unwrap_or-endpoints.result.now ≡ array_items c.in-GetEndpoints.message.endpoints = search rules in
    chosen_by (Responds c.args.response.now) c.in-GetEndpoints.message.endpoints _ (search rules)
    (subst (λ e. ChoosesAmong e c.choose_among.result) same c.choose_among.ensures)
