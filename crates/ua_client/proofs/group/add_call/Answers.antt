use Rattle.std.proofs.Common.{◌+◌, Option, ap, sym, ◌∙◌}
use Rattle.ua_channel.specs.declared.client.asked_call.AskedCall.{AskedCall}
use Rattle.ua_client.specs.Sent.{asked_len, last_len}
use Rattle.ua_client.proofs.Askings.{asked-len-push}
use Rattle.ua_client.proofs.group.add_call.Goals as goal

pub returns-in-Ok-clause-len : goal.returns-in-Ok-clause-len
returns-in-Ok-clause-len c =
    ap asked_len c.in-Ok.ensures.items
    ∙ (asked-len-push c.args.calls.now.items c.in-Some.call
    ∙ ap (λ (o : Option AskedCall). asked_len c.args.calls.now.items + last_len o) (sym c.in-Some.is))
