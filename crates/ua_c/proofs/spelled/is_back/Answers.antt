use Rattle.std.proofs.Common.{rules, ◌≡◌}
use Rattle.ua_c.proofs.Spelling.{not_encoded, not_same}
use Rattle.ua_c.proofs.spelled.is_back.Goals as goal

pub returns-in-Ok-encoding-clause-not_back : goal.returns-in-Ok-encoding-clause-not_back
returns-in-Ok-encoding-clause-not_back c = λ e.
    not_same c.args.plain c.args.kind.now c.args.text.now c.args.canonical.now c.in-Ok-encoding.octets.items c.in-Ok.value c.in-Ok.ensures.value
    c.in-Ok-encoding.ensures.octets (λ same. search rules)

pub returns-in-Err-encoding-clause-not_back : goal.returns-in-Err-encoding-clause-not_back
returns-in-Err-encoding-clause-not_back c = λ e.
    not_encoded c.args.plain c.args.kind.now c.args.text.now c.args.canonical.now c.in-Err-encoding.field-0 c.in-Ok.value c.in-Ok.ensures.value
    c.in-Err-encoding.ensures.fault (λ same. search rules)
