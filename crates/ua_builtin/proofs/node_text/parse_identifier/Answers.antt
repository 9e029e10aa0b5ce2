use Rattle.ua_builtin.proofs.Texts.{no_guid}
use Rattle.ua_builtin.proofs.node_text.parse_identifier.Goals as goal

pub returns-in_default-parse_guid-clause-none : goal.returns-in_default-parse_guid-clause-none
returns-in_default-parse_guid-clause-none c = λ h. no_guid c.args.text.now c.in-Some-behind-2.rest.now c.in-Some-behind-2.ensures
    c.in_default-parse_guid.ensures
