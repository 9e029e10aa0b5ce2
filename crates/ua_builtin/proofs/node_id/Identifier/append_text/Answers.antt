use Rattle.std.proofs.Common.{arith}
use Rattle.ua_builtin.proofs.Texts.{numeric_names, guid_names}
use Rattle.ua_builtin.proofs.node_id.Identifier.append_text.Goals as goal

pub returns-in_ok-push_str-in-Numeric-clause-names :
    goal.returns-in_ok-push_str-in-Numeric-clause-names
returns-in_ok-push_str-in-Numeric-clause-names c = numeric_names c.args.self.now c.in-Numeric.number c.in-Numeric.is (omega arith)

pub returns-in_ok-push_str-in-Guid-2-clause-names :
    goal.returns-in_ok-push_str-in-Guid-2-clause-names
returns-in_ok-push_str-in-Guid-2-clause-names c =
    guid_names c.args.self.now c.in-Guid.guid c.encode_lower.result.now c.in-Guid.is
    (rw (← c.hyphenated.ensures) c.encode_lower.ensures.text) (rw (← c.hyphenated.ensures) c.encode_lower.ensures.parsed)
