use Rattle.std.proofs.Common.{refl}
use Rattle.std.proofs.lemmas.Result.{err_from_is_err_and}
use Rattle.ua_builtin.specs.declared.fault.TextFault.TheVariants.{NotNodeId}
use Rattle.ua_builtin.proofs.Texts.{same_fault}
use Rattle.ua_builtin.proofs.node_id.NodeId.parse_text.Goals as goal

pub returns-in_default-clause-none : goal.returns-in_default-clause-none
returns-in_default-clause-none c = λ h. c.in_default.ensures.none refl

pub returns-in_err-identifier-clause-none : goal.returns-in_err-identifier-clause-none
returns-in_err-identifier-clause-none c =
    let p = err_from_is_err_and c.from_residual.result c.from_residual.ensures.1 in
    rw (p.1, p.2) (λ h v n. c.in_err-identifier.ensures.none (same_fault c.in_err-identifier.field-0.0 NotNodeId h) v.identifier
    (c.in-Some.ensures.some.alone v n).1)
