use Rattle.std.proofs.Common.{subst}
use Rattle.ua_builtin.specs.NodeText.{IsNodeTextRest}
use Rattle.ua_builtin.proofs.Texts.{no_cut, no_decimal, no_namespace_number, numbered_rest, no_fit, fit_is}
use Rattle.ua_builtin.proofs.node_text.split_namespace.Goals as goal

pub returns-in_err-digits-clause-none : goal.returns-in_err-digits-clause-none
returns-in_err-digits-clause-none c = λ h. no_cut c.args.text.now c.in-Some.rest.now c.in-Some.ensures c.in_err-digits.ensures

pub returns-in_err-parse_decimal-clause-none : goal.returns-in_err-parse_decimal-clause-none
returns-in_err-parse_decimal-clause-none c =
    λ h. no_decimal c.args.text.now c.in-Some.rest.now c.in_ok-digits.digits.now c.in_ok-digits.identifier.now c.in-Some.ensures c.in_ok-digits.ensures
    c.in_err-parse_decimal.ensures

pub returns-in_err-namespace-clause-none : goal.returns-in_err-namespace-clause-none
returns-in_err-namespace-clause-none c =
    λ h. no_namespace_number c.args.text.now c.in-Some.rest.now c.in_ok-digits.digits.now c.in_ok-digits.identifier.now c.in_ok-parse_decimal.field-0
    c.in-Some.ensures c.in_ok-digits.ensures c.in_ok-parse_decimal.ensures
    (no_fit c.try_from.result c.in_ok-parse_decimal.field-0 c.in_err-namespace.ensures.value c.try_from.ensures)

pub returns-clause-some : goal.returns-clause-some
returns-clause-some c =
    let fits = fit_is c.try_from.result c.in_ok-namespace.namespace c.in_ok-parse_decimal.field-0 c.in_ok-namespace.ensures.value c.try_from.ensures in
    subst (λ n. IsNodeTextRest n c.in_ok-digits.identifier.now c.args.text.now) fits.1
    (numbered_rest c.args.text.now c.in-Some.rest.now c.in_ok-digits.digits.now c.in_ok-digits.identifier.now c.in_ok-parse_decimal.field-0 c.in-Some.ensures
    c.in_ok-digits.ensures c.in_ok-parse_decimal.ensures fits.0)
