use Rattle.std.proofs.Common.{Global, Vec, arith}
use Rattle.std.proofs.lemmas.Result.{err_from_is_err_and}
use Rattle.ua_opening.proofs.ItemsRead.{claims_more}
use Rattle.ua_variant.proofs.VariantsLawful.{lawful_data_value}
use Rattle.ua_variant.specs.Formats.{data_value_format}
use Rattle.ua_builtin.specs.Format.{most_levels}
use Rattle.ua_c.proofs.Seen.{array_null, array_seen, count_fault}
use Rattle.ua_c.specs.Views.{AreViewsOf}
use Rattle.ua_c.specs.declared.readings.UaReading.{UaReading}
use Rattle.ua_c.proofs.views.view_array.Goals as goal

-- no count was read
pub returns-in_err-count-clause-sees : goal.returns-in_err-count-clause-sees
returns-in_err-count-clause-sees c =
    let p = err_from_is_err_and c.from_residual.result c.from_residual.ensures.1 in
    rw (p.1, p.2) (count_fault {X = Vec UaReading Global} (λ readings ds. AreViewsOf c.args.body.now ds readings.items) c.args.source.now c.read_value.new.src
    c.read_value.new.src c.in_err-count.field-0.0 c.in_err-count.ensures.exact)

-- a null array
pub returns-then-count-ge-FIRST_NEGATIVE-clause-sees : goal.returns-then-count-ge-FIRST_NEGATIVE-clause-sees
returns-then-count-ge-FIRST_NEGATIVE-clause-sees c =
    array_null c.args.body.now c.args.source.now c.read_value.new.src c.in_ok-count.count _ c.in_ok-count.ensures.exact
    (omega (arith, c.if-count-ge-FIRST_NEGATIVE.true)) c.new.ensures.items

-- a count of more than there is
pub returns-then-left-count-clause-sees : goal.returns-then-left-count-clause-sees
returns-then-left-count-clause-sees c =
    claims_more data_value_format lawful_data_value most_levels c.in_ok-count.count c.args.source.now c.read_value.new.src c.in_ok-count.ensures.exact
    (omega (arith, c.if-count-ge-FIRST_NEGATIVE.false)) (omega (arith, c.left.ensures, c.if-left-count.true))

-- the elements
pub returns-clause-sees : goal.returns-clause-sees
returns-clause-sees c =
    array_seen (λ readings. readings.items) c.args.body.now c.args.source.now c.read_value.new.src c.view_each.new.source c.in_ok-count.count c.view_each.result
    c.in_ok-count.ensures.exact
    (omega (arith, c.if-count-ge-FIRST_NEGATIVE.false)) c.view_each.ensures.sees
