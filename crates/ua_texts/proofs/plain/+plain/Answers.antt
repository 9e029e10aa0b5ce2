use Rattle.std.proofs.Common.{◌++◌, ◌∙◌, ap, arith, string_bytes}
use Rattle.ua_variant.specs.View.{scalar_of, variant_of}
use Rattle.ua_texts.specs.Values.{type_name}
use Rattle.ua_texts.proofs.PlainRows.{plain_next}
use Rattle.ua_texts.proofs.PlainValues.{absent_added, count_below, items_added, many_added, null_added, one_added, valued_added}
use Rattle.ua_texts.proofs.Rows.{at_index}
use Rattle.ua_texts.proofs.plain.+plain.Goals as goal

pub push_plain_typed-returns-in_ok-push_str-in-One-2 : goal.push_plain_typed-returns-in_ok-push_str-in-One-2
push_plain_typed-returns-in_ok-push_str-in-One-2 t c =
    one_added c.push_plain_scalar.result c.args.names c.args.within c.args.value.now c.in-One.scalar _ _ _ _ c.in-One.is
    (c.in_ok-push_str-in-One.ensures.bytes ∙ ap (λ t. string_bytes c.args.out.now ++ t) (c.type_name.ensures ∙ ap type_name c.kind.ensures))
    c.in_ok-push_str-in-One-2.ensures.bytes c.push_plain_scalar.ensures

pub push_plain_typed-returns-in-Many : goal.push_plain_typed-returns-in-Many
push_plain_typed-returns-in-Many t c =
    many_added c.push_plain_array.result c.args.names c.args.within c.args.value.now c.in-Many.kind c.in-Many.items c.in-Many.dims _ _ c.in-Many.is
    c.push_plain_array.ensures

pub push_plain_array-returns-in_ok-push_str-in-Some : goal.push_plain_array-returns-in_ok-push_str-in-Some
push_plain_array-returns-in_ok-push_str-in-Some t c =
    items_added c.push_plain_items.result c.args.names c.args.kind c.args.items.now c.in-Some.items c.args.dims.now _ _ _ _ c.in-Some.is
    c.in_ok-push_array_type.ensures c.in_ok-push_str-in-Some.ensures.bytes c.push_plain_items.ensures

pub push_plain_array-returns-in-None : goal.push_plain_array-returns-in-None
push_plain_array-returns-in-None t c =
    absent_added c.push_str-in-None.result c.args.names c.args.kind c.args.items.now c.args.dims.now _ _ _ c.in-None.is c.in_ok-push_array_type.ensures
    c.push_str-in-None.ensures.bytes

pub push_plain_bracketed-returns-in_default : goal.push_plain_bracketed-returns-in_default
push_plain_bracketed-returns-in_default t c = null_added c.push_str.result c.args.names c.args.value.now _ _ c.in_default.ensures.value c.push_str.ensures.bytes

pub push_plain_data_value-returns-in_ok-push_plain_fields-in-Some-value : goal.push_plain_data_value-returns-in_ok-push_plain_fields-in-Some-value
push_plain_data_value-returns-in_ok-push_plain_fields-in-Some-value t c =
    valued_added c.push_str-in-Some-value-3.result c.args.names c.in-Some.value.now c.args.value.now c.in-Some-value.held
    (variant_of c.get-in-Some-value.result.now) _ _ _ _ _ _
    c.in-Some.ensures.value c.in-Some-value.is c.get-in-Some-value.ensures c.in_ok-push_str-in-Some-value.ensures.bytes
    c.in_ok-push_plain_typed-in-Some-value.ensures
    c.in_ok-push_str-in-Some-value-2.ensures.bytes c.in_ok-push_plain_fields-in-Some-value.ensures c.push_str-in-Some-value-3.ensures.bytes

pub push_plain_scalars-push_plain_scalar-requires : goal.push_plain_scalars-push_plain_scalar-requires
push_plain_scalars-push_plain_scalar-requires t c =
    (omega (arith, count_below c.args.scalars.now c.loop-index.index c.index-scalars-index.result c.loop-index-test.true c.index-scalars-index.is), tt)

pub push_plain_scalars-loop-index-preserved : goal.push_plain_scalars-loop-index-preserved
push_plain_scalars-loop-index-preserved t c =
    plain_next c.args.names scalar_of c.args.scalars.now c.loop-index.index (scalar_of c.index-scalars-index.result) _ _ _ _
    (at_index scalar_of c.args.scalars.now c.loop-index.index c.index-scalars-index.result c.loop-index-test.true c.index-scalars-index.is)
    c.loop-index.invariant c.in_ok-push_comma.ensures c.in_ok-push_plain_scalar.ensures
