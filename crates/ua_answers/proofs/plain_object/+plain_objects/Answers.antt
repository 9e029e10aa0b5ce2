use Rattle.json.specs.Token as token
use Rattle.std.proofs.Common.{List, [], arith, codes, refl, subst, sym, ℕ, ◌∷◌}
use Rattle.ua_variant.specs.Data.{ScalarData, null}
use Rattle.ua_variant.specs.View.{elements_of, row, scalar_of, variant_of}
use Rattle.ua_variant.specs.declared.values.Variant.{Variant}
use Rattle.ua_answers.specs.Json.{variant_fields}
use Rattle.ua_answers.specs.PlainJson.{AreVariantFields, IsArrayJson, PutsFields}
use Rattle.ua_answers.proofs.PlainTokens.{OneJson, absent_put, bare_put, empty_put, fields_put, json_next, json_none, list_put, many_put, null_within, one_put}
use Rattle.ua_answers.proofs.PlainTokens.{valued_put, within_put}
use Rattle.ua_texts.specs.Values.{type_name}
use Rattle.ua_answers.proofs.Tokens.{Put, one_last, put_one}
use Rattle.ua_texts.proofs.Rows.{at_index}
use Rattle.ua_texts.proofs.PlainValues.{count_below}
use Rattle.ua_answers.proofs.plain_object.+plain_objects.Goals as goal

pub put_plain_variant-returns-in-Null : goal.put_plain_variant-returns-in-Null
put_plain_variant-returns-in-Null t c =
    subst (λ (v : Variant). PutsFields c.put_null.result c.args.line.now c.put_null.new.line (AreVariantFields c.args.names (variant_of v))) (sym c.in-Null.is)
    (fields_put c.put_null.result c.args.line.now c.put_null.new.line (variant_fields null) (AreVariantFields c.args.names null) c.put_null.ensures refl)

pub put_plain_variant-returns-in-Many : goal.put_plain_variant-returns-in-Many
put_plain_variant-returns-in-Many t c =
    subst (λ (v : Variant). PutsFields c.put_plain_array.result c.args.line.now c.put_plain_array.new.line (AreVariantFields c.args.names (variant_of v)))
    (sym c.in-Many.is) c.put_plain_array.ensures

pub put_plain_one-returns : goal.put_plain_one-returns
put_plain_one-returns t c =
    let first = subst (λ (k : ℕ). Put c.args.line.now c.put_type.new.line (token.key (codes "type") ∷ token.string (type_name k) ∷ [])) c.kind.ensures
    c.in_ok-put_type.ensures in
    one_put c.put_plain_scalar.result c.args.names (scalar_of c.args.scalar.now) c.args.line.now c.put_type.new.line c.key.new.self c.put_plain_scalar.new.line
    first (put_one c.in_ok-key.ensures) c.put_plain_scalar.ensures

pub put_plain_array-returns-in-None : goal.put_plain_array-returns-in-None
put_plain_array-returns-in-None t c = absent_put c.put_array.result c.args.line.now c.put_array.new.line c.args.names c.args.kind c.args.items.now
    c.args.dims.now c.in-None.is
    c.put_array.ensures

pub put_plain_items-returns : goal.put_plain_items-returns
put_plain_items-returns t c =
    let list = subst (λ (items : List ScalarData). OneJson c.key.new.self c.put_plain_list.new.line (IsArrayJson c.args.names (row items))) c.elements.ensures
    c.in_ok-put_plain_list.ensures in
    many_put c.put_dimensions.result c.args.names c.args.kind (row c.args.items.now) c.args.dims.now c.args.line.now c.put_array_type.new.line c.key.new.self
    c.put_plain_list.new.line c.put_dimensions.new.line
    c.in_ok-put_array_type.ensures (put_one c.in_ok-key.ensures) list c.put_dimensions.ensures

pub put_plain_list-returns : goal.put_plain_list-returns
put_plain_list-returns t c =
    list_put c.end_array.result c.args.names (row (elements_of c.args.elements.now)) c.args.line.now c.begin_array.new.self c.put_plain_elements.new.line
    c.end_array.new.self (put_one c.in_ok-begin_array.ensures)
    c.in_ok-put_plain_elements.ensures (one_last c.end_array.ensures)

pub put_plain_scalars-loop-scalar-init : goal.put_plain_scalars-loop-scalar-init
put_plain_scalars-loop-scalar-init t c = json_none c.args.names c.args.line.now

pub put_plain_scalars-loop-scalar-preserved : goal.put_plain_scalars-loop-scalar-preserved
put_plain_scalars-loop-scalar-preserved t c =
    json_next c.args.names scalar_of c.args.scalars.now c.loop-scalar.scalar-index (scalar_of c.scalar-item.result) c.args.line.now c.loop-scalar.line
    c.put_plain_scalar.new.line
    (at_index scalar_of c.args.scalars.now c.loop-scalar.scalar-index c.scalar-item.result c.loop-scalar-test.true c.scalar-item.is) c.loop-scalar.invariant
    c.in_ok-put_plain_scalar.ensures

pub put_plain_scalars-put_plain_scalar-requires : goal.put_plain_scalars-put_plain_scalar-requires
put_plain_scalars-put_plain_scalar-requires t c =
    (omega (arith, count_below c.args.scalars.now c.loop-scalar.scalar-index c.scalar-item.result c.loop-scalar-test.true c.scalar-item.is), tt)

pub put_plain_within-returns-in_ok-put_plain_variant-in-Some : goal.put_plain_within-returns-in_ok-put_plain_variant-in-Some
put_plain_within-returns-in_ok-put_plain_variant-in-Some t c =
    within_put c.end_object.result c.args.names (variant_of c.in-Some.value.now) c.args.value.now c.args.line.now c.begin_object.new.self
    c.put_plain_variant.new.line c.end_object.new.self c.in-Some.ensures.value (put_one c.in_ok-begin_object.ensures)
    c.in_ok-put_plain_variant-in-Some.ensures (one_last c.end_object.ensures)

pub put_plain_within-returns-in_ok-put_null-in-None : goal.put_plain_within-returns-in_ok-put_null-in-None
put_plain_within-returns-in_ok-put_null-in-None t c =
    null_within c.end_object-in-None.result c.args.names c.args.value.now c.args.line.now c.begin_object.new.self c.put_null.new.line
    c.end_object-in-None.new.self c.in-None.ensures.value (put_one c.in_ok-begin_object.ensures) c.in_ok-put_null-in-None.ensures
    (one_last c.end_object-in-None.ensures)

pub put_plain_data_value-returns-in_default : goal.put_plain_data_value-returns-in_default
put_plain_data_value-returns-in_default t c =
    empty_put c.put_empty.result c.args.names c.args.value.now c.args.line.now c.put_empty.new.line c.in_default.ensures.value c.put_empty.ensures

pub put_plain_data_value-returns-in_ok-put_data_members-in-Some-value : goal.put_plain_data_value-returns-in_ok-put_data_members-in-Some-value
put_plain_data_value-returns-in_ok-put_data_members-in-Some-value t c =
    valued_put c.end_object.result c.args.names c.in-Some.value.now c.args.value.now c.in-Some-value.held (variant_of c.get-in-Some-value.result.now)
    c.args.line.now c.begin_object.new.self c.put_plain_variant.new.line c.put_data_members.new.line c.end_object.new.self c.in-Some.ensures.value
    c.in-Some-value.is c.get-in-Some-value.ensures (put_one c.in_ok-begin_object.ensures) c.in_ok-put_plain_variant-in-Some-value.ensures
    c.in_ok-put_data_members-in-Some-value.ensures (one_last c.end_object.ensures)

pub put_plain_data_value-returns-in_ok-put_data_members-in-None : goal.put_plain_data_value-returns-in_ok-put_data_members-in-None
put_plain_data_value-returns-in_ok-put_data_members-in-None t c =
    bare_put c.end_object-in-None.result c.args.names c.in-Some.value.now c.args.value.now c.args.line.now c.begin_object.new.self
    c.put_data_members-in-None.new.line c.end_object-in-None.new.self c.in-Some.ensures.value c.in-None.is (put_one c.in_ok-begin_object.ensures)
    c.in_ok-put_data_members-in-None.ensures (one_last c.end_object-in-None.ensures)
