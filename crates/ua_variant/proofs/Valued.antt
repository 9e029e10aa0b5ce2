-- What the parts of a value know from the whole.
use Rattle.std.proofs.Common.{◌≡◌, ◌<◌, true, Option, Some, None, [], ◌∷◌, refl, subst, ap, arith}
use Rattle.ua_wire.proofs.Readers.{both_true}
use Rattle.ua_variant.specs.Canonical.{data_fields_canonical, data_value_canonical}
use Rattle.ua_variant.specs.Data.{VariantData, DataFields, bare}
use Rattle.ua_variant.specs.declared.values.DataValue.{DataValue}
use Rattle.ua_variant.specs.View.{value_within, data_fields_of, data_value_of, no_data_fields}
use Rattle.ua_variant.specs.Measure.{variant_count, data_value_count}
use Rattle.ua_variant.specs.Encodable.{variant_fits, data_value_fits, data_fields_encodable}
use Rattle.ua_variant.specs.Fields.{data_flags, data_fields}

fits_at : (o : Option VariantData) (f : DataFields) (v : VariantData) → o ≡ Some v → data_value_fits (value_within o f) ≡ true → variant_fits v ≡ true
fits_at None f v is h = absurd cc
fits_at (Some w) f v is h =
    let same : w ≡ v = cc in
    subst (λ x. variant_fits x ≡ true) same (both_true (data_fields_encodable f) (variant_fits w) h).1

-- the value of a DataValue that fits
pub valued_fits : (d : DataValue) (v : VariantData) → d.value ≡ Some v → data_value_fits (data_value_of d) ≡ true → variant_fits v ≡ true
valued_fits d v is h = fits_at d.value (data_fields_of d) v is h

-- the fields of a DataValue that fits
fields_at : (o : Option VariantData) (f : DataFields) → data_value_fits (value_within o f) ≡ true → data_fields_encodable f ≡ true
fields_at None f h = h
fields_at (Some w) f h = (both_true (data_fields_encodable f) (variant_fits w) h).0

pub fields_fit : (d : DataValue) → data_value_fits (data_value_of d) ≡ true → data_fields_encodable (data_fields_of d) ≡ true
fields_fit d h = fields_at d.value (data_fields_of d) h

counts_at : (o : Option VariantData) (f : DataFields) (v : VariantData) → o ≡ Some v → variant_count v < data_value_count (value_within o f)
counts_at None f v is = absurd cc
counts_at (Some w) f v is =
    let same : w ≡ v = cc in
    omega (arith, ap variant_count same)

-- it counts less than the whole
pub valued_counts : (d : DataValue) (v : VariantData) → d.value ≡ Some v → variant_count v < data_value_count (data_value_of d)
valued_counts d v is = counts_at d.value (data_fields_of d) v is

-- ---- a DataValue without any field

pub bare_canonical : data_value_canonical (bare no_data_fields) ≡ 0 ∷ []
unfolding data_fields_canonical data_flags data_fields
bare_canonical = refl

pub bare_fits : data_value_fits (bare no_data_fields) ≡ true
unfolding data_fields_encodable
bare_fits = refl
