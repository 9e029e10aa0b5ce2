-- The canonical encoding of what can be written encodes it.
use Rattle.std.specs.Prelude.{◌≡◌, ℕ, ◌<◌, ◌≤◌, Bool, true, false, ◌&&◌, not, IsTrue, leb, eqb, List, [], ◌∷◌, ◌++◌}
use Rattle.std.proofs.Common.{refl, sym, subst, ap, ◌∙◌, append-nil, arith}
use Rattle.std.proofs.lemmas.Grind.{common_steps}
use Rattle.ua_wire.specs.Format.{most_levels}
use Rattle.ua_wire.proofs.Readers.{both_true, not_false}
use Rattle.ua_builtin.specs.Number.{number_octets}
use Rattle.ua_variant.specs.Data.{DataFields, VariantData, null, one, absent, many, ScalarData, leaf, data_value}
use Rattle.ua_variant.specs.Data.{variant, diagnostic, ScalarsData, no_scalars, scalar, DataValueData, bare, valued}
use Rattle.ua_variant.specs.Measure.{variant_depth, data_value_depth}
use Rattle.ua_builtin.specs.Flags.{has}
use Rattle.ua_diagnostic.specs.Parts.{IsOctet}
use Rattle.ua_diagnostic.proofs.PartsLawful.{fits_second, depth_first}
use Rattle.ua_variant.specs.Leaf.{holds_values}
use Rattle.ua_variant.proofs.LeavesRead.{leaf_canonical_encodes, leaf_apart}
use Rattle.ua_variant.specs.Fields.{data_fields, data_flags}
use Rattle.ua_variant.proofs.FieldFlags.{data_mask, data_mask_low, data_mask_value, data_fields_encodable_as}
use Rattle.ua_variant.specs.Encodable.{data_fields_encodable, kind_of_scalar, is_kind, is_read_kind, is_variant, row_length, variant_fits}
use Rattle.ua_variant.specs.Encodable.{scalar_fits, scalars_fit, data_value_fits, variant_encodable, data_value_encodable}
use Rattle.ua_diagnostic.proofs.DiagnosticsWritten.{diagnostic_encodes}
use Rattle.ua_diagnostic.specs.Dimensions.{is_count, dims_encodable, null_count_octets, has_dims, dims_canonical}
use Rattle.ua_variant.specs.Encoding.{array_octet, EncodesVariant, EncodesScalar, EncodesRow, EncodesDataValue}
use Rattle.ua_variant.specs.Canonical.{data_fields_canonical, variant_canonical, scalar_canonical, row_canonical, data_value_canonical}
use Rattle.ua_diagnostic.proofs.DimensionsRead.{eqb_to, count_encodes, null_encodes, dims_encode}
use Rattle.ua_variant.proofs.ScalarsRead.{sound_data_fields}
use Rattle.ua_variant.proofs.VariantsRead.{kind_within}

-- ---- fields behind a mask

data_canonical_same : (m n : ℕ) (f : DataFields) → (data_fields m).canonical f ≡ (data_fields n).canonical f
unfolding data_fields
data_canonical_same m n f = refl

data_fields_encoded : (f : DataFields) (v : ℕ) → v ≤ 1 → data_fields_encodable f ≡ true → (data_fields (data_mask f v)).encodes f (data_fields_canonical f)
unfolding data_fields_canonical
data_fields_encoded f v h fits =
    subst ((data_fields (data_mask f v)).encodes f) (data_canonical_same (data_mask f v) (data_flags f) f)
    ((sound_data_fields (data_mask f v)).canonical_encodes f (data_fields_encodable_as f v h ∙ fits))

low_63 : (m : ℕ) → m ≤ 63 → IsTrue (leb m 63)
low_63 m h = Prim.grind (arith, common_steps)

bare_at : (f : DataFields) (m : ℕ) → m ≡ data_mask f 0 → data_fields_encodable f ≡ true → EncodesDataValue (bare f) (m ∷ data_fields_canonical f)
bare_at f m e fits =
    let low : m ≤ 63 = omega (arith, e, data_mask_low f 0 (omega arith)) in (
      m,
      (
        m ∷ [],
        data_fields_canonical f,
        refl,
        (omega arith, refl),
        (
          low_63 m low,
          (
            ap (λ (k : ℕ). has k 1) e ∙ data_mask_value f 0 (omega arith),
            subst (λ k. (data_fields k).encodes f (data_fields_canonical f)) (sym e)
                (data_fields_encoded f 0 (omega arith) fits),
          ),
        ),
      ),
    )

bare_encodes : (f : DataFields) → data_fields_encodable f ≡ true → EncodesDataValue (bare f) (data_value_canonical (bare f))
bare_encodes f h = bare_at f (data_flags f) (omega arith) h

valued_encodes : (v : VariantData) (f : DataFields) → data_fields_encodable f ≡ true → EncodesVariant v (variant_canonical v)
    → EncodesDataValue (valued v f) (data_value_canonical (valued v f))
valued_encodes v f h w =
    let m = data_mask f 1 in
    let low : m ≤ 63 = data_mask_low f 1 (omega arith) in (
      m,
      (
        m ∷ [],
        variant_canonical v ++ data_fields_canonical f,
        refl,
        (omega arith, refl),
        (low_63 m low, (data_mask_value f 1 (omega arith), (variant_canonical v, data_fields_canonical f, refl, w, data_fields_encoded f 1 (omega arith) h))),
      ),
    )

-- ---- arrays

kind_read : (k : ℕ) → is_kind k ≡ true → is_read_kind k ≡ true
kind_read k h = Prim.grind (arith, common_steps)

kind_low : (k : ℕ) → is_kind k ≡ true → k < 32
kind_low k h = Prim.grind (arith, common_steps)

array_octet_low : (f : Bool) (k : ℕ) → k < 32 → array_octet f k < 256
array_octet_low true k h = omega arith
array_octet_low false k h = omega arith

-- ---- values

not_variant : (s : ScalarData) → IsTrue (not (is_variant s)) → scalar_fits s ≡ true → kind_of_scalar s ≡ 24 → ⊥
not_variant (leaf l) h fits e =
    let apart : holds_values 24 ≡ false = subst (λ k. holds_values k ≡ false) e (leaf_apart l _ (leaf_canonical_encodes l fits)) in
    let clash : true ≡ false = apart in
    absurd cc
not_variant (data_value d) h fits e = absurd (omega (arith, e))
not_variant (variant v) h fits e = not_false h
not_variant (diagnostic d) h fits e = absurd (omega (arith, e))

kind_octet : (s : ScalarData) (b : List ℕ) → EncodesScalar s b → IsOctet (kind_of_scalar s) (kind_of_scalar s ∷ [])
kind_octet s b h = let k = kind_within s b h in (omega (arith, k.1), refl)

mutual
  pub variant_encodes : (v : VariantData) → variant_fits v ≡ true → EncodesVariant v (variant_canonical v)
  variant_encodes null h = (omega arith, refl)
  variant_encodes (one s) h =
      let w = both_true (not (is_variant s)) (scalar_fits s) h in
      let e = scalar_encodes s w.1 in
      (not_variant s w.0 w.1, (kind_of_scalar s ∷ [], scalar_canonical s, refl, kind_octet s (scalar_canonical s) e, e))
  variant_encodes (absent k []) h = (
    kind_read k h,
    refl,
    false,
    (
      array_octet false k ∷ [],
      null_count_octets,
      refl,
      (array_octet_low false k (kind_low k h), refl),
      (null_count_octets, [], sym (append-nil null_count_octets), null_encodes, (refl, refl)),
    ),
  )
  variant_encodes (absent k (d ∷ ds)) h = not_false h
  variant_encodes (many k ss ds) h =
      let n = row_length ss in
      let u = both_true (is_kind k && is_count n && dims_encodable ds n) (scalars_fit k ss) h in
      let v = both_true (is_kind k && is_count n) (dims_encodable ds n) u.0 in
      let w = both_true (is_kind k) (is_count n) v.0 in (
        kind_read k w.0,
        has_dims ds,
        (
          array_octet (has_dims ds) k ∷ [],
          number_octets 4 n ++ (row_canonical ss ++ dims_canonical ds),
          refl,
          (array_octet_low (has_dims ds) k (kind_low k w.0), refl),
          (
            number_octets 4 n,
            row_canonical ss ++ dims_canonical ds,
            refl,
            count_encodes n w.1,
            (row_canonical ss, dims_canonical ds, refl, row_encodes k ss u.1, dims_encode ds n v.1),
          ),
        ),
      )

  pub scalar_encodes : (s : ScalarData) → scalar_fits s ≡ true → EncodesScalar s (scalar_canonical s)
  scalar_encodes (leaf l) h = leaf_canonical_encodes l h
  scalar_encodes (data_value d) h = data_value_encodes d h
  scalar_encodes (variant v) h = variant_encodes v h
  scalar_encodes (diagnostic d) h = diagnostic_encodes d h

  pub row_encodes : (k : ℕ) (ss : ScalarsData) → scalars_fit k ss ≡ true → EncodesRow k ss (row_canonical ss)
  row_encodes k no_scalars h = refl
  row_encodes k (scalar s ss) h =
      let u = both_true (eqb (kind_of_scalar s) k && scalar_fits s) (scalars_fit k ss) h in
      let w = both_true (eqb (kind_of_scalar s) k) (scalar_fits s) u.0 in
      (eqb_to (kind_of_scalar s) k w.0, (scalar_canonical s, row_canonical ss, refl, scalar_encodes s w.1, row_encodes k ss u.1))

  pub data_value_encodes : (d : DataValueData) → data_value_fits d ≡ true → EncodesDataValue d (data_value_canonical d)
  data_value_encodes (bare f) h = bare_encodes f h
  data_value_encodes (valued v f) h =
      let w = both_true (data_fields_encodable f) (variant_fits v) h in
      valued_encodes v f w.0 (variant_encodes v w.1)

pub variant_canonical_encodes : (v : VariantData) → IsTrue (variant_encodable v) → EncodesVariant v (variant_canonical v)
variant_canonical_encodes v h = variant_encodes v (fits_second (variant_depth v) (variant_fits v) h)

pub variant_encodable_depth : (v : VariantData) → IsTrue (variant_encodable v) → variant_depth v ≤ most_levels
variant_encodable_depth v h = depth_first (variant_depth v) (variant_fits v) h

pub data_value_canonical_encodes : (d : DataValueData) → IsTrue (data_value_encodable d) → EncodesDataValue d (data_value_canonical d)
data_value_canonical_encodes d h = data_value_encodes d (fits_second (data_value_depth d) (data_value_fits d) h)

pub data_value_encodable_depth : (d : DataValueData) → IsTrue (data_value_encodable d) → data_value_depth d ≤ most_levels
data_value_encodable_depth d h = depth_first (data_value_depth d) (data_value_fits d) h
