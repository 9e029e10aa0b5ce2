-- What loops and branches of the writers know.
use Rattle.std.proofs.Common.{◌≡◌, ℕ, ◌+◌, ◌<◌, true, ◌&&◌, IsTrue, List, [], ◌∷◌, ◌++◌, length, get_or, take, sym, ap, ◌∙◌, append_assoc, append-nil, arith}
use lib.IntN.{ℤ}
use Rattle.std.proofs.lemmas.Grind.{common_steps}
use Rattle.ua_wire.specs.Format.{most_levels}
use Rattle.ua_wire.proofs.Readers.{both_true}
use Rattle.ua_variant.specs.Data.{DataFields, VariantData, DataValueData, ScalarData, ScalarsData, many, valued}
use Rattle.ua_variant.specs.View.{scalar_of, row}
use Rattle.std.specs.Prelude.{leb}
use Rattle.ua_builtin.specs.DateTime.{date_time}
use Rattle.ua_builtin.specs.Join.{number}
use Rattle.ua_builtin.specs.Status.{status_code}
use Rattle.ua_diagnostic.specs.Parts.{optional_fits}
use Rattle.ua_variant.specs.Measure.{variant_depth, data_value_depth}
use Rattle.ua_variant.specs.Encodable.{data_fields_encodable, variant_encodable, data_value_encodable}
use Rattle.ua_variant.specs.Encodable.{data_value_fits, variant_fits, scalars_fit, row_length, is_kind}
use Rattle.ua_diagnostic.specs.Dimensions.{dims_encodable, is_count}
use Rattle.ua_variant.specs.Canonical.{row_canonical, scalar_canonical}
use Rattle.ua_diagnostic.proofs.DimensionsRead.{count_is}
use Rattle.ua_variant.specs.declared.values.Scalar.{Scalar}
use Rattle.ua_variant.proofs.Rows.{seen, seen_next}

kind_low : (k : ℕ) → is_kind k ≡ true → k < 32
kind_low k h = Prim.grind (arith, common_steps)

pub many_parts : (k : ℕ) (ss : ScalarsData) (ds : List ℤ) → variant_fits (many k ss ds) ≡ true → (k < 32) × (row_length ss < 2147483648)
    × (dims_encodable ds (row_length ss) ≡ true) × (scalars_fit k ss ≡ true)
many_parts k ss ds h =
    let n = row_length ss in
    let u = both_true (is_kind k && is_count n && dims_encodable ds n) (scalars_fit k ss) h in
    let v = both_true (is_kind k && is_count n) (dims_encodable ds n) u.0 in
    let w = both_true (is_kind k) (is_count n) v.0 in
    (kind_low k w.0, count_is n w.1, v.1, u.1)

pub row_push : (ss : List ScalarData) (s : ScalarData) → row_canonical (row (ss ++ s ∷ [])) ≡ row_canonical (row ss) ++ scalar_canonical s
row_push [] s = append-nil (scalar_canonical s)
row_push (x ∷ ss) s = ap (λ r. scalar_canonical x ++ r) (row_push ss s) ∙ sym (append_assoc (scalar_canonical x) (row_canonical (row ss)) (scalar_canonical s))

pub row_after : (old : List ℕ) (ss : List Scalar) (i : ℕ) (s : Scalar) → i < length ss → s ≡ get_or ss i s
    → (old ++ row_canonical (row (seen (take i ss)))) ++ scalar_canonical (scalar_of s) ≡ old ++ row_canonical (row (seen (take (i + 1) ss)))
row_after old ss i s h is =
    append_assoc old (row_canonical (row (seen (take i ss)))) (scalar_canonical (scalar_of s))
    ∙ ap (λ r. old ++ r) (ap (λ x. row_canonical (row (seen (take i ss))) ++ scalar_canonical (scalar_of x)) is
    ∙ sym (ap (λ xs. row_canonical (row xs)) (seen_next ss i s h) ∙ row_push (seen (take i ss)) (scalar_of (get_or ss i s))))

-- what can be written fits
pub variant_fits_of : (v : VariantData) → IsTrue (variant_encodable v) → variant_fits v ≡ true
variant_fits_of v h = (both_true (leb (variant_depth v) most_levels) (variant_fits v) h).1

pub data_value_fits_of : (d : DataValueData) → IsTrue (data_value_encodable d) → data_value_fits d ≡ true
data_value_fits_of d h = (both_true (leb (data_value_depth d) most_levels) (data_value_fits d) h).1

-- a value and the fields beside it
pub valued_parts : (v : VariantData) (f : DataFields) → data_value_encodable (valued v f) ≡ true → (data_fields_encodable f ≡ true) × (variant_fits v ≡ true)
valued_parts v f h = both_true (data_fields_encodable f) (variant_fits v)
    (both_true (leb (data_value_depth (valued v f)) most_levels) (data_value_fits (valued v f)) h).1

-- each of the fields can be written
pub data_fields_parts : (f : DataFields) → data_fields_encodable f ≡ true
    → IsTrue (optional_fits status_code.encodable f.status) × IsTrue (optional_fits date_time.encodable f.source_timestamp)
    × IsTrue (optional_fits (number 2).encodable f.source_picoseconds) × IsTrue (optional_fits date_time.encodable f.server_timestamp)
    × IsTrue (optional_fits (number 2).encodable f.server_picoseconds)
unfolding data_fields_encodable
data_fields_parts f h =
    let time = optional_fits date_time.encodable in
    let parts = optional_fits (number 2).encodable in
    let a = both_true (optional_fits status_code.encodable f.status)
    (time f.source_timestamp && (parts f.source_picoseconds && (time f.server_timestamp && parts f.server_picoseconds))) h in
    let b = both_true (time f.source_timestamp) (parts f.source_picoseconds && (time f.server_timestamp && parts f.server_picoseconds)) a.1 in
    let c = both_true (parts f.source_picoseconds) (time f.server_timestamp && parts f.server_picoseconds) b.1 in
    let d = both_true (time f.server_timestamp) (parts f.server_picoseconds) c.1 in
    (a.0, b.0, c.0, d.0, d.1)
