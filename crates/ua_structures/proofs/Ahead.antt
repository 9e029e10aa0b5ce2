-- What the first octets of a DataValue say of its value is what the value is.
use Rattle.std.specs.Prelude.{◌≡◌, ℕ, ◌%◌, ◌<◌, ◌≤◌, Bool, true, false, not, ◌||◌, cond, leb, eqb, List, [], ◌∷◌, ◌++◌, Option, Some, None}
use Rattle.std.proofs.Common.{refl, sym, ◌∙◌, ap, arith}
use Rattle.std.proofs.lemmas.Grind.{common_steps}
use Rattle.ua_builtin.specs.Flags.{has}
use Rattle.ua_diagnostic.specs.Parts.{IsOctet}
use Rattle.ua_variant.specs.Data.{VariantData, null, one, absent, many, DataFields}
use Rattle.ua_variant.specs.Encodable.{kind_of_scalar}
use Rattle.ua_variant.specs.Encoding.{EncodesVariant, EncodesDataValue, array_octet}
use Rattle.ua_variant.specs.Formats.{data_value_format}
use Rattle.ua_variant.specs.View.{data_fields_of, value_within}
use Rattle.ua_variant.specs.declared.values.DataValue.{DataValue}
use Rattle.ua_variant.proofs.VariantsLawful.{lawful_data_value}
use Rattle.ua_variant.proofs.VariantsRead.{kind_within, read_kind_low, tag_kind}
use Rattle.ua_structures.specs.Thin.{array_type, is_kept, kept_value, kept_with, null_value, scalar_type, type_of}
use Rattle.ua_structures.specs.inside.Ahead.{is_kept_at, type_at}
use Rattle.ua_structures.specs.declared.thin.ValueType.{ValueType}

-- ---- the first octet of a Variant

not_null : (tag : ℕ) → 0 < tag → eqb tag 0 ≡ false
not_null tag h = Prim.grind (arith, common_steps)

is_low : (tag : ℕ) → tag < 0x80 → leb 0x80 tag ≡ false
is_low tag h = Prim.grind (arith, common_steps)

is_high : (tag : ℕ) → 0x80 ≤ tag → leb 0x80 tag ≡ true
is_high tag h = Prim.grind (arith, common_steps)

scalar_announced : (k : ℕ) → 0 < k → k < 0x20 → type_at k ≡ Some (scalar_type k)
scalar_announced k some low =
    ap (λ (b : Bool). cond b None (cond (leb 0x80 k) (Some (array_type (k % 0x40))) (Some (scalar_type k)))) (not_null k some)
    ∙ ap (λ (b : Bool). cond b (Some (array_type (k % 0x40))) (Some (scalar_type k))) (is_low k (omega arith))

octet_high : (f : Bool) (k : ℕ) → 0x80 ≤ array_octet f k
octet_high true k = omega arith
octet_high false k = omega arith

array_announced : (f : Bool) (k : ℕ) → k < 0x20 → type_at (array_octet f k) ≡ Some (array_type k)
array_announced f k low =
    let tag = array_octet f k in
    let high = octet_high f k in
    ap (λ (b : Bool). cond b None (cond (leb 0x80 tag) (Some (array_type (tag % 0x40))) (Some (scalar_type tag)))) (not_null tag (omega (arith, high)))
    ∙ ap (λ (b : Bool). cond b (Some (array_type (tag % 0x40))) (Some (scalar_type tag))) (is_high tag high)
    ∙ ap (λ (i : ℕ). Some (array_type i)) (tag_kind f k low)

behind_octet : (n : ℕ) (b front back : List ℕ) → b ≡ front ++ back → IsOctet n front → b ≡ n ∷ back
behind_octet n b front back e o = e ∙ ap (λ (x : List ℕ). x ++ back) o.1

-- the octets begin with one that announces the type of the Variant
record Announces (v : VariantData) (b : List ℕ) : Type 0 where
  tag : ℕ
  rest : List ℕ
  begins : b ≡ tag ∷ rest
  announced : type_at tag ≡ type_of v

announces : (v : VariantData) (b : List ℕ) → EncodesVariant v b → Announces v b
announces null b e = record { tag = 0; rest = []; begins = e.1; announced = refl }
announces (one s) b e =
    let j = e.1 in
    let k = kind_within s j.1 j.4 in
    record {
      tag = kind_of_scalar s;
      rest = j.1;
      begins = behind_octet (kind_of_scalar s) b j.0 j.1 j.2 j.3;
      announced = scalar_announced (kind_of_scalar s) k.0 k.1;
    }
announces (absent k ds) b e =
    let f = e.2 in
    let j = e.3 in
    record {
      tag = array_octet f k;
      rest = j.1;
      begins = behind_octet (array_octet f k) b j.0 j.1 j.2 j.3;
      announced = array_announced f k (read_kind_low k e.0);
    }
announces (many k ss ds) b e =
    let f = e.1 in
    let j = e.2 in
    record {
      tag = array_octet f k;
      rest = j.1;
      begins = behind_octet (array_octet f k) b j.0 j.1 j.2 j.3;
      announced = array_announced f k (read_kind_low k e.0);
    }

-- ---- the first octets of a DataValue

bare_ahead : (takes : ValueType → Bool) (mask : ℕ) (octets : List ℕ) → has mask 1 ≡ false → is_kept_at takes (mask ∷ octets) ≡ true
bare_ahead takes mask [] h = refl
bare_ahead takes mask (tag ∷ octets) h = ap (λ (b : Bool). not b || is_kept takes (type_at tag)) h

valued_ahead : (takes : ValueType → Bool) (mask tag : ℕ) (octets : List ℕ) → has mask 1 ≡ true
    → is_kept_at takes (mask ∷ (tag ∷ octets)) ≡ is_kept takes (type_at tag)
valued_ahead takes mask tag octets h = ap (λ (b : Bool). not b || is_kept takes (type_at tag)) h

ahead_is : (takes : ValueType → Bool) (held : Option VariantData) (fields : DataFields) (front rest : List ℕ) (d : DataValue)
    → EncodesDataValue (value_within held fields) front
    → kept_with takes held d ≡ cond (is_kept_at takes (front ++ rest)) d null_value
ahead_is takes None fields front rest d e =
    let mask = e.0 in
    let j = e.1 in
    let octets : front ≡ mask ∷ j.1 = behind_octet mask front j.0 j.1 j.2 j.3 in
    sym (ap (λ (b : List ℕ). cond (is_kept_at takes (b ++ rest)) d null_value) octets
    ∙ ap (λ (b : Bool). cond b d null_value) (bare_ahead takes mask (j.1 ++ rest) j.4.1.0))
ahead_is takes (Some v) fields front rest d e =
    let mask = e.0 in
    let j = e.1 in
    let held = j.4.1.1 in
    let first = announces v held.0 held.3 in
    let octets : front ≡ mask ∷ (first.tag ∷ (first.rest ++ held.1)) =
    behind_octet mask front j.0 j.1 j.2 j.3
    ∙ ap (λ (b : List ℕ). mask ∷ b) (held.2 ∙ ap (λ (b : List ℕ). b ++ held.1) first.begins) in
    sym (ap (λ (b : List ℕ). cond (is_kept_at takes (b ++ rest)) d null_value) octets
    ∙ ap (λ (b : Bool). cond b d null_value) (valued_ahead takes mask first.tag ((first.rest ++ held.1) ++ rest) j.4.1.0
    ∙ ap (is_kept takes) first.announced))

encoded_as : (d : DataValue) (front : List ℕ) → data_value_format.encodes d front → EncodesDataValue (value_within d.value (data_fields_of d)) front
unfolding data_value_format
encoded_as d front h = h

-- what is kept of a DataValue that was read
pub kept_is : (takes : ValueType → Bool) (levels : ℕ) (octets : List ℕ) (d : DataValue) (rest : List ℕ)
    → data_value_format.decode levels octets ≡ Some (d, rest)
    → kept_value takes d ≡ cond (is_kept_at takes octets) d null_value
kept_is takes levels octets d rest e =
    let s = (lawful_data_value.exact levels).sound octets d rest e in
    ahead_is takes d.value (data_fields_of d) s.front rest d (encoded_as d s.front s.encoded.0)
    ∙ sym (ap (λ (b : List ℕ). cond (is_kept_at takes b) d null_value) s.parts)
