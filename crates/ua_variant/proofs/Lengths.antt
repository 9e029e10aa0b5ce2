-- How many octets an encoding takes at least.
use Rattle.std.specs.Prelude.{ℕ, ◌*◌, ◌≤◌, List, [], ◌∷◌, length}
use Rattle.std.specs.Int.{w16, w32, w64}
use Rattle.std.proofs.Common.{sym, subst, ap, arith}
use Rattle.ua_wire.specs.Join.{number}
use Rattle.ua_wire.proofs.Lawfulness.{number_starts}
use Rattle.ua_builtin.specs.DateTime.{date_time as date_time_format}
use Rattle.ua_builtin.specs.Status.{status_code as status_code_format}
use Rattle.ua_builtin.proofs.PlainLawful.{lawful_date_time, lawful_status_code}
use Rattle.ua_wire.proofs.Leasts.{number_least, signed_least, float_bits_least, double_bits_least, counted_least, text_least}
use Rattle.ua_builtin.proofs.Leasts.{date_time_least, guid_least, xml_element_least, node_id_least, expanded_node_id_least}
use Rattle.ua_builtin.proofs.Leasts.{status_code_least, qualified_name_least, extension_object_least}
use Rattle.ua_variant.specs.Data.{LeafData, boolean, sbyte, byte, int16, uint16, int32, uint32, int64, uint64, float, double, string}
use Rattle.ua_variant.specs.Data.{date_time, guid, byte_string, xml_element, node_id, expanded_node_id, status_code, qualified_name}
use Rattle.ua_variant.specs.Data.{localized_text, extension_object, reserved, DataFields, VariantData, null, one, absent, many, ScalarData}
use Rattle.ua_variant.specs.Data.{leaf, data_value, variant, diagnostic, ScalarsData, no_scalars, scalar, DataValueData, bare, valued}
use Rattle.ua_diagnostic.specs.Diagnostic.{innermost, around}
use Rattle.ua_builtin.specs.Flags.{has}
use Rattle.ua_variant.specs.Measure.{data_fields_count, variant_count, scalar_count, scalars_count, data_value_count}
use Rattle.ua_variant.specs.Leaf.{EncodesLeaf, leaf_kind, is_reserved}
use Rattle.ua_variant.proofs.LeavesRead.{leaf_starts, if_true}
use Rattle.ua_variant.specs.Least.{least_octets}
use Rattle.ua_variant.specs.Fields.{data_fields}
use Rattle.ua_variant.specs.Encodable.{kind_of_scalar, row_length}
use Rattle.ua_variant.specs.Encoding.{EncodesVariant, EncodesScalar, EncodesRow, EncodesDataValue}
use Rattle.ua_diagnostic.proofs.Lengths.{optional_takes, both_take, octet_takes, diagnostic_takes, dims_take}

pub data_fields_take : (m : ℕ) (f : DataFields) (b : List ℕ) → (data_fields m).encodes f b → data_fields_count f ≤ length b
unfolding data_fields
data_fields_take m f b h =
    let j = h.encoded in
    let k = j.second_encoded in
    let l = k.second_encoded in
    let n = l.second_encoded in
    let d = both_take l.back n.front n.back _ _ n.parts (optional_takes (date_time_format).encodes lawful_date_time.starts (has m 8) _ n.front n.first_encoded)
    (optional_takes (number 2).encodes (number_starts 1) (has m 32) _ n.back n.second_encoded) in
    let c = both_take k.back l.front l.back _ _ l.parts (optional_takes (number 2).encodes (number_starts 1) (has m 16) _ l.front l.first_encoded) d in
    let e = both_take j.back k.front k.back _ _ k.parts (optional_takes (date_time_format).encodes lawful_date_time.starts (has m 4) _ k.front k.first_encoded)
    c in
    let a = both_take b j.front j.back _ _ j.parts (optional_takes status_code_format.encodes lawful_status_code.starts (has m 2) _ j.front j.first_encoded) e
    in
    subst (λ g. data_fields_count g ≤ length b) (sym h.is) (omega arith)

leaf_takes : (l : LeafData) (b : List ℕ) → EncodesLeaf l b → 1 ≤ length b
leaf_takes l [] h = absurd (leaf_starts l h)
leaf_takes l (x ∷ b) h = omega arith

-- each value that is counted takes an octet at least
mutual
  pub variant_takes : (v : VariantData) (b : List ℕ) → EncodesVariant v b → variant_count v ≤ length b
  variant_takes null b h = omega (arith, ap length h.1)
  variant_takes (one s) b h = let j = h.1 in octet_takes _ _ b j.0 j.1 j.2 j.3 (scalar_takes s j.1 j.4)
  variant_takes (absent k ds) b h =
      let j = h.3 in
      let n = octet_takes _ 0 b j.0 j.1 j.2 j.3 (omega arith) in
      omega (arith, n, ap length h.1)
  variant_takes (many k ss ds) b h =
      let j = h.2 in
      let g = j.4 in
      let i = g.4 in
      let elements = both_take g.1 i.0 i.1 _ _ i.2 (scalars_take k ss i.0 i.3) (dims_take h.1 (row_length ss) ds i.1 i.4) in
      let r = octet_takes _ _ b j.0 j.1 j.2 j.3 (both_take j.1 g.0 g.1 0 _ g.2 (omega arith) elements) in
      omega arith

  pub scalar_takes : (s : ScalarData) (b : List ℕ) → EncodesScalar s b → scalar_count s ≤ length b
  scalar_takes (leaf l) b h = leaf_takes l b h
  scalar_takes (data_value d) b h = data_value_takes d b h
  scalar_takes (variant v) b h = variant_takes v b h
  scalar_takes (diagnostic d) b h = diagnostic_takes d b h

  pub scalars_take : (k : ℕ) (ss : ScalarsData) (b : List ℕ) → EncodesRow k ss b → scalars_count ss ≤ length b
  scalars_take k no_scalars b h = omega arith
  scalars_take k (scalar s ss) b h = let j = h.1 in both_take b j.0 j.1 _ _ j.2 (scalar_takes s j.0 j.3) (scalars_take k ss j.1 j.4)

  pub data_value_takes : (d : DataValueData) (b : List ℕ) → EncodesDataValue d b → data_value_count d ≤ length b
  data_value_takes (bare f) b h = let j = h.1 in octet_takes h.0 _ b j.0 j.1 j.2 j.3 (data_fields_take h.0 f j.1 j.4.1.1)
  data_value_takes (valued v f) b h =
      let j = h.1 in
      let g = j.4.1.1 in
      let r = octet_takes h.0 _ b j.0 j.1 j.2 j.3 (both_take j.1 g.0 g.1 _ _ g.2 (variant_takes v g.0 g.3) (data_fields_take h.0 f g.1 g.4)) in
      omega arith

-- a scalar that holds no further value takes the least octets of its type id
leaf_least : (l : LeafData) (b : List ℕ) → EncodesLeaf l b → least_octets (leaf_kind l) ≤ length b
unfolding least_octets
leaf_least (boolean x) b h = leaf_takes (boolean x) b h
leaf_least (sbyte x) b h = leaf_takes (sbyte x) b h
leaf_least (byte x) b h = leaf_takes (byte x) b h
leaf_least (int16 x) b h = signed_least w16 x b h
leaf_least (uint16 x) b h = number_least 2 x b h
leaf_least (int32 x) b h = signed_least w32 x b h
leaf_least (uint32 x) b h = number_least 4 x b h
leaf_least (int64 x) b h = signed_least w64 x b h
leaf_least (uint64 x) b h = number_least 8 x b h
leaf_least (float x) b h = float_bits_least x b h
leaf_least (double x) b h = double_bits_least x b h
leaf_least (string x) b h = text_least x b h
leaf_least (date_time x) b h = date_time_least x b h
leaf_least (guid x) b h = guid_least x b h
leaf_least (byte_string x) b h = counted_least x b h
leaf_least (xml_element x) b h = xml_element_least x b h
leaf_least (node_id x) b h = node_id_least x b h
leaf_least (expanded_node_id x) b h = expanded_node_id_least x b h
leaf_least (status_code x) b h = status_code_least x b h
leaf_least (qualified_name x) b h = qualified_name_least x b h
leaf_least (localized_text x) b h = leaf_takes (localized_text x) b h
leaf_least (extension_object x) b h = extension_object_least x b h
leaf_least (reserved k x) b h = subst (λ n. n ≤ length b) (sym (if_true (is_reserved k) 4 _ h.0)) (counted_least x b h.1)

-- an element takes the least octets of its type id
scalar_least : (s : ScalarData) (b : List ℕ) → EncodesScalar s b → least_octets (kind_of_scalar s) ≤ length b
unfolding least_octets
scalar_least (leaf l) b h = leaf_least l b h
scalar_least (data_value (bare f)) b h = let j = h.1 in octet_takes h.0 0 b j.0 j.1 j.2 j.3 (omega arith)
scalar_least (data_value (valued v f)) b h = let j = h.1 in octet_takes h.0 0 b j.0 j.1 j.2 j.3 (omega arith)
scalar_least (variant null) b h = omega (arith, ap length h.1)
scalar_least (variant (one s)) b h = let j = h.1 in octet_takes _ 0 b j.0 j.1 j.2 j.3 (omega arith)
scalar_least (variant (absent k ds)) b h = let j = h.3 in octet_takes _ 0 b j.0 j.1 j.2 j.3 (omega arith)
scalar_least (variant (many k ss ds)) b h = let j = h.2 in octet_takes _ 0 b j.0 j.1 j.2 j.3 (omega arith)
scalar_least (diagnostic (innermost f)) b h = let j = h.1 in octet_takes h.0 0 b j.0 j.1 j.2 j.3 (omega arith)
scalar_least (diagnostic (around f d)) b h = let j = h.1 in octet_takes h.0 0 b j.0 j.1 j.2 j.3 (omega arith)

-- m elements take m times the least octets of their type id
pub row_takes : (k : ℕ) (ss : ScalarsData) (b : List ℕ) → EncodesRow k ss b → row_length ss * least_octets k ≤ length b
row_takes k no_scalars b h = omega arith
row_takes k (scalar s ss) b h =
    let j = h.1 in
    let one : least_octets k ≤ length j.0 = subst (λ i. least_octets i ≤ length j.0) h.0 (scalar_least s j.0 j.3) in
    let whole = both_take b j.0 j.1 _ _ j.2 one (row_takes k ss j.1 j.4) in
    omega arith
