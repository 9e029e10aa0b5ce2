-- Which bytes encode which Variants and DataValues (OPC 10000-6, 5.2.2.16 and 5.2.2.17).
-- the Int32 7 as a Variant: 06 07 00 00 00; an array of the Int32s 7 and 8:
-- 86 02 00 00 00 07 00 00 00 08 00 00 00
-- a DataValue of the Int32 7 and the status 0x80000000: 03 06 07 00 00 00 00 00 00 80
pub use Rattle.ua_diagnostic.specs.Diagnostic.{EncodesDiagnostic}
pub use Rattle.ua_diagnostic.specs.Dimensions.{EncodesDims}
use Rattle.std.specs.Prelude.{◌≡◌, ℕ, ◌+◌, Bool, true, false, IsTrue, List, []}
use Rattle.ua_variant.specs.Data.{VariantData, null, one, absent, many, ScalarData, leaf, data_value, variant}
use Rattle.ua_variant.specs.Data.{diagnostic, ScalarsData, no_scalars, scalar, DataValueData, bare, valued}
use Rattle.ua_diagnostic.specs.Parts.{Joins, Nothing, IsOctet, IsCount, IsNegative, Masked}
use Rattle.ua_builtin.specs.Flags.{has, flag_bit}
use Rattle.ua_variant.specs.Leaf.{EncodesLeaf}
use Rattle.ua_variant.specs.Fields.{data_fields}
use Rattle.ua_variant.specs.Encodable.{kind_of_scalar, row_length, is_read_kind}

-- the first byte of an array: 0x80, 0x40 where dimensions follow, and the type id
abbrev pub array_octet : Bool → ℕ → ℕ
array_octet f k = 0x80 + flag_bit 0x40 f + k

-- a Variant (OPC 10000-6, 5.2.2.16): 0 alone is null
-- one: the byte of the type id, and the value; a Variant can hold arrays of Variants, and no
-- Variant directly
-- an array: its byte, the count of the elements, the elements, and their dimensions where the byte
-- announces them; a null one has a negative count
abbrev mutual
  pub EncodesVariant : VariantData → List ℕ → Type 0
  EncodesVariant null b = IsOctet 0 b
  EncodesVariant (one s) b = (kind_of_scalar s ≡ 24 → ⊥) × Joins (IsOctet (kind_of_scalar s)) (EncodesScalar s) b
  EncodesVariant (absent k ds) b =
      IsTrue (is_read_kind k) × (ds ≡ []) × (f : Bool) × Joins (IsOctet (array_octet f k)) (Joins IsNegative (EncodesDims f 0 [])) b
  EncodesVariant (many k ss ds) b =
      IsTrue (is_read_kind k) × (f : Bool)
      × Joins (IsOctet (array_octet f k)) (Joins (IsCount (row_length ss)) (Joins (EncodesRow k ss) (EncodesDims f (row_length ss) ds))) b

  pub EncodesScalar : ScalarData → List ℕ → Type 0
  EncodesScalar (leaf l) b = EncodesLeaf l b
  EncodesScalar (data_value d) b = EncodesDataValue d b
  EncodesScalar (variant v) b = EncodesVariant v b
  EncodesScalar (diagnostic d) b = EncodesDiagnostic d b

  -- values of the type id k, one after the other
  pub EncodesRow : ℕ → ScalarsData → List ℕ → Type 0
  EncodesRow k no_scalars b = Nothing b
  EncodesRow k (scalar s ss) b = (kind_of_scalar s ≡ k) × Joins (EncodesScalar s) (EncodesRow k ss) b

  -- a mask of at most 0x3F, if 0x01 is set the value, and the other fields that it announces (OPC
  -- 10000-6, 5.2.2.17)
  pub EncodesDataValue : DataValueData → List ℕ → Type 0
  EncodesDataValue (bare f) b = Masked 0x3F (λ m c. (has m 0x01 ≡ false) × (data_fields m).encodes f c) b
  EncodesDataValue (valued v f) b = Masked 0x3F (λ m c. (has m 0x01 ≡ true) × Joins (EncodesVariant v) ((data_fields m).encodes f) c) b
