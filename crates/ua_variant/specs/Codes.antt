-- The codes of the data, which a model of them needs.
pub use Rattle.ua_diagnostic.specs.Codes.{coded_diagnostic}
use Rattle.std.specs.Prelude.{◌≡◌, ℕ, List, [], None, refl}
use lib.IntN.{ℤ}
use Rattle.std.proofs.Common.{ap, ap₂}
use Rattle.std.specs.Coded.{Coded, code_by, coded_list}
use Rattle.ua_variant.specs.Trees.{Tree, tip, fork, coded_tree}
use Rattle.ua_variant.specs.Data.{LeafData, DataFields, VariantData, null, one, absent, many, ScalarData, leaf, data_value}
use Rattle.ua_variant.specs.Data.{variant, diagnostic, ScalarsData, no_scalars, scalar, DataValueData, bare, valued}
use Rattle.ua_diagnostic.specs.Diagnostic.{DiagnosticData}

-- the contents of the leaves of a tree
pub data Mark : Type 0 where
  empty_mark : Mark
  array_mark : ℕ → List ℤ → Mark
  leaf_mark : LeafData → Mark
  diagnostic_mark : DiagnosticData → Mark
  fields_mark : DataFields → Mark

-- a Variant, a scalar, the elements of an array, and a DataValue as trees, one tree for each value
abbrev mutual
  pub variant_tree : VariantData → Tree Mark
  variant_tree null = tip empty_mark
  variant_tree (one s) = fork (tip empty_mark) (scalar_tree s)
  variant_tree (absent k ds) = tip (array_mark k ds)
  variant_tree (many k ss ds) = fork (tip (array_mark k ds)) (scalars_tree ss)

  pub scalar_tree : ScalarData → Tree Mark
  scalar_tree (leaf l) = tip (leaf_mark l)
  scalar_tree (data_value d) = fork (tip empty_mark) (data_value_tree d)
  scalar_tree (variant v) = fork (tip (array_mark 0 [])) (variant_tree v)
  scalar_tree (diagnostic d) = tip (diagnostic_mark d)

  pub scalars_tree : ScalarsData → Tree Mark
  scalars_tree no_scalars = tip empty_mark
  scalars_tree (scalar s ss) = fork (scalar_tree s) (scalars_tree ss)

  pub data_value_tree : DataValueData → Tree Mark
  data_value_tree (bare f) = tip (fields_mark f)
  data_value_tree (valued v f) = fork (tip (fields_mark f)) (variant_tree v)

-- the DataValue without a value and without any field
abbrev pub no_data : DataValueData
no_data = bare (record { status = None; source_timestamp = None; source_picoseconds = None; server_timestamp = None; server_picoseconds = None })

-- the value that has this tree; some value if none has it
abbrev mutual
  pub variant_from : Tree Mark → VariantData
  variant_from (tip (array_mark k ds)) = absent k ds
  variant_from (fork (tip empty_mark) t) = one (scalar_from t)
  variant_from (fork (tip (array_mark k ds)) t) = many k (scalars_from t) ds
  variant_from _ = null

  pub scalar_from : Tree Mark → ScalarData
  scalar_from (tip (leaf_mark l)) = leaf l
  scalar_from (tip (diagnostic_mark d)) = diagnostic d
  scalar_from (fork (tip empty_mark) t) = data_value (data_value_from t)
  scalar_from (fork (tip (array_mark k ds)) t) = variant (variant_from t)
  scalar_from _ = variant null

  pub scalars_from : Tree Mark → ScalarsData
  scalars_from (tip m) = no_scalars
  scalars_from (fork s ss) = scalar (scalar_from s) (scalars_from ss)

  pub data_value_from : Tree Mark → DataValueData
  data_value_from (tip (fields_mark f)) = bare f
  data_value_from (fork (tip (fields_mark f)) t) = valued (variant_from t) f
  data_value_from _ = no_data

mutual
  pub variant_back : (v : VariantData) → variant_from (variant_tree v) ≡ v
  variant_back null = refl
  variant_back (one s) = ap one (scalar_back s)
  variant_back (absent k ds) = refl
  variant_back (many k ss ds) = ap (λ xs. many k xs ds) (scalars_back ss)

  pub scalar_back : (s : ScalarData) → scalar_from (scalar_tree s) ≡ s
  scalar_back (leaf l) = refl
  scalar_back (data_value d) = ap data_value (data_value_back d)
  scalar_back (variant v) = ap variant (variant_back v)
  scalar_back (diagnostic d) = refl

  pub scalars_back : (ss : ScalarsData) → scalars_from (scalars_tree ss) ≡ ss
  scalars_back no_scalars = refl
  scalars_back (scalar s ss) = ap₂ scalar (scalar_back s) (scalars_back ss)

  pub data_value_back : (d : DataValueData) → data_value_from (data_value_tree d) ≡ d
  data_value_back (bare f) = refl
  data_value_back (valued v f) = ap (λ w. valued w f) (variant_back v)

-- a Variant is coded as its tree
abbrev pub coded_variant : Coded Mark → Coded VariantData
coded_variant mark = code_by (Tree Mark) (coded_tree empty_mark mark) variant_tree variant_from variant_back

-- a scalar is coded as its tree
abbrev pub coded_scalar : Coded Mark → Coded ScalarData
coded_scalar mark = code_by (Tree Mark) (coded_tree empty_mark mark) scalar_tree scalar_from scalar_back

-- a list of scalars is coded by the codes of the scalars
abbrev pub coded_scalars : Coded Mark → Coded (List ScalarData)
coded_scalars mark = coded_list (coded_scalar mark)

-- a DataValue is coded as its tree
abbrev pub coded_data_value : Coded Mark → Coded DataValueData
coded_data_value mark = code_by (Tree Mark) (coded_tree empty_mark mark) data_value_tree data_value_from data_value_back
