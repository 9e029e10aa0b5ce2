-- The dimensions of an array: Int32 numbers after their count (OPC 10000-6, 5.2.2.16).
-- 2 rows of 3: 02 00 00 00 02 00 00 00 03 00 00 00
use Rattle.std.specs.Prelude.{◌≡◌, ℕ, suc, zero, ◌*◌, ◌<◌, ◌⊎◌, Bool, true, false, cond, ◌&&◌, ◌||◌, leb, eqb, List, [], ◌∷◌, ◌++◌, length, Some}
use lib.IntN.{ℤ, pos, negsuc}
use Rattle.std.specs.Int.RustNames.{unsigned_abs}
use Rattle.ua_builtin.specs.Exact.{◌>>=◌}
use Rattle.ua_builtin.specs.Number.{IsNumber, number_at, number_octets}
use Rattle.ua_builtin.specs.Counted.{first_negative, null_count as minus_one}
use Rattle.ua_diagnostic.specs.Parts.{Decoder, when, Joins, Nothing, IsCount, IsNegative}

-- the number of elements of an array with these dimensions
abbrev pub product : List ℤ → ℕ
product [] = 1
product (d ∷ ds) = unsigned_abs d * product ds

-- ---- which bytes encode them

-- a dimension, an Int32 that is not negative
abbrev pub IsSize : ℤ → List ℕ → Type 0
IsSize (pos n) b = IsCount n b
IsSize (negsuc n) b = ⊥

-- dimensions, one after the other
abbrev pub EncodesSizes : List ℤ → List ℕ → Type 0
EncodesSizes [] b = Nothing b
EncodesSizes (d ∷ ds) b = Joins (IsSize d) (EncodesSizes ds) b

-- the dimensions of an array of n elements: where they are flagged, a count and as many numbers
-- whose product is n, or a count of at most 0
abbrev pub EncodesDims : Bool → ℕ → List ℤ → List ℕ → Type 0
EncodesDims false n ds b = (ds ≡ []) × Nothing b
EncodesDims true n [] b = IsNegative b ⊎ IsNumber 4 0 b
EncodesDims true n (d ∷ ds) b = (product (d ∷ ds) ≡ n) × Joins (IsCount (length (d ∷ ds))) (EncodesSizes (d ∷ ds)) b

-- ---- which can be encoded, and how

-- at most the greatest Int32
abbrev pub is_count : ℕ → Bool
is_count n = leb n 0x7FFFFFFF

-- an Int32 that is not negative
abbrev pub is_size : ℤ → Bool
is_size (pos n) = is_count n
is_size (negsuc n) = false

-- each is an Int32 that is not negative
abbrev pub are_sizes : List ℤ → Bool
are_sizes [] = true
are_sizes (d ∷ ds) = is_size d && are_sizes ds

-- the dimensions of an array of n elements
abbrev pub dims_encodable : List ℤ → ℕ → Bool
dims_encodable [] n = true
dims_encodable (d ∷ ds) n = is_count (length (d ∷ ds)) && are_sizes (d ∷ ds) && eqb (product (d ∷ ds)) n

-- the count of a null array: -1 as an Int32, FF FF FF FF
abbrev pub null_count_octets : List ℕ
null_count_octets = number_octets 4 minus_one

-- the canonical encoding of dimensions, one after the other
abbrev pub sizes_canonical : List ℤ → List ℕ
sizes_canonical [] = []
sizes_canonical (d ∷ ds) = number_octets 4 (unsigned_abs d) ++ sizes_canonical ds

-- there are dimensions
abbrev pub has_dims : List ℤ → Bool
has_dims [] = false
has_dims (d ∷ ds) = true

-- the canonical encoding: the count and the dimensions, or nothing if there are none
abbrev pub dims_canonical : List ℤ → List ℕ
dims_canonical [] = []
dims_canonical (d ∷ ds) = number_octets 4 (length (d ∷ ds)) ++ sizes_canonical (d ∷ ds)

-- ---- reading on lists

-- a number that is negative as an Int32
abbrev pub is_negative : ℕ → Bool
is_negative n = leb first_negative n

-- a dimension, which is not negative
unfoldable pub size_at : Decoder ℤ
size_at octets = number_at 4 octets >>= λ n. when (is_count n.0) (Some (pos n.0, n.1))

-- n dimensions
abbrev pub sizes_at : ℕ → Decoder (List ℤ)
sizes_at zero octets = Some ([], octets)
sizes_at (suc n) octets = size_at octets >>= λ d. sizes_at n d.1 >>= λ ds. Some (d.0 ∷ ds.0, ds.1)

-- a count of at most 0
abbrev pub is_none_count : ℕ → Bool
is_none_count m = is_negative m || eqb m 0

-- the dimensions of n elements: none unless flagged, none at a count of at most 0, else those whose
-- product is n
unfoldable pub dims_at : Bool → ℕ → Decoder (List ℤ)
dims_at f n octets = cond f (
    number_at 4 octets >>= λ m. cond (is_none_count m.0) (Some ([], m.1)) (sizes_at m.0 m.1 >>= λ ds. when (eqb (product ds.0) n) (Some ds)))
    (Some ([], octets))

-- the dimensions of a null array, which are none: nothing unless flagged, else a count of at most 0
unfoldable pub no_dims_at : Bool → Decoder (List ℤ)
no_dims_at f octets = cond f (number_at 4 octets >>= λ m. when (is_none_count m.0) (Some ([], m.1))) (Some ([], octets))

-- a count of dimensions that is not negative, and after it fewer bytes than as many dimensions
-- take, which are 4 each
pub record IsOverlongDims (octets : List ℕ) : Type 0 where
  pub count : ℕ
  pub rest : List ℕ
  pub begins : number_at 4 octets ≡ Some (count, rest)
  pub positive : count < first_negative
  pub beyond : length rest < 4 * count
