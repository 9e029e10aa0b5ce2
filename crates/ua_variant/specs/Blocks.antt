-- Rows of an array that are decoded part by part.
use Rattle.std.specs.Prelude.{◌≡◌, ℕ, List, [], ◌∷◌, Option, Some, None, Result, Ok, Err}
use Rattle.ua_wire.specs.declared.fault.ReadFault.{ReadFault}
use Rattle.ua_wire.specs.declared.fault.ReadFault.TheVariants.{NoValue, OutOfMemory}
use Rattle.ua_builtin.specs.Exact.{◌>>=◌, image_read}
use Rattle.ua_diagnostic.specs.Parts.{Decoder}
use Rattle.ua_variant.specs.Data.{ScalarData, leaf, ScalarsData, scalar}
use Rattle.ua_variant.specs.Decoding.{row_at}
use Rattle.ua_variant.specs.Leaf.{leaf_at}

-- these before the rest of a row
abbrev pub before : List ScalarData → ScalarsData → ScalarsData
before [] r = r
before (s ∷ ss) r = scalar s (before ss r)

-- what was decoded of a row, with these scalars before it
abbrev pub with_front : List ScalarData → Option (ScalarsData × List ℕ) → Option (ScalarsData × List ℕ)
with_front ss r = r >>= λ x. Some (before ss x.0, x.1)

-- n more values, after these
abbrev pub row_behind : List ScalarData → ℕ → Decoder ScalarData → Decoder ScalarsData
row_behind ss n p octets = with_front ss (row_at n p octets)

-- n values of the type id k that contain no other value
unfoldable pub leaf_row_at : ℕ → ℕ → Decoder ScalarsData
leaf_row_at n k octets = row_at n (image_read leaf (leaf_at k)) octets

-- if a step was made, what is left to decode gives the whole; if it met no value, there is no whole
abbrev pub GoesOn : {X A : Type 0} → Option A → Option A → Result X ReadFault → Type 0
GoesOn whole left (Ok _) = whole ≡ left
GoesOn whole left (Err NoValue) = whole ≡ None
GoesOn whole left (Err OutOfMemory) = Unit {0}
