-- Index ranges: which elements of an array an item of a Read requests (OPC 10000-4, 7.27).
use Rattle.std.specs.Prelude.{ℕ, suc, Bool, ◌&&◌, cond, nat_eq, nat_lt, leb, List, [], ◌∷◌, Option, None, Some}
use Rattle.std.specs.List.{slice_split}
use Rattle.ua_builtin.specs.Exact.{◌>>=◌}
use Rattle.ua_nodes.specs.declared.range.IndexRange.{IndexRange}
use Rattle.ua_nodes.specs.ValueText.{unsigned_denoted}
use Rattle.ua_variant.specs.Data.{ScalarData, VariantData, null, one, absent, many}
use Rattle.ua_variant.specs.View.{row, row_list}

-- the indexes from n to m
abbrev pub places : ℕ → ℕ → IndexRange
places n m = record { first = n; last = m }

-- an index in decimal digits, at most 4294967295
abbrev pub single_index : List ℕ → Option IndexRange
single_index n = unsigned_denoted 32 n >>= λ place. Some (places place place)

-- the indexes from one such number to another, which is greater
abbrev pub between : List ℕ → List ℕ → Option IndexRange
between n m = unsigned_denoted 32 n >>= λ first. unsigned_denoted 32 m >>= λ last. cond (nat_lt first last) (Some (places first last)) None

-- what the texts between colons name: one text an index, two texts the indexes from the first to
-- the second
abbrev pub range_between : List (List ℕ) → Option IndexRange
range_between [] = None
range_between (n ∷ []) = single_index n
range_between (n ∷ m ∷ []) = between n m
range_between (n ∷ m ∷ o ∷ more) = None

-- the indexes that a text names: `n` or `n:m`
abbrev pub range : List ℕ → Option IndexRange
range text = range_between (slice_split (λ c. nat_eq c 58) text)

-- the range that an item requests; none if there is no text
abbrev pub asked_range : Option (List ℕ) → Option IndexRange
asked_range None = None
asked_range (Some text) = range text

-- whether the index is in the range
abbrev pub is_within : IndexRange → ℕ → Bool
is_within r place = leb r.first place && leb place r.last

-- those of the items, the first of which has this index, whose indexes are in the range, in order
abbrev pub ranged_from : {A : Type 0} → IndexRange → ℕ → List A → List A
ranged_from r place [] = []
ranged_from r place (x ∷ xs) = cond (is_within r place) (x ∷ ranged_from r (suc place) xs) (ranged_from r (suc place) xs)

-- the items at the indexes of the range, counted from 0, in order
abbrev pub ranged : {A : Type 0} → IndexRange → List A → List A
ranged r items = ranged_from r 0 items

-- the elements, none if there is no list
abbrev pub list_in : Option (List ScalarData) → List ScalarData
list_in None = []
list_in (Some ss) = ss

-- the elements of an array; a null array has none
abbrev pub elements_of_array : VariantData → List ScalarData
elements_of_array null = []
elements_of_array (one s) = []
elements_of_array (absent kind ds) = []
elements_of_array (many kind ss ds) = row_list ss

-- the array of the elements at the indexes of the range, without dimensions; null if there is no
-- array
abbrev pub range_part_of : IndexRange → VariantData → VariantData
range_part_of r null = null
range_part_of r (one s) = null
range_part_of r (absent kind ds) = many kind (row []) []
range_part_of r (many kind ss ds) = many kind (row (ranged r (row_list ss))) []
