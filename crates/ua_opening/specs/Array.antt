-- Arrays: a count, and that many values (OPC 10000-6, 5.2.5).
use Rattle.std.specs.Prelude.{◌≡◌, ℕ, zero, suc, ◌+◌, ◌<◌, ◌≤◌, max, List, [], ◌∷◌, ◌++◌, Bool, true, ◌&&◌, cond, length, nat_lt, Option, Some, None}
use Rattle.std.specs.List.{flat_map, list_all}
use Rattle.ua_builtin.specs.Counted.{first_negative, null_count}
use Rattle.ua_builtin.specs.Exact.{◌>>=◌, image_read}
use Rattle.ua_builtin.specs.Format.{Format}
use Rattle.ua_builtin.specs.Number.{IsNumber, number_at, number_octets}

-- ---- values, one after the other

-- the bytes are encodings of the values, one after the other
abbrev pub EachEncoded : {A : Type 0} → (A → List ℕ → Type 0) → List A → List ℕ → Type 0
EachEncoded encodes [] b = b ≡ []
EachEncoded encodes (x ∷ xs) b = (front : List ℕ) × (back : List ℕ) × (b ≡ front ++ back) × encodes x front × EachEncoded encodes xs back

-- the first n values at the start of bytes, and the bytes after them
unfoldable pub items_at : {A : Type 0} → (List ℕ → Option (A × List ℕ)) → ℕ → List ℕ → Option (List A × List ℕ)
items_at read zero octets = Some ([], octets)
items_at read (suc n) octets = read octets >>= λ x. items_at read n x.1 >>= λ xs. Some (x.0 ∷ xs.0, xs.1)

-- the greatest nesting depth of the values in the list
abbrev pub items_depth : {A : Type 0} → (A → ℕ) → List A → ℕ
items_depth depth [] = 0
items_depth depth (x ∷ xs) = max (depth x) (items_depth depth xs)

-- the sum of the counts of the values in the list
abbrev pub items_count : {A : Type 0} → (A → ℕ) → List A → ℕ
items_count count [] = 0
items_count count (x ∷ xs) = count x + items_count count xs

-- ---- the array

-- null: any negative count, and nothing after it, as FF FF FF FF; else the count and that many
-- values, as 02 00 00 00 0D 0E of the Bytes 13 and 14
abbrev pub EncodesArray : {A : Type 0} → (A → List ℕ → Type 0) → Option (List A) → List ℕ → Type 0
EncodesArray encodes None b = (count : ℕ) × (first_negative ≤ count) × IsNumber 4 count b
EncodesArray encodes (Some v) b = (back : List ℕ) × (length v < first_negative)
    × (b ≡ number_octets 4 (length v) ++ back) × EachEncoded encodes v back

abbrev pub array_depth : {A : Type 0} → (A → ℕ) → Option (List A) → ℕ
array_depth depth None = 0
array_depth depth (Some v) = items_depth depth v

abbrev pub array_count : {A : Type 0} → (A → ℕ) → Option (List A) → ℕ
array_count count None = 0
array_count count (Some v) = items_count count v

-- there are fewer values than a count can name, and each can be encoded
abbrev pub array_fits : {A : Type 0} → (A → Bool) → Option (List A) → Bool
array_fits fits None = true
array_fits fits (Some v) = nat_lt (length v) first_negative && list_all fits v

-- the canonical encoding: -1 for null
abbrev pub array_octets : {A : Type 0} → (A → List ℕ) → Option (List A) → List ℕ
array_octets octets None = number_octets 4 null_count
array_octets octets (Some v) = number_octets 4 (length v) ++ flat_map octets v

-- after the count: null has no further bytes
abbrev pub array_behind_count : {A : Type 0} → (List ℕ → Option (A × List ℕ)) → ℕ → List ℕ → Option (Option (List A) × List ℕ)
array_behind_count read count octets = cond (nat_lt count first_negative) (image_read Some (items_at read count) octets) (Some (None, octets))

-- the count, and what follows it
abbrev pub array_at : {A : Type 0} → (List ℕ → Option (A × List ℕ)) → List ℕ → Option (Option (List A) × List ℕ)
array_at read octets = number_at 4 octets >>= λ count. array_behind_count read count.0 count.1

-- an Int32 count and that many values; any negative count is null, and -1 is its canonical encoding
-- (OPC 10000-6, 5.2.5)
unfoldable pub array : {A : Type 0} → Format A → Format (Option (List A))
array f = record {
  encodes = EncodesArray f.encodes;
  depth = array_depth f.depth;
  count = array_count f.count;
  encodable = array_fits f.encodable;
  canonical = array_octets f.canonical;
  decode = λ levels. array_at (f.decode levels);
}
