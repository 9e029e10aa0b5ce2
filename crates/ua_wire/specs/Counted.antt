-- Bytes and texts after their count (OPC 10000-6, 5.2.2.7 and 5.2.2.4).
use Rattle.std.specs.Prelude.{◌≡◌, ℕ, ◌<◌, ◌≤◌, List, ◌++◌, Bool, true, cond, length, take, drop, nat_eq, nat_lt, Option, Some, None}
use Rattle.std.specs.Str.{is_utf8}
use Rattle.ua_wire.specs.Exact.{◌>>=◌, image_read}
use Rattle.ua_wire.specs.Number.{number_at, number_octets, IsNumber}
use Rattle.ua_wire.specs.Format.{Flat}
use Rattle.ua_wire.specs.Join.{such}

-- ---- this many bytes

-- n bytes, unchanged
abbrev pub AreOctets : ℕ → List ℕ → List ℕ → Type 0
AreOctets n v b = (length v ≡ n) × (b ≡ v)

-- the first n bytes, and those after them
unfoldable pub octets_at : ℕ → List ℕ → Option (List ℕ × List ℕ)
octets_at n octets = cond (nat_lt (length octets) n) None (Some (take n octets, drop n octets))

-- the format of n bytes, which are encoded unchanged
abbrev pub octets : ℕ → Flat (List ℕ)
octets n = record {
  encodes = AreOctets n;
  encodable = λ v. nat_eq (length v) n;
  canonical = λ v. v;
  decode = octets_at n;
}

-- ---- bytes, or null, after a count

-- counts from here on are negative as an Int32
abbrev pub first_negative : ℕ
first_negative = 0x80000000

-- the count of null in the canonical encoding: -1 as an Int32
abbrev pub null_count : ℕ
null_count = 0xFFFFFFFF

-- null: any negative count, and nothing after it, as FF FF FF FF; else the count and that many
-- bytes, as 02 00 00 00 AB CD
abbrev pub EncodesCounted : Option (List ℕ) → List ℕ → Type 0
EncodesCounted None b = (count : ℕ) × (first_negative ≤ count) × IsNumber 4 count b
EncodesCounted (Some v) b = (length v < first_negative) × (b ≡ number_octets 4 (length v) ++ v)

-- there are fewer bytes than a count can name
abbrev pub counted_fits : Option (List ℕ) → Bool
counted_fits None = true
counted_fits (Some v) = nat_lt (length v) first_negative

-- the canonical encoding: -1 for null
abbrev pub counted_octets : Option (List ℕ) → List ℕ
counted_octets None = number_octets 4 null_count
counted_octets (Some v) = number_octets 4 (length v) ++ v

-- after the count: null has no further bytes
abbrev pub behind_count : ℕ → List ℕ → Option (Option (List ℕ) × List ℕ)
behind_count count octets = cond (nat_lt count first_negative) (image_read Some (octets_at count) octets) (Some (None, octets))

-- the count, and what follows it
abbrev pub counted_at : List ℕ → Option (Option (List ℕ) × List ℕ)
counted_at octets = number_at 4 octets >>= λ count. behind_count count.0 count.1

-- an Int32 count and that many bytes; any negative count is null, and -1 is its canonical encoding
-- (OPC 10000-6, 5.2.2.7)
unfoldable pub counted : Flat (Option (List ℕ))
counted = record {
  encodes = EncodesCounted;
  encodable = counted_fits;
  canonical = counted_octets;
  decode = counted_at;
}

-- ---- texts

-- null, or UTF-8
abbrev pub is_text : Option (List ℕ) → Bool
is_text None = true
is_text (Some v) = is_utf8 v

-- the same if the bytes are UTF-8, without a zero byte at the end (OPC 10000-6, 5.2.2.4)
unfoldable pub text : Flat (Option (List ℕ))
text = such is_text counted

-- an Int32 count above the number of bytes after it
pub record IsOverlong (octets : List ℕ) : Type 0 where
  pub count : ℕ
  pub rest : List ℕ
  pub begins : number_at 4 octets ≡ Some (count, rest)
  pub positive : count < first_negative
  pub beyond : length rest < count
