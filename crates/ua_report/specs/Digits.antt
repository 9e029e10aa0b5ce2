-- The content of a file: bytes, or hexadecimal digits among white space.
use Rattle.std.specs.Prelude.{◌≡◌, ◌+◌, ◌-◌, ◌^◌, ◌&&◌, ℕ, nat_lt, Bool, true, false, not, List, ◌++◌, length, min, Option, option_to_list, Ok}
use Rattle.std.specs.Char.{is_ascii_hexdigit, is_ascii_whitespace}
use Rattle.std.specs.List.{filter, position_or_len}
use Rattle.hex.specs.Hex.{decode_of}
use Rattle.ua_report.specs.declared.digit_place.DigitPlace.{DigitPlace}

-- a text without spaces, tabs, line feeds, form feeds and carriage returns
abbrev pub digits_in : List ℕ → List ℕ
digits_in text = filter (λ octet. not (is_ascii_whitespace octet)) text

-- the text is bytes as pairs of hexadecimal digits of either case, and white space
abbrev pub IsHex : List ℕ → List ℕ → Type 0
IsHex text octets = decode_of (digits_in text) ≡ Ok octets

-- the bytes that a file with this content contains: the content itself, or with `--hex` what its
-- digits stand for
abbrev pub HoldsOctets : Bool → List ℕ → List ℕ → Type 0
HoldsOctets false content octets = octets ≡ content
HoldsOctets true content octets = IsHex content octets

-- a file with this content contains no bytes: with `--hex`, if its digits stand for none
abbrev pub HoldsNone : Bool → List ℕ → Type 0
HoldsNone hex content = (octets : List ℕ) → ¬ (HoldsOctets hex content octets)

-- ---- where a text stops being hexadecimal

-- the byte is neither a hexadecimal digit nor white space
abbrev pub is_no_digit : ℕ → Bool
is_no_digit octet = not (is_ascii_hexdigit octet) && not (is_ascii_whitespace octet)

-- how many bytes of a text stand before its first such one; where it has none, all of them
abbrev pub digits_before : List ℕ → ℕ
digits_before text = position_or_len is_no_digit text

-- how far a fragment is hexadecimal, after so many bytes, and whether it has such a byte
abbrev pub GoesOnHexadecimal : ℕ → List ℕ → DigitPlace → Type 0
GoesOnHexadecimal before piece new = (new.found ≡ nat_lt (digits_before piece) (length piece)) × (new.count ≡ min (before + digits_before piece) (2 ^ 64 - 1))

-- how far a text is hexadecimal, up to 2^64 - 1 bytes, and whether it has such a byte
abbrev pub IsPlaceIn : List ℕ → DigitPlace → Type 0
IsPlaceIn text place = (place.found ≡ nat_lt (digits_before text) (length text)) × (place.count ≡ min (digits_before text) (2 ^ 64 - 1))

-- ---- a text that comes in fragments

-- the text so far is pairs of digits that stand for these bytes, and after them this digit, if any
pub record HexSoFar (half : Option ℕ) (text octets : List ℕ) : Type 0 where
  pub pairs : List ℕ
  pub parts : digits_in text ≡ pairs ++ option_to_list half
  pub decoded : decode_of pairs ≡ Ok octets

-- whatever follows, the text stands for no bytes
abbrev pub IsNeverHex : List ℕ → Type 0
IsNeverHex text = (more octets : List ℕ) → ¬ (IsHex (text ++ more) octets)

-- the bytes of a file whose content so far is this, with `--hex` if a digit may have no pair yet
abbrev pub HoldsSoFar : Bool → Option ℕ → List ℕ → List ℕ → Type 0
HoldsSoFar false half content octets = octets ≡ content
HoldsSoFar true half content octets = HexSoFar half content octets

-- whatever follows, a file whose content begins with this contains no bytes
abbrev pub HoldsNever : Bool → List ℕ → Type 0
HoldsNever hex content = (more octets : List ℕ) → ¬ (HoldsOctets hex (content ++ more) octets)
