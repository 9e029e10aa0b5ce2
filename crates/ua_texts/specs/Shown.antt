-- How the program shows texts, StatusCodes and bytes.
use Rattle.std.specs.Prelude.{◌≡◌, ◌≤◌, ◌<◌, ℕ, ◌-◌, ◌/◌, ◌%◌, ◌==◌, if◌then◌else◌, Bool, true, false}
use Rattle.std.specs.Prelude.{cond, replicate, length, List, [], ◌∷◌, ◌++◌, Option, Some, None, codes}
use Rattle.std.specs.Char.{encode_utf8, is_ascii_control, is_control}
use Rattle.std.specs.Fmt.{digits, digit_glyph}
use Rattle.std.specs.List.{flat_map}
use Rattle.std.specs.Str.{chars}
use Rattle.base64.specs.Engines.{standard}
use Rattle.base64.specs.GeneralPurpose.{encode_of}
use Rattle.hex.specs.Hex.{encode_lower}

-- ---- texts

-- a byte by `\x` and two lower case hexadecimal digits
abbrev pub escaped_octet : ℕ → List ℕ
escaped_octet b = 92 ∷ 120 ∷ digit_glyph false (b / 16) ∷ digit_glyph false (b % 16) ∷ []

-- a byte of a text: below 0x20 and 0x7F by its digits, a backslash twice, any other unchanged
abbrev pub shown_octet : ℕ → List ℕ
shown_octet b = if b == 92 then 92 ∷ 92 ∷ []
    else (if is_ascii_control b then escaped_octet b else b ∷ [])

-- the bytes of a text, each as it is shown
unfoldable pub shown : List ℕ → List ℕ
shown text = flat_map shown_octet text

-- a character of a text: a control character (U+0000 to U+001F, U+007F to U+009F) by each of its
-- bytes in UTF-8, a backslash twice, any other unchanged; so U+0085 is `\xc2\x85`
abbrev pub escaped_char : ℕ → List ℕ
escaped_char c = if c == 92 then 92 ∷ 92 ∷ []
    else (if is_control c then flat_map escaped_octet (encode_utf8 c) else encode_utf8 c)

-- a byte that is an ASCII character, no control character and no backslash: it is shown as it is
abbrev pub IsPlainOctet : ℕ → Type 0
IsPlainOctet b = (0x20 ≤ b) × (b < 0x7F) × (b ≡ 92 → ⊥)

-- the characters of a text, each as it is escaped
unfoldable pub escaped : List ℕ → List ℕ
escaped text = flat_map escaped_char (chars text)

-- a String: its text, or `null`
abbrev pub shown_string : Option (List ℕ) → List ℕ
shown_string None = codes "null"
shown_string (Some text) = shown text

-- a String on a line of its own: its text, escaped, or `null`
abbrev pub escaped_string : Option (List ℕ) → List ℕ
escaped_string None = codes "null"
escaped_string (Some text) = escaped text

-- ---- numbers

-- the hexadecimal digits of a number, in upper or lower case, with leading zeros up to this length
unfoldable pub padded_digits : Bool → ℕ → ℕ → List ℕ
padded_digits upper places n = replicate (places - length (digits 16 upper n)) 48 ++ digits 16 upper n

-- a StatusCode: eight upper case digits
abbrev pub code_text : ℕ → List ℕ
code_text code = padded_digits true 8 code

-- a bit pattern: `0x` and this many lower case digits
abbrev pub pattern_text : ℕ → ℕ → List ℕ
pattern_text places n = codes "0x" ++ padded_digits false places n

-- ---- bytes

-- a ByteString: its bytes in padded base64 of the standard alphabet, or `null`
abbrev pub base64_text : Option (List ℕ) → List ℕ
base64_text None = codes "null"
base64_text (Some octets) = encode_of standard octets

-- bytes: `0x` and two lower case digits for each
abbrev pub octets_text : List ℕ → List ℕ
octets_text octets = codes "0x" ++ encode_lower octets

-- the text of a value that cannot be encoded
abbrev pub unwritable : List ℕ
unwritable = codes "unwritable"

-- a value by the bytes of its encoding, if it can be encoded
abbrev pub written_text : Bool → List ℕ → List ℕ
written_text fits octets = cond fits (octets_text octets) unwritable
