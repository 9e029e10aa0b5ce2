-- The values that texts denote.
use Rattle.std.specs.Prelude.{◌≡◌, ℕ, ◌+◌, ◌^◌, Bool, true, false, ◌&&◌, ◌||◌, cond, nat_eq, nat_lt, List, [], ◌∷◌}
use Rattle.std.specs.Prelude.{◌++◌, length, take, drop, Option, None, Some, Result, Ok, Err, ℤ, pos, neg_ℤ, codes}
use Rattle.std.specs.Char.{digit_value}
use Rattle.std.specs.List.{slice_split}
use Rattle.std.specs.Option.{option_map}
use Rattle.std.specs.Result.{result_ok}
use Rattle.std.specs.Str.{bytes_eq}
use Rattle.std.specs.Str.Parse.{digits_value, starts_with_minus}
use Rattle.base64.specs.Engines.{standard}
use Rattle.base64.specs.GeneralPurpose.{decode_of}
use Rattle.uuid.specs.Text.{parsed}
use Rattle.ua_builtin.specs.Exact.{◌>>=◌}
use Rattle.ua_variant.specs.Data.{LeafData, boolean, sbyte, byte, int16, uint16, int32, uint32, int64, uint64, float, double}
use Rattle.ua_variant.specs.Data.{string, date_time, guid, byte_string, status_code, ScalarData, leaf, VariantData, one, many}
use Rattle.ua_variant.specs.View.{row}
use Rattle.ua_nodes.specs.declared.fault.ValueFault.{ValueFault}
use Rattle.ua_nodes.specs.declared.fault.ValueFault.TheVariants.{NotValue, OutOfMemory}

-- ---- numbers

-- each byte is a digit; letters of either case are the digits from ten on
abbrev pub all_digits : ℕ → List ℕ → Bool
all_digits radix [] = true
all_digits radix (c ∷ cs) = nat_lt (digit_value c) radix && all_digits radix cs

-- one digit or more, and nothing else
abbrev pub is_numeral : ℕ → List ℕ → Bool
is_numeral radix text = nat_lt 0 (length text) && all_digits radix text

-- the number that digits write, if it is below the bound
abbrev pub number_below : ℕ → ℕ → List ℕ → Option ℕ
number_below radix bound text = cond (is_numeral radix text && nat_lt (digits_value radix text) bound) (Some (digits_value radix text)) None

-- an unsigned number of this many bits, in decimal digits
abbrev pub unsigned_denoted : ℕ → List ℕ → Option ℕ
unsigned_denoted bits text = number_below 10 (2 ^ bits) text

-- the number with its sign turned
abbrev pub negative : ℕ → ℤ
negative n = neg_ℤ (pos n)

-- a signed number of this many bits besides its sign: decimal digits, with `-` before them below
-- zero
abbrev pub signed_denoted : ℕ → List ℕ → Option ℤ
signed_denoted bits text = cond (starts_with_minus text)
    (option_map negative (number_below 10 (2 ^ bits + 1) (drop 1 text)))
    (option_map pos (number_below 10 (2 ^ bits) text))

-- a bit pattern: `0x` and exactly this many hexadecimal digits
abbrev pub pattern_denoted : ℕ → List ℕ → Option ℕ
pattern_denoted digits text = cond (bytes_eq (take 2 text) (codes "0x") && nat_eq (length text) (digits + 2))
    (number_below 16 (16 ^ digits) (drop 2 text)) None

-- ---- values

-- `true` or `false`
abbrev pub boolean_denoted : List ℕ → Option Bool
boolean_denoted text = cond (bytes_eq text (codes "true")) (Some true) (cond (bytes_eq text (codes "false")) (Some false) None)

-- bytes in base64, padded, of the standard alphabet
unfoldable pub octets_denoted : List ℕ → Option (List ℕ)
octets_denoted text = result_ok (decode_of standard text)

-- a Guid with its hyphens; digits of either case
unfoldable pub guid_denoted : List ℕ → Option (List ℕ)
guid_denoted text = cond (nat_eq (length text) 36) (parsed text) None

-- what a text denotes at the type of an id: numbers by their digits, Float, Double and StatusCode
-- by their bit patterns, a String unchanged
abbrev pub leaf_denoted : ℕ → List ℕ → Option LeafData
leaf_denoted kind text =
    cond (nat_eq kind 1) (option_map boolean (boolean_denoted text)) (
    cond (nat_eq kind 2) (option_map sbyte (signed_denoted 7 text)) (
    cond (nat_eq kind 3) (option_map byte (unsigned_denoted 8 text)) (
    cond (nat_eq kind 4) (option_map int16 (signed_denoted 15 text)) (
    cond (nat_eq kind 5) (option_map uint16 (unsigned_denoted 16 text)) (
    cond (nat_eq kind 6) (option_map int32 (signed_denoted 31 text)) (
    cond (nat_eq kind 7) (option_map uint32 (unsigned_denoted 32 text)) (
    cond (nat_eq kind 8) (option_map int64 (signed_denoted 63 text)) (
    cond (nat_eq kind 9) (option_map uint64 (unsigned_denoted 64 text)) (
    cond (nat_eq kind 10) (option_map (λ n. float (record { bits = n })) (pattern_denoted 8 text)) (
    cond (nat_eq kind 11) (option_map (λ n. double (record { bits = n })) (pattern_denoted 16 text)) (
    cond (nat_eq kind 12) (Some (string (Some text))) (
    cond (nat_eq kind 13) (option_map (λ n. date_time (record { ticks = n })) (signed_denoted 63 text)) (
    cond (nat_eq kind 14) (option_map (λ u. guid (record { uuid = u })) (guid_denoted text)) (
    cond (nat_eq kind 15) (option_map (λ b. byte_string (Some b)) (octets_denoted text)) (
    cond (nat_eq kind 19) (option_map (λ n. status_code (record { code = n })) (pattern_denoted 8 text)) (
    None))))))))))))))))

-- ---- arrays

-- the texts between the commas; an empty text has none
abbrev pub elements : List ℕ → List (List ℕ)
elements [] = []
elements (c ∷ cs) = slice_split (λ b. nat_eq b 44) (c ∷ cs)

-- what the texts denote, if each denotes a value
abbrev pub leaves_denoted : ℕ → List (List ℕ) → Option (List ScalarData)
leaves_denoted kind [] = Some []
leaves_denoted kind (text ∷ texts) = leaf_denoted kind text >>= λ v. leaves_denoted kind texts >>= λ vs. Some (leaf v ∷ vs)

-- values of the type have a text form
abbrev pub has_text_form : ℕ → Bool
has_text_form kind = (nat_lt 0 kind && nat_lt kind 16) || nat_eq kind 19

-- the longest text of a value, in bytes
abbrev pub most_value_octets : ℕ
most_value_octets = 1073741824

-- a scalar: the one value that the text denotes
abbrev pub scalar_denoted : ℕ → List ℕ → Option VariantData
scalar_denoted kind text = option_map one (option_map leaf (leaf_denoted kind text))

-- an array: its elements' texts, separated by commas
abbrev pub array_denoted : ℕ → List ℕ → Option VariantData
array_denoted kind text = option_map (λ vs. many kind (row vs) []) (leaves_denoted kind (elements text))

-- what a text denotes at a type or at an array of it
unfoldable pub value_denoted : ℕ → Bool → List ℕ → Option VariantData
value_denoted kind array text =
    cond (has_text_form kind && nat_lt (length text) (most_value_octets + 1))
    (cond array (array_denoted kind text) (scalar_denoted kind text)) None

-- ---- what functions answer

-- what a function returned is what the text denotes, unless an allocation failed
abbrev pub Denotes : {X A : Type 0} → (X → A) → Option A → Result X ValueFault → Type 0
Denotes view denoted (Ok v) = denoted ≡ Some (view v)
Denotes view denoted (Err NotValue) = denoted ≡ None
Denotes view denoted (Err OutOfMemory) = Unit {0}

-- these elements before those that follow
abbrev pub in_front : {A : Type 0} → List A → Option (List A) → Option (List A)
in_front front back = option_map (λ vs. front ++ vs) back
