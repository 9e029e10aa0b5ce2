-- What needs no handle: bytes as lines, and values as texts.
use Rattle.std.specs.Prelude.{◌≡◌, ◌⊎◌, ◌≤◌, ◌<◌, ℕ, List, ◌++◌, length, drop, Bool, false, cond, Option, Some, None, IsTrue, IsFalse}
use Rattle.std.specs.Str.{IsUtf8}
use Rattle.ua_nodes.specs.TypeName.{type_denoted}
use Rattle.ua_nodes.specs.ValueText.{value_denoted}
use Rattle.ua_wire.specs.Counted.{text as counted_text}
use Rattle.ua_wire.specs.Format.{IsWhole, Within, most_levels}
use Rattle.ua_pair.specs.Dissected.{AreLines, plain_of_side}
use Rattle.ua_fields.specs.declared.side.Side.{Side}
use Rattle.ua_fields.specs.declared.side.Side.TheVariants.{Client, Server}
use Rattle.ua_answers.specs.PlainRead.{plain_denoted}
use Rattle.ua_texts.specs.Values.{variant_text}
use Rattle.ua_variant.specs.Data.{VariantData}
use Rattle.ua_variant.specs.Formats.{variant_format}
use Rattle.ua_variant.specs.View.{variant_of}
use Rattle.ua_variant.specs.declared.values.Variant.{Variant}
use Rattle.ua_c.specs.BadText.{IsBad}
use Rattle.ua_c.specs.Status.{ok, no_memory, bad_text, too_small, bad_side, bad_octets, text_type, text_value}
use Rattle.ua_c.specs.declared.bad_text.BadText.{BadText}

-- ---- buffers

-- bytes are put at the start of a buffer if they fit, and the rest of it is unchanged; otherwise
-- the buffer is unchanged, and too small
abbrev pub Puts : List ℕ → List ℕ → List ℕ → ℕ → ℕ → Type 0
Puts octets before after needed status = (needed ≡ length octets)
    × (length octets ≤ length before → (status ≡ ok) × (after ≡ octets ++ drop (length octets) before))
    × (length before < length octets → (status ≡ too_small) × (after ≡ before))

-- nothing was written
abbrev pub IsBufferKept : List ℕ → List ℕ → ℕ → Type 0
IsBufferKept before after needed = (needed ≡ 0) × (after ≡ before)

-- ---- Strings

-- bytes are a String: UTF-8, and no more than can be encoded
pub record IsString (octets : List ℕ) : Type 0 where
  pub utf8 : IsUtf8 octets
  pub writable : IsTrue (counted_text.encodable (Some octets))

-- a String is the one that these bytes are
pub record IsStringOf (octets : List ℕ) (value : Option (List ℕ)) : Type 0 where
  pub is : value ≡ Some octets
  pub utf8 : IsUtf8 octets
  pub writable : IsTrue (counted_text.encodable value)

-- an allocation failed, or bytes are no String
abbrev pub IsNoString : List ℕ → ℕ → Type 0
IsNoString octets status = (status ≡ no_memory) ⊎ ((status ≡ bad_text) × ¬ (IsString octets))

-- ---- lines

-- the side of a number: 0 is the client, 1 the server
abbrev pub IsSide : ℕ → Side → Type 0
IsSide number side = ((number ≡ 0) × (side ≡ Client)) ⊎ ((number ≡ 1) × (side ≡ Server))

abbrev pub IsNoSide : ℕ → Type 0
IsNoSide number = ¬ (number ≡ 0) × ¬ (number ≡ 1)

-- the lines of what one side sent were put into a buffer
pub record PutsLines (octets : List ℕ) (number : ℕ) (before after : List ℕ) (needed status : ℕ) : Type 0 where
  pub side : Side
  pub side_is : IsSide number side
  pub lines : List ℕ
  pub are : AreLines (plain_of_side side) octets lines
  pub puts : Puts lines before after needed status

-- or there is no such side, or an allocation failed
abbrev pub DissectsTo : List ℕ → ℕ → List ℕ → List ℕ → ℕ → ℕ → Type 0
DissectsTo octets number before after needed status =
    PutsLines octets number before after needed status ⊎ (IsBufferKept before after needed × ((status ≡ no_memory) ⊎ ((status ≡ bad_side) × IsNoSide number)))

-- ---- values

-- the value that a text denotes at a type or at an array of it, in the human-readable form too if
-- decimals and times are wanted
abbrev pub denoted_by : Bool → ℕ → Bool → List ℕ → Option VariantData
denoted_by plain number array text = cond plain (plain_denoted number array text) (value_denoted number array text)

-- a value is that which a type and a text denote in this form
pub record IsValueBy (plain : Bool) (kind text : List ℕ) (value : Variant) : Type 0 where
  pub kind_utf8 : IsUtf8 kind
  pub text_utf8 : IsUtf8 text
  pub number : ℕ
  pub array : Bool
  pub type_is : type_denoted kind ≡ Some (number, array)
  pub value_is : denoted_by plain number array text ≡ Some (variant_of value)

-- the same, as in a node file
abbrev pub IsValueOf : List ℕ → List ℕ → Variant → Type 0
IsValueOf kind text value = IsValueBy false kind text value

-- a type is named, of which a text denotes no value
pub record DenotesNone (plain : Bool) (kind text : List ℕ) : Type 0 where
  pub number : ℕ
  pub array : Bool
  pub type_is : type_denoted kind ≡ Some (number, array)
  pub none : denoted_by plain number array text ≡ None

-- bytes are no type
abbrev pub IsNoType : List ℕ → ℕ → Type 0
IsNoType kind status = (status ≡ bad_text) × (¬ (IsUtf8 kind) ⊎ (type_denoted kind ≡ None))

-- an allocation failed, or bytes are not the text of a value of a type
abbrev pub IsNoValue : Bool → List ℕ → List ℕ → ℕ → Type 0
IsNoValue plain kind text status = (status ≡ no_memory) ⊎ ((status ≡ bad_text) × (¬ (IsUtf8 text) ⊎ DenotesNone plain kind text))

-- why a type and a text denote none, and which of the two is bad
abbrev pub HasNoValueBy : Bool → List ℕ → List ℕ → BadText → Type 0
HasNoValueBy plain kind text bad = IsBad text_type (IsNoType kind) bad ⊎ IsBad text_value (IsNoValue plain kind text) bad

abbrev pub HasNoValue : List ℕ → List ℕ → ℕ → Type 0
HasNoValue kind text status = IsNoType kind status ⊎ IsNoValue false kind text status

-- a value can be encoded, and bytes are its canonical encoding
abbrev pub IsEncodingOf : Variant → List ℕ → Type 0
IsEncodingOf value octets = IsTrue (variant_format.encodable value) × (octets ≡ variant_format.canonical value)

abbrev pub IsNoEncoding : Variant → ℕ → Type 0
IsNoEncoding value status = (status ≡ no_memory) ⊎ ((status ≡ bad_text) × IsFalse (variant_format.encodable value))

-- the encoding of the value that a type and a text denote was put into a buffer
pub record PutsValue (kind text before after : List ℕ) (needed status : ℕ) : Type 0 where
  pub value : Variant
  pub is : IsValueOf kind text value
  pub octets : List ℕ
  pub are : IsEncodingOf value octets
  pub puts : Puts octets before after needed status

-- or it cannot be encoded
pub record CannotEncode (kind text : List ℕ) (status : ℕ) : Type 0 where
  pub value : Variant
  pub is : IsValueOf kind text value
  pub not : IsNoEncoding value status

-- or there is none
abbrev pub EncodesTo : List ℕ → List ℕ → List ℕ → List ℕ → ℕ → ℕ → Type 0
EncodesTo kind text before after needed status =
    PutsValue kind text before after needed status ⊎ (IsBufferKept before after needed × (HasNoValue kind text status ⊎ CannotEncode kind text status))

-- the type and the text of the value of nesting depth at most 100 that bytes encode
pub record IsTypeAndText (octets text : List ℕ) : Type 0 where
  pub value : Variant
  pub encodes : Within variant_format.encodes variant_format.depth most_levels value octets
  pub is : text ≡ variant_text (variant_of value)

-- bytes encode no value of nesting depth at most 100
abbrev pub IsNoValueEncoded : List ℕ → ℕ → Type 0
IsNoValueEncoded octets status = (status ≡ bad_octets) × IsWhole variant_format octets None

-- the type and the text were put into a buffer
pub record PutsText (octets before after : List ℕ) (needed status : ℕ) : Type 0 where
  pub text : List ℕ
  pub is : IsTypeAndText octets text
  pub puts : Puts text before after needed status

abbrev pub DecodesTo : List ℕ → List ℕ → List ℕ → ℕ → ℕ → Type 0
DecodesTo octets before after needed status =
    PutsText octets before after needed status ⊎ (IsBufferKept before after needed × ((status ≡ no_memory) ⊎ IsNoValueEncoded octets status))
