-- Values as texts that denote them.
use Rattle.std.specs.Prelude.{◌≡◌, ◌≢◌, ◌⊎◌, ◌<◌, ℕ, List, ◌∷◌, ◌++◌, length, get_or, nat_eq, Bool, false, not}
use Rattle.ua_wire.specs.Format.{Within, most_levels}
use Rattle.ua_texts.specs.Plain.{IsPlainVariant}
use Rattle.ua_texts.specs.PlainLeaf.{Either}
use Rattle.ua_texts.specs.Values.{variant_text}
use Rattle.ua_variant.specs.Data.{VariantData}
use Rattle.ua_variant.specs.Formats.{variant_format}
use Rattle.ua_variant.specs.View.{variant_of}
use Rattle.ua_variant.specs.declared.values.Variant.{Variant}
use Rattle.ua_c.specs.BadText.{bad_whole_text}
use Rattle.ua_c.specs.Status.{no_memory, no_text, text_value}
use Rattle.ua_c.specs.Texts.{HasNoValueBy, IsEncodingOf, IsBufferKept, IsNoEncoding, IsNoValueEncoded, IsValueBy, Puts}
use Rattle.ua_c.specs.declared.bad_text.BadText.{BadText}

-- a value is wanted in the human-readable form: the number is not 0
abbrev pub is_plain : ℕ → Bool
is_plain n = not (nat_eq n 0)

-- the type and the text that are printed of a value, in the human-readable form if this is wanted
abbrev pub IsSpelled : Bool → VariantData → List ℕ → Type 0
IsSpelled plain v text = Either plain (IsPlainVariant false v text) (text ≡ variant_text v)

-- the value that a type and a text denote has this canonical encoding
pub record IsBack (plain : Bool) (kind text canonical : List ℕ) : Type 0 where
  pub value : Variant
  pub is : IsValueBy plain kind text value
  pub are : IsEncodingOf value canonical

-- no space is in a text
abbrev pub HasNoSpace : List ℕ → Type 0
HasNoSpace text = (i : ℕ) → i < length text → get_or text i 0 ≢ 32

-- a text is a type of this many bytes, without a space, a space, and a text that denotes the value
-- with this canonical encoding
pub record IsSpellingOf (plain : Bool) (canonical text : List ℕ) (name_size : ℕ) : Type 0 where
  pub kind : List ℕ
  pub rest : List ℕ
  pub size : name_size ≡ length kind
  pub parts : text ≡ kind ++ 32 ∷ rest
  pub first : HasNoSpace kind
  pub back : IsBack plain kind rest canonical

-- the same for the value of nesting depth at most 100 that bytes encode, and for what is printed of
-- it
pub record IsSpelling (plain : Bool) (octets text : List ℕ) (name_size : ℕ) : Type 0 where
  pub value : Variant
  pub encodes : Within variant_format.encodes variant_format.depth most_levels value octets
  pub printed : IsSpelled plain (variant_of value) text
  pub is : IsSpellingOf plain (variant_format.canonical value) text name_size

-- what is printed of a value does not denote the value with this canonical encoding
pub record IsNotBack (plain : Bool) (v : VariantData) (canonical : List ℕ) : Type 0 where
  pub text : List ℕ
  pub printed : IsSpelled plain v text
  pub not : (name_size : ℕ) → ¬ (IsSpellingOf plain canonical text name_size)

-- what is printed of the value of at most 100 levels that octets encode does not denote it
pub record HasNoSpelling (plain : Bool) (octets : List ℕ) : Type 0 where
  pub value : Variant
  pub encodes : Within variant_format.encodes variant_format.depth most_levels value octets
  pub not_back : IsNotBack plain (variant_of value) (variant_format.canonical value)

-- the text was put into a buffer
pub record PutsSpelling (plain : Bool) (octets before after : List ℕ) (needed name_size status : ℕ) : Type 0 where
  pub text : List ℕ
  pub is : IsSpelling plain octets text name_size
  pub puts : Puts text before after needed status

-- or there is none: an allocation failed, bytes encode no value, or what is printed of the value
-- that they encode does not denote it
abbrev pub LacksSpelling : Bool → List ℕ → ℕ → Type 0
LacksSpelling plain octets status = (status ≡ no_memory) ⊎ IsNoValueEncoded octets status ⊎ ((status ≡ no_text) × HasNoSpelling plain octets)

abbrev pub SpellsTo : Bool → List ℕ → List ℕ → List ℕ → ℕ → ℕ → ℕ → Type 0
SpellsTo plain octets before after needed name_size status =
    PutsSpelling plain octets before after needed name_size status ⊎ (IsBufferKept before after needed × (name_size ≡ 0) × LacksSpelling plain octets status)

-- ---- the other way

-- the encoding of the value that a type and a text denote was put into a buffer
pub record PutsValueBy (plain : Bool) (kind text before after : List ℕ) (needed status : ℕ) : Type 0 where
  pub value : Variant
  pub is : IsValueBy plain kind text value
  pub octets : List ℕ
  pub are : IsEncodingOf value octets
  pub puts : Puts octets before after needed status

-- or it cannot be encoded
pub record CannotEncodeBy (plain : Bool) (kind text : List ℕ) (bad : BadText) : Type 0 where
  pub value : Variant
  pub is : IsValueBy plain kind text value
  pub to_blame : bad.text ≡ text_value
  pub not_one : IsNoEncoding value bad.status

-- or there is none, and which text is bad is told
abbrev pub EncodesBy : Bool → List ℕ → List ℕ → List ℕ → List ℕ → ℕ → ℕ → ℕ → Type 0
EncodesBy plain kind text before after needed reason status =
    (PutsValueBy plain kind text before after needed status × (reason ≡ 0))
    ⊎ (IsBufferKept before after needed
    × (HasNoValueBy plain kind text (bad_whole_text reason status) ⊎ CannotEncodeBy plain kind text (bad_whole_text reason status)))
