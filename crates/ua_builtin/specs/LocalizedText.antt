-- LocalizedTexts (OPC 10000-6, 5.2.2.14): "Hi" without a locale is 02 02 00 00 00 48 69.
use Rattle.std.specs.Prelude.{◌≡◌, ◌+◌, ◌&&◌, ℕ, List, ◌∷◌, ◌++◌, Bool, Option, cond, nat_lt, is_some}
use Rattle.ua_wire.specs.Exact.{then_read}
use Rattle.ua_wire.specs.Number.{number_at, number_octets}
use Rattle.ua_wire.specs.Format.{Flat}
use Rattle.ua_wire.specs.Join.{nothing, both, made}
use Rattle.ua_builtin.specs.Flags.{has, flag_bit, flagged_text, EncodesFlagged}
use Rattle.ua_builtin.specs.declared.localized_text.LocalizedText.{LocalizedText}

-- ---- which bytes encode it

-- a mask of 0x01 for the locale and 0x02 for the text, and what is flagged, in that order
pub record EncodesLocalizedText (v : LocalizedText) (b : List ℕ) : Type 0 where
  pub has_locale : Bool
  pub has_text : Bool
  pub locale : List ℕ
  pub text : List ℕ
  pub locale_encoded : EncodesFlagged has_locale v.locale locale
  pub text_encoded : EncodesFlagged has_text v.text text
  pub octets : b ≡ (flag_bit 0x01 has_locale + flag_bit 0x02 has_text) ∷ (locale ++ text)

-- ---- what is written

-- what isn't null is flagged
abbrev pub mask_of : LocalizedText → ℕ
mask_of v = flag_bit 0x01 (is_some v.locale) + flag_bit 0x02 (is_some v.text)

-- both texts can be encoded
abbrev pub localized_text_fits : LocalizedText → Bool
localized_text_fits v = (flagged_text (is_some v.locale)).encodable v.locale && (flagged_text (is_some v.text)).encodable v.text

-- the mask, and the texts that aren't null
abbrev pub localized_text_octets : LocalizedText → List ℕ
localized_text_octets v = number_octets 1 (mask_of v)
    ++ ((flagged_text (is_some v.locale)).canonical v.locale ++ (flagged_text (is_some v.text)).canonical v.text)

-- ---- what is read

-- the LocalizedText of a locale and a text
abbrev pub localized : Option (List ℕ) × Option (List ℕ) → LocalizedText
localized p = record { locale = p.0; text = p.1 }

-- after the mask: the locale if 0x01 is set, then the text if 0x02 is; no other bit may be set
abbrev pub behind_mask : ℕ → Flat LocalizedText
behind_mask mask =
    cond (nat_lt 0x03 mask) nothing (made localized (λ v. (v.locale, v.text)) (both (flagged_text (has mask 0x01)) (flagged_text (has mask 0x02))))

-- a mask byte, and the flagged texts
unfoldable pub localized_text : Flat LocalizedText
localized_text = record {
  encodes = EncodesLocalizedText;
  encodable = localized_text_fits;
  canonical = localized_text_octets;
  decode = then_read (number_at 1) (λ mask. (behind_mask mask).decode);
}
