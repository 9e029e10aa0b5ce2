-- The format of LocalizedTexts is sound and lawful.
use Rattle.std.specs.Prelude.{IsTrue, ◌^◌, is_some}
use Rattle.std.proofs.Common.{◌≡◌, ◌<◌, ◌≤◌, ◌+◌, inl, inr, ℕ, zero, suc, Bool, true, false, cond}
use Rattle.std.proofs.Common.{nat_lt, List, ◌∷◌, ◌++◌, refl, sym, ap, subst, ◌∙◌, arith, lit<}
use Rattle.std.proofs.lemmas.Bool.{ltb-false}
use Rattle.ua_wire.specs.Exact.{Follows}
use Rattle.ua_wire.specs.Number.{number_octets, number_at, IsNumber}
use Rattle.ua_wire.specs.Format.{Flat, flat, IsSound, IsLawful}
use Rattle.ua_wire.specs.Join.{nothing, both, made}
use Rattle.ua_wire.proofs.Readers.{both_true, exact_same, exact_bind}
use Rattle.ua_wire.proofs.NumbersRead.{one_octet, octet_front, front_octet, exact_number}
use Rattle.ua_wire.proofs.Lawfulness.{sound_nothing, sound_made, sound_both, sound_chosen, lawful_flat}
use Rattle.ua_wire.proofs.Leasts.{least_starts}
use Rattle.ua_builtin.specs.Flags.{has, flag_bit, flagged_text, EncodesFlagged}
use Rattle.ua_builtin.specs.LocalizedText.{localized, localized_text, localized_text_fits, localized_text_octets, mask_of, behind_mask, EncodesLocalizedText}
use Rattle.ua_builtin.specs.declared.localized_text.LocalizedText.{LocalizedText}
use Rattle.ua_builtin.proofs.FlagBits.{sound_flagged_text, text_there, text_back, text_written}
use Rattle.ua_builtin.proofs.NodeIdLawful.{cond_encodes}
use Rattle.ua_builtin.proofs.Leasts.{localized_text_least}

-- the flags of a mask of two bits
mask_flags : (a b : Bool) → (has (flag_bit 1 a + flag_bit 2 b) 1 ≡ a) × (has (flag_bit 1 a + flag_bit 2 b) 2 ≡ b)
    × (nat_lt 3 (flag_bit 1 a + flag_bit 2 b) ≡ false) × (nat_lt (flag_bit 1 a + flag_bit 2 b) (256 ^ 1) ≡ true)
mask_flags false false = (refl, refl, refl, refl)
mask_flags false true = (refl, refl, refl, refl)
mask_flags true false = (refl, refl, refl, refl)
mask_flags true true = (refl, refl, refl, refl)

-- a mask of two bits is the sum of its flags
mask_sum : (mask : ℕ) → mask ≤ 3 → mask ≡ flag_bit 1 (has mask 1) + flag_bit 2 (has mask 2)
mask_sum zero small = refl
mask_sum (suc zero) small = refl
mask_sum (suc (suc zero)) small = refl
mask_sum (suc (suc (suc zero))) small = refl
mask_sum (suc (suc (suc (suc n)))) small = absurd (omega arith)

below_256 : (a b : Bool) → flag_bit 1 a + flag_bit 2 b < 256
below_256 true true = lit< tt
below_256 true false = lit< tt
below_256 false true = lit< tt
below_256 false false = lit< tt

-- what stands behind the mask, by its flags
abbrev behind_flags : Bool → Bool → Flat LocalizedText
behind_flags a b = made localized (λ v. (v.locale, v.text)) (both (flagged_text a) (flagged_text b))

sound_mask : (mask : ℕ) → IsSound (behind_mask mask)
sound_mask mask =
    sound_chosen (nat_lt 3 mask) nothing (behind_flags (has mask 1) (has mask 2)) sound_nothing
    (sound_made localized (λ v. (v.locale, v.text)) (λ v. refl) (sound_both (sound_flagged_text (has mask 1)) (sound_flagged_text (has mask 2))))

localized_back : (v : LocalizedText) (b : List ℕ) → EncodesLocalizedText v b → Follows (IsNumber 1) (λ mask. (behind_mask mask).encodes) v b
localized_back v b h =
    let m : ℕ = flag_bit 1 h.has_locale + flag_bit 2 h.has_text in
    let flags = mask_flags h.has_locale h.has_text in
    let fits : m < 256 = below_256 h.has_locale h.has_text in
    let within : (behind_mask m).encodes v (h.locale ++ h.text) =
    subst (λ (t : Bool). (cond t nothing (behind_flags (has m 1) (has m 2))).encodes v (h.locale ++ h.text)) (sym flags.2)
    (subst (λ (x : Bool). (behind_flags x (has m 2)).encodes v (h.locale ++ h.text)) (sym flags.0)
    (subst (λ (y : Bool). (behind_flags h.has_locale y).encodes v (h.locale ++ h.text)) (sym flags.1)
    (record {
      of = (v.locale, v.text);
      is = refl;
      encoded = record {
        front = h.locale;
        back = h.text;
        parts = refl;
        first_encoded = text_there h.has_locale v.locale h.locale h.locale_encoded;
        second_encoded = text_there h.has_text v.text h.text h.text_encoded;
      };
    }))) in
    record {
      head = m;
      front = number_octets 1 m;
      back = h.locale ++ h.text;
      parts = front_octet m b (h.locale ++ h.text) fits h.octets;
      head_encoded = (fits, refl);
      rest_encoded = within;
    }

localized_there : (v : LocalizedText) (b : List ℕ) → Follows (IsNumber 1) (λ mask. (behind_mask mask).encodes) v b → EncodesLocalizedText v b
localized_there v b h =
    elim (cond_encodes (nat_lt 3 h.head) nothing (behind_flags (has h.head 1) (has h.head 2)) v h.back h.rest_encoded) as (λ _. EncodesLocalizedText v b) [
      | inl p ↦ absurd p.1
      | inr p ↦ record {
        has_locale = has h.head 1;
        has_text = has h.head 2;
        locale = p.1.encoded.front;
        text = p.1.encoded.back;
        locale_encoded = subst (λ (x : LocalizedText). EncodesFlagged (has h.head 1) x.locale p.1.encoded.front) (sym p.1.is)
            (text_back (has h.head 1) p.1.of.0 p.1.encoded.front p.1.encoded.first_encoded);
        text_encoded = subst (λ (x : LocalizedText). EncodesFlagged (has h.head 2) x.text p.1.encoded.back) (sym p.1.is)
            (text_back (has h.head 2) p.1.of.1 p.1.encoded.back p.1.encoded.second_encoded);
        octets = octet_front h.head b h.front h.back h.parts h.head_encoded
            ∙ ap (λ (t : List ℕ). h.head ∷ t) p.1.encoded.parts
            ∙ ap (λ (m : ℕ). m ∷ (p.1.encoded.front ++ p.1.encoded.back)) (mask_sum h.head (ltb-false 3 h.head p.0));
      }
    ]

written_mask : (v : LocalizedText) → IsTrue (localized_text_fits v) → EncodesLocalizedText v (localized_text_octets v)
written_mask v h =
    let w = both_true ((flagged_text (is_some v.locale)).encodable v.locale) ((flagged_text (is_some v.text)).encodable v.text) h in
    record {
      has_locale = is_some v.locale;
      has_text = is_some v.text;
      locale = (flagged_text (is_some v.locale)).canonical v.locale;
      text = (flagged_text (is_some v.text)).canonical v.text;
      locale_encoded = text_written v.locale w.0;
      text_encoded = text_written v.text w.1;
      octets = ap (λ (t : List ℕ). t ++ ((flagged_text (is_some v.locale)).canonical v.locale ++ (flagged_text (is_some v.text)).canonical v.text))
          (one_octet (mask_of v) (below_256 (is_some v.locale) (is_some v.text)));
    }

pub sound_localized_text : IsSound localized_text
unfolding localized_text
sound_localized_text = record {
  exact =
      exact_same (Follows (IsNumber 1) (λ mask. (behind_mask mask).encodes)) EncodesLocalizedText localized_text.decode localized_there localized_back
      (exact_bind (IsNumber 1) (number_at 1) (λ mask. (behind_mask mask).encodes) (λ mask. (behind_mask mask).decode) (exact_number 1)
      (λ mask. (sound_mask mask).exact));
  canonical_encodes = written_mask;
}

pub lawful_localized_text : IsLawful (flat localized_text)
lawful_localized_text = lawful_flat sound_localized_text (least_starts 0 localized_text.encodes localized_text_least)
