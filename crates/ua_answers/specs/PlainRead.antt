-- What texts denote in which people write decimals and times: the text with each decimal replaced
-- by its bit pattern, and each time by its ticks, denotes the value.
use Rattle.std.specs.Prelude.{ℕ, Bool, true, false, cond, nat_eq, map, List, Option, Some, None}
use Rattle.std.specs.Fmt.{signed_decimal}
use Rattle.std.specs.List.{slice_split}
use Rattle.ua_plain.specs.Decimal.{double_denoted, float_denoted}
use Rattle.ua_plain.specs.Moment.{moment_denoted}
use Rattle.ua_nodes.specs.ValueText.{value_denoted}
use Rattle.ua_variant.specs.Data.{VariantData}
use Rattle.ua_texts.specs.Shown.{pattern_text}
use Rattle.ua_texts.specs.Values.{parted}

-- the text of what was found, or else the text unchanged
abbrev pub or_same : {A : Type 0} → (A → List ℕ) → List ℕ → Option A → List ℕ
or_same shown text None = text
or_same shown text (Some x) = shown x

-- a Float's or a Double's bit pattern for its decimal, a DateTime's ticks for its time; any other
-- text unchanged
abbrev pub exact_element : ℕ → List ℕ → List ℕ
exact_element kind text =
    cond (nat_eq kind 10) (or_same (λ p. pattern_text 8 p.bits) text (float_denoted text)) (
    cond (nat_eq kind 11) (or_same (λ p. pattern_text 16 p.bits) text (double_denoted text)) (
    cond (nat_eq kind 13) (or_same (λ t. signed_decimal t.ticks) text (moment_denoted text)) text))

-- the same for each element of an array, separated by commas
abbrev pub exact_elements : ℕ → List ℕ → List ℕ
exact_elements kind text = parted (map (exact_element kind) (slice_split (λ b. nat_eq b 44) text))

abbrev pub exact_text : ℕ → Bool → List ℕ → List ℕ
exact_text kind true text = exact_elements kind text
exact_text kind false text = exact_element kind text

-- the value that a text denotes at a type or at an array of it
abbrev pub plain_denoted : ℕ → Bool → List ℕ → Option VariantData
plain_denoted kind array text = value_denoted kind array (exact_text kind array text)
