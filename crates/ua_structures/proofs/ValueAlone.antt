-- A DataValue that has a value and no other field, against its value read alone.
use Rattle.std.specs.Prelude.{◌≡◌, ℕ, ◌-◌, ◌<◌, leb, List, Option, Some, None, Result, Ok, Err}
use Rattle.std.proofs.Common.{refl, sym, ◌∙◌, ap}
use Rattle.ua_wire.specs.declared.fault.ReadFault.{ReadFault}
use Rattle.ua_wire.specs.declared.fault.ReadFault.TheVariants.{NoValue, OutOfMemory}
use Rattle.ua_wire.proofs.Readers.{some_is}
use Rattle.ua_builtin.specs.Exact.{◌>>=◌}
use Rattle.ua_builtin.specs.Flags.{has}
use Rattle.ua_builtin.specs.Format.{Gives, GivesBy}
use Rattle.ua_builtin.specs.Number.{number_at}
use Rattle.ua_diagnostic.specs.Parts.{Decoder, optional_read, when}
use Rattle.ua_variant.specs.Data.{DataFields, VariantData, DataValueData, valued}
use Rattle.ua_variant.specs.Decoding.{data_value_step, variant_at}
use Rattle.ua_variant.specs.Fields.{data_fields}
use Rattle.ua_variant.specs.Formats.{data_value_format, variant_format}
use Rattle.ua_variant.specs.Values.{data_value_value, made_data_value, variant_value}
use Rattle.ua_variant.specs.View.{no_data_fields, value_within, variant_of}
use Rattle.ua_variant.specs.declared.values.DataValue.{DataValue}
use Rattle.ua_variant.specs.declared.values.Variant.{Variant}
use Rattle.ua_variant.proofs.VariantsRead.{data_value_level}
use Rattle.ua_variant.proofs.Viewed.{variant_forth}

-- the DataValue of this value and no other field
abbrev pub holding : VariantData → DataValue
holding v = made_data_value (Some v) no_data_fields

-- ---- on data

abbrev alone : Option (VariantData × List ℕ) → Option (DataValueData × List ℕ)
alone found = found >>= λ v. Some (valued v.0 no_data_fields, v.1)

abbrev some_value : Option (VariantData × List ℕ) → Option (Option VariantData × List ℕ)
some_value found = found >>= λ x. Some (Some x.0, x.1)

abbrev behind_value : ℕ → Option VariantData × List ℕ → Option (DataValueData × List ℕ)
behind_value m v = (data_fields m).decode v.1 >>= λ f. Some (value_within v.0 f.0, f.1)

abbrev behind_mask : Decoder VariantData → ℕ × List ℕ → Option (DataValueData × List ℕ)
behind_mask inner m = when (leb m.0 0x3F) (optional_read (has m.0 0x01) inner m.1 >>= behind_value m.0)

no_fields_behind : (octets : List ℕ) → (data_fields 1).decode octets ≡ Some (no_data_fields, octets)
unfolding data_fields
no_fields_behind octets = refl

by_value : (found : Option (VariantData × List ℕ)) → (some_value found >>= behind_value 1) ≡ alone found
by_value None = refl
by_value (Some x) = ap (λ (o : Option (DataFields × List ℕ)). o >>= λ f. Some (valued x.0 f.0, f.1)) (no_fields_behind x.1)

step_alone : (inner : Decoder VariantData) (octets rest : List ℕ) → number_at 1 octets ≡ Some (1, rest) → data_value_step inner octets ≡ alone (inner rest)
unfolding data_value_step
step_alone inner octets rest e = ap (λ (o : Option (ℕ × List ℕ)). o >>= behind_mask inner) e ∙ by_value (inner rest)

-- ---- on values

abbrev as_variant : Option (VariantData × List ℕ) → Option (Variant × List ℕ)
as_variant found = found >>= λ x. Some (variant_value x.0, x.1)

abbrev as_data_value : Option (DataValueData × List ℕ) → Option (DataValue × List ℕ)
as_data_value found = found >>= λ x. Some (data_value_value x.0, x.1)

of_found : (found : Option (VariantData × List ℕ)) (v : Variant) (new : List ℕ) → as_variant found ≡ Some (v, new) → found ≡ Some (variant_of v, new)
of_found None v new e = absurd cc
of_found (Some x) v new e =
    ap (λ (w : VariantData). Some (w, x.1)) (sym (variant_forth x.0))
    ∙ ap (λ (q : Variant × List ℕ). Some (variant_of q.0, q.1)) (some_is (variant_value x.0, x.1) (v, new) e)

of_none : (found : Option (VariantData × List ℕ)) → as_variant found ≡ None → found ≡ None
of_none None e = refl
of_none (Some x) e = absurd cc

by_alone : (levels : ℕ) (octets rest : List ℕ) → 0 < levels → number_at 1 octets ≡ Some (1, rest)
    → data_value_format.decode levels octets ≡ as_data_value (alone (variant_at (levels - 1) rest))
unfolding data_value_format
by_alone levels octets rest some e =
    ap as_data_value (data_value_level levels octets some ∙ step_alone (variant_at (levels - 1)) octets rest e)

-- the value was read
pub value_found : (levels : ℕ) (octets rest new : List ℕ) (v : Variant) → 0 < levels → number_at 1 octets ≡ Some (1, rest)
    → variant_format.decode (levels - 1) rest ≡ Some (v, new) → data_value_format.decode levels octets ≡ Some (holding (variant_of v), new)
unfolding variant_format
value_found levels octets rest new v some e read =
    by_alone levels octets rest some e
    ∙ ap (λ (o : Option (VariantData × List ℕ)). as_data_value (alone o)) (of_found (variant_at (levels - 1) rest) v new read)

none_found : (levels : ℕ) (octets rest : List ℕ) → 0 < levels → number_at 1 octets ≡ Some (1, rest) → variant_format.decode (levels - 1) rest ≡ None
    → data_value_format.decode levels octets ≡ None
unfolding variant_format
none_found levels octets rest some e read =
    by_alone levels octets rest some e
    ∙ ap (λ (o : Option (VariantData × List ℕ)). as_data_value (alone o)) (of_none (variant_at (levels - 1) rest) read)

-- it was not
pub value_fails : (levels : ℕ) (octets rest new : List ℕ) (place : DataValue) (e : ReadFault) → 0 < levels → number_at 1 octets ≡ Some (1, rest)
    → Gives (variant_format.decode (levels - 1)) rest new (Err e)
    → GivesBy {X = Unit {0}} (λ _. place) (data_value_format.decode levels) octets new (Err e)
value_fails levels octets rest new place NoValue some e read = none_found levels octets rest some e read
value_fails levels octets rest new place OutOfMemory some e read = tt
