-- Reading a DataValue to the end of others, against reading it alone.
use Rattle.std.specs.Prelude.{◌≡◌, ℕ, ◌-◌, ◌<◌, ◌≤◌, false, leb, eqb, List, [], ◌∷◌, ◌++◌, Option, Some, None}
use Rattle.std.proofs.Common.{refl, ap, ◌∙◌, arith}
use Rattle.std.proofs.lemmas.Grind.{common_steps}
use Rattle.ua_builtin.specs.Exact.{◌>>=◌, image_read}
use Rattle.ua_variant.specs.Data.{LeafData, ScalarData, leaf, VariantData, one, DataValueData, valued}
use Rattle.ua_variant.specs.declared.values.DataValue.{DataValue}
use Rattle.ua_variant.specs.Decoding.{variant_after, variant_at, data_value_at, scalar_at, scalars_at}
use Rattle.ua_variant.specs.Fields.{data_fields}
use Rattle.ua_variant.specs.Formats.{data_value_format}
use Rattle.ua_variant.specs.Leaf.{leaf_at, holds_values}
use Rattle.ua_variant.specs.Onto.{with_last, valued_at, leaf_valued_at}
use Rattle.ua_variant.specs.Values.{data_value_value}

-- ---- the steps of the readers

abbrev behind_value : ℕ → VariantData × List ℕ → Option (DataValueData × List ℕ)
behind_value m v = (data_fields m).decode v.1 >>= λ f. Some (valued v.0 f.0, f.1)

abbrev behind_scalar : ℕ → ScalarData × List ℕ → Option (DataValueData × List ℕ)
behind_scalar m s = (data_fields m).decode s.1 >>= λ f. Some (valued (one s.0) f.0, f.1)

abbrev as_scalar : LeafData × List ℕ → Option (ScalarData × List ℕ)
as_scalar x = Some (leaf x.0, x.1)

abbrev as_variant : ScalarData × List ℕ → Option (VariantData × List ℕ)
as_variant s = Some (one s.0, s.1)

abbrev as_value : DataValueData × List ℕ → Option (DataValue × List ℕ)
as_value d = Some (data_value_value d.0, d.1)

abbrev placed : List DataValue → DataValueData × List ℕ → Option (List DataValue × List ℕ)
placed items d = Some (with_last items d.0, d.1)

abbrev value_placed : List DataValue → DataValue × List ℕ → Option (List DataValue × List ℕ)
value_placed items d = Some (items ++ d.0 ∷ [], d.1)

-- ---- by the value's reader

pub valued_none : (items : List DataValue) (m n : ℕ) (octets : List ℕ) → variant_at n octets ≡ None
    → image_read (with_last items) (valued_at m (variant_at n)) octets ≡ None
valued_none items m n octets e = ap (λ (o : Option (VariantData × List ℕ)). (o >>= behind_value m) >>= placed items) e

pub valued_behind : (items : List DataValue) (m n inner t : ℕ) (old new : List ℕ) → variant_at n old ≡ variant_after (scalars_at inner) t new
    → image_read (with_last items) (valued_at m (variant_at n)) old ≡ image_read (with_last items) (valued_at m (variant_after (scalars_at inner) t)) new
valued_behind items m n inner t old new e = ap (λ (o : Option (VariantData × List ℕ)). (o >>= behind_value m) >>= placed items) e

-- ---- a Boolean, a whole number, a Float or a Double

leaf_behind : (m : ℕ) (r : Option (LeafData × List ℕ)) → (((r >>= as_scalar) >>= as_variant) >>= behind_value m) ≡ ((r >>= as_scalar) >>= behind_scalar m)
leaf_behind m None = refl
leaf_behind m (Some x) = refl

is_number : (t : ℕ) → 1 ≤ t → t ≤ 11 → (eqb t 0 ≡ false) × (leb 0x80 t ≡ false) × (eqb t 24 ≡ false) × (holds_values t ≡ false)
is_number t low high = (Prim.grind (arith, common_steps), Prim.grind (arith, common_steps), Prim.grind (arith, common_steps), Prim.grind (arith, common_steps))

number_behind : (m n t : ℕ) (octets : List ℕ) → 1 ≤ t → t ≤ 11 → valued_at m (variant_after (scalars_at n) t) octets ≡ leaf_valued_at m t octets
unfolding variant_after scalar_at
number_behind m n t octets low high =
    let is = is_number t low high in
    rw (is.0, is.1, is.2, is.3) (leaf_behind m (leaf_at t octets))

pub valued_number : (items : List DataValue) (m n t : ℕ) (octets : List ℕ) → 1 ≤ t → t ≤ 11
    → image_read (with_last items) (valued_at m (variant_after (scalars_at n) t)) octets ≡ image_read (with_last items) (leaf_valued_at m t) octets
valued_number items m n t octets low high = ap (λ (o : Option (DataValueData × List ℕ)). o >>= placed items) (number_behind m n t octets low high)

-- ---- the DataValue itself

in_turn : (items : List DataValue) (o : Option (DataValueData × List ℕ)) → ((o >>= as_value) >>= value_placed items) ≡ (o >>= placed items)
in_turn items None = refl
in_turn items (Some d) = refl

by_data : (items : List DataValue) (n : ℕ) (octets : List ℕ) → image_read (λ d. items ++ d ∷ []) (data_value_format.decode n) octets
    ≡ image_read (with_last items) (data_value_at n) octets
unfolding data_value_format
by_data items n octets = in_turn items (data_value_at n octets)

pub onto_behind : (items : List DataValue) (n : ℕ) (old : List ℕ) (found : Option (DataValueData × List ℕ)) → data_value_at n old ≡ found
    → image_read (λ d. items ++ d ∷ []) (data_value_format.decode n) old ≡ (found >>= placed items)
onto_behind items n old found e = by_data items n old ∙ ap (λ (o : Option (DataValueData × List ℕ)). o >>= placed items) e
