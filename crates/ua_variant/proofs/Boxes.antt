-- A DataValue and a Variant among other values, as the scalars that they are.
use Rattle.std.specs.Prelude.{◌≡◌, ℕ, List, Option, Some, None}
use Rattle.std.proofs.Common.{ap}
use Rattle.ua_wire.specs.Exact.{◌>>=◌}
use Rattle.ua_variant.specs.Data.{VariantData, DataValueData, variant, data_value}
use Rattle.ua_variant.specs.Decoding.{scalar_at, scalars_at, variant_at, data_value_at}

pub data_value_ends : (n : ℕ) (octets : List ℕ) → data_value_at n octets ≡ None → scalars_at n 23 octets ≡ None
unfolding scalar_at
data_value_ends n octets h = ap (λ (o : Option (DataValueData × List ℕ)). o >>= λ x. Some (data_value x.0, x.1)) h

pub data_value_is : (n : ℕ) (octets new : List ℕ) (d : DataValueData) → data_value_at n octets ≡ Some (d, new)
    → scalars_at n 23 octets ≡ Some (data_value d, new)
unfolding scalar_at
data_value_is n octets new d h = ap (λ (o : Option (DataValueData × List ℕ)). o >>= λ x. Some (data_value x.0, x.1)) h

pub variant_ends : (n : ℕ) (octets : List ℕ) → variant_at n octets ≡ None → scalars_at n 24 octets ≡ None
unfolding scalar_at
variant_ends n octets h = ap (λ (o : Option (VariantData × List ℕ)). o >>= λ x. Some (variant x.0, x.1)) h

pub variant_is : (n : ℕ) (octets new : List ℕ) (v : VariantData) → variant_at n octets ≡ Some (v, new) → scalars_at n 24 octets ≡ Some (variant v, new)
unfolding scalar_at
variant_is n octets new v h = ap (λ (o : Option (VariantData × List ℕ)). o >>= λ x. Some (variant x.0, x.1)) h
