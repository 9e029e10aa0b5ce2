-- The first byte of a Variant, and the mask of a DataValue.
use Rattle.std.proofs.Common.{◌≡◌, ℕ, zero, suc, ◌+◌, ◌-◌, ◌<◌, ◌≤◌, List, Option, Some, None, Result, Ok, Err, refl, ap, ◌∙◌, arith}
use Rattle.std.specs.Prelude.{true, false, leb}
use Rattle.std.proofs.lemmas.Grind.{common_steps}
use Rattle.ua_wire.specs.Exact.{◌>>=◌}
use Rattle.ua_wire.specs.Number.{number_at}
use Rattle.ua_wire.specs.Format.{GivesBy}
use Rattle.ua_wire.specs.declared.fault.ReadFault.{ReadFault}
use Rattle.ua_wire.specs.declared.fault.ReadFault.TheVariants.{NoValue, OutOfMemory}
use Rattle.ua_builtin.specs.Flags.{has}
use Rattle.ua_diagnostic.specs.Parts.{when}
use Rattle.ua_variant.specs.Decoding.{variant_at, variant_step, variant_after, data_value_at, data_value_step, scalars_at}
use Rattle.ua_variant.specs.Onto.{announced_at}
use Rattle.ua_variant.proofs.VariantsRead.{variant_none, variant_level, data_value_none, data_value_level}

-- an answer that is exact behind what was read is so for it all
pub gives_behind : {X A : Type 0} (view : X → A) (r s : List ℕ → Option (A × List ℕ)) (old mid new : List ℕ) (answer : Result X ReadFault) → r old ≡ s mid
    → GivesBy view s mid new answer → GivesBy view r old new answer
gives_behind view r s old mid new (Ok v) e h = e ∙ h
gives_behind view r s old mid new (Err NoValue) e h = e ∙ h
gives_behind view r s old mid new (Err OutOfMemory) e h = tt

-- ---- a Variant

pub variant_behind : (n m t : ℕ) (old new : List ℕ) → n ≡ m + 1 → number_at 1 old ≡ Some (t, new) → variant_at n old ≡ variant_after (scalars_at m) t new
unfolding variant_step
variant_behind n m t old new e read =
    let less : n - 1 ≡ m = omega arith in
    variant_level n old (omega arith) ∙ ap (λ k. variant_step (scalars_at k) old) less
    ∙ ap (λ (o : Option (ℕ × List ℕ)). o >>= λ x. variant_after (scalars_at m) x.0 x.1) read

pub variant_unread : (n : ℕ) (old : List ℕ) → number_at 1 old ≡ None → variant_at n old ≡ None
unfolding variant_step
variant_unread zero old none = variant_none 0 old refl
variant_unread (suc n) old none =
    variant_level (suc n) old (omega arith)
    ∙ ap (λ (o : Option (ℕ × List ℕ)). o >>= λ x. variant_after (scalars_at (suc n - 1)) x.0 x.1) none

-- ---- a DataValue

pub data_value_behind : (n m t : ℕ) (old new : List ℕ) → n ≡ m + 1 → number_at 1 old ≡ Some (t, new) → t ≤ 0x3F
    → data_value_at n old ≡ announced_at t (has t 0x01) (variant_at m) new
unfolding data_value_step
data_value_behind n m t old new e read known =
    let less : n - 1 ≡ m = omega arith in
    let low : leb t 0x3F ≡ true = Prim.grind (arith, common_steps) in
    data_value_level n old (omega arith) ∙ ap (λ k. data_value_step (variant_at k) old) less
    ∙ ap (λ (o : Option (ℕ × List ℕ)). o >>= λ x. when (leb x.0 0x3F) (announced_at x.0 (has x.0 0x01) (variant_at m) x.1)) read
    ∙ ap (λ b. when b (announced_at t (has t 0x01) (variant_at m) new)) low

pub data_value_unread : (n : ℕ) (old : List ℕ) → number_at 1 old ≡ None → data_value_at n old ≡ None
unfolding data_value_step
data_value_unread zero old none = data_value_none 0 old refl
data_value_unread (suc n) old none =
    data_value_level (suc n) old (omega arith)
    ∙ ap (λ (o : Option (ℕ × List ℕ)). o >>= λ x. when (leb x.0 0x3F) (announced_at x.0 (has x.0 0x01) (variant_at (suc n - 1)) x.1)) none

pub data_value_refused : (n t : ℕ) (old new : List ℕ) → number_at 1 old ≡ Some (t, new) → 0x3F < t → data_value_at n old ≡ None
unfolding data_value_step
data_value_refused zero t old new read beyond = data_value_none 0 old refl
data_value_refused (suc n) t old new read beyond =
    let high : leb t 0x3F ≡ false = Prim.grind (arith, common_steps) in
    data_value_level (suc n) old (omega arith)
    ∙ ap (λ (o : Option (ℕ × List ℕ)). o >>= λ x. when (leb x.0 0x3F) (announced_at x.0 (has x.0 0x01) (variant_at (suc n - 1)) x.1)) read
    ∙ ap (λ b. when b (announced_at t (has t 0x01) (variant_at (suc n - 1)) new)) high
