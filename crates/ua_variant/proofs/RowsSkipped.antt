-- The loops that pass over the elements of an array, against what stands behind them all.
use Rattle.std.proofs.Common.{◌≡◌, ℕ, zero, suc, ◌+◌, ◌-◌, ◌<◌, ◌≤◌, false, List, Option, Some, None, Err, refl, sym, subst, ap, ◌∙◌, arith}
use Rattle.std.specs.Prelude.{◌%◌, true, ◌&&◌, cond, leb, eqb}
use Rattle.ua_wire.specs.Exact.{◌>>=◌, image_read, skipped}
use Rattle.ua_wire.specs.Format.{Gives, GivesBy}
use Rattle.ua_wire.specs.declared.fault.ReadFault.{ReadFault}
use Rattle.ua_wire.specs.declared.fault.ReadFault.TheVariants.{NoValue, OutOfMemory}
use Rattle.ua_diagnostic.specs.Parts.{Decoder}
use Rattle.ua_diagnostic.proofs.Skipped.{rest, skipped_then, skipped_image}
use Rattle.ua_diagnostic.specs.Diagnostic.{diagnostic_at}
use Rattle.ua_variant.specs.Data.{ScalarData, ScalarsData, scalar, one, leaf, data_value, variant, diagnostic}
use Rattle.ua_variant.specs.Decoding.{row_at, scalar_at, scalars_at, data_value_at, variant_at, variant_after, variant_array_at}
use Rattle.ua_builtin.specs.Flags.{has}
use Rattle.ua_variant.specs.Encodable.{is_read_kind}
use Rattle.ua_variant.specs.Leaf.{holds_values, leaf_at}

-- behind what was passed over, so many more elements
abbrev on_with : Decoder ScalarData → ℕ → Option (Unit {0} × List ℕ) → Option (Unit {0} × List ℕ)
on_with p n found = found >>= λ x. skipped (row_at n p) x.1

one_first : (p : Decoder ScalarData) (n : ℕ) (octets : List ℕ) → skipped (row_at (suc n) p) octets ≡ on_with p n (skipped p octets)
one_first p n octets = skipped_then scalar p (row_at n p) octets

on_and_on : (p : Decoder ScalarData) (n m : ℕ) (found : Option (Unit {0} × List ℕ))
    → ((octets : List ℕ) → skipped (row_at (n + m) p) octets ≡ on_with p m (skipped (row_at n p) octets))
    → on_with p (n + m) found ≡ on_with p m (on_with p n found)
on_and_on p n m None e = refl
on_and_on p n m (Some x) e = e x.1

-- a row in two parts
in_parts : (p : Decoder ScalarData) (n m : ℕ) (octets : List ℕ) → skipped (row_at (n + m) p) octets ≡ on_with p m (skipped (row_at n p) octets)
in_parts p zero m octets = let e : 0 + m ≡ m = omega arith in ap (λ (k : ℕ). skipped (row_at k p) octets) e
in_parts p (suc n) m octets =
    let e : suc n + m ≡ suc (n + m) = omega arith in
    ap (λ (k : ℕ). skipped (row_at k p) octets) e
    ∙ one_first p (n + m) octets
    ∙ on_and_on p n m (skipped p octets) (in_parts p n m)
    ∙ ap (on_with p m) (sym (one_first p n octets))

-- ---- one element after the other

next_is : (p : Decoder ScalarData) (count counter : ℕ) (old : List ℕ) → counter < count
    → skipped (row_at (count - counter) p) old ≡ on_with p (count - (counter + 1)) (skipped p old)
next_is p count counter old lt =
    let n = count - (counter + 1) in
    let more : count - counter ≡ suc n = omega arith in
    ap (λ (k : ℕ). skipped (row_at k p) old) more ∙ one_first p n old

pub row_goes_on : (p : Decoder ScalarData) (count counter : ℕ) (old new : List ℕ) (all : Option (Unit {0} × List ℕ)) → counter < count
    → skipped p old ≡ Some (tt, new)
    → skipped (row_at (count - counter) p) old ≡ all → skipped (row_at (count - (counter + 1)) p) new ≡ all
row_goes_on p count counter old new all lt e so_far = sym (ap (on_with p (count - (counter + 1))) e) ∙ sym (next_is p count counter old lt) ∙ so_far

pub row_is_passed : (p : Decoder ScalarData) (left : ℕ) (old : List ℕ) (all : Option (Unit {0} × List ℕ)) → left ≡ 0 → skipped (row_at left p) old ≡ all
    → all ≡ Some (tt, old)
row_is_passed p left old all none so_far = sym so_far ∙ ap (λ (n : ℕ). skipped (row_at n p) old) none

pub row_fault : (p : Decoder ScalarData) (e : ReadFault) (count counter : ℕ) (start old new : List ℕ) → counter < count → Gives (skipped p) old new (Err e)
    → skipped (row_at (count - counter) p) old ≡ skipped (row_at count p) start → Gives (skipped (row_at count p)) start new (Err e)
row_fault p NoValue count counter start old new lt h so_far = sym so_far ∙ next_is p count counter old lt ∙ ap (on_with p (count - (counter + 1))) h
row_fault p OutOfMemory count counter start old new lt h so_far = tt

-- ---- a part after the other

part_is : (p : Decoder ScalarData) (n left : ℕ) (old : List ℕ) → n ≤ left → skipped (row_at left p) old ≡ on_with p (left - n) (skipped (row_at n p) old)
part_is p n left old le =
    let whole : left ≡ n + (left - n) = omega arith in
    ap (λ (k : ℕ). skipped (row_at k p) old) whole ∙ in_parts p n (left - n) old

pub part_goes_on : (p : Decoder ScalarData) (n left : ℕ) (part : ScalarsData) (old new : List ℕ) (all : Option (Unit {0} × List ℕ)) → n ≤ left
    → row_at n p old ≡ Some (part, new)
    → skipped (row_at left p) old ≡ all → skipped (row_at (left - n) p) new ≡ all
part_goes_on p n left part old new all le e so_far = sym (ap (λ r. on_with p (left - n) (rest r)) e) ∙ sym (part_is p n left old le) ∙ so_far

pub part_fault : {X : Type 0} (view : X → ScalarsData) (p : Decoder ScalarData) (e : ReadFault) (n left count : ℕ) (start old new : List ℕ) → n ≤ left
    → GivesBy view (row_at n p) old new (Err e)
    → skipped (row_at left p) old ≡ skipped (row_at count p) start → Gives (skipped (row_at count p)) start new (Err e)
part_fault view p NoValue n left count start old new le h so_far = sym so_far ∙ part_is p n left old le ∙ ap (λ r. on_with p (left - n) (rest r)) h
part_fault view p OutOfMemory n left count start old new le h so_far = tt

-- what holds values is passed over as they are
pub value_passed : (n k : ℕ) (octets : List ℕ) → k ≡ 23 → skipped (scalars_at n k) octets ≡ skipped (data_value_at n) octets
unfolding scalar_at
value_passed n k octets is =
    subst (λ (j : ℕ). skipped (scalars_at n j) octets ≡ skipped (data_value_at n) octets) (sym is) (skipped_image data_value (data_value_at n) octets)

pub variant_passed : (n k : ℕ) (octets : List ℕ) → k ≡ 24 → skipped (scalars_at n k) octets ≡ skipped (variant_at n) octets
unfolding scalar_at
variant_passed n k octets is =
    subst (λ (j : ℕ). skipped (scalars_at n j) octets ≡ skipped (variant_at n) octets) (sym is) (skipped_image variant (variant_at n) octets)

pub diagnostic_passed : (n k : ℕ) (octets : List ℕ) → k ≡ 25 → skipped (scalars_at n k) octets ≡ skipped (diagnostic_at n) octets
unfolding scalar_at
diagnostic_passed n k octets is =
    subst (λ (j : ℕ). skipped (scalars_at n j) octets ≡ skipped (diagnostic_at n) octets) (sym is) (skipped_image diagnostic (diagnostic_at n) octets)

-- and so is any other scalar
pub leaf_passed : (n k : ℕ) (octets : List ℕ) → holds_values k ≡ false → skipped (scalars_at n k) octets ≡ skipped (image_read leaf (leaf_at k)) octets
unfolding scalar_at
leaf_passed n k octets h =
    ap (λ b. rest (cond b (cond (eqb k 23) (data_value_at n octets >>= λ x. Some (data_value x.0, x.1)) (
    cond (eqb k 24) (variant_at n octets >>= λ x. Some (variant x.0, x.1)) (
    diagnostic_at n octets >>= λ x. Some (diagnostic x.0, x.1)))) (image_read leaf (leaf_at k) octets))) h

-- a Variant of one scalar, behind its first byte
pub one_passed : (p : ℕ → Decoder ScalarData) (t : ℕ) (octets : List ℕ) → eqb t 0 ≡ false → leb 0x80 t ≡ false → eqb t 24 ≡ false
    → skipped (variant_after p t) octets ≡ skipped (p t) octets
unfolding variant_after
one_passed p t octets a b c = rw (a, b, c) (skipped_image one (p t) octets)

-- an array, behind its first byte
pub array_passed : (p : ℕ → Decoder ScalarData) (t : ℕ) (octets : List ℕ) → eqb t 0 ≡ false → leb 0x80 t ≡ true
    → (is_read_kind (t % 0x40) && leb t 0xFF) ≡ true → variant_after p t octets ≡ variant_array_at p (t % 0x40) (has t 0x40) octets
unfolding variant_after
array_passed p t octets a b c = rw (a, b, c) refl

-- and one of no type id
pub no_array : (p : ℕ → Decoder ScalarData) (t : ℕ) (octets : List ℕ) → eqb t 0 ≡ false → leb 0x80 t ≡ true
    → (is_read_kind (t % 0x40) && leb t 0xFF) ≡ false → variant_after p t octets ≡ None
unfolding variant_after
no_array p t octets a b c = rw (a, b, c) refl
