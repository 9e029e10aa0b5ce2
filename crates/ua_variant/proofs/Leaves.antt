-- What the readers of scalars that hold no further value know, by the type id.
use Rattle.std.proofs.Common.{◌≡◌, ℕ, ◌≤◌, false, IsTrue, List, Option, Some, None, subst, ap, arith}
use Rattle.std.proofs.lemmas.Grind.{common_steps}
use Rattle.ua_builtin.specs.Exact.{◌>>=◌, image_read}
use Rattle.ua_builtin.specs.Counted.{counted}
use Rattle.ua_variant.specs.Data.{LeafData, reserved, leaf}
use Rattle.ua_diagnostic.proofs.Extents.{never_some}
use Rattle.ua_variant.specs.Leaf.{is_reserved, leaf_kind, leaf_at, holds_values}
use Rattle.ua_variant.proofs.LeavesRead.{if_true, exact_leaf, leaf_apart, leaf_kind_within}

is_reserved_at : (k : ℕ) → 26 ≤ k → k ≤ 31 → IsTrue (is_reserved k)
is_reserved_at k h j = Prim.grind (arith, common_steps)

-- the reserved type ids
pub reserved_reads : (k : ℕ) (octets : List ℕ) → 26 ≤ k → k ≤ 31 → leaf_at k octets ≡ image_read (reserved k) counted.decode octets
unfolding leaf_at
reserved_reads k octets h j = if_true (is_reserved k) (image_read (reserved k) counted.decode octets) _ (is_reserved_at k h j)

apart_from : (k : ℕ) → holds_values k ≡ false → 23 ≤ k → k ≤ 25 → ⊥
apart_from k e h j = absurd (Prim.grind (arith, common_steps))

between : (k : ℕ) → (1 ≤ k → k ≤ 22 → ⊥) → (26 ≤ k → k ≤ 31 → ⊥) → 1 ≤ k → k ≤ 31 → (23 ≤ k) × (k ≤ 25)
between k low high h j = (Prim.grind (arith, common_steps), Prim.grind (arith, common_steps))

-- other type ids are read as none of these
leaf_none : (k : ℕ) (octets : List ℕ) → (1 ≤ k → k ≤ 22 → ⊥) → (26 ≤ k → k ≤ 31 → ⊥) → leaf_at k octets ≡ None
leaf_none k octets low high =
    never_some (leaf_at k octets)
    (λ x e. let s = (exact_leaf k).sound octets x.0 x.1 e in
    let is : leaf_kind x.0 ≡ k = s.encoded.0 in
    let within = leaf_kind_within x.0 s.front s.encoded.1 in
    let apart : holds_values k ≡ false = subst (λ i. holds_values i ≡ false) is (leaf_apart x.0 s.front s.encoded.1) in
    let some = between k low high (omega (arith, within.0)) (omega (arith, within.1)) in
    apart_from k apart some.0 some.1)

-- so no scalar is read
pub no_leaf : (k : ℕ) (octets : List ℕ) → (1 ≤ k → k ≤ 22 → ⊥) → (26 ≤ k → k ≤ 31 → ⊥) → image_read leaf (leaf_at k) octets ≡ None
no_leaf k octets low high = ap (λ (o : Option (LeafData × List ℕ)). o >>= λ x. Some (leaf x.0, x.1)) (leaf_none k octets low high)
