-- The product of dimensions that are passed over.
use Rattle.std.proofs.Common.{◌≡◌, ℕ, suc, ◌+◌, ◌-◌, ◌*◌, ◌<◌, ◌≤◌, min, List, ◌∷◌, Option, Some, None, Err, refl, sym, ap, ◌∙◌, arith}
use lib.IntN.{ℤ}
use Rattle.std.specs.Int.RustNames.{unsigned_abs}
use Rattle.ua_wire.specs.Exact.{◌>>=◌, image_read}
use Rattle.ua_wire.specs.Format.{Gives}
use Rattle.ua_wire.specs.declared.fault.ReadFault.{ReadFault}
use Rattle.ua_wire.specs.declared.fault.ReadFault.TheVariants.{NoValue, OutOfMemory}
use Rattle.ua_diagnostic.specs.Dimensions.{product, size_at, sizes_at}
use Rattle.ua_diagnostic.specs.Parts.{Decoder}
use Rattle.ua_diagnostic.proofs.Extents.{min_times}

-- a dimension in front of others
abbrev with_one : ℤ → List ℤ × List ℕ → Option (List ℤ × List ℕ)
with_one d x = Some (d ∷ x.0, x.1)

-- a dimension that was found, and n more
abbrev sizes_from : ℕ → Option (ℤ × List ℕ) → Option (List ℤ × List ℕ)
sizes_from n found = found >>= λ d. sizes_at n d.1 >>= with_one d.0

-- the product of these dimensions and of all others, or the greatest number
abbrev multiplied : ℕ → Option (List ℤ × List ℕ) → Option (ℕ × List ℕ)
multiplied all found = found >>= λ x. Some (min (all * product x.0) 18446744073709551615, x.1)

-- the same of n dimensions
abbrev pub product_at : ℕ → ℕ → Decoder ℕ
product_at all n octets = multiplied all (sizes_at n octets)

-- the product of n dimensions, or the greatest number
abbrev pub whole_at : ℕ → Decoder ℕ
whole_at n = image_read (λ sizes. min (product sizes) 18446744073709551615) (sizes_at n)

factor : (all next d p : ℕ) → next ≡ min (all * d) 18446744073709551615 → min (all * (d * p)) 18446744073709551615 ≡ min (next * p) 18446744073709551615
factor all next d p e =
    let same : all * (d * p) ≡ all * d * p = Prim.grind arith in
    ap (λ x. min x 18446744073709551615) same ∙ sym (min_times (all * d) p 18446744073709551615) ∙ ap (λ x. min (x * p) 18446744073709551615) (sym e)

with_factor : (all next : ℕ) (d : ℤ) (found : Option (List ℤ × List ℕ)) → next ≡ min (all * unsigned_abs d) 18446744073709551615
    → multiplied all (found >>= with_one d) ≡ multiplied next found
with_factor all next d None e = refl
with_factor all next d (Some x) e = ap (λ (n : ℕ). Some (n, x.1)) (factor all next (unsigned_abs d) (product x.0) e)

-- one more factor, as a loop over so many dimensions meets it
pub product_goes_on : (all next : ℕ) (d : ℤ) (count counter : ℕ) (old new : List ℕ) (whole : Option (ℕ × List ℕ)) → counter < count
    → next ≡ min (all * unsigned_abs d) 18446744073709551615 → size_at old ≡ Some (d, new)
    → product_at all (count - counter) old ≡ whole → product_at next (count - (counter + 1)) new ≡ whole
product_goes_on all next d count counter old new whole lt e h so_far =
    let n = count - (counter + 1) in
    let more : count - counter ≡ suc n = omega arith in
    sym (with_factor all next d (sizes_at n new) e)
    ∙ sym (ap (λ r. multiplied all (sizes_from n r)) h)
    ∙ sym (ap (λ k. product_at all k old) more)
    ∙ so_far

-- no dimension where one is owed
pub product_fault : (e : ReadFault) (all count counter : ℕ) (start old new : List ℕ) → counter < count → Gives size_at old new (Err e)
    → product_at all (count - counter) old ≡ whole_at count start → Gives (whole_at count) start new (Err e)
product_fault NoValue all count counter start old new lt h so_far =
    let n = count - (counter + 1) in
    let more : count - counter ≡ suc n = omega arith in
    sym so_far ∙ ap (λ k. product_at all k old) more ∙ ap (λ r. multiplied all (sizes_from n r)) h
product_fault OutOfMemory all count counter start old new lt h so_far = tt

-- the last factor
pub product_ends : (all count counter : ℕ) (old : List ℕ) (whole : Option (ℕ × List ℕ)) → all ≤ 18446744073709551615 → count ≤ counter
    → product_at all (count - counter) old ≡ whole → whole ≡ Some (all, old)
product_ends all count counter old whole within le so_far =
    let none : count - counter ≡ 0 = omega arith in
    let is : min (all * 1) 18446744073709551615 ≡ all = omega arith in
    sym so_far ∙ ap (λ k. product_at all k old) none ∙ ap (λ (x : ℕ). Some (x, old)) is
