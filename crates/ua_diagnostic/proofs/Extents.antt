-- What loops over dimensions know.
use Rattle.std.proofs.Common.{◌≡◌, ℕ, zero, suc, ◌+◌, ◌-◌, ◌*◌, ◌<◌, ◌≤◌, min, true, false, ◌&&◌, List, [], ◌∷◌, ◌++◌, length, get_or, take}
use Rattle.std.proofs.Common.{Option, Some, None, Result, Ok, Err, refl, sym, ap, ap₂, ◌∙◌, append_assoc, append-nil, arith, length-append}
use lib.IntN.{ℤ, pos, negsuc}
use Rattle.std.specs.Int.RustNames.{unsigned_abs, FitsSigned}
use Rattle.std.specs.Int.{w32}
use Rattle.std.proofs.lemmas.Int.{to_z-of_z}
use lib.Signed.{lt_z}
use mir.Val.{to_z, of_z}
use Rattle.std.proofs.lemmas.Bool.{ltb-true}
use Rattle.std.proofs.lemmas.List.{take_more}
use Rattle.std.proofs.lemmas.List.Recursion.{and_push, and_fails_at}
use Rattle.std.proofs.Math.Nat.{min-eq_left, mul-zero, mul-suc}
use native.Mathlib.Decide.{dec_le}
use Rattle.ua_wire.specs.Exact.{◌>>=◌}
use Rattle.ua_wire.specs.Format.{Gives, GivesBy}
use Rattle.ua_wire.specs.Number.{number_octets}
use Rattle.ua_wire.specs.declared.fault.ReadFault.{ReadFault}
use Rattle.ua_wire.specs.declared.fault.ReadFault.TheVariants.{NoValue, OutOfMemory}
use Rattle.ua_diagnostic.specs.Dimensions.{product, are_sizes, is_size, size_at, sizes_at, sizes_canonical}
use Rattle.ua_diagnostic.proofs.DimensionsRead.{is_count_at, exact_sizes}
use Rattle.ua_diagnostic.proofs.Lengths.{sizes_take}

-- ---- which can be written

product_push : (ds : List ℤ) (d : ℤ) → product (ds ++ d ∷ []) ≡ product ds * unsigned_abs d
product_push [] d = omega arith
product_push (x ∷ ds) d = ap (λ n. unsigned_abs x * n) (product_push ds d) ∙ Prim.grind arith

pub product_after : (ds : List ℤ) (i : ℕ) (d : ℤ) → i < length ds → product (take (i + 1) ds) ≡ product (take i ds) * unsigned_abs (get_or ds i d)
product_after ds i d h = ap product (take_more ds i d h) ∙ product_push (take i ds) (get_or ds i d)

-- a product that stops at the greatest number
past : (a b m : ℕ) → m ≤ a → min (m * b) m ≡ min (a * b) m
past a zero m h = rw (mul-zero m, mul-zero a)
past a (suc b) m h = rw (mul-suc m b, mul-suc a b) (omega arith)

pub min_times : (a b m : ℕ) → min (min a m * b) m ≡ min (a * b) m
min_times a b m = elim (dec_le a m) [
  | yes h ↦ ap (λ x. min (x * b) m) (min-eq_left h)
  | no h ↦ ap (λ x. min (x * b) m) (omega arith)
      ∙ past a b m (omega arith)
]

pub sizes_after : (ds : List ℤ) (i : ℕ) (d : ℤ) → i < length ds → are_sizes (take (i + 1) ds) ≡ (are_sizes (take i ds) && is_size (get_or ds i d))
sizes_after ds i d h = ap are_sizes (take_more ds i d h) ∙ and_push are_sizes is_size refl (λ _ _. refl) (take i ds) (get_or ds i d)

pub sizes_fail : (ds : List ℤ) (i : ℕ) (d : ℤ) → i < length ds → is_size (get_or ds i d) ≡ false → are_sizes ds ≡ false
sizes_fail ds i d h refused = and_fails_at are_sizes is_size refl (λ _ _. refl) ds i d h refused

negative_fails : (d : ℤ) → lt_z d (pos 0) ≡ true → is_size d ≡ false
negative_fails (pos n) h = absurd (omega (arith, ltb-true n 0 h))
negative_fails (negsuc n) h = refl

positive_holds : (d : ℤ) → FitsSigned w32 d → lt_z d (pos 0) ≡ false → is_size d ≡ true
positive_holds (pos n) f h = is_count_at n (omega (arith, f.sfits))
positive_holds (negsuc n) f h = let x : true ≡ false = h in absurd cc

-- a dimension of the code that is negative, or not
pub size_fails : (d : ℤ) → FitsSigned w32 d → lt_z (to_z w32 (of_z w32 d)) (pos 0) ≡ true → is_size d ≡ false
size_fails d f h = negative_fails d (ap (λ x. lt_z x (pos 0)) (sym (to_z-of_z w32 d f)) ∙ h)

pub size_holds : (d : ℤ) → FitsSigned w32 d → lt_z (to_z w32 (of_z w32 d)) (pos 0) ≡ false → is_size d ≡ true
size_holds d f h = positive_holds d f (ap (λ x. lt_z x (pos 0)) (sym (to_z-of_z w32 d f)) ∙ h)

-- one more factor
pub product_next : (ds : List ℤ) (i all n : ℕ) → i < length ds → FitsSigned w32 (get_or ds i (pos 0)) → all ≡ min (product (take i ds)) 18446744073709551615
    → n ≡ unsigned_abs (to_z w32 (of_z w32 (get_or ds i (pos 0))))
    → min (all * n) 18446744073709551615 ≡ min (product (take (i + 1) ds)) 18446744073709551615
product_next ds i all n h f is factor =
    ap₂ (λ a b. min (a * b) 18446744073709551615) is (factor ∙ ap unsigned_abs (to_z-of_z w32 (get_or ds i (pos 0)) f))
    ∙ min_times (product (take i ds)) (unsigned_abs (get_or ds i (pos 0))) 18446744073709551615
    ∙ ap (λ x. min x 18446744073709551615) (sym (product_after ds i (pos 0) h))

-- ---- reading

-- what was read, with these dimensions in front of it
abbrev pub with_sizes : List ℤ → Option (List ℤ × List ℕ) → Option (List ℤ × List ℕ)
with_sizes ds r = r >>= λ x. Some (ds ++ x.0, x.1)

sizes_push : (ds : List ℤ) (d : ℤ) (r : Option (List ℤ × List ℕ)) → with_sizes ds (r >>= λ x. Some (d ∷ x.0, x.1)) ≡ with_sizes (ds ++ d ∷ []) r
sizes_push ds d None = refl
sizes_push ds d (Some x) = ap (λ y. Some (y, x.1)) (sym (append_assoc ds (d ∷ []) x.0))

pub sizes_more : (ds : List ℤ) (d : ℤ) (m n : ℕ) (old new : List ℕ) → m ≡ suc n → size_at old ≡ Some (d, new)
    → with_sizes ds (sizes_at m old) ≡ with_sizes (ds ++ d ∷ []) (sizes_at n new)
sizes_more ds d m n old new e h =
    ap (λ k. with_sizes ds (sizes_at k old)) e ∙ ap (λ r. with_sizes ds (r >>= λ d. sizes_at n d.1 >>= λ ds. Some (d.0 ∷ ds.0, ds.1))) h
    ∙ sizes_push ds d (sizes_at n new)

-- one more dimension, as a loop over so many of them meets it
pub sizes_so_far : {one : List ℤ} {e : ℤ} (ds : List ℤ) (d : ℤ) (count counter : ℕ) (start old new : List ℕ) → counter < count → one ≡ ds ++ e ∷ [] → e ≡ d
    → size_at old ≡ Some (d, new) → with_sizes ds (sizes_at (count - counter) old) ≡ sizes_at count start
    → with_sizes one (sizes_at (count - (counter + 1)) new) ≡ sizes_at count start
sizes_so_far {one} {e} ds d count counter start old new lt pushed same read before =
    let here : with_sizes ds (sizes_at (count - counter) old) ≡ with_sizes (ds ++ d ∷ []) (sizes_at (count - (counter + 1)) new) =
    sizes_more ds d (count - counter) (count - (counter + 1)) old new (omega arith) read in
    let is : one ≡ ds ++ d ∷ [] = pushed ∙ ap (λ (x : ℤ). ds ++ x ∷ []) same in
    ap (λ (xs : List ℤ). with_sizes xs (sizes_at (count - (counter + 1)) new)) is ∙ sym here ∙ before

pub sizes_stop : (ds : List ℤ) (m n : ℕ) (old : List ℕ) → m ≡ suc n → size_at old ≡ None → with_sizes ds (sizes_at m old) ≡ None
sizes_stop ds m n old e h = ap (λ k. with_sizes ds (sizes_at k old)) e ∙ ap (λ r. with_sizes ds (r >>= λ d. sizes_at n d.1 >>= λ ds. Some (d.0 ∷ ds.0, ds.1))) h

pub never_some : {A : Type 0} (o : Option A) → ((x : A) → o ≡ Some x → ⊥) → o ≡ None
never_some None h = refl
never_some (Some x) h = absurd (h x refl)

-- as each dimension takes four
pub sizes_short : (m : ℕ) (octets : List ℕ) → length octets < 4 * m → sizes_at m octets ≡ None
sizes_short m octets h =
    never_some (sizes_at m octets)
    (λ x e. let s = (exact_sizes m).sound octets x.0 x.1 e in
    let l : length x.0 ≡ m = s.encoded.0 in
    absurd (omega (arith, ap length s.parts, length-append s.front x.1, sizes_take x.0 s.front s.encoded.1)))

pub sizes_fault : {X : Type 0} (view : X → List ℤ) (e : ReadFault) (ds : List ℤ) (count counter : ℕ) (start old new : List ℕ) → counter < count
    → Gives size_at old new (Err e) → with_sizes ds (sizes_at (count - counter) old) ≡ sizes_at count start → GivesBy view (sizes_at count) start new (Err e)
sizes_fault view NoValue ds count counter start old new lt h so_far = sym so_far ∙ sizes_stop ds (count - counter) (count - counter - 1) old (omega arith) h
sizes_fault view OutOfMemory ds count counter start old new lt h so_far = tt

-- an answer that is exact for a reader is so for one that reads the same here
pub gives_same : {X A : Type 0} (view : X → A) (r s : List ℕ → Option (A × List ℕ)) (old new : List ℕ) (answer : Result X ReadFault) → r old ≡ s old
    → GivesBy view s old new answer → GivesBy view r old new answer
gives_same view r s old new (Ok v) e h = e ∙ h
gives_same view r s old new (Err NoValue) e h = e ∙ h
gives_same view r s old new (Err OutOfMemory) e h = tt

-- ---- writing

canonical_push : (ds : List ℤ) (d : ℤ) → sizes_canonical (ds ++ d ∷ []) ≡ sizes_canonical ds ++ number_octets 4 (unsigned_abs d)
canonical_push [] d = append-nil (number_octets 4 (unsigned_abs d))
canonical_push (x ∷ ds) d = ap (λ r. number_octets 4 (unsigned_abs x) ++ r) (canonical_push ds d)
    ∙ sym (append_assoc (number_octets 4 (unsigned_abs x)) (sizes_canonical ds) (number_octets 4 (unsigned_abs d)))

pub canonical_after : (old : List ℕ) (ds : List ℤ) (i n : ℕ) → i < length ds → FitsSigned w32 (get_or ds i (pos 0))
    → n ≡ unsigned_abs (to_z w32 (of_z w32 (get_or ds i (pos 0))))
    → (old ++ sizes_canonical (take i ds)) ++ number_octets 4 n ≡ old ++ sizes_canonical (take (i + 1) ds)
canonical_after old ds i n h f is =
    append_assoc old (sizes_canonical (take i ds)) (number_octets 4 n)
    ∙ ap (λ r. old ++ (sizes_canonical (take i ds) ++ number_octets 4 r)) (is ∙ ap unsigned_abs (to_z-of_z w32 (get_or ds i (pos 0)) f))
    ∙ ap (λ r. old ++ r) (sym (ap sizes_canonical (take_more ds i (pos 0) h) ∙ canonical_push (take i ds) (get_or ds i (pos 0))))
