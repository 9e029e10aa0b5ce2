-- The readers of numbers are exact, and read what byteorder writes.
use Rattle.std.specs.Prelude.{Bool, true, false, ◌≡◌, ◌<◌, ◌%◌, ◌/◌, ◌*◌, ◌+◌, ◌^◌, ℕ, zero, suc, List}
use Rattle.std.specs.Prelude.{[], ◌∷◌, ◌++◌, cond, nat_lt, length, slice_index, Option, Some, None}
use Rattle.std.proofs.Common.{refl, sym, ◌∙◌, ap, arith}
use Rattle.std.proofs.lemmas.Bool.{lt-ltb, ltb-true}
use Rattle.std.proofs.Math.Nat.{div-div-eq-div-mul, div-one, mod-lt, pow-suc}
use Rattle.std.specs.Int.{bytes_low_first}
use Rattle.byteorder.specs.Endian.{little_bytes, little_number}
use Rattle.byteorder.specs.Numbers.{little_from-cons}
use Rattle.ua_wire.specs.Exact.{Begins, Exact, ◌>>=◌}
use Rattle.ua_wire.specs.Number.{IsNumber, number_at, number_octets}
use Rattle.ua_wire.proofs.Readers.{bind_some, some_is, guard_some, guard_true}

low_octet : (x n : ℕ) → x < 256 → (x + 256 * n) % 256 ≡ x
low_octet x n h = omega arith

high_octets : (x n : ℕ) → x < 256 → (x + 256 * n) / 256 ≡ n
high_octets x n h = omega arith

whole_number : (n : ℕ) → n % 256 + 256 * (n / 256) ≡ n
whole_number n = omega arith

number_sound : (k : ℕ) (octets : List ℕ) (n : ℕ) (rest : List ℕ) → number_at k octets ≡ Some (n, rest) → Begins (IsNumber k) octets n rest
unfolding number_at number_octets
number_sound zero octets n rest e =
    let same = some_is (0, octets) (n, rest) e in
    let zero_is : 0 ≡ n = ap (λ (u : ℕ × List ℕ). u.0) same in
    record { front = []; parts = ap (λ (u : ℕ × List ℕ). u.1) same; encoded = (omega arith, refl) }
number_sound (suc k) [] n rest e = absurd cc
number_sound (suc k) (x ∷ octets) n rest e =
    let guarded = guard_some (nat_lt x 256) (number_at k octets >>= λ high. Some (x + 256 * high.0, high.1)) (n, rest) e in
    let found = bind_some (number_at k octets) (λ high. Some (x + 256 * high.0, high.1)) (n, rest) guarded.1 in
    let high = number_sound k octets found.0.0 found.0.1 found.1 in
    let below : x < 256 = ltb-true x 256 guarded.0 in
    let same = some_is (x + 256 * found.0.0, found.0.1) (n, rest) found.2 in
    let number_is : x + 256 * found.0.0 ≡ n = ap (λ (u : ℕ × List ℕ). u.0) same in
    let rest_is : found.0.1 ≡ rest = ap (λ (u : ℕ × List ℕ). u.1) same in
    let low : n % 256 ≡ x = ap (λ (m : ℕ). m % 256) (sym number_is) ∙ low_octet x found.0.0 below in
    let up : n / 256 ≡ found.0.0 = ap (λ (m : ℕ). m / 256) (sym number_is) ∙ high_octets x found.0.0 below in
    let bound : found.0.0 < 256 ^ k = high.encoded.0 in
    record {
      front = x ∷ high.front;
      parts = ap (λ (t : List ℕ). x ∷ t) (high.parts ∙ ap (λ (t : List ℕ). high.front ++ t) rest_is);
      encoded = (
        rw (pow-suc 256 k) (omega arith),
        sym (ap (λ (y : ℕ). y ∷ number_octets k (n / 256)) low ∙ ap (λ (y : ℕ). x ∷ number_octets k y) up
            ∙ ap (λ (t : List ℕ). x ∷ t) (sym high.encoded.1)),
      );
    }

number_again : (k n : ℕ) (rest : List ℕ) → n < 256 ^ k → number_at k (number_octets k n ++ rest) ≡ Some (n, rest)
unfolding number_at number_octets
number_again zero n rest h = let e : 0 ≡ n = omega arith in ap (λ (m : ℕ). Some (m, rest)) e
number_again (suc k) n rest h =
    let bound : n < 256 ^ k * 256 = rw (pow-suc 256 k) at h in
    let low : n % 256 < 256 = mod-lt n (omega arith) in
    guard_true (nat_lt (n % 256) 256) (number_at k (number_octets k (n / 256) ++ rest) >>= λ high. Some (n % 256 + 256 * high.0, high.1))
    (lt-ltb (n % 256) 256 low)
    ∙ ap (λ o. o >>= λ high. Some (n % 256 + 256 * high.0, high.1)) (number_again k (n / 256) rest (omega arith))
    ∙ ap (λ (m : ℕ). Some (m, rest)) (whole_number n)

number_complete : (k n : ℕ) (front rest : List ℕ) → IsNumber k n front → number_at k (front ++ rest) ≡ Some (n, rest)
number_complete k n front rest h = ap (λ (t : List ℕ). number_at k (t ++ rest)) h.1 ∙ number_again k n rest h.0

pub exact_number : (k : ℕ) → Exact (IsNumber k) (number_at k)
exact_number k = record { sound = number_sound k; complete = number_complete k }

pub number_some : (k n : ℕ) → IsNumber (suc k) n [] → ⊥
unfolding number_octets
number_some k n h = let e = h.1 in absurd cc

pub length-number_octets : (k n : ℕ) → length (number_octets k n) ≡ k
unfolding number_octets
length-number_octets zero n = refl
length-number_octets (suc k) n = let e = length-number_octets k (n / 256) in omega (arith, e)

-- ---- the words of byteorder

bytes_low_first-is : (i k n : ℕ) → bytes_low_first i k n ≡ number_octets k (n / 256 ^ i)
unfolding number_octets
bytes_low_first-is i zero n = refl
bytes_low_first-is zero (suc k) n =
    let e : n / 256 ^ 0 ≡ n = div-one n in
    let f : n / 256 ^ 1 ≡ n / 256 = refl in
    ap (λ (t : List ℕ). n % 256 ∷ t) (bytes_low_first-is 1 k n) ∙ sym (ap (λ (m : ℕ). m % 256 ∷ number_octets k (m / 256)) e)
bytes_low_first-is (suc i) (suc k) n =
    let e : n / 256 ^ suc (suc i) ≡ n / 256 ^ suc i / 256 = ap (λ (p : ℕ). n / p) (pow-suc 256 (suc i)) ∙ sym (div-div-eq-div-mul n (256 ^ suc i) 256) in
    ap (λ (t : List ℕ). n / 256 ^ suc i % 256 ∷ t) (bytes_low_first-is (suc (suc i)) k n ∙ ap (number_octets k) e)

pub little_bytes-is : (k n : ℕ) → little_bytes k n ≡ number_octets k n
little_bytes-is k n = bytes_low_first-is 0 k n ∙ ap (number_octets k) (div-one n)

pub number_at-octets : (k : ℕ) (octets rest : List ℕ) → length octets ≡ k → ((i : ℕ) → slice_index octets i < 256)
    → number_at k (octets ++ rest) ≡ Some (little_number k octets, rest)
unfolding number_at
number_at-octets zero [] rest len below = refl
number_at-octets zero (x ∷ octets) rest len below = absurd (omega arith)
number_at-octets (suc k) [] rest len below = absurd (omega arith)
number_at-octets (suc k) (x ∷ octets) rest len below =
    guard_true (nat_lt x 256) (number_at k (octets ++ rest) >>= λ high. Some (x + 256 * high.0, high.1)) (lt-ltb x 256 (below 0))
    ∙ ap (λ o. o >>= λ high. Some (x + 256 * high.0, high.1)) (number_at-octets k octets rest (omega arith) (λ i. below (suc i)))
    ∙ ap (λ (m : ℕ). Some (x + 256 * m, rest)) (sym (little_from-cons 0 k x octets))

short_guard : {A : Type 0} (test : Bool) {o : Option A} → o ≡ None → cond test o None ≡ None
short_guard true e = e
short_guard false e = refl

pub number_at-short : (k : ℕ) (octets : List ℕ) → length octets < k → number_at k octets ≡ None
unfolding number_at
number_at-short zero octets h = absurd (omega arith)
number_at-short (suc k) [] h = refl
number_at-short (suc k) (x ∷ octets) h =
    short_guard (nat_lt x 256) (ap (λ o. o >>= λ high. Some (x + 256 * high.0, high.1)) (number_at-short k octets (omega arith)))

pub one_octet : (n : ℕ) → n < 256 → number_octets 1 n ≡ n ∷ []
unfolding number_octets
one_octet n h = let e : n % 256 ≡ n = omega arith in ap (λ (x : ℕ). x ∷ []) e

-- a number of one octet, and what stands behind it
pub octet_front : (n : ℕ) (b front back : List ℕ) → b ≡ front ++ back → IsNumber 1 n front → b ≡ n ∷ back
octet_front n b front back e h = e ∙ ap (λ (t : List ℕ). t ++ back) (h.1 ∙ one_octet n h.0)

pub front_octet : (n : ℕ) (b back : List ℕ) → n < 256 → b ≡ n ∷ back → b ≡ number_octets 1 n ++ back
front_octet n b back h e = e ∙ ap (λ (t : List ℕ). t ++ back) (sym (one_octet n h))
