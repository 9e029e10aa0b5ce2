-- The readers of octets, and of octets behind their count, are exact.
use Rattle.std.specs.Prelude.{◌≡◌, ℕ, ◌<◌, ◌≤◌, ◌^◌, List, [], ◌++◌, Bool, true, false, cond, length, take, drop, nat_lt, Option, Some, None}
use Rattle.std.proofs.Common.{refl, sym, ◌∙◌, ap, subst, arith, length-append, take-append-drop, append-nil}
use Rattle.std.proofs.lemmas.Bool.{le-ltb, lt-ltb, ltb-false, ltb-true}
use Rattle.std.proofs.lemmas.List.{take_at, drop_at, length-take-le}
use Rattle.ua_wire.specs.Exact.{Begins, Exact, IsOnly, Follows, Image, image_read}
use Rattle.ua_wire.specs.Number.{IsNumber, number_at, number_octets}
use Rattle.ua_wire.specs.Counted.{AreOctets, octets_at, first_negative, EncodesCounted, behind_count, counted_at}
use Rattle.ua_wire.proofs.Readers.{some_is, exact_same, exact_image, exact_only, exact_bind}
use Rattle.ua_wire.proofs.NumbersRead.{exact_number}

-- ---- so many octets

left_of : {A : Type 0} (test : Bool) (o : Option A) (y : A) → cond test None o ≡ Some y → (test ≡ false) × (o ≡ Some y)
left_of true o y e = absurd cc
left_of false o y e = (refl, e)

octets_sound : (n : ℕ) (octets v rest : List ℕ) → octets_at n octets ≡ Some (v, rest) → Begins (AreOctets n) octets v rest
unfolding octets_at
octets_sound n octets v rest e =
    let there = left_of (nat_lt (length octets) n) (Some (take n octets, drop n octets)) (v, rest) e in
    let enough : n ≤ length octets = ltb-false (length octets) n there.0 in
    let same = some_is (take n octets, drop n octets) (v, rest) there.1 in
    let v_is : take n octets ≡ v = ap (λ (u : List ℕ × List ℕ). u.0) same in
    let rest_is : drop n octets ≡ rest = ap (λ (u : List ℕ × List ℕ). u.1) same in
    let len : length v ≡ n = sym (ap length v_is) ∙ length-take-le n octets enough in
    record {
      front = v;
      parts = sym (take-append-drop n octets) ∙ ap (λ (t : List ℕ). t ++ drop n octets) v_is ∙ ap (λ (t : List ℕ). v ++ t) rest_is;
      encoded = (len, refl);
    }

pub octets_taken : (n : ℕ) (v rest : List ℕ) → length v ≡ n → octets_at n (v ++ rest) ≡ Some (v, rest)
unfolding octets_at
octets_taken n v rest len =
    let enough : nat_lt (length (v ++ rest)) n ≡ false = le-ltb (length (v ++ rest)) n (omega (arith, length-append v rest)) in
    ap (λ (t : Bool). cond t None (Some (take n (v ++ rest), drop n (v ++ rest)))) enough
    ∙ ap (λ (t : List ℕ). Some (t, drop n (v ++ rest))) (take_at v rest n len)
    ∙ ap (λ (t : List ℕ). Some (v, t)) (drop_at v rest n len)

octets_complete : (n : ℕ) (v front rest : List ℕ) → AreOctets n v front → octets_at n (front ++ rest) ≡ Some (v, rest)
octets_complete n v front rest h = ap (λ (t : List ℕ). octets_at n (t ++ rest)) h.1 ∙ octets_taken n v rest h.0

pub exact_octets : (n : ℕ) → Exact (AreOctets n) (octets_at n)
exact_octets n = record { sound = octets_sound n; complete = octets_complete n }

pub octets_at-short : (n : ℕ) (octets : List ℕ) → length octets < n → octets_at n octets ≡ None
unfolding octets_at
octets_at-short n octets h = ap (λ (t : Bool). cond t None (Some (take n octets, drop n octets))) (lt-ltb (length octets) n h)

-- ---- octets, or null, behind a count

-- what stands behind a count
abbrev BehindCount : ℕ → Option (List ℕ) → List ℕ → Type 0
BehindCount n None b = (first_negative ≤ n) × (b ≡ [])
BehindCount n (Some v) b = (n < first_negative) × AreOctets n v b

some_behind : (n : ℕ) → n < first_negative → (v : Option (List ℕ)) (b : List ℕ) → Image Some (AreOctets n) v b → BehindCount n v b
some_behind n small v b h = subst (λ (x : Option (List ℕ)). BehindCount n x b) (sym h.is) (small, h.encoded)

behind_some : (n : ℕ) → n < first_negative → (v : Option (List ℕ)) (b : List ℕ) → BehindCount n v b → Image Some (AreOctets n) v b
behind_some n small None b h = absurd (omega (arith, h.0))
behind_some n small (Some v) b h = record { of = v; is = refl; encoded = h.1 }

null_behind : (n : ℕ) → first_negative ≤ n → (v : Option (List ℕ)) (b : List ℕ) → IsOnly None v b → BehindCount n v b
null_behind n large v b h = subst (λ (x : Option (List ℕ)). BehindCount n x b) (sym h.0) (large, h.1)

behind_null : (n : ℕ) → first_negative ≤ n → (v : Option (List ℕ)) (b : List ℕ) → BehindCount n v b → IsOnly None v b
behind_null n large None b h = (refl, h.1)
behind_null n large (Some v) b h = absurd (omega (arith, h.0))

exact_behind_at : (n : ℕ) (small : Bool) → nat_lt n first_negative ≡ small
    → Exact (BehindCount n) (λ octets. cond small (image_read Some (octets_at n) octets) (Some (None, octets)))
exact_behind_at n true e =
    let small : n < first_negative = ltb-true n first_negative e in
    exact_same (Image Some (AreOctets n)) (BehindCount n) (image_read Some (octets_at n)) (some_behind n small) (behind_some n small)
    (exact_image Some (AreOctets n) (octets_at n) (exact_octets n))
exact_behind_at n false e =
    let large : first_negative ≤ n = ltb-false n first_negative e in
    exact_same (IsOnly None) (BehindCount n) (λ octets. Some (None, octets)) (null_behind n large) (behind_null n large) (exact_only None)

exact_behind : (n : ℕ) → Exact (BehindCount n) (behind_count n)
exact_behind n = exact_behind_at n (nat_lt n first_negative) refl

counted_there : (v : Option (List ℕ)) (b : List ℕ) → Follows (IsNumber 4) BehindCount v b → EncodesCounted v b
counted_there None b h =
    let whole : b ≡ h.front = h.parts ∙ ap (λ (t : List ℕ). h.front ++ t) h.rest_encoded.1 ∙ append-nil h.front in
    (h.head, h.rest_encoded.0, (h.head_encoded.0, whole ∙ h.head_encoded.1))
counted_there (Some v) b h =
    let len : length v ≡ h.head = h.rest_encoded.1.0 in (
      subst (λ (n : ℕ). n < first_negative) (sym len) h.rest_encoded.0,
      h.parts ∙ ap (λ (t : List ℕ). t ++ h.back) (h.head_encoded.1 ∙ ap (number_octets 4) (sym len))
          ∙ ap (λ (t : List ℕ). number_octets 4 (length v) ++ t) h.rest_encoded.1.1,
    )

counted_back : (v : Option (List ℕ)) (b : List ℕ) → EncodesCounted v b → Follows (IsNumber 4) BehindCount v b
counted_back None b h = record { head = h.0; front = b; back = []; parts = sym (append-nil b); head_encoded = h.2; rest_encoded = (h.1, refl) }
counted_back (Some v) b h =
    let small : length v < first_negative = h.0 in
    let fits : length v < 256 ^ 4 = omega arith in
    record { head = length v; front = number_octets 4 (length v); back = v; parts = h.1; head_encoded = (fits, refl); rest_encoded = (h.0, (refl, refl)) }

pub exact_counted : Exact EncodesCounted counted_at
exact_counted =
    exact_same (Follows (IsNumber 4) BehindCount) EncodesCounted counted_at counted_there counted_back
    (exact_bind (IsNumber 4) (number_at 4) BehindCount behind_count (exact_number 4) exact_behind)
