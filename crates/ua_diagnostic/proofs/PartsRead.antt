-- The readers of parts are exact where those of what they hold are.
use Rattle.std.specs.Prelude.{◌≡◌, ℕ, ◌<◌, Bool, true, false, cond, IsTrue, List, ◌++◌, Option, Some, None}
use Rattle.std.proofs.Common.{refl, sym, ap, subst, ◌∙◌, append-nil}
use Rattle.ua_wire.specs.Exact.{Exact, ◌>>=◌, Follows, then_read, Image, IsOnly}
use Rattle.ua_wire.specs.Number.{IsNumber, number_at}
use Rattle.ua_wire.proofs.Readers.{exact_same, exact_bind, exact_image, exact_only, not_false}
use Rattle.ua_wire.proofs.NumbersRead.{exact_number, one_octet}
use Rattle.ua_diagnostic.specs.Parts.{Joins, Nothing, IsOctet, Optional, when, optional_read}

-- a number of one octet is that octet
octet_is : (n : ℕ) (b : List ℕ) → IsNumber 1 n b → IsOctet n b
octet_is n b h = let low : n < 256 = h.0 in (low, h.1 ∙ one_octet n low)

number_is : (n : ℕ) (b : List ℕ) → IsOctet n b → IsNumber 1 n b
number_is n b h = (h.0, h.1 ∙ sym (one_octet n h.0))

pub exact_octet : Exact IsOctet (number_at 1)
exact_octet = exact_same (IsNumber 1) IsOctet (number_at 1) octet_is number_is (exact_number 1)

-- one behind the other, the second by what the first is
pub exact_then : {A B : Type 0} {p : A → List ℕ → Type 0} {r : List ℕ → Option (A × List ℕ)} {q : A → B → List ℕ → Type 0} {s : A → List ℕ
    → Option (B × List ℕ)} → Exact p r → ((x : A) → Exact (q x) (s x))
    → Exact (λ (y : B) (b : List ℕ). (x : A) × Joins (p x) (q x y) b) (λ octets. r octets >>= λ x. s x.0 x.1)
exact_then {A} {B} {p} {r} {q} {s} e f =
    exact_same (Follows p q) (λ (y : B) (b : List ℕ). (x : A) × Joins (p x) (q x y) b) (then_read r s)
    (λ y b h. (h.head, (h.front, h.back, h.parts, h.head_encoded, h.rest_encoded)))
    (λ y b h. record { head = h.0; front = h.1.0; back = h.1.1; parts = h.1.2; head_encoded = h.1.3; rest_encoded = h.1.4 })
    (exact_bind p r q s e f)

-- the same encodings for what f makes
pub exact_map : {A B : Type 0} {p : A → List ℕ → Type 0} {r : List ℕ → Option (A × List ℕ)} (f : A → B) → Exact p r
    → Exact (λ (y : B) (b : List ℕ). (x : A) × (y ≡ f x) × p x b) (λ octets. r octets >>= λ x. Some (f x.0, x.1))
exact_map {A} {B} {p} {r} f e =
    exact_same (Image f p) (λ (y : B) (b : List ℕ). (x : A) × (y ≡ f x) × p x b) (λ octets. r octets >>= λ x. Some (f x.0, x.1))
    (λ y b h. (h.of, h.is, h.encoded)) (λ y b h. record { of = h.0; is = h.1; encoded = h.2 }) (exact_image f p r e)

pub exact_as : {A : Type 0} {p : A → List ℕ → Type 0} {r : List ℕ → Option (A × List ℕ)} (q : A → List ℕ → Type 0) → Exact p r
    → ((x : A) (b : List ℕ) → p x b → q x b) → ((x : A) (b : List ℕ) → q x b → p x b) → Exact q r
exact_as {A} {p} {r} q e there back = exact_same p q r there back e

pub exact_if : {A : Type 0} {p : A → List ℕ → Type 0} {r s : List ℕ → Option (A × List ℕ)} (b : Bool) → (b ≡ true → Exact p r) → (b ≡ false → Exact p s)
    → Exact p (λ octets. cond b (r octets) (s octets))
exact_if true e f = e refl
exact_if false e f = f refl

-- what is read only where the test passes
pub exact_when : {A : Type 0} {p : A → List ℕ → Type 0} {r : List ℕ → Option (A × List ℕ)} (b : Bool) → Exact p r
    → Exact (λ (x : A) (c : List ℕ). IsTrue b × p x c) (λ octets. when b (r octets))
exact_when {A} {p} {r} true e = exact_same p (λ (x : A) (c : List ℕ). IsTrue true × p x c) r (λ x c h. (refl, h)) (λ x c h. h.1) e
exact_when {A} {p} {r} false e = record { sound = λ octets v rest h. absurd cc; complete = λ v front rest h. not_false h.0 }

some_there : {A : Type 0} (p : A → List ℕ → Type 0) (v : Option A) (b : List ℕ) → Image Some p v b → Optional p true v b
some_there p None b h = let e = h.is in absurd cc
some_there p (Some x) b h = let same : h.of ≡ x = let e = h.is in cc in subst (λ y. p y b) same h.encoded

some_back : {A : Type 0} (p : A → List ℕ → Type 0) (v : Option A) (b : List ℕ) → Optional p true v b → Image Some p v b
some_back p None b h = absurd h
some_back p (Some x) b h = record { of = x; is = refl; encoded = h }

none_there : {A : Type 0} (p : A → List ℕ → Type 0) (v : Option A) (b : List ℕ) → IsOnly None v b → Optional p false v b
none_there p None b h = h.1
none_there p (Some x) b h = let e = h.0 in absurd cc

none_back : {A : Type 0} (p : A → List ℕ → Type 0) (v : Option A) (b : List ℕ) → Optional p false v b → IsOnly None v b
none_back p None b h = (refl, h)
none_back p (Some x) b h = absurd h

pub exact_optional : {A : Type 0} (p : A → List ℕ → Type 0) (r : List ℕ → Option (A × List ℕ)) (b : Bool) → Exact p r → Exact (Optional p b) (optional_read b r)
exact_optional p r true e = exact_same (Image Some p) (Optional p true) (λ octets. r octets >>= λ x. Some (Some x.0, x.1)) (some_there p) (some_back p)
    (exact_image Some p r e)
exact_optional {A} p r false e = exact_same (IsOnly None) (Optional p false) (λ octets. Some (None, octets)) (none_there p) (none_back p) (exact_only None)

-- ---- what stands beside nothing

pub nil_behind : (b front back : List ℕ) → b ≡ front ++ back → Nothing back → b ≡ front
nil_behind b front back e none = e ∙ ap (λ (c : List ℕ). front ++ c) none ∙ append-nil front

pub exact_none : {A : Type 0} {p : A → List ℕ → Type 0} → ((x : A) (b : List ℕ) → p x b → ⊥) → Exact p (λ octets. None)
exact_none never = record { sound = λ octets v rest h. absurd cc; complete = λ v front rest h. absurd (never v front h) }
