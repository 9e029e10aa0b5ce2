-- An array of StatusCodes is skipped as one of UInt32.
use Rattle.std.specs.Prelude.{◌≡◌, ℕ, zero, suc, List, ◌∷◌, Bool, true, false, cond, Option, Some, None, nat_lt}
use Rattle.std.proofs.Common.{refl, sym, ◌∙◌}
use Rattle.ua_builtin.specs.Counted.{first_negative}
use Rattle.ua_builtin.specs.Exact.{◌>>=◌, image_read, skipped}
use Rattle.ua_builtin.specs.Format.{flat}
use Rattle.ua_builtin.specs.Join.{number}
use Rattle.ua_builtin.specs.Number.{number_at}
use Rattle.ua_builtin.specs.Status.{of_code, status_code}
use Rattle.ua_opening.specs.Array.{array, items_at, array_at, array_behind_count}

-- what stands behind what was found
abbrev rest : {A : Type 0} → Option (A × List ℕ) → Option (Unit {0} × List ℕ)
rest found = found >>= λ x. Some (tt, x.1)

-- with one more in front
abbrev with_one : {A : Type 0} → A → Option (List A × List ℕ) → Option (List A × List ℕ)
with_one x found = found >>= λ xs. Some (x ∷ xs.0, xs.1)

-- the value that was found, and the n values behind it
abbrev items_from : {A : Type 0} → (List ℕ → Option (A × List ℕ)) → ℕ → Option (A × List ℕ) → Option (List A × List ℕ)
items_from r n found = found >>= λ x. with_one x.0 (items_at r n x.1)

-- the value that another one is made of
abbrev made : {A B : Type 0} → (A → B) → Option (A × List ℕ) → Option (B × List ℕ)
made f found = found >>= λ x. Some (f x.0, x.1)

one_more : {A : Type 0} (x : A) (found : Option (List A × List ℕ)) → rest (with_one x found) ≡ rest found
one_more x None = refl
one_more x (Some xs) = refl

from_made : {A B : Type 0} (f : A → B) (r : List ℕ → Option (A × List ℕ)) (n : ℕ) (found : Option (A × List ℕ))
    → ((octets : List ℕ) → skipped (items_at (image_read f r) n) octets ≡ skipped (items_at r n) octets)
    → rest (items_from (image_read f r) n (made f found)) ≡ rest (items_from r n found)
from_made f r n None same = refl
from_made f r n (Some x) same =
    one_more (f x.0) (items_at (image_read f r) n x.1)
    ∙ same x.1
    ∙ sym (one_more x.0 (items_at r n x.1))

items_made : {A B : Type 0} (f : A → B) (r : List ℕ → Option (A × List ℕ)) (n : ℕ) (octets : List ℕ)
    → skipped (items_at (image_read f r) n) octets ≡ skipped (items_at r n) octets
unfolding items_at
items_made f r zero octets = refl
items_made f r (suc n) octets = from_made f r n (r octets) (items_made f r n)

-- what stands behind the values of an array, which may be null
some_of : {A : Type 0} (found : Option (List A × List ℕ))
    → ◌>>=◌ {B = Unit {0} × List ℕ} (◌>>=◌ {B = Option (List A) × List ℕ} found (λ x. Some (Some x.0, x.1)))
    (λ x. Some (tt, x.1)) ≡ rest found
some_of None = refl
some_of (Some x) = refl

behind_made : {A B : Type 0} (f : A → B) (r : List ℕ → Option (A × List ℕ)) (count : ℕ) (octets : List ℕ) (short : Bool)
    → ◌>>=◌ {B = Unit {0} × List ℕ} (cond short (image_read Some (items_at (image_read f r) count) octets) (Some (None, octets))) (λ x. Some (tt, x.1))
    ≡ ◌>>=◌ {B = Unit {0} × List ℕ} (cond short (image_read Some (items_at r count) octets) (Some (None, octets))) (λ x. Some (tt, x.1))
behind_made f r count octets false = refl
behind_made f r count octets true =
    some_of (items_at (image_read f r) count octets)
    ∙ items_made f r count octets
    ∙ sym (some_of (items_at r count octets))

after_count : {A B : Type 0} (f : A → B) (r : List ℕ → Option (A × List ℕ)) (count : Option (ℕ × List ℕ))
    → rest (count >>= λ c. array_behind_count (image_read f r) c.0 c.1) ≡ rest (count >>= λ c. array_behind_count r c.0 c.1)
after_count f r None = refl
after_count f r (Some c) = behind_made f r c.0 c.1 (nat_lt c.0 first_negative)

array_made : {A B : Type 0} (f : A → B) (r : List ℕ → Option (A × List ℕ)) (octets : List ℕ)
    → skipped (array_at (image_read f r)) octets ≡ skipped (array_at r) octets
array_made f r octets = after_count f r (number_at 4 octets)

-- an array of StatusCodes is skipped as one of UInt32
pub codes_skipped : (levels : ℕ) (octets : List ℕ) → skipped ((array (flat status_code)).decode levels) octets
    ≡ skipped ((array (flat (number 4))).decode levels) octets
unfolding array status_code
codes_skipped levels octets = array_made of_code (number_at 4) octets
