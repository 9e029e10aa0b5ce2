-- The tokens that are held: from the last place of the last one used.
use Rattle.std.proofs.Common.{◌≡◌, inl, inr, ℕ, List, [], ◌∷◌, ◌++◌, Bool, true, false, ◌&&◌, ◌||◌, not, Option, Some, None, refl, sym, ◌∙◌, ap, eqb}
use Rattle.std.specs.Prelude.{if◌then◌else◌}
use Rattle.std.proofs.lemmas.Bool.{and_parts, both_ways, cases_Bool, eqb-true}
use Rattle.ua_channel.specs.Asks.{is_in}
use Rattle.ua_channel.specs.ClientTokens.{from_last, held_by}
use Rattle.ua_channel.specs.Received.{latest_behind, latest}
use Rattle.ua_channel.proofs.Askings.{or_false}
use Rattle.ua_channel.proofs.OneFrameMore.{behind_push}

-- ---- using one that is held

in_by : (stays found : Bool) (k m : ℕ) (ms from : List ℕ) → eqb m k ≡ found → (is_in k from ≡ true → is_in k ms ≡ true)
    → is_in k (if stays then m ∷ ms else from) ≡ true → (found || is_in k ms) ≡ true
in_by stays true k m ms from is more e = refl
in_by true false k m ms from is more e = ap (λ (b : Bool). b || is_in k ms) (sym is) ∙ e
in_by false false k m ms from is more e = more e

in_from_last : (k n : ℕ) (ms : List ℕ) → is_in k (from_last n ms) ≡ true → is_in k ms ≡ true
in_from_last k n [] e = e
in_from_last k n (m ∷ ms) e = in_by (eqb m n && not (is_in n ms)) (eqb m k) k m ms (from_last n ms) refl (in_from_last k n ms) e

and_not : (a b : Bool) → b ≡ true → (a && not b) ≡ false
and_not true b is = ap not is
and_not false b is = refl

again_by : (stays : Bool) (k n m : ℕ) (ms : List ℕ) → (is_in k (from_last n ms) ≡ true → from_last k (from_last n ms) ≡ from_last k ms)
    → is_in k (if stays then m ∷ ms else from_last n ms) ≡ true → from_last k (if stays then m ∷ ms else from_last n ms) ≡ from_last k (m ∷ ms)
again_by true k n m ms more e = refl
again_by false k n m ms more e =
    more e ∙ sym (ap (λ (t : Bool). if t then m ∷ ms else from_last k ms) (and_not (eqb m k) (is_in k ms) (in_from_last k n ms e)))

pub from_last-again : (k n : ℕ) (ms : List ℕ) → is_in k (from_last n ms) ≡ true → from_last k (from_last n ms) ≡ from_last k ms
from_last-again k n [] e = refl
from_last-again k n (m ∷ ms) e = again_by (eqb m n && not (is_in n ms)) k n m ms (from_last-again k n ms) e

-- using a token that is held drops those before it
pub held_by-used : (used : Option ℕ) (k : ℕ) (ms : List ℕ) → is_in k (held_by used ms) ≡ true → held_by (Some k) ms ≡ from_last k (held_by used ms)
held_by-used None k ms e = refl
held_by-used (Some n) k ms e = sym (from_last-again k n ms e)

-- ---- one token more

or_assoc : (a b c : Bool) → (a || (b || c)) ≡ ((a || b) || c)
or_assoc true b c = refl
or_assoc false b c = refl

is_in-push : (n m : ℕ) (ms : List ℕ) → is_in n (ms ++ m ∷ []) ≡ (is_in n ms || eqb m n)
is_in-push n m [] = or_false (eqb m n)
is_in-push n m (k ∷ ms) = ap (λ (b : Bool). eqb k n || b) (is_in-push n m ms) ∙ or_assoc (eqb k n) (is_in n ms) (eqb m n)

last_by : (stays : Bool) (n m k : ℕ) (ms : List ℕ)
    → ((from_last n ms ≡ [] → ⊥) → from_last n (ms ++ m ∷ []) ≡ from_last n ms ++ m ∷ []) → ((if stays then k ∷ ms else from_last n ms) ≡ [] → ⊥)
    → (if stays then k ∷ (ms ++ m ∷ []) else from_last n (ms ++ m ∷ [])) ≡ (if stays then k ∷ ms else from_last n ms) ++ m ∷ []
last_by true n m k ms more some = refl
last_by false n m k ms more some = more some

-- where n is held, another token behind it is held too
push_by : (stays : Bool) (n m k : ℕ) (ms : List ℕ) → eqb m n ≡ false → (eqb k n && not (is_in n ms)) ≡ stays
    → ((from_last n ms ≡ [] → ⊥) → from_last n (ms ++ m ∷ []) ≡ from_last n ms ++ m ∷ []) → ((if stays then k ∷ ms else from_last n ms) ≡ [] → ⊥)
    → from_last n (k ∷ (ms ++ m ∷ [])) ≡ (if stays then k ∷ ms else from_last n ms) ++ m ∷ []
push_by stays n m k ms other is more some =
    ap (λ (t : Bool). if eqb k n && not t then k ∷ (ms ++ m ∷ []) else from_last n (ms ++ m ∷ [])) (is_in-push n m ms
    ∙ (ap (λ (t : Bool). is_in n ms || t) other ∙ or_false (is_in n ms)))
    ∙ (ap (λ (t : Bool). if t then k ∷ (ms ++ m ∷ []) else from_last n (ms ++ m ∷ [])) is ∙ last_by stays n m k ms more some)

from_last-push : (n m : ℕ) (ms : List ℕ) → eqb m n ≡ false → (from_last n ms ≡ [] → ⊥) → from_last n (ms ++ m ∷ []) ≡ from_last n ms ++ m ∷ []
from_last-push n m [] other some = absurd (some refl)
from_last-push n m (k ∷ ms) other some = push_by (eqb k n && not (is_in n ms)) n m k ms other refl (from_last-push n m ms other) some

-- what is held of n begins with n
begins_by : (stays : Bool) (n k : ℕ) (ms : List ℕ) → (eqb k n && not (is_in n ms)) ≡ stays → ((from_last n ms ≡ [] → ⊥) → is_in n (from_last n ms) ≡ true)
    → ((if stays then k ∷ ms else from_last n ms) ≡ [] → ⊥) → is_in n (if stays then k ∷ ms else from_last n ms) ≡ true
begins_by true n k ms is more some = ap (λ (b : Bool). b || is_in n ms) (and_parts (eqb k n) (not (is_in n ms)) is).0
begins_by false n k ms is more some = more some

begins_with : (n : ℕ) (ms : List ℕ) → (from_last n ms ≡ [] → ⊥) → is_in n (from_last n ms) ≡ true
begins_with n [] some = absurd (some refl)
begins_with n (k ∷ ms) some = begins_by (eqb k n && not (is_in n ms)) n k ms refl (begins_with n ms) some

is_none_latest : {n : ℕ} {ms : List ℕ} → ms ≡ [] → latest ms ≡ Some n → ⊥
is_none_latest {n = n} none some =
    let never : None ≡ Some n = sym (ap latest none) ∙ some in
    cc

other_than : (n m : ℕ) (ms : List ℕ) → is_in n ms ≡ true → is_in m ms ≡ false → eqb m n ≡ false
other_than n m ms has lacks =
    elim (cases_Bool (eqb m n)) [ inl same ↦ absurd (both_ways (is_in m ms) lacks (ap (λ (k : ℕ). is_in k ms) (eqb-true m n same) ∙ has)) | inr other ↦ other ]

-- a further token is held behind the others, where it is none of them and there are some
pub held_by-push : (used : Option ℕ) (m newest : ℕ) (ms : List ℕ) → latest (held_by used ms) ≡ Some newest → is_in m (held_by used ms) ≡ false
    → held_by used (ms ++ m ∷ []) ≡ held_by used ms ++ m ∷ []
held_by-push None m newest ms some fresh = refl
held_by-push (Some n) m newest ms some fresh =
    let filled : from_last n ms ≡ [] → ⊥ = λ (none : from_last n ms ≡ []). is_none_latest none some in
    from_last-push n m ms (other_than n m (from_last n ms) (begins_with n ms filled) fresh) filled

pub latest-push : {A : Type 0} (xs : List A) (x : A) → latest (xs ++ x ∷ []) ≡ Some x
latest-push xs x = behind_push None xs x

-- ---- the newest one stays

lists_none : (k : ℕ) (xs : List ℕ) → is_in k xs ≡ true → (a b : Option ℕ) → latest_behind a xs ≡ latest_behind b xs
lists_none k [] e a b = absurd cc
lists_none k (x ∷ xs) e a b = refl

stays_by : (same more : Bool) (k m : ℕ) (ms : List ℕ) → eqb m k ≡ same → (more ≡ true → is_in k (from_last k ms) ≡ true) → (same || more) ≡ true
    → is_in k (if same && not more then m ∷ ms else from_last k ms) ≡ true
stays_by true true k m ms is rec e = rec refl
stays_by true false k m ms is rec e = ap (λ (b : Bool). b || is_in k ms) is
stays_by false true k m ms is rec e = rec refl
stays_by false false k m ms is rec e = absurd cc

pub stays_in : (k : ℕ) (ms : List ℕ) → is_in k ms ≡ true → is_in k (from_last k ms) ≡ true
stays_in k [] e = e
stays_in k (m ∷ ms) e = stays_by (eqb m k) (is_in k ms) k m ms refl (stays_in k ms) e

latest_by : (same more : Bool) (k m : ℕ) (ms : List ℕ) → is_in k ms ≡ more
    → ((a : Option ℕ) → more ≡ true → latest_behind a (from_last k ms) ≡ latest_behind a ms) → (same || more) ≡ true → (a : Option ℕ)
    → latest_behind a (if same && not more then m ∷ ms else from_last k ms) ≡ latest_behind (Some m) ms
latest_by true true k m ms is rec e a = lists_none k (from_last k ms) (stays_in k ms is) a (Some m) ∙ rec (Some m) refl
latest_by true false k m ms is rec e a = refl
latest_by false true k m ms is rec e a = lists_none k (from_last k ms) (stays_in k ms is) a (Some m) ∙ rec (Some m) refl
latest_by false false k m ms is rec e a = absurd cc

latest_from_by : (k : ℕ) (ms : List ℕ) (a : Option ℕ) → is_in k ms ≡ true → latest_behind a (from_last k ms) ≡ latest_behind a ms
latest_from_by k [] a e = refl
latest_from_by k (m ∷ ms) a e = latest_by (eqb m k) (is_in k ms) k m ms refl (λ b f. latest_from_by k ms b f) e a

-- using a token that is held leaves the newest one
pub latest-from_last : (k : ℕ) (ms : List ℕ) → is_in k ms ≡ true → latest (from_last k ms) ≡ latest ms
latest-from_last k ms e = latest_from_by k ms None e
