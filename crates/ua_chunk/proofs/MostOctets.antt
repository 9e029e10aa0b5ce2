-- The most octets that a body may have to be cut.
use Rattle.std.proofs.Common.{◌≡◌, ℕ, ◌*◌, ◌^◌, ◌<◌, Bool, true, false, if◌then◌else◌, not, ◌&&◌, ◌↔◌, eqb}
use Rattle.std.proofs.Common.{ltb, Option, Some, None, List, [], ◌∷◌, length, refl, sym, ◌∙◌, ap, arith}
use Rattle.std.proofs.lemmas.Bool.{ltb-true, ltb-false, le-ltb}
use Rattle.std.proofs.lemmas.Nat.{mul-lt}
use Rattle.ua_builtin.specs.Reasons.{first_reason}
use Rattle.ua_chunk.specs.Cutting.{pieces, cut_refusal, limit_of, least, most_octets, IsAtMost}
use Rattle.ua_chunk.specs.Refusal.{passes}
use Rattle.ua_chunk.specs.declared.fault.CutFault.{CutFault}
use Rattle.ua_chunk.specs.declared.fault.CutFault.TheVariants.{TooManyOctets, TooManyChunks}
use Rattle.ua_chunk.specs.declared.lane.Lane.{Lane}
use Rattle.ua_chunk.proofs.Pieces.{more_pieces}

-- the octets of so many pieces can be counted
pub product_fits : (a b : ℕ) → a < 2 ^ 32 → b < 2 ^ 32 → a * b < 2 ^ 64
product_fits a b p q = mul-lt a b (2 ^ 32) (2 ^ 32) p q

-- so many pass a limit, if there is one
over : Option ℕ → ℕ → Bool
over None n = false
over (Some most) n = ltb most n

over_is : (t : Bool) (most n : ℕ) → (not t && ltb most n) ≡ over (if t then None else Some most) n
unfolding over
over_is true most n = refl
over_is false most n = refl

passes_is : (limit n : ℕ) → passes limit n ≡ over (limit_of limit 1) n
passes_is limit n =
    let same : limit * 1 ≡ limit = omega arith in
    ap (λ (m : ℕ). not (eqb limit 0) && ltb m n) (sym same) ∙ over_is (eqb limit 0) (limit * 1) n

pieces_pass : (limit k : ℕ) (b : List ℕ) → 0 < k → passes limit (length (pieces k b)) ≡ over (limit_of limit k) (length b)
pieces_pass limit k b pos = more_pieces limit k (length b) b pos refl ∙ over_is (eqb limit 0) (limit * k) (length b)

-- ---- reasons

refused_by : Bool → Bool → Option CutFault
refused_by a b = first_reason ((TooManyOctets, a) ∷ (TooManyChunks, b) ∷ [])

refusal_is : (lane : Lane) (b : List ℕ) → 0 < lane.room → cut_refusal lane b ≡ refused_by (over (limit_of lane.octets 1) (length b))
    (over (limit_of lane.chunks lane.room) (length b))
unfolding refused_by
refusal_is lane b pos =
    ap (λ (t : Bool). refused_by t (passes lane.chunks (length (pieces lane.room b)))) (passes_is lane.octets (length b))
    ∙ ap (λ (t : Bool). refused_by (over (limit_of lane.octets 1) (length b)) t) (pieces_pass lane.chunks lane.room b pos)

none_by : (a b : Bool) → (refused_by a b ≡ None) ↔ ((a ≡ false) × (b ≡ false))
unfolding refused_by
none_by false false = (λ e. (refl, refl), λ h. refl)
none_by false true = (λ e. absurd cc, λ h. let x = h.1 in absurd cc)
none_by true b = (λ e. absurd cc, λ h. let x = h.0 in absurd cc)

-- ---- the lesser limit

within_by : (n m k : ℕ) (t : Bool) → ltb m k ≡ t → ((ltb m n ≡ false) × (ltb k n ≡ false)) ↔ IsAtMost n (if t then Some m else Some k)
within_by n m k true e = (λ h. ltb-false m n h.0, λ w. (le-ltb m n w, le-ltb k n (let below = ltb-true m k e in omega (arith, below, w))))
within_by n m k false e = (λ h. ltb-false k n h.1, λ w. (le-ltb m n (let above = ltb-false m k e in omega (arith, above, w)), le-ltb k n w))

within : (n : ℕ) (a b : Option ℕ) → ((over a n ≡ false) × (over b n ≡ false)) ↔ IsAtMost n (least a b)
unfolding over
within n None None = (λ h. tt, λ w. (refl, refl))
within n None (Some k) = (λ h. ltb-false k n h.1, λ w. (refl, le-ltb k n w))
within n (Some m) None = (λ h. ltb-false m n h.0, λ w. (le-ltb m n w, refl))
within n (Some m) (Some k) = within_by n m k (ltb m k) refl

-- a body is cut exactly where it has at most so many octets
pub most_is : (lane : Lane) (b : List ℕ) → 0 < lane.room → (cut_refusal lane b ≡ None) ↔ IsAtMost (length b) (most_octets lane)
unfolding most_octets
most_is lane b pos =
    let same = refusal_is lane b pos in
    let a = over (limit_of lane.octets 1) (length b) in
    let c = over (limit_of lane.chunks lane.room) (length b) in
    let none = none_by a c in
    let fits = within (length b) (limit_of lane.octets 1) (limit_of lane.chunks lane.room) in
    (λ e. fits.0 (none.0 (sym same ∙ e)), λ w. same ∙ none.1 (fits.1 w))
