-- The loop that passes over so many values, against what stands behind them all.
use Rattle.std.specs.Prelude.{◌≡◌, ℕ, suc, ◌+◌, ◌-◌, ◌<◌, ◌≤◌, List, ◌∷◌, Option, Some, None, Err}
use Rattle.std.proofs.Common.{refl, sym, ◌∙◌, ap, arith}
use Rattle.ua_wire.specs.declared.fault.ReadFault.{ReadFault}
use Rattle.ua_wire.specs.declared.fault.ReadFault.TheVariants.{NoValue, OutOfMemory}
use Rattle.ua_builtin.specs.Exact.{◌>>=◌, skipped}
use Rattle.ua_builtin.specs.Format.{Gives}
use Rattle.ua_wire.proofs.Readers.{some_is}
use Rattle.ua_opening.specs.Array.{items_at}

-- what stands behind what was found
abbrev pub rest : {A : Type 0} → Option (A × List ℕ) → Option (Unit {0} × List ℕ)
rest found = found >>= λ x. Some (tt, x.1)

-- a value that was found, and the n values behind it
abbrev items_from : {A : Type 0} → (List ℕ → Option (A × List ℕ)) → ℕ → Option (A × List ℕ) → Option (List A × List ℕ)
items_from r n found = found >>= λ x. items_at r n x.1 >>= λ xs. Some (x.0 ∷ xs.0, xs.1)

-- with one more in front
abbrev with_one : {A : Type 0} → A → Option (List A × List ℕ) → Option (List A × List ℕ)
with_one x found = found >>= λ xs. Some (x ∷ xs.0, xs.1)

one_more : {A : Type 0} (x : A) (found : Option (List A × List ℕ)) → rest (with_one x found) ≡ rest found
one_more x None = refl
one_more x (Some xs) = refl

behind_one : {A : Type 0} (r : List ℕ → Option (A × List ℕ)) (n : ℕ) (middle : List ℕ) (found : Option (A × List ℕ)) → rest found ≡ Some (tt, middle)
    → rest (items_from r n found) ≡ skipped (items_at r n) middle
behind_one r n middle None e = absurd cc
behind_one r n middle (Some x) e = one_more x.0 (items_at r n x.1)
    ∙ ap (skipped (items_at r n)) (ap (λ (p : Unit {0} × List ℕ). p.1) (some_is (tt, x.1) (tt, middle) e))

behind_none : {A : Type 0} (r : List ℕ → Option (A × List ℕ)) (n : ℕ) (found : Option (A × List ℕ)) → rest found ≡ None → rest (items_from r n found) ≡ None
behind_none r n None e = refl
behind_none r n (Some x) e = absurd cc

step : {A : Type 0} (r : List ℕ → Option (A × List ℕ)) (n : ℕ) (octets : List ℕ) → skipped (items_at r (suc n)) octets ≡ rest (items_from r n (r octets))
unfolding items_at
step r n octets = refl

next_count : (count counter : ℕ) → counter < count → count - counter ≡ suc (count - (counter + 1))
next_count count counter h = omega arith

pub goes_on : {A : Type 0} (r : List ℕ → Option (A × List ℕ)) (count counter : ℕ) (old new : List ℕ) (all : Option (Unit {0} × List ℕ)) → counter < count
    → skipped r old ≡ Some (tt, new)
    → skipped (items_at r (count - counter)) old ≡ all → skipped (items_at r (count - (counter + 1))) new ≡ all
goes_on r count counter old new all lt e h =
    sym (behind_one r (count - (counter + 1)) new (r old) e)
    ∙ sym (step r (count - (counter + 1)) old)
    ∙ sym (ap (λ (n : ℕ). skipped (items_at r n) old) (next_count count counter lt))
    ∙ h

none_left : {A : Type 0} (r : List ℕ → Option (A × List ℕ)) (octets : List ℕ) → skipped (items_at r 0) octets ≡ Some (tt, octets)
unfolding items_at
none_left r octets = refl

pub is_done : {A : Type 0} (r : List ℕ → Option (A × List ℕ)) (count counter : ℕ) (old : List ℕ) (all : Option (Unit {0} × List ℕ)) → count ≤ counter
    → skipped (items_at r (count - counter)) old ≡ all → all ≡ Some (tt, old)
is_done r count counter old all le h =
    let zero_left : count - counter ≡ 0 = omega arith in
    sym h ∙ ap (λ (n : ℕ). skipped (items_at r n) old) zero_left ∙ none_left r old

fails : {A : Type 0} (r : List ℕ → Option (A × List ℕ)) (count counter : ℕ) (old : List ℕ) (all : Option (Unit {0} × List ℕ)) → counter < count
    → skipped r old ≡ None
    → skipped (items_at r (count - counter)) old ≡ all → all ≡ None
fails r count counter old all lt e h =
    sym h
    ∙ ap (λ (n : ℕ). skipped (items_at r n) old) (next_count count counter lt)
    ∙ step r (count - (counter + 1)) old
    ∙ behind_none r (count - (counter + 1)) (r old) e

pub fault_ends : {A : Type 0} (r : List ℕ → Option (A × List ℕ)) (e : ReadFault) (count counter : ℕ) (first old new : List ℕ) → counter < count
    → Gives (skipped r) old new (Err e)
    → skipped (items_at r (count - counter)) old ≡ skipped (items_at r count) first → Gives (skipped (items_at r count)) first new (Err e)
fault_ends r NoValue count counter first old new lt h all = fails r count counter old (skipped (items_at r count) first) lt h all
fault_ends r OutOfMemory count counter first old new lt h all = tt
