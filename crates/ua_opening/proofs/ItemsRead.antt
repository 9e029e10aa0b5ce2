-- The loop that reads so many values, against the list of them all.
use Rattle.std.specs.Prelude.{◌≡◌, ℕ, suc, ◌+◌, ◌-◌, ◌<◌, ◌≤◌, List, [], ◌∷◌, ◌++◌, length, Option, Some, None, Err, cond, Bool}
use Rattle.std.proofs.Common.{refl, sym, ◌∙◌, ap, subst, arith, append_assoc, length-append}
use Rattle.std.proofs.lemmas.List.{append-nil}
use Rattle.ua_wire.specs.declared.fault.ReadFault.{ReadFault}
use Rattle.ua_wire.specs.declared.fault.ReadFault.TheVariants.{NoValue, OutOfMemory}
use Rattle.std.proofs.lemmas.Bool.{lt-ltb}
use Rattle.ua_builtin.specs.Counted.{first_negative}
use Rattle.ua_builtin.specs.Exact.{◌>>=◌, image_read}
use Rattle.ua_builtin.specs.Number.{number_at}
use Rattle.ua_builtin.specs.Format.{Format, IsLawful, TakesSome, Within, Gives, GivesBy}
use Rattle.ua_opening.specs.Array.{EachEncoded, items_at, array, array_behind_count}
use Rattle.ua_wire.proofs.Readers.{some_is}
use Rattle.ua_opening.proofs.ArrayRead.{exact_items}

-- what was read stands in front of what is still to be read
abbrev pub with_front : {A : Type 0} → List A → Option (List A × List ℕ) → Option (List A × List ℕ)
with_front xs o = o >>= λ y. Some (xs ++ y.0, y.1)

moves_over : {A : Type 0} (xs : List A) (x : A) (o : Option (List A × List ℕ)) → with_front xs (o >>= λ ys. Some (x ∷ ys.0, ys.1)) ≡ with_front (xs ++ x ∷ []) o
moves_over xs x None = refl
moves_over xs x (Some y) = ap (λ t. Some (t, y.1)) (sym (append_assoc xs (x ∷ []) y.0))

next_count : (count counter : ℕ) → counter < count → count - counter ≡ suc (count - (counter + 1))
next_count count counter h = omega arith

step : {A : Type 0} (r : List ℕ → Option (A × List ℕ)) (n : ℕ) (octets : List ℕ)
    → items_at r (suc n) octets ≡ (r octets >>= λ x. items_at r n x.1 >>= λ xs. Some (x.0 ∷ xs.0, xs.1))
unfolding items_at
step r n octets = refl

pub goes_on : {A : Type 0} (r : List ℕ → Option (A × List ℕ)) (xs : List A) (count counter : ℕ) (old : List ℕ) (x : A) (new : List ℕ)
    (all : Option (List A × List ℕ)) → counter < count → r old ≡ Some (x, new)
    → with_front xs (items_at r (count - counter) old) ≡ all → with_front (xs ++ x ∷ []) (items_at r (count - (counter + 1)) new) ≡ all
goes_on r xs count counter old x new all lt e h =
    sym (moves_over xs x (items_at r (count - (counter + 1)) new))
    ∙ sym (ap (λ o. with_front xs (o >>= λ y. items_at r (count - (counter + 1)) y.1 >>= λ ys. Some (y.0 ∷ ys.0, ys.1))) e)
    ∙ sym (ap (with_front xs) (step r (count - (counter + 1)) old))
    ∙ sym (ap (λ (n : ℕ). with_front xs (items_at r n old)) (next_count count counter lt))
    ∙ h

none_done : {A : Type 0} (r : List ℕ → Option (A × List ℕ)) (octets : List ℕ) → items_at r 0 octets ≡ Some ([], octets)
unfolding items_at
none_done r octets = refl

pub is_done : {A : Type 0} (r : List ℕ → Option (A × List ℕ)) (xs : List A) (count counter : ℕ) (old : List ℕ) (all : Option (List A × List ℕ))
    → count ≤ counter
    → with_front xs (items_at r (count - counter) old) ≡ all → all ≡ Some (xs, old)
is_done r xs count counter old all le h =
    let zero_left : count - counter ≡ 0 = omega arith in
    sym h ∙ ap (λ (n : ℕ). with_front xs (items_at r n old)) zero_left ∙ ap (with_front xs) (none_done r old) ∙ ap (λ t. Some (t, old)) (append-nil xs)

fails : {A : Type 0} (r : List ℕ → Option (A × List ℕ)) (xs : List A) (count counter : ℕ) (old : List ℕ) (all : Option (List A × List ℕ)) → counter < count
    → r old ≡ None
    → with_front xs (items_at r (count - counter) old) ≡ all → all ≡ None
fails r xs count counter old all lt e h =
    sym h ∙ ap (λ (n : ℕ). with_front xs (items_at r n old)) (next_count count counter lt) ∙ ap (with_front xs) (step r (count - (counter + 1)) old)
    ∙ ap (λ o. with_front xs (o >>= λ y. items_at r (count - (counter + 1)) y.1 >>= λ ys. Some (y.0 ∷ ys.0, ys.1))) e

pub fault_ends : {X A : Type 0} (view : X → List A) (r : List ℕ → Option (A × List ℕ)) (e : ReadFault) (xs : List A) (count counter : ℕ)
    (first old new : List ℕ) → counter < count → Gives r old new (Err e)
    → with_front xs (items_at r (count - counter) old) ≡ items_at r count first → GivesBy view (items_at r count) first new (Err e)
fault_ends view r NoValue xs count counter first old new lt h all = fails r xs count counter old (items_at r count first) lt h all
fault_ends view r OutOfMemory xs count counter first old new lt h all = tt

-- ---- each value read to the end of those before it

abbrev placed : {A : Type 0} → List A → A × List ℕ → Option (List A × List ℕ)
placed xs x = Some (xs ++ x.0 ∷ [], x.1)

goes_on_from : {A : Type 0} (r : List ℕ → Option (A × List ℕ)) (xs ys : List A) (count counter : ℕ) (old new : List ℕ) (all : Option (List A × List ℕ))
    (found : Option (A × List ℕ)) → counter < count → r old ≡ found → (found >>= placed xs) ≡ Some (ys, new)
    → with_front xs (items_at r (count - counter) old) ≡ all → with_front ys (items_at r (count - (counter + 1)) new) ≡ all
goes_on_from {A = A} r xs ys count counter old new all None lt is e h = absurd cc
goes_on_from {A = A} r xs ys count counter old new all (Some x) lt is e h =
    let both = some_is (xs ++ x.0 ∷ [], x.1) (ys, new) e in
    let same : xs ++ x.0 ∷ [] ≡ ys = ap (λ p. p.0) both in
    let rest : x.1 ≡ new = ap (λ p. p.1) both in
    subst (λ (l : List A). with_front l (items_at r (count - (counter + 1)) new) ≡ all) same
    (subst (λ (o : List ℕ). with_front (xs ++ x.0 ∷ []) (items_at r (count - (counter + 1)) o) ≡ all) rest
    (goes_on r xs count counter old x.0 x.1 all lt is h))

pub goes_on_behind : {A : Type 0} (r : List ℕ → Option (A × List ℕ)) (xs ys : List A) (count counter : ℕ) (old new : List ℕ) (all : Option (List A × List ℕ))
    → counter < count → image_read (λ x. xs ++ x ∷ []) r old ≡ Some (ys, new)
    → with_front xs (items_at r (count - counter) old) ≡ all → with_front ys (items_at r (count - (counter + 1)) new) ≡ all
goes_on_behind r xs ys count counter old new all lt e h = goes_on_from r xs ys count counter old new all (r old) lt refl e h

none_behind : {A : Type 0} (xs : List A) (found : Option (A × List ℕ)) → (found >>= placed xs) ≡ None → found ≡ None
none_behind xs None e = refl
none_behind xs (Some x) e = absurd cc

pub fault_behind : {A : Type 0} (r : List ℕ → Option (A × List ℕ)) (xs ys : List A) (e : ReadFault) (old new : List ℕ)
    → GivesBy {X = Unit {0}} (λ _. ys) (image_read (λ x. xs ++ x ∷ []) r) old new (Err e) → Gives r old new (Err e)
fault_behind r xs ys NoValue old new h = none_behind xs (r old) h
fault_behind r xs ys OutOfMemory old new h = tt

-- ---- a count above the octets behind it

not_empty : {A : Type 0} (p : A → List ℕ → Type 0) → TakesSome p → (x : A) (b : List ℕ) → p x b → 0 < length b
not_empty p starts x [] h = absurd (starts x h)
not_empty p starts x (y ∷ b) h = omega arith

octet_each : {A : Type 0} (p : A → List ℕ → Type 0) → TakesSome p → (v : List A) (b : List ℕ) → EachEncoded p v b → length v ≤ length b
octet_each p starts [] b h = omega arith
octet_each p starts (x ∷ v) b h =
    let here = not_empty p starts x h.0 h.3 in
    let more = octet_each p starts v h.1 h.4 in
    let len : length b ≡ length (h.0 ++ h.1) = ap length h.2 in
    omega (arith, here, more, len, length-append h.0 h.1)

within_starts : {A : Type 0} (f : Format A) (levels : ℕ) → TakesSome f.encodes → TakesSome (Within f.encodes f.depth levels)
within_starts f levels starts v h = starts v h.0

too_few : {A : Type 0} (f : Format A) → IsLawful f → (levels n : ℕ) (octets : List ℕ) → length octets < n → (found : Option (List A × List ℕ))
    → items_at (f.decode levels) n octets ≡ found → found ≡ None
too_few f lawful levels n octets short None e = refl
too_few f lawful levels n octets short (Some found) e =
    let s = (exact_items (Within f.encodes f.depth levels) (f.decode levels) (lawful.exact levels) n).sound octets found.0 found.1 e in
    let count = s.encoded.0 in
    let most = octet_each (Within f.encodes f.depth levels) (within_starts f levels lawful.starts) found.0 s.front s.encoded.1 in
    let len : length octets ≡ length (s.front ++ found.1) = ap length s.parts in
    absurd (omega (arith, count, most, len, length-append s.front found.1))

pub claims_more : {A : Type 0} (f : Format A) → IsLawful f → (levels count : ℕ) (octets rest : List ℕ) → number_at 4 octets ≡ Some (count, rest)
    → count < first_negative → length rest < count → (array f).decode levels octets ≡ None
unfolding array
claims_more f lawful levels count octets rest e small short =
    ap (λ o. o >>= λ x. array_behind_count (f.decode levels) x.0 x.1) e
    ∙ ap (λ (test : Bool). cond test (image_read Some (items_at (f.decode levels) count) rest) (Some (None, rest))) (lt-ltb count first_negative small)
    ∙ ap (λ o. o >>= λ x. Some (Some x.0, x.1)) (too_few f lawful levels count rest short (items_at (f.decode levels) count rest) refl)
