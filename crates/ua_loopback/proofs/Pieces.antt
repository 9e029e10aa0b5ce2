-- Pieces of lists.
use Rattle.std.proofs.Common.{◌≡◌, ℕ, zero, suc, ◌+◌, ◌-◌, ◌≤◌, ◌<◌, ◌⊎◌, inl, inr, List, [], ◌++◌, length}
use Rattle.std.proofs.Common.{take, drop, min, sym, ◌∙◌, ap, subst, arith, length-append, drop_of_length-le}
use Rattle.std.proofs.lemmas.Bool.{cases_lt}
use Rattle.std.proofs.lemmas.List.{drop-append-le, drop-drop, length-drop, length-take-le, take-append-drop, take-append-le}
use Rattle.std.proofs.Math.Seq.{take-append_seam}

-- what is handed out, and what is behind it
pub handed : (octets buffer : List ℕ) (read n : ℕ) → read + n ≤ length octets → drop read octets ≡ take n (take n (drop read octets) ++ drop n buffer)
    ++ drop (read + n) octets
handed octets buffer read n h =
    let c = drop read octets in
    let few : n ≤ length c = let l = length-drop read octets in omega (arith, l, h) in
    let seam : take n (take n c ++ drop n buffer) ≡ take n c = subst (λ (k : ℕ). take k (take n c ++ drop n buffer) ≡ take n c) (length-take-le n c few)
    (take-append_seam (take n c) (drop n buffer)) in
    sym (take-append-drop n c) ∙ (ap (λ (t : List ℕ). take n c ++ t) (drop-drop n read octets) ∙ ap (λ (t : List ℕ). t ++ drop (read + n) octets) (sym seam))

-- the same of octets of which these are the first
pub handed_first : (down further buffer : List ℕ) (read n : ℕ) → read + n ≤ length down
    → drop read (down ++ further) ≡ take n (take n (drop read down) ++ drop n buffer) ++ drop (read + n) (down ++ further)
handed_first down further buffer read n few =
    let l = length-append down further in
    let k = length-drop read down in
    let front : take n (drop read (down ++ further)) ≡ take n (drop read down) =
    ap (take n) (drop-append-le read down further (omega (arith, few))) ∙ take-append-le n (drop read down) further (omega (arith, k, few)) in
    handed (down ++ further) buffer read n (omega (arith, l, few)) ∙ ap (λ (t : List ℕ). take n (t ++ drop n buffer) ++ drop (read + n) (down ++ further)) front

some_of : (m n : ℕ) → 0 < m → 0 < n → 0 < min m n
some_of zero n p q = absurd (omega (arith, p))
some_of (suc m) zero p q = absurd (omega (arith, q))
some_of (suc m) (suc n) p q = omega arith

-- where none are handed out into room, none are left
pub none_left : (down : List ℕ) (read room n : ℕ) → (0 < min (length down - read) room → 0 < n) → n ≡ 0 → 0 < room → drop read down ≡ []
none_left down read room n some none roomy = by (cases_lt 0 (length down - read))
  where
    by : ((0 < length down - read) ⊎ (length down - read ≤ 0)) → drop read down ≡ []
    by (inl left) = let h = some (some_of (length down - read) room left roomy) in absurd (omega (arith, h, none))
    by (inr few) = drop_of_length-le down (omega (arith, few))
