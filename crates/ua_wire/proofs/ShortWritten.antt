-- A short text behind its count, as it is written.
use Rattle.std.proofs.Common.{◌≡◌, ℕ, ◌+◌, ◌≤◌, List, ◌++◌, length, take, sym, ◌∙◌, ap, subst}
use Rattle.std.proofs.lemmas.List.{take-append-le, length-take-le}
use Rattle.std.proofs.Math.Seq.{take-append-add, take-append_seam}
use Rattle.ua_wire.specs.Number.{number_octets}
use borrow.Rule.Slice.PartMut.{put_mid, post_of}

front_of : (n : ℕ) (w zeros : List ℕ) → length w ≡ n → take n (w ++ zeros) ≡ w
front_of n w zeros len = subst (λ (k : ℕ). take k (w ++ zeros) ≡ w) len (take-append_seam w zeros)

past : (a n : ℕ) (w s : List ℕ) → length w ≡ a → take (a + n) (w ++ s) ≡ w ++ take n s
past a n w s len = subst (λ (k : ℕ). take (k + n) (w ++ s) ≡ w ++ take n s) len (take-append-add w s n)

-- the first octets of what stands in the place of zeros, behind those of a count
pub text_written : (n : ℕ) (w zeros s : List ℕ) → length w ≡ 4 → n ≤ length s → take (4 + n) (put_mid 4 30 (w ++ zeros) s) ≡ w ++ take n s
text_written n w zeros s len fits =
    ap (λ (t : List ℕ). take (4 + n) (t ++ (s ++ post_of 4 30 (w ++ zeros)))) (front_of 4 w zeros len)
    ∙ past 4 n w (s ++ post_of 4 30 (w ++ zeros)) len
    ∙ ap (λ (t : List ℕ). w ++ t) (take-append-le n s (post_of 4 30 (w ++ zeros)) fits)

-- the same, where the octets of the count are those of the length
pub counted_written : (n : ℕ) (w zeros s t octets : List ℕ) → w ≡ number_octets 4 n → length w ≡ 4 → s ≡ octets → n ≤ length octets → t ≡ take n octets
    → take (4 + n) (put_mid 4 30 (w ++ zeros) s) ≡ number_octets 4 (length t) ++ t
counted_written n w zeros s t octets count len same fits view =
    let long : length t ≡ n = ap length view ∙ length-take-le n octets fits in
    ap (λ (u : List ℕ). take (4 + n) (put_mid 4 30 (w ++ zeros) u)) same
    ∙ text_written n w zeros octets len fits
    ∙ ap (λ (u : List ℕ). u ++ take n octets) count
    ∙ ap (λ (u : List ℕ). number_octets 4 n ++ u) (sym view)
    ∙ ap (λ (k : ℕ). number_octets 4 k ++ t) (sym long)
