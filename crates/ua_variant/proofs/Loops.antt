-- One more element in a loop that reads a row.
use Rattle.std.proofs.Common.{Bool, ◌≡◌, ℕ, suc, ◌+◌, ◌-◌, ◌<◌, ◌*◌, ◌/◌, List, [], ◌∷◌, ◌++◌, length}
use Rattle.std.proofs.Common.{Option, Some, None, map, refl, sym, ap, ◌∙◌, arith, length-append}
use Rattle.std.proofs.lemmas.List.{map-append}
use Rattle.std.proofs.Math.Nat.{div-lt_iff_lt-mul}
use Rattle.ua_wire.specs.Exact.{◌>>=◌}
use Rattle.ua_wire.specs.Number.{number_at}
use Rattle.ua_variant.specs.Data.{ScalarData, ScalarsData, no_scalars, scalar}
use Rattle.ua_variant.specs.View.{row, scalar_of}
use Rattle.ua_variant.specs.declared.values.Scalar.{Scalar}
use Rattle.ua_diagnostic.specs.Parts.{Decoder}
use Rattle.ua_variant.specs.Encodable.{row_length}
use Rattle.ua_variant.specs.Least.{least_octets}
use Rattle.ua_diagnostic.proofs.DimensionsRead.{not_negative_at}
use Rattle.ua_variant.specs.Decoding.{variant_array_at, row_at, scalars_at}
use Rattle.ua_variant.specs.Blocks.{before, with_front}
use Rattle.ua_variant.proofs.ArraysRead.{exact_row}
use Rattle.ua_variant.proofs.VariantsRead.{exact_scalars}
use Rattle.ua_variant.proofs.Lengths.{row_takes}
use Rattle.ua_diagnostic.proofs.Extents.{never_some}

pub before_row : (ss : List ScalarData) → before ss no_scalars ≡ row ss
before_row [] = refl
before_row (s ∷ ss) = ap (scalar s) (before_row ss)

before_push : (ss : List ScalarData) (s : ScalarData) (r : ScalarsData) → before ss (scalar s r) ≡ before (ss ++ s ∷ []) r
before_push [] s r = refl
before_push (x ∷ ss) s r = ap (scalar x) (before_push ss s r)

front_push : (ss : List ScalarData) (s : ScalarData) (r : Option (ScalarsData × List ℕ)) → with_front ss (r >>= λ x. Some (scalar s x.0, x.1))
    ≡ with_front (ss ++ s ∷ []) r
front_push ss s None = refl
front_push ss s (Some x) = ap (λ y. Some (y, x.1)) (before_push ss s x.0)

row_more : (p : Decoder ScalarData) (ss : List ScalarData) (s : ScalarData) (m n : ℕ) (old new : List ℕ) → m ≡ suc n → p old ≡ Some (s, new)
    → with_front ss (row_at m p old) ≡ with_front (ss ++ s ∷ []) (row_at n p new)
row_more p ss s m n old new e h =
    ap (λ k. with_front ss (row_at k p old)) e ∙ ap (λ r. with_front ss (r >>= λ s. row_at n p s.1 >>= λ ss. Some (scalar s.0 ss.0, ss.1))) h
    ∙ front_push ss s (row_at n p new)

-- one more element, as a loop over so many of them meets it
pub row_step : (p : Decoder ScalarData) (all ss : List ScalarData) (s : ScalarData) (count counter : ℕ) (old new : List ℕ)
    (whole : Option (ScalarsData × List ℕ)) → counter < count → all ≡ ss ++ s ∷ [] → p old ≡ Some (s, new)
    → with_front ss (row_at (count - counter) p old) ≡ whole
    → with_front all (row_at (count - (counter + 1)) p new) ≡ whole
row_step p all ss s count counter old new whole lt is read so_far =
    let here : with_front ss (row_at (count - counter) p old) ≡ with_front (ss ++ s ∷ []) (row_at (count - (counter + 1)) p new) =
    row_more p ss s (count - counter) (count - (counter + 1)) old new (omega arith) read in
    ap (λ (xs : List ScalarData). with_front xs (row_at (count - (counter + 1)) p new)) is ∙ sym here ∙ so_far

pub row_so_far : {all : List Scalar} (p : Decoder ScalarData) (ss : List Scalar) (s : Scalar) (count counter : ℕ) (start old new : List ℕ) → counter < count
    → all ≡ ss ++ s ∷ [] → p old ≡ Some (scalar_of s, new) → with_front (map scalar_of ss) (row_at (count - counter) p old) ≡ row_at count p start
    → with_front (map scalar_of all) (row_at (count - (counter + 1)) p new) ≡ row_at count p start
row_so_far {all} p ss s count counter start old new lt pushed read before =
    row_step p (map scalar_of all) (map scalar_of ss) (scalar_of s) count counter old new (row_at count p start) lt (ap (map scalar_of) pushed
    ∙ map-append scalar_of ss (s ∷ [])) read before

pub row_stops : (p : Decoder ScalarData) (ss : List ScalarData) (m n : ℕ) (old : List ℕ) → m ≡ suc n → p old ≡ None → with_front ss (row_at m p old) ≡ None
row_stops p ss m n old e h = ap (λ k. with_front ss (row_at k p old)) e
    ∙ ap (λ r. with_front ss (r >>= λ s. row_at n p s.1 >>= λ ss. Some (scalar s.0 ss.0, ss.1))) h

pub row_ends : (p : Decoder ScalarData) (ss : List ScalarData) (m : ℕ) (b : List ℕ) → m ≡ 0 → with_front ss (row_at m p b) ≡ Some (row ss, b)
row_ends p ss m b e = ap (λ k. with_front ss (row_at k p b)) e ∙ ap (λ r. Some (r, b)) (before_row ss)

-- the row, where the loop ends
pub row_done : {rows : List ScalarData} (p : Decoder ScalarData) (ss : List ScalarData) (count rest : ℕ) (start old : List ℕ)
    → with_front ss (row_at rest p old) ≡ row_at count p start → rest ≡ 0 → rows ≡ ss → row_at count p start ≡ Some (row rows, old)
row_done {rows} p ss count rest start old before none is =
    let end : with_front ss (row_at rest p old) ≡ Some (row ss, old) = row_ends p ss rest old none in
    sym before ∙ end ∙ ap (λ (xs : List ScalarData). Some (row xs, old)) (sym is)

-- ---- fewer octets than the elements take

-- as each element takes the least octets of the type id k
row_short : (n k m : ℕ) (octets : List ℕ) → length octets < m * least_octets k → row_at m (scalars_at n k) octets ≡ None
row_short n k m octets h =
    never_some (row_at m (scalars_at n k) octets)
    (λ x e. let s = (exact_row n k m (scalars_at n k) (exact_scalars n k)).sound octets x.0 x.1 e in
    let l : row_length x.0 * least_octets k ≡ m * least_octets k = ap (λ i. i * least_octets k) s.encoded.0 in
    absurd (omega (arith, l, ap length s.parts, length-append s.front x.1, row_takes k x.0 s.front s.encoded.1)))

-- an array of more elements than there is room for
pub array_short : (n k : ℕ) (f : Bool) (count : ℕ) (old new : List ℕ) (left least : ℕ) → number_at 4 old ≡ Some (count, new) → count < 2147483648
    → left ≡ length new → least ≡ least_octets k → 0 < least → left / least < count → variant_array_at (scalars_at n) k f old ≡ None
unfolding variant_array_at
array_short n k f count old new left least e low left_is least_is some h =
    let beyond : left < count * least = (div-lt_iff_lt-mul some).0 h in
    rw (e, not_negative_at count low, row_short n k count new (omega (arith, beyond, left_is, ap (λ i. count * i) least_is))) refl
