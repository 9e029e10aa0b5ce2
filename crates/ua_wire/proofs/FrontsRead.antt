-- Fields at the front of octets.
use Rattle.std.proofs.Common.{◌≡◌, ℕ, ◌<◌, ◌≤◌, Bool, true, false, cond, Option, Some, None, List, refl, sym}
use Rattle.std.proofs.Common.{◌∙◌, ap, subst, arith, length, take, drop, take-append-drop, ◌++◌, ◌↔◌, inl, inr}
use Rattle.std.specs.Prelude.{slice_index, String, string_bytes}
use Rattle.std.specs.Str.{is_utf8, IsUtf8}
use Rattle.std.specs.declared.alloc.Global.{Global}
use Rattle.std.proofs.lemmas.Bool.{lt-ltb, cases_lt}
use Rattle.std.proofs.lemmas.Option.{none-some}
use Rattle.std.proofs.lemmas.List.{length-take, length-take-le, get_or-take, get_or_past, take_at}
use Rattle.std.proofs.lemmas.Str.{is_utf8-from_IsUtf8, IsUtf8-from_is_utf8, IsUtf8-string_bytes}
use Rattle.byteorder.specs.Endian.{little_number}
use Rattle.ua_wire.specs.Exact.{◌>>=◌, image_read, such_read}
use Rattle.ua_wire.specs.Number.{number_at}
use Rattle.ua_wire.specs.Counted.{counted, octets_at, behind_count, first_negative}
use Rattle.ua_wire.proofs.Readers.{not_false}
use Rattle.ua_wire.proofs.NumbersRead.{number_at-octets}
use Rattle.ua_wire.proofs.CountedRead.{octets_at-short, octets_taken, exact_octets}

taken_below : (n : ℕ) (octets : List ℕ) → ((i : ℕ) → slice_index octets i < 256) → (i : ℕ) → slice_index (take n octets) i < 256
taken_below n octets h i =
    elim (cases_lt i n) [
      | inl l ↦ subst (λ (x : ℕ). x < 256) (sym (get_or-take n octets i 0 l)) (h i)
      | inr l ↦ subst (λ (x : ℕ). x < 256) (sym (get_or_past (take n octets) i 0 (omega (arith, length-take n octets)))) (omega arith)
    ]

-- the number in the first four octets
pub number_front : (octets : List ℕ) → 4 ≤ length octets → ((i : ℕ) → slice_index octets i < 256)
    → number_at 4 octets ≡ Some (little_number 4 (take 4 octets), drop 4 octets)
number_front octets h below =
    ap (number_at 4) (sym (take-append-drop 4 octets))
    ∙ number_at-octets 4 (take 4 octets) (drop 4 octets) (length-take-le 4 octets h) (taken_below 4 octets below)

-- ---- octets behind their count

counted_positive : (octets rest : List ℕ) (n : ℕ) → number_at 4 octets ≡ Some (n, rest) → n < first_negative
    → counted.decode octets ≡ image_read Some (octets_at n) rest
unfolding counted
counted_positive octets rest n e small =
    ap (λ (o : Option (ℕ × List ℕ)). o >>= λ x. behind_count x.0 x.1) e
    ∙ ap (λ (t : Bool). cond t (image_read Some (octets_at n) rest) (Some (None, rest))) (lt-ltb n first_negative small)

pub counted_short : (octets rest : List ℕ) (n : ℕ) → number_at 4 octets ≡ Some (n, rest) → n < first_negative → length rest < n → counted.decode octets ≡ None
counted_short octets rest n e small short =
    counted_positive octets rest n e small ∙ ap (λ (o : Option (List ℕ × List ℕ)). o >>= λ x. Some (Some x.0, x.1)) (octets_at-short n rest short)

octets_there : (n : ℕ) (rest : List ℕ) → n ≤ length rest → octets_at n rest ≡ Some (take n rest, drop n rest)
octets_there n rest h = ap (octets_at n) (sym (take-append-drop n rest)) ∙ octets_taken n (take n rest) (drop n rest) (length-take-le n rest h)

pub counted_there : (octets rest : List ℕ) (n : ℕ) → number_at 4 octets ≡ Some (n, rest) → n < first_negative → n ≤ length rest
    → counted.decode octets ≡ Some (Some (take n rest), drop n rest)
counted_there octets rest n e small there =
    counted_positive octets rest n e small ∙ ap (λ (o : Option (List ℕ × List ℕ)). o >>= λ x. Some (Some x.0, x.1)) (octets_there n rest there)

-- ---- texts

-- the octets of a text of std are UTF-8
pub is_utf8_string : (s : String Global) → is_utf8 (string_bytes s) ≡ true
is_utf8_string s = is_utf8-from_IsUtf8 (string_bytes s) (IsUtf8-string_bytes s)

no_text : (octets : List ℕ) (test : Bool) → is_utf8 octets ≡ test → (IsUtf8 octets → ⊥) → is_utf8 octets ≡ false
no_text octets true e h = absurd (h (IsUtf8-from_is_utf8 octets e))
no_text octets false e h = e

pub not_utf8 : (octets : List ℕ) → (IsUtf8 octets → ⊥) → is_utf8 octets ≡ false
not_utf8 octets h = no_text octets (is_utf8 octets) refl h

pub utf8_test : (b : Bool) (octets : List ℕ) → ((b ≡ true) ↔ IsUtf8 octets) → b ≡ is_utf8 octets
utf8_test true octets h = sym (is_utf8-from_IsUtf8 octets (h.0 refl))
utf8_test false octets h = sym (not_utf8 octets (λ u. not_false (h.1 u)))

-- ---- texts at the front of a room

-- what was read, if it is UTF-8
abbrev utf8_test_of : List ℕ × List ℕ → Option (List ℕ × List ℕ)
utf8_test_of x = cond (is_utf8 x.0) (Some x) None

-- what fills the first n places of a room has n octets
pub room_read : (octets v rest room : List ℕ) (n : ℕ) → n ≤ length room → octets_at (length (take n room)) octets ≡ Some (v, rest)
    → (octets_at n octets ≡ Some (v, rest)) × (length v ≡ n)
room_read octets v rest room n h e =
    let found : octets_at n octets ≡ Some (v, rest) = subst (λ (k : ℕ). octets_at k octets ≡ Some (v, rest)) (length-take-le n room h) e in
    (found, ((exact_octets n).sound octets v rest found).encoded.0)

pub utf8_front : (v back : List ℕ) (n : ℕ) → length v ≡ n → IsUtf8 v → is_utf8 (take n (v ++ back)) ≡ true
utf8_front v back n len u = ap is_utf8 (take_at v back n len) ∙ is_utf8-from_IsUtf8 v u

pub text_front : (octets v rest back : List ℕ) (n : ℕ) → length v ≡ n → octets_at n octets ≡ Some (v, rest) → IsUtf8 (take n (v ++ back))
    → such_read is_utf8 (octets_at n) octets ≡ Some (take n (v ++ back), rest)
text_front octets v rest back n len found u =
    let utf8 : is_utf8 v ≡ true = sym (ap is_utf8 (take_at v back n len)) ∙ is_utf8-from_IsUtf8 (take n (v ++ back)) u in
    ap (λ (o : Option (List ℕ × List ℕ)). o >>= utf8_test_of) found
    ∙ ap (λ (t : Bool). cond {A = Option (List ℕ × List ℕ)} t (Some (v, rest)) None) utf8
    ∙ ap (λ (t : List ℕ). Some (t, rest)) (sym (take_at v back n len))

pub no_text_front : (octets v rest back : List ℕ) (n : ℕ) → length v ≡ n → octets_at n octets ≡ Some (v, rest) → (IsUtf8 (take n (v ++ back)) → ⊥)
    → such_read is_utf8 (octets_at n) octets ≡ None
no_text_front octets v rest back n len found h =
    let other : is_utf8 v ≡ false = sym (ap is_utf8 (take_at v back n len)) ∙ not_utf8 (take n (v ++ back)) h in
    ap (λ (o : Option (List ℕ × List ℕ)). o >>= utf8_test_of) found
    ∙ ap (λ (t : Bool). cond {A = Option (List ℕ × List ℕ)} t (Some (v, rest)) None) other

pub octets_enough : (octets v rest : List ℕ) (n : ℕ) → octets_at n octets ≡ Some (v, rest) → length octets < n → ⊥
octets_enough octets v rest n found short = absurd (none-some _ (sym (octets_at-short n octets short) ∙ found))
