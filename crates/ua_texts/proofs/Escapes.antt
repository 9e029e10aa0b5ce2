-- Texts without control characters and backslashes are escaped as they are.
use Rattle.std.proofs.Common.{◌≡◌, ℕ, suc, ◌+◌, ◌&&◌, Bool, true, false, IsTrue, ◌<◌, ◌≤◌, List, [], ◌∷◌}
use Rattle.std.proofs.Common.{◌++◌, refl, sym, ap, ap₂, ◌∙◌, subst, arith, take, length, slice_index_or}
use Rattle.std.proofs.Math.Seq.{take-suc}
use Rattle.std.proofs.lemmas.Bool.Decides.{nat_tests}
use Rattle.std.proofs.lemmas.List.Elements.{All-append, All-cons, All-head, All-nil, All-tail}
use Rattle.std.proofs.lemmas.Str.{chars-IsAscii, encode_ascii}
use Rattle.std.proofs.lemmas.Str.Ascii.{IsAscii-from_all}
use Rattle.std.specs.Char.{encode_utf8, is_control}
use Rattle.std.specs.List.{All, flat_map}
use Rattle.std.specs.Str.{chars}
use Rattle.ua_texts.specs.Shown.{IsPlainOctet, escaped, escaped_char}

one_more : (xs : List ℕ) (j d : ℕ) → j < length xs → take (j + 1) xs ≡ take j xs ++ slice_index_or xs j d ∷ []
one_more xs j d inside =
    let e : j + 1 ≡ suc j = omega arith in
    ap (λ (n : ℕ). take n xs) e ∙ take-suc xs j d inside

pub both_true : (a b : Bool) → IsTrue (a && b) → IsTrue a × IsTrue b
both_true true true h = (h, h)
both_true true false h = absurd cc
both_true false b h = absurd cc

pub next_plain : (xs : List ℕ) (j d : ℕ) → j < length xs → All IsPlainOctet (take j xs) → IsPlainOctet (slice_index_or xs j d)
    → All IsPlainOctet (take (j + 1) xs)
next_plain xs j d inside h p = subst (λ (ys : List ℕ). All IsPlainOctet ys) (sym (one_more xs j d inside))
    (All-append IsPlainOctet (take j xs) (slice_index_or xs j d ∷ []) h (All-cons IsPlainOctet (slice_index_or xs j d) [] p (All-nil IsPlainOctet)))

plain_small : (bs : List ℕ) → All IsPlainOctet bs → All (λ (b : ℕ). b < 128) bs
plain_small [] h = All-nil (λ (b : ℕ). b < 128)
plain_small (b ∷ bs) h =
    let here = All-head IsPlainOctet b bs h in
    All-cons (λ (c : ℕ). c < 128) b bs (omega arith) (plain_small bs (All-tail IsPlainOctet b bs h))

plain_char : (b : ℕ) → IsPlainOctet b → escaped_char b ≡ encode_utf8 b
plain_char b h = grind (arith, nat_tests)

plain_octet : (b : ℕ) → IsPlainOctet b → escaped_char b ≡ b ∷ []
plain_octet b h = plain_char b h ∙ encode_ascii b (omega arith)

plain_octets : (bs : List ℕ) → All IsPlainOctet bs → flat_map escaped_char bs ≡ bs
plain_octets [] h = refl
plain_octets (b ∷ bs) h = ap₂ (λ (s t : List ℕ). s ++ t) (plain_octet b (All-head IsPlainOctet b bs h)) (plain_octets bs (All-tail IsPlainOctet b bs h))

pub escaped_plain : (bs : List ℕ) → All IsPlainOctet bs → escaped bs ≡ bs
unfolding escaped
escaped_plain bs h =
    ap (λ (cs : List ℕ). flat_map escaped_char cs) (chars-IsAscii bs (IsAscii-from_all bs (plain_small bs h)))
    ∙ plain_octets bs h
