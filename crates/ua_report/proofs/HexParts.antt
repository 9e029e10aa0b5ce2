-- Hexadecimal digits that come in pieces.
use Rattle.std.proofs.Common.{◌≡◌, ℕ, ◌+◌, ◌*◌, ◌%◌, List, [], ◌∷◌, ◌++◌, Bool, not, Option, Some, None, is_none, true, false}
use Rattle.std.proofs.Common.{length, Result, Ok, Err, refl, sym, ap, subst, ◌∙◌, arith, append_assoc, append-nil, length-append}
use Rattle.std.specs.Option.{option_to_list}
use Rattle.std.specs.Char.{is_ascii_whitespace}
use Rattle.std.specs.List.{filter, AllPass}
use Rattle.std.proofs.lemmas.List.Elements.{filter-append, All-take, All-drop}
use Rattle.std.proofs.Math.Seq.{take-append_seam, drop-append_seam}
use Rattle.std.specs.Result.{result_unwrap_or}
use Rattle.hex.specs.Hex.{decode_of, decode_pairs, digit_or_error, hex_digit_value, pair_value, is_hex_digit, ◌>>=◌}
use Rattle.hex.specs.declared.error.FromHexError.{FromHexError}
use Rattle.hex.proofs.HexLemmas.{decode_of-even, decode_of-ok, decode_of-digits, decode_of-odd}
use Rattle.hex.proofs.Pairs.{cons_byte, decode_pairs-ok_pair, decode_pairs-err_pair}
use Rattle.ua_report.specs.Digits.{digits_in, IsHex, HexSoFar, IsNeverHex}

pub digits-append : (a b : List ℕ) → digits_in (a ++ b) ≡ digits_in a ++ digits_in b
digits-append a b = filter-append (λ octet. not (is_ascii_whitespace octet)) a b

-- what is behind a pair that reads
behind_ok : (v i : ℕ) (rest more x y : List ℕ) (r : Result (List ℕ) FromHexError) → decode_pairs (i + 2) rest ≡ r → cons_byte v r ≡ Ok x
    → ((z : List ℕ) → decode_pairs (i + 2) rest ≡ Ok z → decode_pairs (i + 2) (rest ++ more) ≡ Ok (z ++ y)) → cons_byte v (decode_pairs (i + 2) (rest ++ more))
    ≡ Ok (x ++ y)
behind_ok v i rest more x y (Ok z) e h step =
    let same : v ∷ z ≡ x = ap (λ (r : Result (List ℕ) FromHexError). result_unwrap_or r []) h in
    ap (cons_byte v) (step z e) ∙ ap (λ (u : List ℕ). Ok (u ++ y)) same
behind_ok v i rest more x y (Err f) e h step = cc h

behind_pair : (i a b : ℕ) (rest more x y : List ℕ) (p : Result ℕ FromHexError) → pair_value a b i ≡ p → decode_pairs i (a ∷ b ∷ rest) ≡ Ok x
    → ((z : List ℕ) → decode_pairs (i + 2) rest ≡ Ok z → decode_pairs (i + 2) (rest ++ more) ≡ Ok (z ++ y))
    → decode_pairs i (a ∷ b ∷ (rest ++ more)) ≡ Ok (x ++ y)
behind_pair i a b rest more x y (Ok v) e h step =
    decode_pairs-ok_pair i a b v (rest ++ more) e
    ∙ behind_ok v i rest more x y (decode_pairs (i + 2) rest) refl (sym (decode_pairs-ok_pair i a b v rest e) ∙ h) step
behind_pair i a b rest more x y (Err f) e h step = cc (sym (decode_pairs-err_pair i a b f rest e) ∙ h)

-- the place of the first pair counts for nothing where all pairs read
moved_ok : (v i j : ℕ) (rest x : List ℕ) (r : Result (List ℕ) FromHexError) → decode_pairs (i + 2) rest ≡ r → cons_byte v r ≡ Ok x
    → ((z : List ℕ) → decode_pairs (i + 2) rest ≡ Ok z → decode_pairs (j + 2) rest ≡ Ok z) → cons_byte v (decode_pairs (j + 2) rest) ≡ Ok x
moved_ok v i j rest x (Ok z) e h step = ap (cons_byte v) (step z e) ∙ h
moved_ok v i j rest x (Err f) e h step = cc h

-- all pairs read, whatever their place
moved_pair : (i j a b : ℕ) (rest x : List ℕ) (p q : Result ℕ FromHexError) → pair_value a b i ≡ p → pair_value a b j ≡ q → decode_pairs i (a ∷ b ∷ rest) ≡ Ok x
    → ((v : ℕ) → p ≡ Ok v → q ≡ Ok v) → ((z : List ℕ) → decode_pairs (i + 2) rest ≡ Ok z → decode_pairs (j + 2) rest ≡ Ok z)
    → decode_pairs j (a ∷ b ∷ rest) ≡ Ok x
moved_pair i j a b rest x (Ok v) q e f h same step =
    decode_pairs-ok_pair j a b v rest (f ∙ same v refl)
    ∙ moved_ok v i j rest x (decode_pairs (i + 2) rest) refl (sym (decode_pairs-ok_pair i a b v rest e) ∙ h) step
moved_pair i j a b rest x (Err g) q e f h same step = cc (sym (decode_pairs-err_pair i a b g rest e) ∙ h)

-- the place of two digits counts for nothing where they read
pair_moved : (i j a b v : ℕ) (high low : Option ℕ) → (digit_or_error a i high >>= (λ h. digit_or_error b (i + 1) low >>= (λ l. Ok (h * 16 + l)))) ≡ Ok v
    → (digit_or_error a j high >>= (λ h. digit_or_error b (j + 1) low >>= (λ l. Ok (h * 16 + l)))) ≡ Ok v
pair_moved i j a b v (Some h) (Some l) e = e
pair_moved i j a b v (Some h) None e = cc e
pair_moved i j a b v None low e = cc e

same_pair : (i j a b v : ℕ) → pair_value a b i ≡ Ok v → pair_value a b j ≡ Ok v
same_pair i j a b v e = pair_moved i j a b v (hex_digit_value a) (hex_digit_value b) e

-- pairs that read at one place read the same at each
moved : (i j : ℕ) (s x : List ℕ) → decode_pairs i s ≡ Ok x → decode_pairs j s ≡ Ok x
unfolding decode_pairs
moved i j [] x h = h
moved i j (a ∷ []) x h = cc h
moved i j (a ∷ b ∷ rest) x h =
    moved_pair i j a b rest x (pair_value a b i) (pair_value a b j) refl refl h
    (λ v e. same_pair i j a b v e) (λ z e. moved (i + 2) (j + 2) rest z e)

-- pairs behind pairs
behind : (i j : ℕ) (a b x y : List ℕ) → decode_pairs i a ≡ Ok x → decode_pairs j b ≡ Ok y → decode_pairs i (a ++ b) ≡ Ok (x ++ y)
unfolding decode_pairs
behind i j [] b x y h k =
    let e : [] ≡ x = ap (λ (r : Result (List ℕ) FromHexError). result_unwrap_or r []) h in
    moved j i b y k ∙ ap (λ (u : List ℕ). Ok (u ++ y)) e
behind i j (a ∷ []) b x y h k = cc h
behind i j (a ∷ c ∷ rest) b x y h k =
    behind_pair i a c rest b x y (pair_value a c i) refl h (λ z e. behind (i + 2) j rest b z y e k)

-- octets by their digits, behind others
pub decode_behind : (a b x y : List ℕ) → decode_of a ≡ Ok x → decode_of b ≡ Ok y → decode_of (a ++ b) ≡ Ok (x ++ y)
decode_behind a b x y h k =
    let p = decode_of-ok a x h in
    let q = decode_of-ok b y k in
    let even : length (a ++ b) % 2 ≡ 0 = (let l = length-append a b in let e = p.0 in let f = q.0 in omega (arith, l, e, f)) in
    decode_of-even (a ++ b) even
    ∙ behind 0 0 a b x y (sym (decode_of-even a p.0) ∙ h) (sym (decode_of-even b q.0) ∙ k)

-- what a part of digits fails is failed by the whole
pub never_between : (a b c x : List ℕ) → length b % 2 ≡ 0 → decode_of (a ++ (b ++ c)) ≡ Ok x → (y : List ℕ) × (decode_of b ≡ Ok y)
never_between a b c x even h =
    let all = (decode_of-ok (a ++ (b ++ c)) x h).1 in
    let behind_a : AllPass is_hex_digit (b ++ c) =
    subst (λ (u : List ℕ). AllPass is_hex_digit u) (drop-append_seam a (b ++ c)) (All-drop (λ d. is_hex_digit d ≡ true) (length a) (a ++ (b ++ c)) all) in
    let within : AllPass is_hex_digit b =
    subst (λ (u : List ℕ). AllPass is_hex_digit u) (take-append_seam b c) (All-take (λ d. is_hex_digit d ≡ true) (length b) (b ++ c) behind_a) in
    decode_of-digits b even within

-- nothing so far
pub hex_first : HexSoFar None [] []
unfolding decode_pairs
hex_first = record { pairs = []; parts = refl; decoded = refl }

-- the digits of a text with a piece more
parts_more : (old new : Option ℕ) (text piece octets digits pairs : List ℕ) → (s : HexSoFar old text octets) → digits ≡ option_to_list old ++ digits_in piece
    → digits ≡ pairs ++ option_to_list new → digits_in (text ++ piece) ≡ (s.pairs ++ pairs) ++ option_to_list new
parts_more old new text piece octets digits pairs s are parts =
    digits-append text piece
    ∙ ap (λ (u : List ℕ). u ++ digits_in piece) s.parts
    ∙ append_assoc s.pairs (option_to_list old) (digits_in piece)
    ∙ ap (λ (u : List ℕ). s.pairs ++ u) (sym are ∙ parts)
    ∙ sym (append_assoc s.pairs pairs (option_to_list new))

-- a piece more
pub hex_more : (old new : Option ℕ) (text piece octets more digits pairs : List ℕ) → HexSoFar old text octets → digits ≡ option_to_list old ++ digits_in piece
    → digits ≡ pairs ++ option_to_list new → decode_of pairs ≡ Ok more → HexSoFar new (text ++ piece) (octets ++ more)
hex_more old new text piece octets more digits pairs s are parts decoded = record {
  pairs = s.pairs ++ pairs;
  parts = parts_more old new text piece octets digits pairs s are parts;
  decoded = decode_behind s.pairs pairs octets more s.decoded decoded;
}

-- a piece whose pairs stand for nothing
never_more : (half : Option ℕ) (text before pairs more x : List ℕ) → length pairs % 2 ≡ 0 → digits_in text ≡ (before ++ pairs) ++ option_to_list half
    → ((y : List ℕ) → ¬ (decode_of pairs ≡ Ok y)) → decode_of (digits_in (text ++ more)) ≡ Ok x → ⊥
never_more half text before pairs more x even parts refused h =
    let all : digits_in (text ++ more) ≡ before ++ (pairs ++ (option_to_list half ++ digits_in more)) =
    digits-append text more
    ∙ ap (λ (u : List ℕ). u ++ digits_in more) parts
    ∙ append_assoc (before ++ pairs) (option_to_list half) (digits_in more)
    ∙ append_assoc before pairs (option_to_list half ++ digits_in more) in
    let found = never_between before pairs (option_to_list half ++ digits_in more) x even (ap decode_of (sym all) ∙ h) in
    refused found.0 found.1

pub hex_never : (old new : Option ℕ) (text piece octets digits pairs : List ℕ) → HexSoFar old text octets → digits ≡ option_to_list old ++ digits_in piece
    → digits ≡ pairs ++ option_to_list new → length pairs % 2 ≡ 0 → ((y : List ℕ) → ¬ (decode_of pairs ≡ Ok y)) → IsNeverHex (text ++ piece)
hex_never old new text piece octets digits pairs s are parts even refused more x h =
    never_more new (text ++ piece) s.pairs pairs more x even (parts_more old new text piece octets digits pairs s are parts) refused h
