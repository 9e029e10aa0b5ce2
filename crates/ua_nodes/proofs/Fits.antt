-- What texts denote can be written.
use Rattle.std.proofs.Common.{◌≡◌, ℕ, zero, suc, ◌+◌, ◌-◌, ◌*◌, ◌^◌, ◌<◌, ◌≤◌, Bool, true, false, ◌&&◌, cond, nat_lt, List, [], ◌∷◌, ◌++◌, length, drop}
use Rattle.std.proofs.Common.{replicate, ◌==◌, if◌then◌else◌, Option, Some, None, Ok, Err, ℤ, pos, negsuc, refl, sym, ◌∙◌, ap, arith, length-append}
use Rattle.std.specs.Int.{Width}
use Rattle.std.specs.List.{list_all}
use Rattle.std.specs.Option.{option_map}
use Rattle.std.specs.Result.{result_ok}
use Rattle.std.specs.Str.{IsUtf8, is_utf8}
use Rattle.std.specs.Str.Parse.{digits_value, starts_with_minus}
use Rattle.std.proofs.lemmas.Bool.{lt-ltb, ltb-true}
use Rattle.std.proofs.lemmas.Str.{is_utf8-from_IsUtf8}
use Rattle.base64.specs.Engines.{standard}
use Rattle.base64.specs.GeneralPurpose.{decode_of, encode_of}
use Rattle.base64.specs.Decode.{groups_bytes, group_bytes, groups_before_last, suffix_bytes, scan_bytes, scan_last, decode_outcome}
use Rattle.base64.specs.declared.decode.DecodeError.{DecodeError}
use Rattle.base64.specs.Rfc4648.{encode_symbols, encode_group, padding_len}
use Rattle.std.proofs.lemmas.List.{length-take}
use Rattle.uuid.specs.Text.{parsed, parsed_hyphenated, parsed_simple, parsed_braced, parsed_urn, digits_of, has_hyphens, is_hex_digit, byte_of_digits, by_index}
use Rattle.uuid.proofs.TextLemmas.{by_index_length}
use Rattle.ua_builtin.specs.Signed.{signed, in_range, width_octets}
use Rattle.ua_builtin.specs.Counted.{text, counted}
use Rattle.ua_wire.proofs.Readers.{both_true}
use Rattle.ua_nodes.specs.ValueText.{is_numeral, number_below, signed_denoted, negative}
use mir.Val.{bits, hbits}

pub both_are : (a b : Bool) → a ≡ true → b ≡ true → a && b ≡ true
both_are a b p q = ap (λ (t : Bool). t && b) p ∙ q

-- ---- numbers

pub below : (radix bound : ℕ) (text : List ℕ) (n : ℕ) → number_below radix bound text ≡ Some n → nat_lt n bound ≡ true
below radix bound text n e = by (is_numeral radix text && nat_lt (digits_value radix text) bound) refl e
  where
    by : (t : Bool) → (is_numeral radix text && nat_lt (digits_value radix text) bound) ≡ t → cond t (Some (digits_value radix text)) None ≡ Some n
        → nat_lt n bound ≡ true
    by false h f = absurd cc
    by true h f =
        let same : digits_value radix text ≡ n = cc in
        ap (λ (m : ℕ). nat_lt m bound) (sym same) ∙ (both_true (is_numeral radix text) (nat_lt (digits_value radix text) bound) h).1

pub wider : (n a b : ℕ) → a ≤ b → nat_lt n a ≡ true → nat_lt n b ≡ true
wider n a b le h = lt-ltb n b (let less = ltb-true n a h in omega arith)

pub signed_fits : (w : Width) (z : ℤ) → 2 ^ hbits w ≤ 256 ^ width_octets w → 2 ^ bits w ≤ 256 ^ width_octets w → 0 < 2 ^ bits w → in_range w z ≡ true
    → (signed w).encodable z ≡ true
signed_fits w (pos n) half full some h = both_are (nat_lt n (2 ^ hbits w)) (nat_lt n (256 ^ width_octets w)) h
    (wider n (2 ^ hbits w) (256 ^ width_octets w) half h)
signed_fits w (negsuc n) half full some h =
    both_are (nat_lt n (2 ^ hbits w)) (nat_lt (2 ^ bits w - suc n) (256 ^ width_octets w)) h (lt-ltb (2 ^ bits w - suc n) (256 ^ width_octets w) (omega arith))

negative_range : (w : Width) (m : ℕ) → 0 < 2 ^ hbits w → nat_lt m (2 ^ hbits w + 1) ≡ true → in_range w (negative m) ≡ true
negative_range w zero some h = lt-ltb 0 (2 ^ hbits w) some
negative_range w (suc k) some h = lt-ltb k (2 ^ hbits w) (let less = ltb-true (suc k) (2 ^ hbits w + 1) h in omega arith)

pub mapped_some : {A B : Type 0} (f : A → B) (o : Option A) (y : B) → option_map f o ≡ Some y → (x : A) × (o ≡ Some x) × (f x ≡ y)
mapped_some f None y e = absurd cc
mapped_some f (Some x) y e = (x, refl, cc)

pub signed_range : (w : Width) (text : List ℕ) (z : ℤ) → 0 < 2 ^ hbits w → signed_denoted (hbits w) text ≡ Some z → in_range w z ≡ true
signed_range w text z some e = by (starts_with_minus text) e
  where
    by : (t : Bool) → cond t (option_map negative (number_below 10 (2 ^ hbits w + 1) (drop 1 text))) (option_map pos (number_below 10 (2 ^ hbits w) text))
        ≡ Some z → in_range w z ≡ true
    by true f =
        let m = mapped_some negative (number_below 10 (2 ^ hbits w + 1) (drop 1 text)) z f in
        ap (in_range w) (sym m.2) ∙ negative_range w m.0 some (below 10 (2 ^ hbits w + 1) (drop 1 text) m.0 m.1)
    by false f =
        let m = mapped_some pos (number_below 10 (2 ^ hbits w) text) z f in
        ap (in_range w) (sym m.2) ∙ below 10 (2 ^ hbits w) text m.0 m.1

-- ---- octets

pub counted_fits : (v : List ℕ) → length v < 2 ^ 31 → counted.encodable (Some v) ≡ true
unfolding counted
counted_fits v h = lt-ltb (length v) 2147483648 (omega arith)

pub text_fits : (v : List ℕ) → IsUtf8 v → length v < 2 ^ 31 → text.encodable (Some v) ≡ true
unfolding text
text_fits v u h = both_are (is_utf8 v) (counted.encodable (Some v)) (is_utf8-from_IsUtf8 v u) (counted_fits v h)

-- ---- base64

groups_length : (dec s : List ℕ) (q : ℕ) → length (groups_bytes dec s q) ≡ 3 * q
unfolding groups_bytes
groups_length dec s zero = refl
groups_length dec s (suc q) =
    let more = groups_length dec s q in
    omega (arith, more, length-append (groups_bytes dec s q) (group_bytes dec s (4 * q)))

last_length : (dec : List ℕ) (pad at : ℕ) (s : List ℕ) → length (suffix_bytes dec pad at s) ≤ 3
last_length dec pad at s =
    elim (scan_last dec pad at s) as (λ r. length (scan_bytes r) ≤ 3) [ Ok st ↦ omega (arith, length-take {A = ℕ}) | Err e ↦ omega arith ]

outcome : (o : Option DecodeError) (bytes b : List ℕ) → result_ok (decode_outcome o bytes) ≡ Some b → bytes ≡ b
outcome None bytes b e = cc
outcome (Some x) bytes b e = absurd cc

pub decoded_length : (s b : List ℕ) → result_ok (decode_of standard s) ≡ Some b → length b ≤ length s + 3
decoded_length s b e =
    let q = groups_before_last (length s) in
    let front = groups_bytes (standard).decode_table s q in
    let back = suffix_bytes (standard).decode_table (standard).padding.value (4 * q) s in
    let is : front ++ back ≡ b = outcome _ (front ++ back) b e in
    let whole = ap length is in
    let few = groups_length (standard).decode_table s q in
    let last = last_length (standard).decode_table (standard).padding.value (4 * q) s in
    omega (arith, whole, few, last, length-append front back)

symbols_length : (t b : List ℕ) → length b ≤ length (encode_symbols t b)
unfolding encode_symbols
symbols_length t [] = omega arith
symbols_length t (x ∷ []) = omega arith
symbols_length t (x ∷ y ∷ []) = omega arith
symbols_length t (x ∷ y ∷ z ∷ rest) = let more = symbols_length t rest in omega (arith, more, length-append (encode_group t x y z) (encode_symbols t rest))

pub encoded_length : (b : List ℕ) → length b ≤ length (encode_of standard b)
encoded_length b =
    let symbols = encode_symbols (standard).encode_table b in
    let padding = replicate (padding_len (length b)) (standard).padding.value in
    omega (arith, symbols_length (standard).encode_table b, length-append symbols padding)

-- ---- Guids

pub where_some : {A : Type 0} (t : Bool) (o : Option A) (x : A) → (if t then o else None) ≡ Some x → o ≡ Some x
where_some true o x e = e
where_some false o x e = absurd cc

some_is : {A : Type 0} (x y : A) → Some x ≡ Some y → x ≡ y
some_is x y e = cc

pub parsed_length : (s u : List ℕ) → length s ≡ 36 → parsed s ≡ Some u → length u ≡ 16
parsed_length s u long e =
    let cut : parsed_hyphenated s ≡ Some u =
    sym (ap (λ (n : ℕ). if n == 32 then parsed_simple s else if n == 36 then parsed_hyphenated s else if n == 38 then parsed_braced s else if n == 45 then
    parsed_urn s else None) long) ∙ e in
    let hex = digits_of s in
    let simple : parsed_simple hex ≡ Some u = where_some ((length s == 36) && has_hyphens s) (parsed_simple hex) u cut in
    let sixteen : Some (by_index 16 (byte_of_digits hex)) ≡ Some u = where_some ((length hex == 32) && list_all is_hex_digit hex)
    (Some (by_index 16 (byte_of_digits hex))) u simple in
    sym (ap length (some_is (by_index 16 (byte_of_digits hex)) u sixteen)) ∙ by_index_length 16 (byte_of_digits hex)
