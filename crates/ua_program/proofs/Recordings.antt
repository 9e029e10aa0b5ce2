-- Records as lines, one line after the other.
use Rattle.std.proofs.Common.{◌≡◌, ◌⊎◌, inl, inr, ℕ, suc, ◌+◌, ◌<◌, List, [], ◌∷◌, ◌++◌, length}
use Rattle.std.proofs.Common.{get_or, drop, Option, Some, None, Result, Ok, Err, is_none}
use Rattle.std.proofs.Common.{refl, sym, ◌∙◌, ap, subst, arith, append-nil, append_assoc, length-append, drop-cons, true, false}
use Rattle.std.specs.Borrow.{Bor}
use Rattle.std.specs.Result.{result_ok}
use Rattle.std.specs.Str.Lines.{lines}
use Rattle.std.proofs.lemmas.List.{drop_all}
use Rattle.hex.specs.Hex.{decode_of}
use Rattle.hex.proofs.HexLemmas.{decode_of-ok}
use Rattle.hex.specs.declared.error.FromHexError.{FromHexError}
use Rattle.ua_frame.specs.After.{each_after}
use Rattle.ua_frame.proofs.Afters.{each_after-push}
use Rattle.ua_judge.specs.declared.mark.Mark.{Mark}
use Rattle.ua_report.specs.Digits.{HexSoFar, IsNeverHex, digits_in}
use Rattle.ua_program.specs.Recorded.{AddsLine, AreRecorded, RecordLine, WritesNoRecord, WritesRecord}
use Rattle.ua_program.specs.Recorded.{both_read, hex_octets, line_mark, line_read, lines_read, octets_down, octets_up}
use Rattle.ua_program.specs.Recorded.RecordLine.{Up, Down}
use Rattle.ua_report.specs.declared.fault.Fault.{Fault}
use Rattle.ua_report.specs.declared.fault.Fault.TheVariants.{NoMemory, NotHexadecimal}
use Rattle.ua_report.proofs.HexParts.{hex_first}

-- ---- the digits of a line

none_if : (r : Result (List ℕ) FromHexError) → ((octets : List ℕ) → r ≡ Ok octets → ⊥) → result_ok r ≡ None
none_if (Ok octets) h = absurd (h octets refl)
none_if (Err e) h = refl

pub hex_begun : (half : Option ℕ) → half ≡ None → HexSoFar half [] []
hex_begun half none = subst (λ (h : Option ℕ). HexSoFar h [] []) (sym none) hex_first

pub hex_whole : (half : Option ℕ) (text digits octets : List ℕ) → text ≡ digits → is_none half ≡ true → HexSoFar half text octets
    → hex_octets digits ≡ Some octets
hex_whole None text digits octets same whole s = ap hex_octets (sym same) ∙ ap result_ok (ap decode_of (s.parts ∙ append-nil s.pairs) ∙ s.decoded)
hex_whole (Some d) text digits octets same whole s = absurd cc

odd_digits : (d : ℕ) (text octets x : List ℕ) → HexSoFar (Some d) text octets → decode_of (digits_in text) ≡ Ok x → ⊥
odd_digits d text octets x s h =
    let whole = (decode_of-ok (digits_in text) x h).0 in
    let pairs = (decode_of-ok s.pairs octets s.decoded).0 in
    let count = ap length s.parts ∙ length-append s.pairs (d ∷ []) in
    absurd (omega (arith, whole, pairs, count))

pub hex_half : (half : Option ℕ) (text digits octets : List ℕ) → text ≡ digits → is_none half ≡ false → HexSoFar half text octets → hex_octets digits ≡ None
hex_half None text digits octets same part s = absurd cc
hex_half (Some d) text digits octets same part s =
    ap hex_octets (sym same) ∙ none_if (decode_of (digits_in text)) (λ x h. odd_digits d text octets x s h)

hex_never_read : (text digits : List ℕ) → text ≡ digits → IsNeverHex text → hex_octets digits ≡ None
hex_never_read text digits same never =
    ap hex_octets (sym same)
    ∙ none_if (decode_of (digits_in text)) (λ x h. never [] x (ap (λ (t : List ℕ). decode_of (digits_in t)) (append-nil text) ∙ h))

-- a fault of the digits of a line
pub hex_fault : (file : Bor (List ℕ)) (text digits : List ℕ) (told why : Fault) → why ≡ told → text ≡ digits
    → (told ≡ NoMemory) ⊎ ((told ≡ NotHexadecimal file) × IsNeverHex text) → (why ≡ NoMemory) ⊎ ((why ≡ NotHexadecimal file) × (hex_octets digits ≡ None))
hex_fault file text digits told why is same (inl memory) = inl (is ∙ memory)
hex_fault file text digits told why is same (inr never) = inr (is ∙ never.0, hex_never_read text digits same never.1)

-- ---- the record of lines, with one line more

up-append : (xs ys : List RecordLine) → octets_up (xs ++ ys) ≡ octets_up xs ++ octets_up ys
up-append [] ys = refl
up-append (Up o ∷ xs) ys = ap (λ (t : List ℕ). o ++ t) (up-append xs ys) ∙ sym (append_assoc o (octets_up xs) (octets_up ys))
up-append (Down o ∷ xs) ys = up-append xs ys

down-append : (xs ys : List RecordLine) → octets_down (xs ++ ys) ≡ octets_down xs ++ octets_down ys
down-append [] ys = refl
down-append (Up o ∷ xs) ys = down-append xs ys
down-append (Down o ∷ xs) ys = ap (λ (t : List ℕ). o ++ t) (down-append xs ys) ∙ sym (append_assoc o (octets_down xs) (octets_down ys))

pub recorded_none : (up down : List ℕ) (marks : List Mark) → up ≡ [] → down ≡ [] → marks ≡ [] → AreRecorded [] up down marks
unfolding each_after
recorded_none up down marks u d m = record { up_is = u; down_is = d; marks_are = m }

pub recorded_up : (read : List RecordLine) (up down octets more : List ℕ) (marks new : List Mark) → AreRecorded read up down marks → more ≡ up ++ octets
    → new ≡ marks ++ record { up = length more; down = length down } ∷ [] → AreRecorded (read ++ Up octets ∷ []) more down new
recorded_up read up down octets more marks new r more_is new_is =
    let long : length more ≡ length (octets_up read) + length octets =
    ap length more_is ∙ (length-append up octets ∙ ap (λ (t : List ℕ). length t + length octets) r.up_is) in
    record {
      up_is = more_is ∙ (ap (λ (t : List ℕ). t ++ octets) r.up_is
          ∙ (ap (λ (t : List ℕ). octets_up read ++ t) (sym (append-nil octets)) ∙ sym (up-append read (Up octets ∷ []))));
      down_is = r.down_is ∙ (sym (append-nil (octets_down read)) ∙ sym (down-append read (Up octets ∷ [])));
      marks_are = new_is
          ∙ (ap (λ (n : ℕ). marks ++ record { up = n; down = length down } ∷ []) long
          ∙ (ap (λ (t : List ℕ). marks ++ record { up = length (octets_up read) + length octets; down = length t } ∷ []) r.down_is
          ∙ (ap (λ (t : List Mark). t ++ line_mark read (Up octets)) r.marks_are ∙ sym (each_after-push line_mark read (Up octets)))));
    }

pub recorded_down : (read : List RecordLine) (up down octets more : List ℕ) (marks : List Mark) → AreRecorded read up down marks → more ≡ down ++ octets
    → AreRecorded (read ++ Down octets ∷ []) up more marks
recorded_down read up down octets more marks r more_is = record {
  up_is = r.up_is ∙ (sym (append-nil (octets_up read)) ∙ sym (up-append read (Down octets ∷ [])));
  down_is = more_is ∙ (ap (λ (t : List ℕ). t ++ octets) r.down_is
      ∙ (ap (λ (t : List ℕ). octets_down read ++ t) (sym (append-nil octets)) ∙ sym (down-append read (Down octets ∷ []))));
  marks_are = r.marks_are ∙ (sym (append-nil (each_after line_mark read)) ∙ sym (each_after-push line_mark read (Down octets)));
}

-- ---- the lines of a text, as far as they were read

-- the first lines have a record
pub record RecordedTo (text : List ℕ) (n : ℕ) (up down : List ℕ) (marks : List Mark) : Type 0 where
  pub read : List RecordLine
  pub read_is : lines_read (lines text) ≡ both_read (Some read) (lines_read (drop n (lines text)))
  pub are : AreRecorded read up down marks

both_nil : (o : Option (List RecordLine)) → o ≡ both_read (Some []) o
both_nil None = refl
both_nil (Some read) = refl

both_more : (a b : List RecordLine) (o : Option (List RecordLine)) → both_read (Some a) (both_read (Some b) o) ≡ both_read (Some (a ++ b)) o
both_more a b None = refl
both_more a b (Some c) = ap Some (sym (append_assoc a b c))

pub recorded_first : (text up down : List ℕ) (marks : List Mark) → AreRecorded [] up down marks → RecordedTo text 0 up down marks
recorded_first text up down marks r = record { read = []; read_is = both_nil (lines_read (lines text)); are = r }

next_line : (all : List (List ℕ)) (n : ℕ) (line : List ℕ) → (n < length all) × (line ≡ get_or all n line) → drop n all ≡ line ∷ drop (suc n) all
next_line all n line here = drop-cons all n line here.0 ∙ ap (λ (t : List ℕ). t ∷ drop (suc n) all) (sym here.1)

pub recorded_more : (text : List ℕ) (n m : ℕ) (line up down newup newdown : List ℕ) (marks new : List Mark) → m ≡ n + 1
    → (n < length (lines text)) × (line ≡ get_or (lines text) n line) → (r : RecordedTo text n up down marks) → AddsLine line r.read newup newdown new
    → RecordedTo text m newup newdown new
recorded_more text n m line up down newup newdown marks new next here r a =
    let later = lines_read (drop (suc n) (lines text)) in
    let count : suc n ≡ m = omega (arith, next) in
    record {
      read = r.read ++ a.more;
      read_is = r.read_is
          ∙ (ap (λ (t : List (List ℕ)). both_read (Some r.read) (lines_read t)) (next_line (lines text) n line here)
          ∙ (ap (λ (t : Option (List RecordLine)). both_read (Some r.read) (both_read t later)) a.more_is
          ∙ (both_more r.read a.more later ∙ ap (λ (k : ℕ). both_read (Some (r.read ++ a.more)) (lines_read (drop k (lines text)))) count)));
      are = a.are;
    }

recorded_fault : (text : List ℕ) (n : ℕ) (line up down : List ℕ) (marks : List Mark)
    → (n < length (lines text)) × (line ≡ get_or (lines text) n line) → RecordedTo text n up down marks → line_read line ≡ None → WritesNoRecord text
recorded_fault text n line up down marks here r none =
    r.read_is
    ∙ (ap (λ (t : List (List ℕ)). both_read (Some r.read) (lines_read t)) (next_line (lines text) n line here)
    ∙ ap (λ (t : Option (List RecordLine)). both_read (Some r.read) (both_read t (lines_read (drop (suc n) (lines text))))) none)

-- a fault of a text
pub text_fault : (file : Bor (List ℕ)) (text : List ℕ) (n : ℕ) (line up down : List ℕ) (marks : List Mark) (told why : Fault) → why ≡ told
    → (n < length (lines text)) × (line ≡ get_or (lines text) n line) → RecordedTo text n up down marks
    → (told ≡ NoMemory) ⊎ ((told ≡ NotHexadecimal file) × (line_read line ≡ None)) → (why ≡ NoMemory) ⊎ ((why ≡ NotHexadecimal file) × WritesNoRecord text)
text_fault file text n line up down marks told why is here r (inl memory) = inl (is ∙ memory)
text_fault file text n line up down marks told why is here r (inr bad) = inr (is ∙ bad.0, recorded_fault text n line up down marks here r bad.1)

pub recorded_all : (text : List ℕ) (n : ℕ) (up down : List ℕ) (marks : List Mark) → n ≡ length (lines text) → RecordedTo text n up down marks
    → WritesRecord text up down marks
recorded_all text n up down marks end r = let none : drop n (lines text) ≡ [] = drop_all n (lines text) (omega (arith, end)) in record {
  read = r.read;
  read_is = r.read_is ∙ (ap (λ (t : List (List ℕ)). both_read (Some r.read) (lines_read t)) none ∙ ap Some (append-nil r.read));
  are = r.are;
}
