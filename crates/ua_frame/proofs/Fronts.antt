-- What the first octets of a frame say, and frames made of a header and what follows it.
use Rattle.std.proofs.Common.{◌≡◌, ℕ, ◌+◌, ◌<◌, ◌≤◌, ◌^◌, List, [], ◌∷◌, ◌++◌, Bool, true, false, ◌&&◌, not, nat_eq, nat_lt, IsTrue}
use Rattle.std.proofs.Common.{Option, Some, None, length, take, drop, refl, sym, ◌∙◌, ap, subst, arith, append-nil, length-append}
use Rattle.std.specs.Prelude.{slice_index, find, if◌then◌else◌}
use Rattle.std.proofs.lemmas.Bool.{eqb-true, ltb-false, le-ltb}
use Rattle.std.proofs.lemmas.List.{take_at, nil_from_length}
use Rattle.ua_wire.proofs.Readers.{both_true, some_is}
use Rattle.ua_wire.specs.Number.{number_octets, number_at}
use Rattle.ua_wire.proofs.NumbersRead.{exact_number, length-number_octets}
use Rattle.ua_frame.specs.declared.fault.FrameFault.{FrameFault}
use Rattle.ua_frame.specs.declared.fault.FrameFault.TheVariants.{UnknownType, OutOfPlace, TooLarge, TooSmall}
use Rattle.ua_frame.specs.declared.frame.Frame.{Frame}
use Rattle.ua_frame.specs.declared.gate.Gate.{Gate}
use Rattle.ua_frame.specs.declared.kind.Kind.{Kind}
use Rattle.ua_frame.specs.declared.kind.Kind.TheVariants.{Hel, Ack, Msg, Opn, Clo}
use Rattle.ua_frame.specs.declared.kind.Kind.TheVariants as kind
use Rattle.ua_frame.specs.Kinds.{kind_octets, least_size, has_flag, lets_in}
use Rattle.ua_builtin.specs.Reasons.{first_reason}
use Rattle.ua_frame.specs.Frames.{frame_size, frame_octets, IsSized, LetsIn, names, all_kinds}
use Rattle.ua_frame.specs.Frames.{kind_of, flag_of, number_in, size_of, header_reasons, header_fault}

-- ---- more octets behind a header change nothing of it

pub kind_front : (h more : List ℕ) → 8 ≤ length h → kind_of (h ++ more) ≡ kind_of h
unfolding kind_of
kind_front (a ∷ (b ∷ (c ∷ h))) more l = refl
kind_front [] more l = absurd (omega arith)
kind_front (a ∷ []) more l = absurd (omega arith)
kind_front (a ∷ (b ∷ [])) more l = absurd (omega arith)

pub flag_front : (h more : List ℕ) → 8 ≤ length h → flag_of (h ++ more) ≡ flag_of h
flag_front (a ∷ (b ∷ (c ∷ (d ∷ h)))) more l = refl
flag_front [] more l = absurd (omega arith)
flag_front (a ∷ []) more l = absurd (omega arith)
flag_front (a ∷ (b ∷ [])) more l = absurd (omega arith)
flag_front (a ∷ (b ∷ (c ∷ []))) more l = absurd (omega arith)

pub size_front : (h more : List ℕ) → 8 ≤ length h → size_of (h ++ more) ≡ size_of h
unfolding size_of
size_front (a ∷ (b ∷ (c ∷ (d ∷ (e ∷ (f ∷ (g ∷ (i ∷ h)))))))) more l = refl
size_front [] more l = absurd (omega arith)
size_front (a ∷ []) more l = absurd (omega arith)
size_front (a ∷ (b ∷ [])) more l = absurd (omega arith)
size_front (a ∷ (b ∷ (c ∷ []))) more l = absurd (omega arith)
size_front (a ∷ (b ∷ (c ∷ (d ∷ [])))) more l = absurd (omega arith)
size_front (a ∷ (b ∷ (c ∷ (d ∷ (e ∷ []))))) more l = absurd (omega arith)
size_front (a ∷ (b ∷ (c ∷ (d ∷ (e ∷ (f ∷ [])))))) more l = absurd (omega arith)
size_front (a ∷ (b ∷ (c ∷ (d ∷ (e ∷ (f ∷ (g ∷ []))))))) more l = absurd (omega arith)

-- what is wrong with a header, by its words
abbrev pub fault_by : Gate → Option Kind → ℕ → ℕ → Option FrameFault
fault_by gate k flag size = first_reason (header_reasons gate k flag size)

same_words : (gate : Gate) (k k' : Option Kind) (flag flag' size size' : ℕ) → k ≡ k' → flag ≡ flag' → size ≡ size'
    → fault_by gate k flag size ≡ fault_by gate k' flag' size'
same_words gate k k' flag flag' size size' p q r =
    ap (λ (x : Option Kind). fault_by gate x flag size) p ∙ (ap (λ (x : ℕ). fault_by gate k' x size) q ∙ ap (λ (x : ℕ). fault_by gate k' flag' x) r)

pub fault_front : (gate : Gate) (h more : List ℕ) → 8 ≤ length h → header_fault gate (h ++ more) ≡ header_fault gate h
unfolding header_fault
fault_front gate h more l = same_words gate _ _ _ _ _ _ (kind_front h more l) (flag_front h more l) (size_front h more l)

-- ---- what a frame's octets say

kind_first : (k : Kind) (flag : ℕ) (t : List ℕ) → kind_of (kind_octets k ++ flag ∷ t) ≡ Some k
unfolding kind_of
kind_first Hel flag t = refl
kind_first Ack flag t = refl
kind_first kind.Err flag t = refl
kind_first Msg flag t = refl
kind_first Opn flag t = refl
kind_first Clo flag t = refl

flag_first : (k : Kind) (flag : ℕ) (t : List ℕ) → flag_of (kind_octets k ++ flag ∷ t) ≡ flag
flag_first Hel flag t = refl
flag_first Ack flag t = refl
flag_first kind.Err flag t = refl
flag_first Msg flag t = refl
flag_first Opn flag t = refl
flag_first Clo flag t = refl

pub behind_first : (k : Kind) (flag : ℕ) (t : List ℕ) → drop 4 (kind_octets k ++ flag ∷ t) ≡ t
behind_first Hel flag t = refl
behind_first Ack flag t = refl
behind_first kind.Err flag t = refl
behind_first Msg flag t = refl
behind_first Opn flag t = refl
behind_first Clo flag t = refl

length_first : (k : Kind) (flag : ℕ) (t : List ℕ) → length (kind_octets k ++ flag ∷ t) ≡ 4 + length t
length_first Hel flag t = omega arith
length_first Ack flag t = omega arith
length_first kind.Err flag t = omega arith
length_first Msg flag t = omega arith
length_first Opn flag t = omega arith
length_first Clo flag t = omega arith

-- the number that its four octets are
number_of_octets : (n : ℕ) → n < 2 ^ 32 → number_in (number_at 4 (number_octets 4 n)) ≡ n
number_of_octets n h =
    ap number_in (ap (number_at 4) (sym (append-nil (number_octets 4 n))) ∙ (exact_number 4).complete n (number_octets 4 n) [] (h, refl))

size_first : (k : Kind) (flag n : ℕ) (t : List ℕ) → n < 2 ^ 32 → size_of (kind_octets k ++ flag ∷ (number_octets 4 n ++ t)) ≡ n
unfolding size_of
size_first k flag n t h =
    ap (λ (x : List ℕ). number_in (number_at 4 (take 4 x))) (behind_first k flag (number_octets 4 n ++ t))
    ∙ (ap (λ (x : List ℕ). number_in (number_at 4 x)) (take_at (number_octets 4 n) t 4 (length-number_octets 4 n)) ∙ number_of_octets n h)

pub length-frame_octets : (f : Frame) → length (frame_octets f) ≡ frame_size f
unfolding frame_octets
length-frame_octets f =
    omega (
      arith,
      length_first f.kind f.flag (number_octets 4 (frame_size f) ++ f.body),
      length-append (number_octets 4 (frame_size f)) f.body,
      length-number_octets 4 (frame_size f),
    )

pub size_of-frame : (f : Frame) → IsSized f → size_of (frame_octets f) ≡ frame_size f
unfolding frame_octets
size_of-frame f h = size_first f.kind f.flag (frame_size f) f.body h

pub kind_of-frame : (f : Frame) → kind_of (frame_octets f) ≡ Some f.kind
unfolding frame_octets
kind_of-frame f = kind_first f.kind f.flag (number_octets 4 (frame_size f) ++ f.body)

pub flag_of-frame : (f : Frame) → flag_of (frame_octets f) ≡ f.flag
unfolding frame_octets
flag_of-frame f = flag_first f.kind f.flag (number_octets 4 (frame_size f) ++ f.body)

-- what is wrong with a frame's header, by its fields
pub fault_of-frame : (gate : Gate) (f : Frame) → IsSized f → header_fault gate (frame_octets f) ≡ fault_by gate (Some f.kind) f.flag (frame_size f)
unfolding header_fault
fault_of-frame gate f h = same_words gate _ _ _ _ _ _ (kind_of-frame f) (flag_of-frame f) (size_of-frame f h)

-- the size of a frame, with more octets behind it
pub size_of-frame_more : (f : Frame) (more : List ℕ) → IsSized f → size_of (frame_octets f ++ more) ≡ frame_size f
size_of-frame_more f more h = size_front (frame_octets f) more (omega (arith, length-frame_octets f)) ∙ size_of-frame f h

-- ---- a frame that a gate lets in has a good header, and the other way round

pub by_tests : (unknown place large small : Bool)
    → first_reason ((UnknownType, not unknown) ∷ ((OutOfPlace, not place) ∷ ((TooLarge, large) ∷ ((TooSmall, small) ∷ [])))) ≡ None
    → (IsTrue unknown) × (IsTrue place) × (large ≡ false) × (small ≡ false)
by_tests true true false false e = (refl, refl, refl, refl)
by_tests true true false true e = absurd cc
by_tests true true true small e = absurd cc
by_tests true false large small e = absurd cc
by_tests false place large small e = absurd cc

to_tests : (unknown place large small : Bool) → IsTrue unknown → IsTrue place → large ≡ false → small ≡ false
    → first_reason ((UnknownType, not unknown) ∷ ((OutOfPlace, not place) ∷ ((TooLarge, large) ∷ ((TooSmall, small) ∷ [])))) ≡ None
to_tests true true false false a b c d = refl
to_tests true true false true a b c d = absurd cc
to_tests true true true small a b c d = absurd cc
to_tests true false large small a b c d = absurd cc
to_tests false place large small a b c d = absurd cc

pub let_in-from_fault : (gate : Gate) (f : Frame) → IsSized f → header_fault gate (frame_octets f) ≡ None → LetsIn gate f
let_in-from_fault gate f h e =
    let t = by_tests (has_flag f.kind f.flag) (lets_in gate f.kind) (nat_lt gate.largest (frame_size f)) (nat_lt (frame_size f) (least_size f.kind))
    (sym (fault_of-frame gate f h) ∙ e) in
    record { kind = t.1; flag = t.0; largest = ltb-false gate.largest (frame_size f) t.2; least = ltb-false (frame_size f) (least_size f.kind) t.3 }

pub fault-from_let_in : (gate : Gate) (f : Frame) → IsSized f → LetsIn gate f → header_fault gate (frame_octets f) ≡ None
fault-from_let_in gate f h l =
    fault_of-frame gate f h
    ∙ to_tests (has_flag f.kind f.flag) (lets_in gate f.kind) (nat_lt gate.largest (frame_size f)) (nat_lt (frame_size f) (least_size f.kind)) l.flag l.kind
    (le-ltb gate.largest (frame_size f) l.largest) (le-ltb (frame_size f) (least_size f.kind) l.least)

-- ---- a frame made of a header and what follows it

found_passes : (p : Kind → Bool) (ks : List Kind) (k : Kind) → find p ks ≡ Some k → IsTrue (p k)
found_passes p [] k e = absurd cc
found_passes p (x ∷ xs) k e =
    (elim (p x) as (λ (t : Bool). p x ≡ t → (if t then Some x else find p xs) ≡ Some k → IsTrue (p k)) [
      | true ↦ λ t e. subst (λ (y : Kind). IsTrue (p y)) (some_is x k e) t
      | false ↦ λ t e. found_passes p xs k e
    ]) refl e

-- the octets that a header has, where it names a kind
named_octets : (h : List ℕ) (k : Kind) → kind_of h ≡ Some k → (slice_index h 0 ≡ slice_index (kind_octets k) 0)
    × (slice_index h 1 ≡ slice_index (kind_octets k) 1) × (slice_index h 2 ≡ slice_index (kind_octets k) 2)
unfolding kind_of
named_octets h k e =
    let all = found_passes (names h) all_kinds k e in
    let two = both_true (nat_eq (slice_index h 0) (slice_index (kind_octets k) 0) && nat_eq (slice_index h 1) (slice_index (kind_octets k) 1))
    (nat_eq (slice_index h 2) (slice_index (kind_octets k) 2)) all in
    let one = both_true (nat_eq (slice_index h 0) (slice_index (kind_octets k) 0)) (nat_eq (slice_index h 1) (slice_index (kind_octets k) 1)) two.0 in (
      eqb-true (slice_index h 0) (slice_index (kind_octets k) 0) one.0,
      eqb-true (slice_index h 1) (slice_index (kind_octets k) 1) one.1,
      eqb-true (slice_index h 2) (slice_index (kind_octets k) 2) two.1,
    )

three_octets : (k : Kind) (a b c : ℕ) (t : List ℕ) → a ≡ slice_index (kind_octets k) 0 → b ≡ slice_index (kind_octets k) 1 → c ≡ slice_index (kind_octets k) 2
    → a ∷ (b ∷ (c ∷ t)) ≡ kind_octets k ++ t
three_octets Hel a b c t x y z = cc
three_octets Ack a b c t x y z = cc
three_octets kind.Err a b c t x y z = cc
three_octets Msg a b c t x y z = cc
three_octets Opn a b c t x y z = cc
three_octets Clo a b c t x y z = cc

-- the four octets of a number that is found in them
four_octets : (x : List ℕ) (n : ℕ) (found : Option (ℕ × List ℕ)) → length x ≡ 4 → 0 < n → number_at 4 x ≡ found → number_in found ≡ n → (x ≡ number_octets 4 n)
    × (n < 2 ^ 32)
four_octets x n None len some e is = absurd (omega arith)
four_octets x n (Some found) len some e is =
    let s = (exact_number 4).sound x found.0 found.1 e in
    let front_len : length s.front ≡ 4 = ap length s.encoded.1 ∙ length-number_octets 4 found.0 in
    let none : found.1 ≡ [] = nil_from_length found.1 (omega (arith, len, front_len, ap length s.parts, length-append s.front found.1)) in
    let n_is : found.0 ≡ n = is in (
      s.parts ∙ (ap (λ (t : List ℕ). s.front ++ t) none ∙ (append-nil s.front ∙ (s.encoded.1 ∙ ap (number_octets 4) n_is))),
      subst (λ (m : ℕ). m < 2 ^ 32) n_is s.encoded.0,
    )

-- the frame of a header and what follows it
abbrev pub frame_by : Kind → List ℕ → List ℕ → Frame
frame_by k h body = record { kind = k; flag = flag_of h; body = body }

pub header_frame : (h body : List ℕ) (k : Kind) → length h ≡ 8 → kind_of h ≡ Some k → size_of h ≡ 8 + length body
    → (h ++ body ≡ frame_octets (frame_by k h body)) × IsSized (frame_by k h body)
unfolding frame_octets size_of
header_frame (a ∷ (b ∷ (c ∷ (d ∷ (e ∷ (f ∷ (g ∷ (i ∷ [])))))))) body k l named size =
    let letters = named_octets (a ∷ (b ∷ (c ∷ (d ∷ (e ∷ (f ∷ (g ∷ (i ∷ [])))))))) k named in
    let four = four_octets (e ∷ (f ∷ (g ∷ (i ∷ [])))) (8 + length body) (number_at 4 (e ∷ (f ∷ (g ∷ (i ∷ []))))) refl (omega arith) refl size in (
      three_octets k a b c (d ∷ (e ∷ (f ∷ (g ∷ (i ∷ body))))) letters.0 letters.1 letters.2 ∙ ap (λ (t : List ℕ). kind_octets k ++ d ∷ (t ++ body)) four.0,
      four.1,
    )
header_frame [] body k l named size = absurd (omega arith)
header_frame (a ∷ []) body k l named size = absurd (omega arith)
header_frame (a ∷ (b ∷ [])) body k l named size = absurd (omega arith)
header_frame (a ∷ (b ∷ (c ∷ []))) body k l named size = absurd (omega arith)
header_frame (a ∷ (b ∷ (c ∷ (d ∷ [])))) body k l named size = absurd (omega arith)
header_frame (a ∷ (b ∷ (c ∷ (d ∷ (e ∷ []))))) body k l named size = absurd (omega arith)
header_frame (a ∷ (b ∷ (c ∷ (d ∷ (e ∷ (f ∷ [])))))) body k l named size = absurd (omega arith)
header_frame (a ∷ (b ∷ (c ∷ (d ∷ (e ∷ (f ∷ (g ∷ []))))))) body k l named size = absurd (omega arith)
header_frame (a ∷ (b ∷ (c ∷ (d ∷ (e ∷ (f ∷ (g ∷ (i ∷ (j ∷ h))))))))) body k l named size = absurd (omega arith)
