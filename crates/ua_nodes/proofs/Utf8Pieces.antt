-- The pieces of a UTF-8 text round an ASCII octet are UTF-8.
use Rattle.std.proofs.Common.{◌≡◌, ℕ, zero, suc, ◌+◌, ◌-◌, ◌<◌, ◌==◌, Bool, true, false, if◌then◌else◌, nat_eq, List, [], ◌∷◌, ◌++◌, length}
use Rattle.std.proofs.Common.{get_or, take, drop, slice_index, slice_index_or, refl, sym, ◌∙◌, ap, subst, arith, lit<, append_assoc, length-append}
use Rattle.std.specs.List.{onto_first, AllByRecursion}
use Rattle.std.specs.Str.{IsUtf8, IsAscii}
use Rattle.std.specs.Str.Lines.{strip_carriage_return}
use Rattle.std.proofs.lemmas.Bool.{eqb-true}
use Rattle.std.proofs.lemmas.List.{take_at, drop_at, append-nil}
use Rattle.std.proofs.lemmas.List.Splits.{slice_split-cons_yes, slice_split-cons_no}
use Rattle.std.proofs.lemmas.Str.{IsUtf8-append, IsUtf8-nil, IsUtf8-from_ascii, IsUtf8-take, IsUtf8-drop, IsCharBoundary-after_ascii, IsCharBoundary-at_seam}
use Rattle.ua_nodes.proofs.Pieces.{pieces}

index_seam : (front back : List ℕ) (c : ℕ) → get_or (front ++ c ∷ back) (length front) 0 ≡ c
index_seam [] back c = refl
index_seam (x ∷ front) back c = index_seam front back c

one_ascii : (c : ℕ) → c < 128 → IsAscii (c ∷ [])
one_ascii c small zero = small
one_ascii c small (suc i) = lit< tt

-- a cut at an ASCII octet
pub utf8_cut : (front back : List ℕ) (c : ℕ) → c < 128 → IsUtf8 (front ++ c ∷ back) → IsUtf8 front × IsUtf8 back
utf8_cut front back c small u =
    let bs = front ++ c ∷ back in
    let long = length-append front (c ∷ back) in
    let here = index_seam front back c in
    let behind : IsUtf8 (drop (length front + 1) bs) =
    IsUtf8-drop bs (length front + 1) u (IsCharBoundary-after_ascii bs (length front) u (omega arith) (omega arith)) in
    let is_back : drop (length front + 1) bs ≡ back = ap (drop (length front + 1)) (sym (append_assoc front (c ∷ []) back))
    ∙ drop_at (front ++ c ∷ []) back (length front + 1) (length-append front (c ∷ [])) in
    let back_utf8 : IsUtf8 back = subst IsUtf8 is_back behind in
    let with_c : IsUtf8 (c ∷ back) = IsUtf8-append (c ∷ []) back (IsUtf8-from_ascii (c ∷ []) (one_ascii c small)) back_utf8 in
    let before : IsUtf8 (take (length front) bs) = IsUtf8-take bs (length front) u (IsCharBoundary-at_seam bs front (c ∷ back) refl with_c) in
    (subst IsUtf8 (take_at front (c ∷ back) (length front) refl) before, back_utf8)

-- the first piece behind these octets, and the others
abbrev FirstUtf8 : List ℕ → List (List ℕ) → Type 0
FirstUtf8 front [] = ⊥
FirstUtf8 front (p ∷ ps) = IsUtf8 (front ++ p) × AllByRecursion IsUtf8 ps

onto_utf8 : (front : List ℕ) (x : ℕ) (ps : List (List ℕ)) → FirstUtf8 (front ++ x ∷ []) ps → FirstUtf8 front (onto_first x ps)
onto_utf8 front x [] h = absurd h
onto_utf8 front x (p ∷ ps) h = (subst IsUtf8 (append_assoc front (x ∷ []) p) h.0, h.1)

all_utf8 : (ps : List (List ℕ)) → FirstUtf8 [] ps → AllByRecursion IsUtf8 ps
all_utf8 [] h = tt
all_utf8 (p ∷ ps) h = (h.0, h.1)

first_utf8 : (c : ℕ) (front text : List ℕ) → c < 128 → IsUtf8 (front ++ text) → FirstUtf8 front (pieces c text)
first_utf8 c front [] small u = (u, tt)
first_utf8 c front (x ∷ xs) small u = by (nat_eq x c) refl (λ f v. first_utf8 c f xs small v)
  where
    by : (t : Bool) → nat_eq x c ≡ t → ((f : List ℕ) → IsUtf8 (f ++ xs) → FirstUtf8 f (pieces c xs)) → FirstUtf8 front (pieces c (x ∷ xs))
    by true e more =
        let cut = utf8_cut front xs c small (subst (λ (y : ℕ). IsUtf8 (front ++ y ∷ xs)) (eqb-true x c e) u) in
        subst (FirstUtf8 front) (sym (slice_split-cons_yes (λ b. nat_eq b c) x xs e)) (
          subst IsUtf8 (sym (append-nil front)) cut.0,
          all_utf8 (pieces c xs) (more [] cut.1),
        )
    by false e more =
        subst (FirstUtf8 front) (sym (slice_split-cons_no (λ b. nat_eq b c) x xs e))
        (onto_utf8 front x (pieces c xs) (more (front ++ x ∷ []) (subst IsUtf8 (sym (append_assoc front (x ∷ []) xs)) u)))

pub pieces_utf8 : (c : ℕ) (text : List ℕ) → c < 128 → IsUtf8 text → AllByRecursion IsUtf8 (pieces c text)
pieces_utf8 c text small u = all_utf8 (pieces c text) (first_utf8 c [] text small u)

-- a piece at a place, and none past the last
pub piece_utf8 : (i : ℕ) (ps : List (List ℕ)) → AllByRecursion IsUtf8 ps → IsUtf8 (slice_index_or ps i [])
piece_utf8 i [] h = IsUtf8-nil
piece_utf8 zero (p ∷ ps) h = h.0
piece_utf8 (suc i) (p ∷ ps) h = piece_utf8 i ps h.1

-- a text with its last octet apart
last_apart : (n : ℕ) (text : List ℕ) → length text ≡ suc n → text ≡ take n text ++ get_or text n 0 ∷ []
last_apart n [] e = absurd (omega arith)
last_apart zero (x ∷ []) e = refl
last_apart zero (x ∷ y ∷ ys) e = absurd (omega arith)
last_apart (suc n) (x ∷ xs) e = ap (λ (t : List ℕ). x ∷ t) (last_apart n xs (omega arith))

pub stripped_utf8 : (text : List ℕ) → IsUtf8 text → IsUtf8 (strip_carriage_return text)
stripped_utf8 [] u = u
stripped_utf8 (x ∷ xs) u = by (slice_index (x ∷ xs) (length (x ∷ xs) - 1) == 13) refl
  where
    by : (t : Bool) → (slice_index (x ∷ xs) (length (x ∷ xs) - 1) == 13) ≡ t → IsUtf8 (if t then take (length (x ∷ xs) - 1) (x ∷ xs) else (x ∷ xs))
    by false e = u
    by true e =
        let n = length (x ∷ xs) - 1 in
        let last = eqb-true (slice_index (x ∷ xs) n) 13 e in
        let apart = last_apart n (x ∷ xs) (omega arith) in
        (utf8_cut (take n (x ∷ xs)) [] 13 (lit< tt) (subst IsUtf8 (apart ∙ ap (λ (c : ℕ). take n (x ∷ xs) ++ c ∷ []) last) u)).0
