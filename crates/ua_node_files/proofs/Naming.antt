-- The lines of a file that name namespaces, one at a time.
use Rattle.std.proofs.Common.{◌≡◌, ℕ, suc, ◌+◌, Bool, true, false, List, [], ◌∷◌, ◌++◌, length}
use Rattle.std.proofs.Common.{filter, cond, take, drop, sym, ◌∙◌, ap, subst, arith, append-nil}
use Rattle.std.specs.Str.Lines.{strip_carriage_return}
use Rattle.std.proofs.Math.Seq.{take-length}
use Rattle.std.proofs.lemmas.List.{length-map}
use Rattle.std.proofs.lemmas.List.Elements.{filter-append}
use Rattle.ua_nodes.specs.NodeFile.{FileLine, lines_of, numbered_lines}
use Rattle.ua_nodes.proofs.Files.{IsPiece, lines_at, lines_more, length_first, numbered_append, one_line}
use Rattle.ua_nodes.proofs.Pieces.{pieces}
use Rattle.ua_node_files.specs.Namespaces.{AreNamed, AreNamedFrom, IsFirstUnnamed, NamesUri, first_index, is_namespace_line, namespace_lines}

-- the lines that name namespaces, from a number on
abbrev pub named_from : ℕ → List (List ℕ) → List FileLine
named_from n lines = filter (λ line. is_namespace_line line.text) (numbered_lines n lines)

named_append : (n : ℕ) (xs ys : List (List ℕ)) → named_from n (xs ++ ys) ≡ named_from n xs ++ named_from (n + length xs) ys
named_append n xs ys =
    ap (filter (λ line. is_namespace_line line.text)) (numbered_append n xs ys)
    ∙ filter-append (λ line. is_namespace_line line.text) (numbered_lines n xs) (numbered_lines (n + length xs) ys)

-- a line that names one stands in front of those behind it, and one that names none is left out
named_cons : (n : ℕ) (x : List ℕ) (xs : List (List ℕ)) → is_namespace_line x ≡ true → named_from n (x ∷ xs) ≡ one_line n x ∷ named_from (suc n) xs
named_cons n x xs e = ap (λ (t : Bool). cond t (one_line n x ∷ named_from (suc n) xs) (named_from (suc n) xs)) e

skip_cons : (n : ℕ) (x : List ℕ) (xs : List (List ℕ)) → is_namespace_line x ≡ false → named_from n (x ∷ xs) ≡ named_from (suc n) xs
skip_cons n x xs e = ap (λ (t : Bool). cond t (one_line n x ∷ named_from (suc n) xs) (named_from (suc n) xs)) e

-- what lines name, and one line more
named_more : (index : ℕ) (lines : List FileLine) (uris : List (List ℕ)) (line : FileLine) (uri : List ℕ) → AreNamedFrom index lines uris
    → NamesUri (index + length uris) line.text uri
    → AreNamedFrom index (lines ++ line ∷ []) (uris ++ uri ∷ [])
named_more index [] [] line uri w h = (subst (λ (i : ℕ). NamesUri i line.text uri) (omega arith) h, tt)
named_more index [] (u ∷ us) line uri w h = absurd w
named_more index (l ∷ ls) [] line uri w h = absurd w
named_more index (l ∷ ls) (u ∷ us) line uri w h = (w.0, named_more (suc index) ls us line uri w.1 (subst (λ (i : ℕ). NamesUri i line.text uri) (omega arith) h))

-- ---- a turn over the lines of a text

at_count : (text : List ℕ) (n k : ℕ) (x : List ℕ) → n ≡ k → IsPiece text k x → IsPiece text n x
at_count text n k x e h = subst (λ (m : ℕ). IsPiece text m x) (sym e) h

-- the lines up to a place name these
abbrev pub HasNamed : List ℕ → ℕ → List (List ℕ) → Type 0
HasNamed text n uris = AreNamed (named_from 1 (take n (lines_of text))) uris

-- a URI more is named by the line at that place, of which this is without its CR
pub turn_named : (text : List ℕ) (n k : ℕ) (x line : List ℕ) (uris : List (List ℕ)) (uri : List ℕ) (after : List (List ℕ)) (index : ℕ) → n ≡ k
    → IsPiece text k x → HasNamed text n uris
    → line ≡ strip_carriage_return x → is_namespace_line line ≡ true → index ≡ first_index + length uris → NamesUri index line uri → after ≡ uris ++ uri ∷ []
    → HasNamed text (n + 1) after
turn_named text n k x line uris uri after index e h w same is place names more =
    let here = at_count text n k x e h in
    let front = take n (lines_of text) in
    let lines : named_from 1 (front ++ line ∷ []) ≡ named_from 1 front ++ one_line (1 + length front) line ∷ [] =
    named_append 1 front (line ∷ []) ∙ ap (λ (t : List FileLine). named_from 1 front ++ t) (named_cons (1 + length front) line [] is) in
    let long : take (n + 1) (lines_of text) ≡ front ++ line ∷ [] = lines_more (pieces 10 text) n x here.0 here.1
    ∙ ap (λ (t : List ℕ). front ++ t ∷ []) (sym same) in
    let all : AreNamed (named_from 1 front ++ one_line (1 + length front) line ∷ []) (uris ++ uri ∷ []) =
    named_more first_index (named_from 1 front) uris (one_line (1 + length front) line) uri w (subst (λ (i : ℕ). NamesUri i line uri) place names) in
    subst (λ (t : List (List ℕ)). AreNamed (named_from 1 (take (n + 1) (lines_of text))) t) (sym more)
    (subst (λ (t : List FileLine). AreNamed t (uris ++ uri ∷ [])) (sym (ap (named_from 1) long ∙ lines)) all)

pub turn_skipped : (text : List ℕ) (n k : ℕ) (x line : List ℕ) (uris : List (List ℕ)) → n ≡ k → IsPiece text k x → HasNamed text n uris
    → line ≡ strip_carriage_return x
    → is_namespace_line line ≡ false → HasNamed text (n + 1) uris
turn_skipped text n k x line uris e h w same is =
    let here = at_count text n k x e h in
    let front = take n (lines_of text) in
    let lines : named_from 1 (front ++ line ∷ []) ≡ named_from 1 front =
    named_append 1 front (line ∷ []) ∙ ap (λ (t : List FileLine). named_from 1 front ++ t) (skip_cons (1 + length front) line [] is)
    ∙ append-nil (named_from 1 front) in
    let long : take (n + 1) (lines_of text) ≡ front ++ line ∷ [] = lines_more (pieces 10 text) n x here.0 here.1
    ∙ ap (λ (t : List ℕ). front ++ t ∷ []) (sym same) in
    subst (λ (t : List FileLine). AreNamed t uris) (sym (ap (named_from 1) long ∙ lines)) w

pub turn_refused : (text : List ℕ) (n k : ℕ) (x line : List ℕ) (uris : List (List ℕ)) (index : ℕ) → n ≡ k → IsPiece text k x → HasNamed text n uris
    → line ≡ strip_carriage_return x
    → is_namespace_line line ≡ true → index ≡ first_index + length uris → ((uri : List ℕ) → ¬ (NamesUri index line uri))
    → IsFirstUnnamed (namespace_lines text) (n + 1)
turn_refused text n k x line uris index e h w same is place none =
    let here = at_count text n k x e h in
    let front = take n (lines_of text) in
    let back = drop (suc n) (lines_of text) in
    let number : 1 + length front ≡ n + 1 = omega (arith, length_first (pieces 10 text) n (omega arith)) in
    let long : lines_of text ≡ front ++ line ∷ back = lines_at (pieces 10 text) n x here.0 here.1 ∙ ap (λ (t : List ℕ). front ++ t ∷ back) (sym same) in
    let lines : namespace_lines text ≡ named_from 1 front ++ one_line (1 + length front) line ∷ named_from (suc (1 + length front)) back =
    ap (named_from 1) long ∙ named_append 1 front (line ∷ back)
    ∙ ap (λ (t : List FileLine). named_from 1 front ++ t) (named_cons (1 + length front) line back is) in
    record {
      front = named_from 1 front;
      line = line;
      back = named_from (suc (1 + length front)) back;
      uris = uris;
      parts = lines ∙ ap (λ (m : ℕ). named_from 1 front ++ one_line m line ∷ named_from (suc (1 + length front)) back) number;
      good = w;
      bad = λ uri names. none uri (subst (λ (i : ℕ). NamesUri i line uri) (sym place) names);
    }

pub turns_named : (text : List ℕ) (n k : ℕ) (uris : List (List ℕ)) → n ≡ k → k ≡ length (pieces 10 text) → HasNamed text n uris
    → AreNamed (namespace_lines text) uris
turns_named text n k uris e f w =
    let all : n ≡ length (lines_of text) = e ∙ f ∙ sym (length-map (pieces 10 text) strip_carriage_return) in
    subst (λ (t : List (List ℕ)). AreNamed (named_from 1 t) uris) (ap (λ (m : ℕ). take m (lines_of text)) all ∙ take-length (lines_of text)) w
