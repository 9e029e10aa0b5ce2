-- The lines of a file, one at a time.
use Rattle.std.proofs.Common.{◌≡◌, ◌≢◌, ℕ, suc, ◌+◌, ◌<◌, ◌≤◌, ◌-◌, ◌==◌, MatchOption, nat_eq, Bool, true, false, List, [], ◌∷◌, ◌++◌, length, map}
use Rattle.std.proofs.Common.{filter, cond, take, drop, get_or, Option, Some, None, refl, sym, ◌∙◌, ap, subst, arith, append-nil, length-append}
use Rattle.std.specs.List.{AllZip, slice_split}
use Rattle.std.specs.Option.{unwrap_or}
use denote.Ref.{Bor}
use Rattle.ua_nodes.proofs.Pieces.{pieces}
use Rattle.std.specs.Str.Lines.{strip_carriage_return}
use Rattle.std.proofs.Math.ListN.{get_or-map}
use Rattle.std.proofs.Math.Seq.{drop-cons, get_or-append_seam, take-append_seam, take-length}
use Rattle.std.proofs.lemmas.Bool.{ne_eqb}
use Rattle.std.proofs.lemmas.List.{take_more, take-append-drop, length-map, length-take-le}
use Rattle.std.proofs.lemmas.List.Splits.{length-slice_split}
use Rattle.std.proofs.lemmas.List.Sums.{count_by-le-length}
use Rattle.std.proofs.lemmas.List.Elements.{filter-append}
use Rattle.std.proofs.lemmas.Slice.Zip.{all_zipped_more}
use Rattle.ua_builtin.specs.declared.node_id.NodeId.{NodeId}
use Rattle.ua_nodes.specs.declared.fault.LineReason.{LineReason}
use Rattle.ua_nodes.specs.declared.node.Variable.{Variable}
use Rattle.ua_nodes.specs.LineFault.{load_fault}
use Rattle.ua_nodes.specs.NodeFile.{FileLine, lines_of, node_lines, numbered_lines, is_read, WritesNode}
use Rattle.ua_nodes.specs.NodeFile.{IsFirstReason, WriteNodes, IsFirstBad, RefusesNodeFile, AddsNodeOfLine, RefusesLine}
use Rattle.ua_nodes.specs.declared.fault.LineFault.{LineFault}
use Rattle.ua_nodes.specs.declared.fault.LineFault.TheVariants.{Bad, NoMemory}
use Rattle.ua_nodes.specs.Table.{Nodes}

-- the lines that are read, from a number on
abbrev pub read_from : ℕ → List (List ℕ) → List FileLine
read_from n lines = filter (λ line. is_read line.text) (numbered_lines n lines)

abbrev pub Writes : FileLine → NodeId × Variable → Type 0
Writes line node = WritesNode line.text node

abbrev pub one_line : ℕ → List ℕ → FileLine
one_line n text = record { number = n; text = text }

pub numbered_append : (n : ℕ) (xs ys : List (List ℕ)) → numbered_lines n (xs ++ ys) ≡ numbered_lines n xs ++ numbered_lines (n + length xs) ys
numbered_append n [] ys = ap (λ (k : ℕ). numbered_lines k ys) (omega arith)
numbered_append n (x ∷ xs) ys =
    ap (λ (t : List FileLine). one_line n x ∷ t) (numbered_append (suc n) xs ys
    ∙ ap (λ (k : ℕ). numbered_lines (suc n) xs ++ numbered_lines k ys) (omega arith))

pub read_append : (n : ℕ) (xs ys : List (List ℕ)) → read_from n (xs ++ ys) ≡ read_from n xs ++ read_from (n + length xs) ys
read_append n xs ys = ap (filter (λ line. is_read line.text)) (numbered_append n xs ys)
    ∙ filter-append (λ line. is_read line.text) (numbered_lines n xs) (numbered_lines (n + length xs) ys)

-- a line that is read stands in front of those behind it
pub read_cons : (n : ℕ) (x : List ℕ) (xs : List (List ℕ)) → is_read x ≡ true → read_from n (x ∷ xs) ≡ one_line n x ∷ read_from (suc n) xs
read_cons n x xs e = ap (λ (t : Bool). cond t (one_line n x ∷ read_from (suc n) xs) (read_from (suc n) xs)) e

pub skip_cons : (n : ℕ) (x : List ℕ) (xs : List (List ℕ)) → is_read x ≡ false → read_from n (x ∷ xs) ≡ read_from (suc n) xs
skip_cons n x xs e = ap (λ (t : Bool). cond t (one_line n x ∷ read_from (suc n) xs) (read_from (suc n) xs)) e

-- what the first lines write, and the next one
pub write_more : (xs : List (List ℕ)) (x : List ℕ) (nodes after : Nodes) → WriteNodes (read_from 1 xs) nodes → AddsNodeOfLine x nodes after
    → WriteNodes (read_from 1 (xs ++ x ∷ [])) after
write_more xs x nodes after w a = by (is_read x) refl
  where
    by : (t : Bool) → is_read x ≡ t → WriteNodes (read_from 1 (xs ++ x ∷ [])) after
    by true e =
        let more = a.0 e in
        let lines : read_from 1 (xs ++ x ∷ []) ≡ read_from 1 xs ++ one_line (1 + length xs) x ∷ [] =
        read_append 1 xs (x ∷ []) ∙ ap (λ (t : List FileLine). read_from 1 xs ++ t) (read_cons (1 + length xs) x [] e) in
        let each : AllZip Writes (read_from 1 xs ++ one_line (1 + length xs) x ∷ []) (nodes ++ more.0 ∷ []) =
        all_zipped_more Writes (read_from 1 xs) nodes (one_line (1 + length xs) x) more.0 w.each more.1 in
        record {
          each = subst (λ (t : Nodes). AllZip Writes (read_from 1 (xs ++ x ∷ [])) t) (sym more.2)
              (subst (λ (t : List FileLine). AllZip Writes t (nodes ++ more.0 ∷ [])) (sym lines) each);
          distinct = more.3;
        }
    by false e =
        let lines : read_from 1 (xs ++ x ∷ []) ≡ read_from 1 xs =
        read_append 1 xs (x ∷ []) ∙ ap (λ (t : List FileLine). read_from 1 xs ++ t) (skip_cons (1 + length xs) x [] e) ∙ append-nil (read_from 1 xs) in
        subst (λ (t : Nodes). WriteNodes (read_from 1 (xs ++ x ∷ [])) t) (sym (a.1 e)) (subst (λ (t : List FileLine). WriteNodes t nodes) (sym lines) w)

-- a bad line behind lines that write nodes
pub bad_line : (xs : List (List ℕ)) (x : List ℕ) (ys : List (List ℕ)) (nodes : Nodes) (reason : LineReason) → WriteNodes (read_from 1 xs) nodes
    → is_read x ≡ true → IsFirstReason reason nodes x
    → IsFirstBad (read_from 1 (xs ++ x ∷ ys)) (1 + length xs) reason
bad_line xs x ys nodes reason w e bad = record {
  front = read_from 1 xs;
  line = x;
  back = read_from (suc (1 + length xs)) ys;
  nodes = nodes;
  parts = read_append 1 xs (x ∷ ys) ∙ ap (λ (t : List FileLine). read_from 1 xs ++ t) (read_cons (1 + length xs) x ys e);
  good = w;
  bad = bad;
}

-- a fault at a line, as a fault of the file
pub refuses_at : (xs : List (List ℕ)) (x : List ℕ) (ys : List (List ℕ)) (nodes : Nodes) (fault : LineFault) → WriteNodes (read_from 1 xs) nodes
    → RefusesLine x nodes fault
    → RefusesNodeFile (read_from 1 (xs ++ x ∷ ys)) (load_fault (1 + length xs) fault)
refuses_at xs x ys nodes (Bad reason) w r = bad_line xs x ys nodes reason w r.0 r.1
refuses_at xs x ys nodes NoMemory w r = tt

-- ---- the line at a place

-- the lines up to a place, that line, and the others
pub lines_at : (pieces : List (List ℕ)) (n : ℕ) (x : List ℕ) → n < length pieces → x ≡ get_or pieces n x
    → map strip_carriage_return pieces ≡ take n (map strip_carriage_return pieces) ++ strip_carriage_return x ∷ drop (suc n) (map strip_carriage_return pieces)
lines_at pieces n x less e =
    let lines = map strip_carriage_return pieces in
    let short : n < length lines = omega (arith, length-map pieces strip_carriage_return) in
    let here : get_or lines n (strip_carriage_return x) ≡ strip_carriage_return x = get_or-map strip_carriage_return pieces n x
    ∙ ap strip_carriage_return (sym e) in
    sym (take-append-drop n lines) ∙ ap (λ (t : List (List ℕ)). take n lines ++ t) (drop-cons lines n (strip_carriage_return x) short
    ∙ ap (λ (t : List ℕ). t ∷ drop (suc n) lines) here)

pub lines_more : (pieces : List (List ℕ)) (n : ℕ) (x : List ℕ) → n < length pieces → x ≡ get_or pieces n x
    → take (n + 1) (map strip_carriage_return pieces) ≡ take n (map strip_carriage_return pieces) ++ strip_carriage_return x ∷ []
lines_more pieces n x less e =
    let lines = map strip_carriage_return pieces in
    let short : n < length lines = omega (arith, length-map pieces strip_carriage_return) in
    let here : get_or lines n (strip_carriage_return x) ≡ strip_carriage_return x = get_or-map strip_carriage_return pieces n x
    ∙ ap strip_carriage_return (sym e) in
    take_more lines n (strip_carriage_return x) short ∙ ap (λ (t : List ℕ). take n lines ++ t ∷ []) here

-- a text has at most one piece more than octets
pub pieces_few : (c : ℕ) (text : List ℕ) → length (slice_split (λ b. nat_eq b c) text) ≤ length text + 1
pieces_few c text = omega (arith, length-slice_split (λ (b : ℕ). nat_eq b c) text, count_by-le-length (λ (b : ℕ). nat_eq b c) text)

pub length_first : (pieces : List (List ℕ)) (n : ℕ) → n ≤ length pieces → length (take n (map strip_carriage_return pieces)) ≡ n
length_first pieces n le = length-take-le n (map strip_carriage_return pieces) (omega (arith, length-map pieces strip_carriage_return))

-- ---- a turn over the lines of a text

-- the piece at a place
abbrev pub IsPiece : List ℕ → ℕ → List ℕ → Type 0
IsPiece text n x = (n < length (pieces 10 text)) × (x ≡ get_or (pieces 10 text) n x)

at_count : (text : List ℕ) (n k : ℕ) (x : List ℕ) → n ≡ k → IsPiece text k x → IsPiece text n x
at_count text n k x e h = subst (λ (m : ℕ). IsPiece text m x) (sym e) h

pub turn_more : (text : List ℕ) (n k : ℕ) (x : List ℕ) (nodes after : Nodes) → n ≡ k → IsPiece text k x
    → WriteNodes (read_from 1 (take n (lines_of text))) nodes → AddsNodeOfLine (strip_carriage_return x) nodes after
    → WriteNodes (read_from 1 (take (n + 1) (lines_of text))) after
turn_more text n k x nodes after e h w a =
    let here = at_count text n k x e h in
    subst (λ (t : List (List ℕ)). WriteNodes (read_from 1 t) after) (sym (lines_more (pieces 10 text) n x here.0 here.1))
    (write_more (take n (lines_of text)) (strip_carriage_return x) nodes after w a)

pub turn_fault : (text : List ℕ) (n k : ℕ) (x : List ℕ) (nodes : Nodes) (fault : LineFault) → n ≡ k → IsPiece text k x
    → WriteNodes (read_from 1 (take n (lines_of text))) nodes → RefusesLine (strip_carriage_return x) nodes fault
    → RefusesNodeFile (node_lines text) (load_fault (n + 1) fault)
turn_fault text n k x nodes fault e h w r =
    let here = at_count text n k x e h in
    let front = take n (lines_of text) in
    let number : 1 + length front ≡ n + 1 = omega (arith, length_first (pieces 10 text) n (omega arith)) in
    let at : RefusesNodeFile (read_from 1 (front ++ strip_carriage_return x ∷ drop (suc n) (lines_of text))) (load_fault (1 + length front) fault) =
    refuses_at front (strip_carriage_return x) (drop (suc n) (lines_of text)) nodes fault w r in
    subst (λ (m : ℕ). RefusesNodeFile (node_lines text) (load_fault m fault)) number
    (subst (λ (t : List (List ℕ)). RefusesNodeFile (read_from 1 t) (load_fault (1 + length front) fault)) (sym (lines_at (pieces 10 text) n x here.0 here.1))
    at)

pub turns_end : (text : List ℕ) (n k : ℕ) (nodes : Nodes) → n ≡ k → k ≡ length (pieces 10 text) → WriteNodes (read_from 1 (take n (lines_of text))) nodes
    → WriteNodes (node_lines text) nodes
turns_end text n k nodes e f w =
    let all : n ≡ length (lines_of text) = e ∙ f ∙ sym (length-map (pieces 10 text) strip_carriage_return) in
    subst (λ (t : List (List ℕ)). WriteNodes (read_from 1 t) nodes) (ap (λ (m : ℕ). take m (lines_of text)) all ∙ take-length (lines_of text)) w

-- a number that is not past the pieces of a text fits where the text's octets do
pub count_fits : (text : List ℕ) (n k : ℕ) (x : List ℕ) → n ≡ k → IsPiece text k x → n + 1 ≤ length text + 1
count_fits text n k x e h = let here = at_count text n k x e h in let few = pieces_few 10 text in let less = here.0 in omega arith

-- ---- one CR at the end

ends_so : (line front : List ℕ) → line ≡ front ++ 13 ∷ [] → strip_carriage_return line ≡ front
ends_so line front e =
    ap strip_carriage_return e
    ∙ ap (λ (t : ℕ). cond (t == 13) (take (length (front ++ 13 ∷ []) - 1) (front ++ 13 ∷ [])) (front ++ 13 ∷ [])) last
    ∙ ap (λ (m : ℕ). take m (front ++ 13 ∷ [])) short ∙ take-append_seam front (13 ∷ [])
  where
    short : length (front ++ 13 ∷ []) - 1 ≡ length front
    short = omega (arith, length-append front (13 ∷ []))

    last : get_or (front ++ 13 ∷ []) (length (front ++ 13 ∷ []) - 1) 0 ≡ 13
    last = ap (λ (m : ℕ). get_or (front ++ 13 ∷ []) m 0) short ∙ get_or-append_seam front 13 [] 0

ends_otherwise : (line : List ℕ) → ((front : List ℕ) → line ≢ front ++ 13 ∷ []) → strip_carriage_return line ≡ line
ends_otherwise [] h = refl
ends_otherwise (x ∷ xs) h = ap (λ (t : Bool). cond t (take (length (x ∷ xs) - 1) (x ∷ xs)) (x ∷ xs)) (ne_eqb (get_or (x ∷ xs) (length (x ∷ xs) - 1) 0) 13 other)
  where
    other : get_or (x ∷ xs) (length (x ∷ xs) - 1) 0 ≢ 13
    other e =
        let whole : take (length xs + 1) (x ∷ xs) ≡ take (length xs) (x ∷ xs) ++ get_or (x ∷ xs) (length xs) 0 ∷ [] =
        take_more (x ∷ xs) (length xs) 0 (omega arith) in
        let long : length xs + 1 ≡ length (x ∷ xs) = omega arith in
        let all : take (length xs + 1) (x ∷ xs) ≡ x ∷ xs = ap (λ (m : ℕ). take m (x ∷ xs)) long ∙ take-length (x ∷ xs) in
        let short : length xs ≡ length (x ∷ xs) - 1 = omega arith in
        let last : get_or (x ∷ xs) (length xs) 0 ≡ 13 = ap (λ (m : ℕ). get_or (x ∷ xs) m 0) short ∙ e in
        h (take (length xs) (x ∷ xs)) (sym all ∙ whole ∙ ap (λ (c : ℕ). take (length xs) (x ∷ xs) ++ c ∷ []) last)

-- what `strip_suffix` leaves, or the line itself
pub without_end : (line : Bor (List ℕ)) (r : Option (Bor (List ℕ)))
    → MatchOption r ((front : List ℕ) → line.now ≢ front ++ 13 ∷ []) (λ x. line.now ≡ x.now ++ 13 ∷ [])
    → (unwrap_or r line).now ≡ strip_carriage_return line.now
without_end line None h = sym (ends_otherwise line.now h)
without_end line (Some x) h = sym (ends_so line.now x.now h)
