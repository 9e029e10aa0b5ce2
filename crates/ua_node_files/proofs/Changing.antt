-- The lines of a text that write nodes, and the nodes of those that are new, one at a time.
use Rattle.std.proofs.Common.{◌≡◌, ℕ, suc, ◌+◌, ◌<◌, ◌≤◌, Bool, true, false, List, [], ◌∷◌, ◌++◌, length, filter, map, cond, take, drop, get_or, Option}
use Rattle.std.proofs.Common.{Some, None, refl, sym, ◌∙◌, ap, subst, arith, append_assoc, append-nil, zero, ◌||◌, Ordering, Result, Ok, Err, IfOk}
use Rattle.std.specs.BTreeSet.{BTreeSet, IsFromIterResult, contains_by}
use Rattle.std.specs.Cmp.Lexicographic.{slice_cmp}
use Rattle.std.specs.List.{list_any, slice_get}
use Rattle.std.specs.Option.{IfSome, IsSome, option_copied}
use Rattle.std.specs.Ordering.{is_eq, nat_cmp}
use Rattle.std.specs.Str.{bytes_eq}
use Rattle.std.specs.Str.Lines.{strip_carriage_return}
use Rattle.std.proofs.Math.Seq.{take-length}
use Rattle.std.proofs.lemmas.List.{drop_all, length-map, map-append}
use Rattle.std.proofs.lemmas.Bool.{false≢true}
use Rattle.std.proofs.lemmas.List.Elements.{filter-append}
use Rattle.std.proofs.lemmas.Option.{slice_get-get_or}
use Rattle.std.proofs.lemmas.Map.Text.{is_eq-slice_cmp}
use Rattle.ua_nodes.specs.NodeFile.{WriteNodes, is_read, lines_of, node_lines}
use Rattle.ua_nodes.specs.Sound.{AreNodesSound, IsSoundNode}
use Rattle.ua_builtin.specs.declared.node_id.NodeId.{NodeId}
use Rattle.ua_nodes.specs.Table.{Nodes}
use Rattle.ua_nodes.specs.declared.node.Variable.{Variable}
use Rattle.ua_nodes.proofs.Files.{IsPiece, lines_more}
use Rattle.ua_nodes.proofs.Pieces.{pieces}
use Rattle.ua_node_files.specs.Changed.{Changes, changed_of, is_among, is_known_at, nodes_of_new, one_new, written_lines}
use denote.Ref.{Bor}

-- ---- a turn over the lines of a text

-- the lines up to a place that write nodes
abbrev pub written_to : List ℕ → ℕ → List (List ℕ)
written_to text n = filter is_read (take n (lines_of text))

line_more : (text : List ℕ) (k : ℕ) (x line : List ℕ) → IsPiece text k x → line ≡ strip_carriage_return x
    → written_to text (k + 1) ≡ written_to text k ++ filter is_read (line ∷ [])
line_more text k x line h same =
    ap (filter is_read) (lines_more (pieces 10 text) k x h.0 h.1 ∙ ap (λ (t : List ℕ). take k (lines_of text) ++ t ∷ []) (sym same))
    ∙ filter-append is_read (take k (lines_of text)) (line ∷ [])

-- a line more
pub turn_read : (text : List ℕ) (k : ℕ) (x line : List ℕ) (lines after : List (List ℕ)) → IsPiece text k x → lines ≡ written_to text k
    → line ≡ strip_carriage_return x
    → after ≡ lines ++ filter is_read (line ∷ []) → after ≡ written_to text (k + 1)
turn_read text k x line lines after h w same more =
    more ∙ ap (λ (t : List (List ℕ)). t ++ filter is_read (line ∷ [])) w ∙ sym (line_more text k x line h same)

-- a line that writes a node is added, and another one is not
pub pushed_line : (line : List ℕ) (old new : List (Bor (List ℕ))) (one : Bor (List ℕ)) → one.now ≡ line → is_read line ≡ true → new ≡ old ++ one ∷ []
    → map (λ (k : Bor (List ℕ)). k.now) new ≡ map (λ (k : Bor (List ℕ)). k.now) old ++ filter is_read (line ∷ [])
pushed_line line old new one same is more =
    let kept : line ∷ [] ≡ filter is_read (line ∷ []) = sym (ap (λ (t : Bool). cond t (line ∷ []) []) is) in
    ap (map (λ (k : Bor (List ℕ)). k.now)) more ∙ map-append (λ (k : Bor (List ℕ)). k.now) old (one ∷ [])
    ∙ ap (λ (t : List ℕ). map (λ (k : Bor (List ℕ)). k.now) old ++ t ∷ []) same ∙ ap (λ (t : List (List ℕ)). map (λ (k : Bor (List ℕ)). k.now) old ++ t) kept

pub left_line : (line : List ℕ) (old : List (List ℕ)) → is_read line ≡ false → old ≡ old ++ filter is_read (line ∷ [])
left_line line old is =
    let none : filter is_read (line ∷ []) ≡ [] = ap (λ (t : Bool). cond t (line ∷ []) []) is in
    sym (ap (λ (t : List (List ℕ)). old ++ t) none ∙ append-nil old)

pub turns_kept : (text : List ℕ) (k : ℕ) (lines : List (List ℕ)) → k ≡ length (pieces 10 text) → lines ≡ written_to text k → lines ≡ written_lines text
turns_kept text k lines e w =
    let all : k ≡ length (lines_of text) = e ∙ sym (length-map (pieces 10 text) strip_carriage_return) in
    w ∙ ap (filter is_read) (ap (λ (m : ℕ). take m (lines_of text)) all ∙ take-length (lines_of text))

-- ---- a set of lines

-- two texts are one, as texts that are borrowed
pub among_borrowed : (lines : List (Bor (List ℕ))) (line : List ℕ) → list_any (λ (k : Bor (List ℕ)). is_eq (slice_cmp nat_cmp line k.now)) lines
    ≡ is_among (map (λ (k : Bor (List ℕ)). k.now) lines) line
among_borrowed [] line = refl
among_borrowed (x ∷ xs) line =
    ap (λ (t : Bool). t || list_any (λ (k : Bor (List ℕ)). is_eq (slice_cmp nat_cmp line k.now)) xs) (is_eq-slice_cmp line x.now)
    ∙ ap (λ (t : Bool). bytes_eq line x.now || t) (among_borrowed xs line)

-- what a set has that was made of lines
abbrev pub str_cmp : Bor (List ℕ) → Bor (List ℕ) → Ordering
str_cmp x y = slice_cmp nat_cmp x.now y.now

pub set_has : {E : Type 0} (r : Result (BTreeSet (Bor (List ℕ))) E) (lines : List (Bor (List ℕ))) → IfOk r (λ known. IsFromIterResult str_cmp lines known)
    → IfOk r (λ known. (line : List ℕ) → contains_by (λ (k : Bor (List ℕ)). slice_cmp nat_cmp line k.now) known
    ≡ is_among (map (λ (k : Bor (List ℕ)). k.now) lines) line)
set_has (Ok known) lines h = λ line. h.0 (record { ref_ptr = (0, 0); now = line }) ∙ among_borrowed lines line
set_has (Err e) lines h = tt

-- ---- the nodes of new lines

-- the same by another test that says the same
pub new_by : (f g : List ℕ → Bool) → ((line : List ℕ) → f line ≡ g line) → (lines : List (List ℕ)) (nodes : Nodes)
    → nodes_of_new f lines nodes ≡ nodes_of_new g lines nodes
new_by f g h [] nodes = refl
new_by f g h (line ∷ lines) [] = refl
new_by f g h (line ∷ lines) (node ∷ nodes) =
    ap (λ (t : Bool). one_new t (Some node) ++ nodes_of_new f lines nodes) (h line)
    ∙ ap (λ (t : Nodes). one_new (g line) (Some node) ++ t) (new_by f g h lines nodes)

none_new : (f : List ℕ → Bool) (lines : List (List ℕ)) → nodes_of_new f lines [] ≡ []
none_new f [] = refl
none_new f (line ∷ lines) = refl

one_sound : (t : Bool) (node : NodeId × Variable) (rest : Nodes) → IsSoundNode node.0 node.1 → AreNodesSound rest
    → AreNodesSound (one_new t (Some node) ++ rest)
one_sound true node rest s r = r
one_sound false node rest s r = (s, r)

-- the nodes of new lines are sound where all are
pub new_sound : (f : List ℕ → Bool) (lines : List (List ℕ)) (nodes : Nodes) → AreNodesSound nodes → AreNodesSound (nodes_of_new f lines nodes)
new_sound f [] nodes s = tt
new_sound f (line ∷ lines) [] s = tt
new_sound f (line ∷ lines) (node ∷ nodes) s = one_sound (f line) node (nodes_of_new f lines nodes) s.0 (new_sound f lines nodes s.1)

-- what borrowed lines read
abbrev pub texts : List (Bor (List ℕ)) → List (List ℕ)
texts lines = map (λ (k : Bor (List ℕ)). k.now) lines

-- the nodes of the new lines from a place on
abbrev pub new_from : (List ℕ → Bool) → List (List ℕ) → Nodes → ℕ → Nodes
new_from f lines nodes k = nodes_of_new f (drop k lines) (drop k nodes)

-- those of the line at the place, and the others
one_from : (f : List ℕ → Bool) (lines : List (Bor (List ℕ))) (nodes : Nodes) (k : ℕ) → k < length lines
    → new_from f (texts lines) nodes k ≡ one_new (is_known_at f (slice_get lines k)) (slice_get nodes k) ++ new_from f (texts lines) nodes (suc k)
one_from f [] nodes k less = absurd (omega arith)
one_from f (l ∷ lines) [] zero less = sym (none_new f (texts lines))
one_from f (l ∷ lines) (node ∷ nodes) zero less = refl
one_from f (l ∷ lines) [] (suc k) less = none_new f (drop k (texts lines)) ∙ sym (none_new f (drop (suc k) (texts lines)))
one_from f (l ∷ lines) (node ∷ nodes) (suc k) less = one_from f lines nodes k (omega arith)

-- what `get` answers at a place of a list
pub got_at : (lines : List (Bor (List ℕ))) (k : ℕ) (r : Option (Bor (Bor (List ℕ)))) → k < length lines → IfSome r (λ x. x.now ≡ get_or lines k x.now)
    → (k < length lines → IsSome r) → option_copied r ≡ slice_get lines k
got_at lines k None less is some = absurd (false≢true (some less))
got_at lines k (Some x) less is some = sym (slice_get-get_or lines k x.now less ∙ ap (λ (t : Bor (List ℕ)). Some t) (sym is))

-- a place further
pub turn_new : (f : List ℕ → Bool) (lines : List (Bor (List ℕ))) (nodes : Nodes) (k : ℕ) (front after : Nodes) (is : Bool) (line : Option (Bor (List ℕ)))
    (found : Option (NodeId × Variable)) (all : Nodes) → k < length lines
    → is ≡ is_known_at f line → line ≡ slice_get lines k → found ≡ slice_get nodes k → after ≡ front ++ one_new is found
    → front ++ new_from f (texts lines) nodes k ≡ all → after ++ new_from f (texts lines) nodes (k + 1) ≡ all
turn_new f lines nodes k front after is line found all less known at finds more w =
    let next : k + 1 ≡ suc k = omega arith in
    let judged : is ≡ is_known_at f (slice_get lines k) = known ∙ ap (is_known_at f) at in
    ap (λ (n : ℕ). after ++ new_from f (texts lines) nodes n) next
    ∙ ap (λ (t : Nodes). t ++ new_from f (texts lines) nodes (suc k))
    (more ∙ ap (λ (t : Bool). front ++ one_new t found) judged
    ∙ ap (λ (t : Option (NodeId × Variable)). front ++ one_new (is_known_at f (slice_get lines k)) t) finds)
    ∙ append_assoc front (one_new (is_known_at f (slice_get lines k)) (slice_get nodes k)) (new_from f (texts lines) nodes (suc k))
    ∙ ap (λ (t : Nodes). front ++ t) (sym (one_from f lines nodes k less)) ∙ w

-- no line is left
pub from_end : (f : List ℕ → Bool) (lines : List (List ℕ)) (nodes : Nodes) (k : ℕ) (front all : Nodes) → length lines ≤ k
    → front ++ new_from f lines nodes k ≡ all → front ≡ all
from_end f lines nodes k front all le w =
    let none : drop k lines ≡ [] = drop_all k lines le in
    sym (append-nil front) ∙ ap (λ (t : List (List ℕ)). front ++ nodes_of_new f t (drop k nodes)) (sym none) ∙ w

-- ---- what a reading changes

-- the test by what a set has, and the lines of the two texts
pub by_texts : (f : List ℕ → Bool) (last text : List ℕ) (before lines : List (List ℕ)) (nodes : Nodes) → ((line : List ℕ) → f line ≡ is_among before line)
    → before ≡ written_lines last → lines ≡ written_lines text
    → nodes_of_new f lines nodes ≡ changed_of last text nodes
by_texts f last text before lines nodes h b l =
    new_by f (is_among (written_lines last)) (λ line. h line ∙ ap (λ (t : List (List ℕ)). is_among t line) b) lines nodes
    ∙ ap (λ (t : List (List ℕ)). nodes_of_new (is_among (written_lines last)) t nodes) l

pub changes_so : (last text : List ℕ) (changed nodes : Nodes) → WriteNodes (node_lines text) nodes → changed ≡ changed_of last text nodes
    → Changes last text changed
changes_so last text changed nodes w e = record { nodes = nodes; written = w; are = e }

pub sound_so : (last text : List ℕ) (changed nodes : Nodes) → AreNodesSound nodes → changed ≡ changed_of last text nodes → AreNodesSound changed
sound_so last text changed nodes s e = subst (λ (t : Nodes). AreNodesSound t) (sym e) (new_sound (is_among (written_lines last)) (written_lines text) nodes s)
