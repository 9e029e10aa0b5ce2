-- What a file writes is sound.
use Rattle.std.proofs.Common.{◌≡◌, ℕ, suc, ◌+◌, ◌≤◌, Bool, true, false, ◌&&◌, cond, nat_lt, List, [], ◌∷◌}
use Rattle.std.proofs.Common.{length, map, filter, Option, Some, None, refl, sym, ◌∙◌, ap, arith, lit<}
use Rattle.std.specs.List.{AllByRecursion, AllZip}
use Rattle.std.specs.Str.{IsUtf8}
use Rattle.std.specs.Str.Lines.{strip_carriage_return}
use Rattle.std.proofs.lemmas.Bool.{le-leb, ltb-true}
use Rattle.ua_builtin.specs.Counted.{text as text_format}
use Rattle.ua_builtin.specs.declared.node_id.NodeId.{NodeId}
use Rattle.ua_variant.specs.Encodable.{data_fields_encodable, data_value_encodable}
use Rattle.ua_variant.specs.Measure.{variant_depth}
use Rattle.ua_nodes.specs.declared.node.Variable.{Variable}
use Rattle.ua_nodes.specs.NodeFile.{FileLine, lines_of, numbered_lines, is_read, node_lines, fields}
use Rattle.ua_nodes.specs.NodeFile.{field, has_short_fields, name_denoted, WritesNode, WriteNodes}
use Rattle.ua_nodes.specs.Sound.{held_value, IsSoundNode, AreNodesSound}
use Rattle.ua_nodes.specs.Table.{Nodes}
use Rattle.ua_nodes.specs.ValueText.{most_value_octets}
use Rattle.ua_wire.proofs.Readers.{both_true}
use Rattle.ua_nodes.proofs.Fits.{text_fits}
use Rattle.ua_nodes.proofs.IdFits.{node_fits}
use Rattle.ua_nodes.proofs.Pieces.{pieces}
use Rattle.ua_nodes.proofs.Utf8Pieces.{pieces_utf8, piece_utf8, stripped_utf8}
use Rattle.ua_nodes.proofs.ValueFits.{value_fits, ValueFits}

short_is : (text : List ℕ) → has_short_fields text ≡ true → length text ≤ most_value_octets
short_is text h = let less = ltb-true (length text) (suc most_value_octets) h in omega arith

name_fits : (text : List ℕ) (name : Option (List ℕ)) → IsUtf8 text → name_denoted text ≡ Some name → text_format.encodable name ≡ true
name_fits text name u e = by (nat_lt 0 (length text) && has_short_fields text) refl e
  where
    by : (t : Bool) → (nat_lt 0 (length text) && has_short_fields text) ≡ t → ◌≡◌ {A = Option (Option (List ℕ))} (cond t (Some (Some text)) None) (Some name)
        → text_format.encodable name ≡ true
    by false h f = absurd cc
    by true h f =
        let is : Some text ≡ name = cc in
        let short = short_is text (both_true (nat_lt 0 (length text)) (has_short_fields text) h).1 in
        ap (text_format).encodable (sym is) ∙ text_fits text u (omega arith)

-- what a node without a status and a source time holds
held_fits : (v : Variable) → v.status ≡ None → v.source_time ≡ None → v.source_picoseconds ≡ None → ValueFits v.kind v.array v.value
    → data_value_encodable (held_value v) ≡ true
unfolding data_fields_encodable
held_fits v s t p w =
    let one = w.depth in
    let low = le-leb (1 + variant_depth v.value) 100 (omega arith) in
    let fits = w.fits in
    rw (s, t, p, low, fits) refl

field_utf8 : (line : List ℕ) (i : ℕ) → IsUtf8 line → IsUtf8 (field i line)
field_utf8 line i u = piece_utf8 i (fields line) (pieces_utf8 9 line (lit< tt) u)

pub line_sound : (line : List ℕ) (node : NodeId × Variable) → IsUtf8 line → WritesNode line node → IsSoundNode node.0 node.1
line_sound line node u w =
    let value = value_fits node.1.kind node.1.array (field 4 line) node.1.value (field_utf8 line 4 u) w.value in
    let short = short_is (field 0 line) w.id.0 in
    record {
      id_fits = node_fits node.0 (field 0 line) w.id.1 (field_utf8 line 0 u) (omega arith);
      name_fits = name_fits (field 2 line) node.1.name (field_utf8 line 2 u) w.name;
      of_type = value.of_type;
      value_fits = held_fits node.1 w.status w.source_time w.source_picoseconds value;
    }

-- ---- all lines

abbrev AreUtf8 : List FileLine → Type 0
AreUtf8 lines = AllByRecursion (λ line. IsUtf8 line.text) lines

stripped_all : (lines : List (List ℕ)) → AllByRecursion IsUtf8 lines → AllByRecursion IsUtf8 (map strip_carriage_return lines)
stripped_all [] h = tt
stripped_all (line ∷ lines) h = (stripped_utf8 line h.0, stripped_all lines h.1)

numbered_utf8 : (n : ℕ) (lines : List (List ℕ)) → AllByRecursion IsUtf8 lines → AreUtf8 (numbered_lines n lines)
numbered_utf8 n [] h = tt
numbered_utf8 n (line ∷ lines) h = (h.0, numbered_utf8 (suc n) lines h.1)

kept_utf8 : (lines : List FileLine) → AreUtf8 lines → AreUtf8 (filter (λ line. is_read line.text) lines)
kept_utf8 [] h = tt
kept_utf8 (line ∷ lines) h = by (is_read line.text) (kept_utf8 lines h.1)
  where
    by : (t : Bool) → AreUtf8 (filter (λ line. is_read line.text) lines)
        → AreUtf8 (cond t (line ∷ filter (λ line. is_read line.text) lines) (filter (λ line. is_read line.text) lines))
    by true more = (h.0, more)
    by false more = more

lines_utf8 : (text : List ℕ) → IsUtf8 text → AreUtf8 (node_lines text)
lines_utf8 text u =
    kept_utf8 (numbered_lines 1 (lines_of text)) (numbered_utf8 1 (lines_of text) (stripped_all (pieces 10 text) (pieces_utf8 10 text (lit< tt) u)))

each_sound : (lines : List FileLine) (nodes : Nodes) → AreUtf8 lines → AllZip (λ line node. WritesNode line.text node) lines nodes → AreNodesSound nodes
each_sound [] [] u w = tt
each_sound [] (node ∷ nodes) u w = absurd w
each_sound (line ∷ lines) [] u w = absurd w
each_sound (line ∷ lines) (node ∷ nodes) u w = (line_sound line.text node u.0 w.0, each_sound lines nodes u.1 w.1)

pub file_sound : (text : List ℕ) (nodes : Nodes) → IsUtf8 text → WriteNodes (node_lines text) nodes → AreNodesSound nodes
file_sound text nodes u w = each_sound (node_lines text) nodes (lines_utf8 text u) w.each
