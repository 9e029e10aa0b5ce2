-- Node files: the nodes that the lines of a text define, and why a line is rejected.
use Rattle.std.specs.Prelude.{◌≡◌, ◌≢◌, ℕ, suc, ◌<◌, Bool, true, false, not, ◌&&◌, cond, nat_eq, nat_lt, map, filter, List}
use Rattle.std.specs.Prelude.{[], ◌∷◌, ◌++◌, length, slice_index_or, Option, None, Some, IsSome, Result, Ok, Err, codes}
use Rattle.std.specs.List.{slice_split, AllZip, IsDistinct}
use Rattle.std.specs.Map.{keys_of}
use Rattle.std.specs.Str.{bytes_eq}
use Rattle.std.specs.Str.Lines.{strip_carriage_return}
use Rattle.ua_builtin.specs.Exact.{◌>>=◌}
use Rattle.ua_builtin.specs.NodeText.{NamesNode}
use Rattle.ua_builtin.specs.declared.node_id.NodeId.{NodeId}
use Rattle.ua_nodes.specs.declared.fault.LineReason.{LineReason}
use Rattle.ua_nodes.specs.declared.fault.LineReason.TheVariants.{Fields, Node, Access, Name, Kind, Value, Duplicate}
use Rattle.ua_nodes.specs.declared.fault.LineFault.{LineFault}
use Rattle.ua_nodes.specs.declared.fault.LineFault.TheVariants.{Bad, NoMemory}
use Rattle.ua_nodes.specs.declared.fault.LoadFault.{LoadFault}
use Rattle.ua_nodes.specs.declared.fault.LoadFault.TheVariants.{Line, OutOfMemory}
use Rattle.ua_nodes.specs.declared.node.Access.{Access as Rights}
use Rattle.ua_nodes.specs.declared.node.Node.{Node as Record}
use Rattle.ua_nodes.specs.declared.node.Variable.{Variable}
use Rattle.ua_nodes.specs.Table.{Nodes, node_at, same_id, variable_of}
use Rattle.ua_nodes.specs.TypeName.{type_denoted}
use Rattle.ua_nodes.specs.ValueText.{value_denoted, most_value_octets}

-- ---- the lines of a file

-- a line of a file and its number
pub record FileLine : Type 0 where
  pub number : ℕ
  pub text : List ℕ

-- the lines of a text: they end at each LF, the last one at the end; one CR at the end of a line is
-- dropped
abbrev pub lines_of : List ℕ → List (List ℕ)
lines_of text = map strip_carriage_return (slice_split (λ b. nat_eq b 10) text)

-- lines with their numbers, from the one given on
abbrev pub numbered_lines : ℕ → List (List ℕ) → List FileLine
numbered_lines n [] = []
numbered_lines n (line ∷ lines) = record { number = n; text = line } ∷ numbered_lines (suc n) lines

-- a line is read unless it is empty or begins with `#`
abbrev pub is_read : List ℕ → Bool
is_read [] = false
is_read (c ∷ cs) = not (nat_eq c 35)

-- the lines that are read; those that are skipped are counted too
abbrev pub node_lines : List ℕ → List FileLine
node_lines text = filter (λ line. is_read line.text) (numbered_lines 1 (lines_of text))

-- ---- the fields of a line

-- the fields: the parts between the tabs
abbrev pub fields : List ℕ → List (List ℕ)
fields line = slice_split (λ b. nat_eq b 9) line

-- the field at an index
abbrev pub field : ℕ → List ℕ → List ℕ
field i line = slice_index_or (fields line) i []

-- no field has more bytes than a value
abbrev pub has_short_fields : List ℕ → Bool
has_short_fields text = nat_lt (length text) (suc most_value_octets)

-- the text names the NodeId (OPC 10000-6, 5.3.1.10)
abbrev pub NamesId : List ℕ → NodeId → Type 0
NamesId text id = (has_short_fields text ≡ true) × NamesNode id text

-- the access to a value: whether it may be read, and whether it may be written
abbrev pub rights : Bool → Bool → Rights
rights readable writable = record { readable = readable; writable = writable }

-- `r` to read, `w` to write, `rw` for both, `-` for neither
abbrev pub access_denoted : List ℕ → Option Rights
access_denoted text =
    cond (bytes_eq text (codes "r")) (Some (rights true false)) (
    cond (bytes_eq text (codes "w")) (Some (rights false true)) (
    cond (bytes_eq text (codes "rw")) (Some (rights true true)) (
    cond (bytes_eq text (codes "-")) (Some (rights false false)) (
    None))))

-- a name is any text but the empty one
abbrev pub name_denoted : List ℕ → Option (Option (List ℕ))
name_denoted text = cond (nat_lt 0 (length text) && has_short_fields text) (Some (Some text)) None

-- ---- the node of a line

-- a line defines a node: five fields give its NodeId, access, name, type and value; it has no
-- status and no source timestamp
pub record WritesNode (line : List ℕ) (node : NodeId × Variable) : Type 0 where
  pub five : length (fields line) ≡ 5
  pub id : NamesId (field 0 line) node.0
  pub access : access_denoted (field 1 line) ≡ Some node.1.access
  pub name : name_denoted (field 2 line) ≡ Some node.1.name
  pub kind : type_denoted (field 3 line) ≡ Some (node.1.kind, node.1.array)
  pub value : value_denoted node.1.kind node.1.array (field 4 line) ≡ Some node.1.value
  pub status : node.1.status ≡ None
  pub source_time : node.1.source_time ≡ None
  pub source_picoseconds : node.1.source_picoseconds ≡ None

-- a reason against a line after lines that defined these nodes: it does not have five fields; a
-- field denotes nothing; or a line before it defined a node with its NodeId
abbrev pub HoldsAgainstLine : LineReason → Nodes → List ℕ → Type 0
HoldsAgainstLine Fields before line = length (fields line) ≢ 5
HoldsAgainstLine Node before line = (id : NodeId) → ¬ (NamesId (field 0 line) id)
HoldsAgainstLine Access before line = access_denoted (field 1 line) ≡ None
HoldsAgainstLine Name before line = name_denoted (field 2 line) ≡ None
HoldsAgainstLine Kind before line = type_denoted (field 3 line) ≡ None
HoldsAgainstLine Value before line = (type_denoted (field 3 line) >>= λ t. value_denoted t.0 t.1 (field 4 line)) ≡ None
HoldsAgainstLine Duplicate before line = (id : NodeId) × NamesId (field 0 line) id × IsSome (node_at before id)

-- the order in which reasons are judged
abbrev pub place : LineReason → ℕ
place Fields = 0
place Node = 1
place Access = 2
place Name = 3
place Kind = 4
place Value = 5
place Duplicate = 6

-- the first reason against a line
pub record IsFirstReason (reason : LineReason) (before : Nodes) (line : List ℕ) : Type 0 where
  pub holds : HoldsAgainstLine reason before line
  pub first : (other : LineReason) → place other < place reason → ¬ (HoldsAgainstLine other before line)

-- ---- a whole file

-- the lines define the nodes, each line its own, and no two of one NodeId
pub record WriteNodes (lines : List FileLine) (nodes : Nodes) : Type 0 where
  pub each : AllZip (λ line node. WritesNode line.text node) lines nodes
  pub distinct : IsDistinct same_id (keys_of nodes)

-- the first bad line: those before it define nodes, and there is a reason against it
pub record IsFirstBad (lines : List FileLine) (number : ℕ) (reason : LineReason) : Type 0 where
  pub front : List FileLine
  pub line : List ℕ
  pub back : List FileLine
  pub nodes : Nodes
  pub parts : lines ≡ front ++ record { number = number; text = line } ∷ back
  pub good : WriteNodes front nodes
  pub bad : IsFirstReason reason nodes line

-- what an error tells of the lines
abbrev pub RefusesNodeFile : List FileLine → LoadFault → Type 0
RefusesNodeFile lines (Line number reason) = IsFirstBad lines number reason
RefusesNodeFile lines OutOfMemory = Unit {0}

-- ---- what functions answer for a line

-- what was parsed from a field is the NodeId that it names, unless an allocation failed
abbrev pub GivesId : List ℕ → Result NodeId LineFault → Type 0
GivesId text (Ok id) = NamesId text id
GivesId text (Err (Bad reason)) = (reason ≡ Node) × ((id : NodeId) → ¬ (NamesId text id))
GivesId text (Err NoMemory) = Unit {0}

-- what was parsed from a field is the name, unless an allocation failed
abbrev pub GivesName : List ℕ → Result (Option (List ℕ)) LineFault → Type 0
GivesName text (Ok name) = name_denoted text ≡ Some name
GivesName text (Err (Bad reason)) = (reason ≡ Name) × (name_denoted text ≡ None)
GivesName text (Err NoMemory) = Unit {0}

-- what was parsed from a line is the node that it defines, unless an allocation failed
abbrev pub GivesNode : List ℕ → Result Record LineFault → Type 0
GivesNode line (Ok node) = WritesNode line (node.id, variable_of node)
GivesNode line (Err (Bad reason)) = (before : Nodes) → IsFirstReason reason before line
GivesNode line (Err NoMemory) = Unit {0}

-- what a line makes of a table: it adds one node, of another NodeId than those before, unless the
-- line is skipped
abbrev pub AddsNodeOfLine : List ℕ → Nodes → Nodes → Type 0
AddsNodeOfLine line before after = (is_read line ≡ true → (node : NodeId × Variable) × WritesNode line node × (after ≡ before ++ node ∷ [])
    × IsDistinct same_id (keys_of after))
    × (is_read line ≡ false → after ≡ before)

-- what an error tells of a line
abbrev pub RefusesLine : List ℕ → Nodes → LineFault → Type 0
RefusesLine line before (Bad reason) = (is_read line ≡ true) × IsFirstReason reason before line
RefusesLine line before NoMemory = Unit {0}
