-- What a new reading of a node file changes: the values of the nodes whose lines differ, and the
-- nodes that came.
use Rattle.std.specs.Prelude.{◌≡◌, ℕ, Bool, true, cond, is_none, filter, List, [], ◌∷◌, ◌++◌, Option, Some, None}
use Rattle.std.specs.Borrow.{Bor}
use Rattle.std.specs.List.{list_any}
use Rattle.std.specs.Str.{bytes_eq}
use Rattle.ua_builtin.specs.declared.date_time.DateTime.{DateTime}
use Rattle.ua_nodes.specs.NodeFile.{WriteNodes, is_read, lines_of, node_lines}
use Rattle.ua_nodes.specs.Set.{after_set}
use Rattle.ua_nodes.specs.Table.{Nodes, node_at, variable_of}
use Rattle.ua_builtin.specs.declared.node_id.NodeId.{NodeId}
use Rattle.ua_nodes.specs.declared.node.Node.{Node}
use Rattle.ua_nodes.specs.declared.node.Variable.{Variable}
use Rattle.ua_nodes.specs.declared.set.Reading.{Reading}

-- ---- which nodes

-- the lines of a text that write nodes, in order
abbrev pub written_lines : List ℕ → List (List ℕ)
written_lines text = filter is_read (lines_of text)

-- a line is one of these
abbrev pub is_among : List (List ℕ) → List ℕ → Bool
is_among lines line = list_any (bytes_eq line) lines

-- the line at a place is known, or there is none
abbrev pub is_known_at : (List ℕ → Bool) → Option (Bor (List ℕ)) → Bool
is_known_at is_known None = true
is_known_at is_known (Some line) = is_known line.now

-- a node, if there is one and its line is not known
abbrev pub one_new : Bool → Option (NodeId × Variable) → Nodes
one_new is_known None = []
one_new is_known (Some node) = cond is_known [] (node ∷ [])

-- of nodes beside their lines, those whose line is not known
abbrev pub nodes_of_new : (List ℕ → Bool) → List (List ℕ) → Nodes → Nodes
nodes_of_new is_known [] nodes = []
nodes_of_new is_known (line ∷ lines) [] = []
nodes_of_new is_known (line ∷ lines) (node ∷ nodes) = one_new (is_known line) (Some node) ++ nodes_of_new is_known lines nodes

-- of the nodes that the lines of a text write, in order, those whose line the last reading lacks
abbrev pub changed_of : List ℕ → List ℕ → Nodes → Nodes
changed_of last text nodes = nodes_of_new (is_among (written_lines last)) (written_lines text) nodes

-- what a new reading changes: its lines write nodes, and of these the lines of just those that
-- changed are new
pub record Changes (last text : List ℕ) (changed : Nodes) : Type 0 where
  pub nodes : Nodes
  pub written : WriteNodes (node_lines text) nodes
  pub are : changed ≡ changed_of last text nodes

-- ---- what is left of a table

-- a node as an entry of a table
abbrev pub entry_of : Node → NodeId × Variable
entry_of node = (node.id, variable_of node)

-- its value, at a time and without a status
abbrev pub reading_of_node : DateTime → Node → Reading
reading_of_node moment node = record { value = node.value; status = None; source_time = moment; source_picoseconds = None }

-- nodes with one that changed: the node of its NodeId has the value, unless that is refused; if there
-- is none, it is the last one
abbrev pub with_changed : DateTime → Node → Nodes → Nodes
with_changed moment node nodes = cond (is_none (node_at nodes node.id)) (nodes ++ entry_of node ∷ []) (after_set node.id (reading_of_node moment node) nodes)

-- nodes with those that changed, in order
abbrev pub with_all_changed : DateTime → List Node → Nodes → Nodes
with_all_changed moment [] nodes = nodes
with_all_changed moment (node ∷ more) nodes = with_all_changed moment more (with_changed moment node nodes)
