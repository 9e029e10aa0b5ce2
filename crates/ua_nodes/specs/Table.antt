-- A table of nodes, as a finite map.
use Rattle.std.specs.Prelude.{ℕ, Bool, List, Option, slice_get}
use Rattle.std.specs.List.{position}
use Rattle.std.specs.Map.{keys_of, lookup}
use Rattle.ua_builtin.specs.declared.node_id.NodeId.{NodeId}
use Rattle.ua_builtin.specs.contracts.node_id.NodeIdPartialEq.TheImpl.{ghosts}
use Rattle.ua_variant.specs.View.{variant_of}
use Rattle.ua_nodes.specs.declared.node.Node.{Node}
use Rattle.ua_nodes.specs.declared.node.Variable.{Variable}

-- whether two NodeIds are the same
abbrev pub same_id : NodeId → NodeId → Bool
same_id = ghosts.eq

-- the nodes of a table in the order in which they were inserted, no two of one NodeId
abbrev pub Nodes : Type 0
Nodes = List (NodeId × Variable)

-- the node that the NodeId names
abbrev pub node_at : Nodes → NodeId → Option Variable
node_at nodes id = lookup (same_id id) nodes

-- the NodeId of the node at a place in this order
abbrev pub node_id_at : Nodes → ℕ → Option NodeId
node_id_at nodes index = slice_get (keys_of nodes) index

-- the place in this order of the node that the NodeId names
abbrev pub index_of_id : Nodes → NodeId → Option ℕ
index_of_id nodes id = position (same_id id) (keys_of nodes)

-- what a table keeps of a node besides its NodeId
abbrev pub variable_of : Node → Variable
variable_of n = record {
  name = n.name;
  kind = n.kind;
  array = n.array;
  access = n.access;
  value = variant_of n.value;
  status = n.status;
  source_time = n.source_time;
  source_picoseconds = n.source_picoseconds;
}
