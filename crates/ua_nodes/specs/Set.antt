-- Readings that a program sets, and what they change.
use Rattle.std.specs.Prelude.{Bool, not, cond, List, [], ◌∷◌, Option, None, Some, is_none}
use Rattle.std.specs.Map.{set_value}
use Rattle.ua_builtin.specs.Reasons.{first_reason}
use Rattle.ua_builtin.specs.declared.node_id.NodeId.{NodeId}
use Rattle.ua_variant.specs.Encodable.{data_value_encodable}
use Rattle.ua_variant.specs.View.{variant_of, data_value_of}
use Rattle.ua_variant.specs.declared.values.DataValue.{DataValue}
use Rattle.ua_nodes.specs.Table.{Nodes, node_at, same_id}
use Rattle.ua_nodes.specs.Write.{holds_type, stored}
use Rattle.ua_nodes.specs.declared.fault.SetFault.{SetFault}
use Rattle.ua_nodes.specs.declared.fault.SetFault.TheVariants.{Unknown, Mismatch, NotWritable}
use Rattle.ua_nodes.specs.declared.node.Variable.{Variable}
use Rattle.ua_nodes.specs.declared.set.Reading.{Reading}

-- a reading, as a DataValue
abbrev pub value_of_reading : Reading → DataValue
value_of_reading r = record {
  value = Some (variant_of r.value);
  status = r.status;
  source_timestamp = Some r.source_time;
  source_picoseconds = r.source_picoseconds;
  server_timestamp = None;
  server_picoseconds = None;
}

-- why this is rejected for the node, in the order in which it is judged; the access bits apply to
-- clients
abbrev pub set_reasons : Variable → DataValue → List (SetFault × Bool)
set_reasons v given =
    (Mismatch, not (holds_type v.kind v.array given.value))
    ∷ (NotWritable, not (data_value_encodable (data_value_of given)))
    ∷ []

-- why a reading is rejected, by the node that it is of, if it is
abbrev pub set_refusal : Option Variable → Reading → Option SetFault
set_refusal None r = Some Unknown
set_refusal (Some v) r = first_reason (set_reasons v (value_of_reading r))

-- the node with the value, status and source timestamp of the reading, or unchanged if that is
-- rejected
abbrev pub set_node : Variable → Reading → Variable
set_node v r = cond (is_none (first_reason (set_reasons v (value_of_reading r)))) (stored v (value_of_reading r) r.source_time) v

-- the nodes with this reading of the node with this NodeId
abbrev pub with_reading : Option Variable → NodeId → Reading → Nodes → Nodes
with_reading None id r nodes = nodes
with_reading (Some v) id r nodes = set_value (same_id id) nodes (set_node v r)

-- the nodes after a reading of the node with this NodeId
unfoldable pub after_set : NodeId → Reading → Nodes → Nodes
after_set id r nodes = with_reading (node_at nodes id) id r nodes

-- why a reading of the node at a place is refused: as one of the node of its NodeId, or because there is none
abbrev pub set_refusal_at : Option NodeId → Reading → Nodes → Option SetFault
set_refusal_at None r nodes = set_refusal None r
set_refusal_at (Some id) r nodes = set_refusal (node_at nodes id) r

-- what a reading of the node at a place leaves: what one of the node of its NodeId does, or all as it was
abbrev pub after_set_at : Option NodeId → Reading → Nodes → Nodes
after_set_at None r nodes = nodes
after_set_at (Some id) r nodes = after_set id r nodes
