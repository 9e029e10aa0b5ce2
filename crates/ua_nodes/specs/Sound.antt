-- Sound tables: each result of a Read of them can be encoded.
use Rattle.std.specs.Prelude.{IsTrue, None, Bool, ◌&&◌, nat_lt}
use Rattle.std.specs.List.{AllByRecursion}
use Rattle.ua_builtin.specs.Counted.{text}
use Rattle.ua_builtin.specs.DateTime.{date_time}
use Rattle.ua_builtin.specs.Format.{most_levels}
use Rattle.ua_builtin.specs.Join.{number}
use Rattle.ua_builtin.specs.NodeId.{node_id}
use Rattle.ua_builtin.specs.Status.{status_code}
use Rattle.ua_builtin.specs.declared.node_id.NodeId.{NodeId}
use Rattle.ua_variant.specs.Data.{DataFields, DataValueData, valued}
use Rattle.ua_variant.specs.Encodable.{data_value_encodable, variant_encodable}
use Rattle.ua_variant.specs.Measure.{variant_depth}
use Rattle.ua_diagnostic.specs.Parts.{optional_fits}
use Rattle.ua_nodes.specs.declared.node.Variable.{Variable}
use Rattle.ua_nodes.specs.Table.{Nodes}
use Rattle.ua_nodes.specs.Write.{is_of_type}

-- the status and source timestamp of a node
abbrev pub held_fields : Variable → DataFields
held_fields v = record {
  status = v.status;
  source_timestamp = v.source_time;
  source_picoseconds = v.source_picoseconds;
  server_timestamp = None;
  server_picoseconds = None;
}

-- the value of a node, as a DataValue
abbrev pub held_value : Variable → DataValueData
held_value v = valued v.value (held_fields v)

-- a node whose NodeId and name can be encoded, and whose value is one of its type, or an array of
-- it without dimensions, and can be encoded within a DataValue: its nesting depth is at most 99
pub record IsSoundNode (id : NodeId) (v : Variable) : Type 0 where
  pub id_fits : IsTrue (node_id.encodable id)
  pub name_fits : IsTrue (text.encodable v.name)
  pub of_type : IsTrue (is_of_type v.kind v.array v.value)
  pub value_fits : IsTrue (data_value_encodable (held_value v))

-- the test for it: the value leaves one level for the DataValue, and can be encoded, and so can the
-- status and source timestamp
abbrev pub is_sound_node : NodeId → Variable → Bool
is_sound_node id v =
    node_id.encodable id
    && (text.encodable v.name && (is_of_type v.kind v.array v.value && (nat_lt (variant_depth v.value) most_levels && (variant_encodable v.value
    && (optional_fits status_code.encodable v.status
    && (optional_fits date_time.encodable v.source_time && optional_fits (number 2).encodable v.source_picoseconds))))))

-- each node is sound
abbrev pub AreNodesSound : Nodes → Type 0
AreNodesSound nodes = AllByRecursion (λ node. IsSoundNode node.0 node.1) nodes
