-- The results of the items of a Write, and what the items change (OPC 10000-4, 5.11.4).
use Rattle.std.specs.Prelude.{ℕ, Bool, true, false, not, ◌&&◌, ◌||◌, cond, nat_eq, map, List, [], ◌∷◌, Option, None, Some, is_none}
use Rattle.ua_builtin.specs.Reasons.{first_reason}
use Rattle.ua_builtin.specs.declared.date_time.DateTime.{DateTime}
use Rattle.ua_builtin.specs.declared.node_id.NodeId.{NodeId}
use Rattle.ua_builtin.specs.declared.status_code.StatusCode.{StatusCode}
use Rattle.ua_variant.specs.Data.{VariantData, null, one, absent, many}
use Rattle.ua_variant.specs.Encodable.{kind_of_scalar, data_value_encodable}
use Rattle.ua_variant.specs.View.{data_value_of}
use Rattle.ua_variant.specs.declared.values.DataValue.{DataValue}
use Rattle.ua_structures.specs.declared.attribute.WriteValue.{WriteValue}
use Rattle.ua_structures.specs.declared.thin.ValueType.{ValueType}
use Rattle.ua_nodes.specs.declared.node.Variable.{Variable}
use Rattle.ua_nodes.specs.Attribute.{is_attribute}
use Rattle.ua_nodes.specs.Read.{is_filled_text}
use Rattle.ua_nodes.specs.Status.{good, bad_node_id_unknown, bad_attribute_id_invalid, bad_not_writable, bad_write_not_supported, bad_type_mismatch}
use Rattle.ua_nodes.specs.Table.{Nodes, node_at, same_id}

-- the list is empty
abbrev pub has_none : {A : Type 0} → List A → Bool
has_none [] = true
has_none (x ∷ xs) = false

-- the value is one of the type, or an array of it without dimensions
abbrev pub is_of_type : ℕ → Bool → VariantData → Bool
is_of_type kind array null = false
is_of_type kind array (one s) = not array && nat_eq (kind_of_scalar s) kind
is_of_type kind array (absent k ds) = array && (nat_eq k kind && has_none ds)
is_of_type kind array (many k ss ds) = array && (nat_eq k kind && has_none ds)

-- there is a value, and it is one of the type, or an array of it without dimensions
abbrev pub holds_type : ℕ → Bool → Option VariantData → Bool
holds_type kind array None = false
holds_type kind array (Some v) = is_of_type kind array v

-- whether the node could take a value of the type: one of its own type, and an array exactly if it
-- has arrays (OPC 10000-4, 5.11.4)
abbrev pub variable_takes : Option Variable → ValueType → Bool
variable_takes None t = false
variable_takes (Some v) t = cond t.array v.array (not v.array) && nat_eq t.kind v.kind

-- the node that the NodeId names could take a value of the type
abbrev pub nodes_take : Nodes → NodeId → ValueType → Bool
nodes_take nodes id = variable_takes (node_at nodes id)

-- why an item for this node is rejected, in the order in which it is judged
abbrev pub write_item_reasons : Variable → WriteValue → List (StatusCode × Bool)
write_item_reasons v item =
    (bad_attribute_id_invalid, not (is_attribute item.attribute_id))
    ∷ (bad_not_writable, not (nat_eq item.attribute_id 13 && v.access.writable))
    ∷ (bad_write_not_supported, is_filled_text item.index_range || is_none item.value.value)
    ∷ (bad_type_mismatch, not (holds_type v.kind v.array item.value.value && data_value_encodable (data_value_of item.value)))
    ∷ []

-- the code of the reason that holds, or Good if none does
abbrev pub good_or : Option StatusCode → StatusCode
good_or None = good
good_or (Some code) = code

-- the result of an item, by the node that it names
abbrev pub write_answer : Option Variable → WriteValue → StatusCode
write_answer None item = bad_node_id_unknown
write_answer (Some v) item = good_or (first_reason (write_item_reasons v item))

-- the content, or else the other
abbrev pub content_or : {A : Type 0} → Option A → A → A
content_or None x = x
content_or (Some y) x = y

-- the source timestamp given, or without one this time
abbrev pub time_of : Option DateTime → DateTime → DateTime
time_of t moment = content_or t moment

-- the picoseconds given, but none if no source timestamp is given
abbrev pub picoseconds_of : Option DateTime → Option ℕ → Option ℕ
picoseconds_of None p = None
picoseconds_of (Some t) p = p

-- the node with this value and status, and with its source timestamp and picoseconds, or without
-- one this time
abbrev pub stored : Variable → DataValue → DateTime → Variable
stored v given moment = record {
  name = v.name;
  kind = v.kind;
  array = v.array;
  access = v.access;
  value = content_or given.value null;
  status = given.status;
  source_time = Some (time_of given.source_timestamp moment);
  source_picoseconds = picoseconds_of given.source_timestamp given.source_picoseconds;
}

-- the node with what the item gives: its value, status and source timestamp
abbrev pub written : Variable → WriteValue → DateTime → Variable
written v item moment = stored v item.value moment

-- the item names the node and is not rejected
abbrev pub is_good_for : NodeId × Variable → WriteValue → Bool
is_good_for node item = same_id item.node_id node.0 && is_none (first_reason (write_item_reasons node.1 item))

-- the later one, if there is one
abbrev pub later : {A : Type 0} → Option A → Option A → Option A
later earlier None = earlier
later earlier (Some x) = Some x

-- the last item that is good for the node
abbrev pub last_good : NodeId × Variable → List WriteValue → Option WriteValue
last_good node [] = None
last_good node (item ∷ items) = later (cond (is_good_for node item) (Some item) None) (last_good node items)

-- the node with what the item gives, or unchanged if there is no item
abbrev pub written_by : Variable → Option WriteValue → DateTime → Variable
written_by v None moment = v
written_by v (Some item) moment = written v item moment

-- the nodes after one item
unfoldable pub after_item : WriteValue → DateTime → Nodes → Nodes
after_item item moment nodes = map (λ node. (node.0, written_by node.1 (cond (is_good_for node item) (Some item) None) moment)) nodes

-- the nodes after the items: each has the value, status and source timestamp of the last item that
-- is good for it, else those from before
unfoldable pub after_write : List WriteValue → DateTime → Nodes → Nodes
after_write items moment nodes = map (λ node. (node.0, written_by node.1 (last_good node items) moment)) nodes

-- the results of the items: each depends on the nodes before the Write
abbrev pub write_answers : Nodes → List WriteValue → List StatusCode
write_answers nodes items = map (λ item. write_answer (node_at nodes item.node_id) item) items
