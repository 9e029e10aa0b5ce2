-- The result of an item of a Read (OPC 10000-4, 5.11.2).
use Rattle.std.specs.Prelude.{ℕ, Bool, true, false, not, ◌&&◌, ◌||◌, cond, nat_eq, nat_lt, leb, List, [], ◌∷◌}
use Rattle.std.specs.Prelude.{length, Option, None, Some, option_map, Result, Ok, Err, ℤ, pos, negsuc, codes}
use Rattle.std.specs.Option.{is_some}
use Rattle.std.specs.Str.{bytes_eq}
use Rattle.ua_builtin.specs.Reasons.{first_reason}
use Rattle.ua_builtin.specs.declared.date_time.DateTime.{DateTime}
use Rattle.ua_builtin.specs.declared.status_code.StatusCode.{StatusCode}
use Rattle.ua_builtin.specs.declared.qualified_name.QualifiedName.{QualifiedName}
use Rattle.ua_builtin.specs.declared.node_id.NodeId.{NodeId}
use Rattle.ua_variant.specs.Canonical.{data_value_canonical}
use Rattle.ua_variant.specs.Data.{DataFields, VariantData, DataValueData, bare, valued}
use Rattle.ua_structures.specs.declared.attribute.ReadValueId.{ReadValueId}
use Rattle.ua_nodes.specs.declared.attribute.Attribute.{Attribute}
use Rattle.ua_nodes.specs.declared.node.Variable.{Variable}
use Rattle.ua_nodes.specs.declared.stamps.Stamps.{Stamps}
use Rattle.ua_nodes.specs.declared.stamps.Stamps.TheVariants.{Source, Server, Both, Neither}
use Rattle.ua_nodes.specs.declared.range.IndexRange.{IndexRange}
use Rattle.ua_nodes.specs.Attribute.{attribute_of, is_attribute, attribute_value}
use Rattle.ua_nodes.specs.Range.{asked_range, elements_of_array, range_part_of}
use Rattle.ua_nodes.specs.Table.{Nodes, node_at}
use Rattle.ua_nodes.specs.Status.{bad_node_id_unknown, bad_attribute_id_invalid, bad_index_range_invalid}
use Rattle.ua_nodes.specs.Status.{bad_index_range_no_data, bad_data_encoding_invalid, bad_not_readable}

-- a text that is neither null nor empty
abbrev pub is_filled_text : Option (List ℕ) → Bool
is_filled_text None = false
is_filled_text (Some text) = nat_lt 0 (length text)

-- a text that is this one
abbrev pub is_this_text : Option (List ℕ) → List ℕ → Bool
is_this_text None name = false
is_this_text (Some text) name = bytes_eq text name

-- no name, or the name of the binary encoding
abbrev pub is_default_encoding : QualifiedName → Bool
is_default_encoding q = not (is_filled_text q.name) || (nat_eq q.namespace 0 && is_this_text q.name (codes "Default Binary"))

-- the item asks for a range: its text is neither null nor empty
abbrev pub asks_range : ReadValueId → Bool
asks_range item = is_filled_text item.index_range

-- the attribute is an array: the Value of a node whose values are arrays
abbrev pub is_array_attribute : Variable → ℕ → Bool
is_array_attribute v attribute_id = nat_eq attribute_id 13 && v.array

-- the range is past the end: its first index is after the last element
abbrev pub is_past : Option IndexRange → VariantData → Bool
is_past None value = false
is_past (Some r) value = leb (length (elements_of_array value)) r.first

-- why an item for this node is rejected, in the order in which it is judged
abbrev pub read_item_reasons : Variable → ReadValueId → List (StatusCode × Bool)
read_item_reasons v item =
    (bad_attribute_id_invalid, not (is_attribute item.attribute_id))
    ∷ (bad_index_range_invalid, asks_range item && not (is_array_attribute v item.attribute_id && is_some (asked_range item.index_range)))
    ∷ (bad_data_encoding_invalid, not (is_default_encoding item.data_encoding))
    ∷ (bad_not_readable, nat_eq item.attribute_id 13 && not v.access.readable)
    ∷ (bad_index_range_no_data, is_past (asked_range item.index_range) v.value)
    ∷ []

-- an item is rejected, or it requests this attribute, and this range
abbrev pub judged : Option StatusCode → Option Attribute → Option IndexRange → Result (Attribute × Option IndexRange) StatusCode
judged (Some code) a r = Err code
judged None None r = Err bad_attribute_id_invalid
judged None (Some a) r = Ok (a, r)

-- the timestamps that a number in a Read request asks for (OPC 10000-4, 7.40)
abbrev pub stamps_numbered : ℤ → Option Stamps
stamps_numbered (pos n) =
    cond (nat_eq n 0) (Some Source) (cond (nat_eq n 1) (Some Server) (cond (nat_eq n 2) (Some Both) (cond (nat_eq n 3) (Some Neither) None)))
stamps_numbered (negsuc n) = None

-- whether the source timestamp is requested: by Source and by Both (OPC 10000-4, 7.40)
abbrev pub gives_source : Stamps → Bool
gives_source Source = true
gives_source Server = false
gives_source Both = true
gives_source Neither = false

-- whether the server timestamp is requested: by Server and by Both (OPC 10000-4, 7.40)
abbrev pub gives_server : Stamps → Bool
gives_server Source = false
gives_server Server = true
gives_server Both = true
gives_server Neither = false

-- a status alone
abbrev pub status_alone : StatusCode → DataValueData
status_alone code = bare (record { status = Some code; source_timestamp = None; source_picoseconds = None; server_timestamp = None; server_picoseconds = None })

-- the content, if the test holds; else nothing
abbrev pub where_so : {A : Type 0} → Bool → Option A → Option A
where_so test o = cond test o None

-- the status and timestamps beside a value: the Value attribute has the stored status and, if
-- requested, the stored source timestamp; this time is the server timestamp, if requested
abbrev pub stamps_of : Variable → Bool → Stamps → DateTime → DataFields
stamps_of v is_value stamps moment = record {
  status = where_so is_value v.status;
  source_timestamp = where_so (is_value && gives_source stamps) v.source_time;
  source_picoseconds = where_so (is_value && gives_source stamps) v.source_picoseconds;
  server_timestamp = where_so (gives_server stamps) (Some moment);
  server_picoseconds = None;
}

-- what is read of a node: an attribute, or the part of the Value at the indexes of a range
abbrev pub value_read : NodeId → Variable → Attribute → Option IndexRange → VariantData
value_read id v a None = attribute_value id v a
value_read id v a (Some r) = range_part_of r v.value

-- a value, if there is one, with its status and timestamps
abbrev pub with_stamps : Option VariantData → DataFields → DataValueData
with_stamps None fields = bare fields
with_stamps (Some value) fields = valued value fields

-- the result for a node: the rejection if there is a reason, else what is read with its status and
-- timestamps
abbrev pub read_by : Option StatusCode → Variable → ReadValueId → Stamps → DateTime → DataValueData
read_by (Some code) v item stamps moment = status_alone code
read_by None v item stamps moment =
    with_stamps (option_map (λ a. value_read item.node_id v a (asked_range item.index_range)) (attribute_of item.attribute_id))
    (stamps_of v (nat_eq item.attribute_id 13) stamps moment)

-- the result of an item, by the node that it names
abbrev pub read_answer : Option Variable → ReadValueId → Stamps → DateTime → DataValueData
read_answer None item stamps moment = status_alone bad_node_id_unknown
read_answer (Some v) item stamps moment = read_by (first_reason (read_item_reasons v item)) v item stamps moment

-- the encoding of the result of an item
abbrev pub result_octets : Nodes → Stamps → DateTime → ReadValueId → List ℕ
result_octets nodes stamps moment item = data_value_canonical (read_answer (node_at nodes item.node_id) item stamps moment)
