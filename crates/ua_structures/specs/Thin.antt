-- Items of a Write without the values that their nodes could not take (OPC 10000-4, 5.11.4).
-- of an item for a node of the type Int32 that holds an array of Variants, the node, the attribute
-- and the range are kept, and a null Variant in the place of the array
use Rattle.std.specs.Prelude.{ℕ, Bool, true, false, cond, map, Option, Some, None, option_map}
use Rattle.ua_builtin.specs.declared.node_id.NodeId.{NodeId}
use Rattle.ua_variant.specs.Data.{VariantData, null, one, absent, many}
use Rattle.ua_variant.specs.Encodable.{kind_of_scalar}
use Rattle.ua_variant.specs.declared.values.DataValue.{DataValue}
use Rattle.ua_structures.specs.declared.attribute.WriteRequest.{WriteRequest}
use Rattle.ua_structures.specs.declared.attribute.WriteValue.{WriteValue}
use Rattle.ua_structures.specs.declared.thin.ValueType.{ValueType}

-- ---- types

-- the type of scalars of this type id
abbrev pub scalar_type : ℕ → ValueType
scalar_type k = record { kind = k; array = false }

-- the type of arrays whose elements have this type id
abbrev pub array_type : ℕ → ValueType
array_type k = record { kind = k; array = true }

-- the type of a value; a null Variant has none
abbrev pub type_of : VariantData → Option ValueType
type_of null = None
type_of (one s) = Some (scalar_type (kind_of_scalar s))
type_of (absent k ds) = Some (array_type k)
type_of (many k ss ds) = Some (array_type k)

-- a value of this type is kept if it is one of the types that are taken; a value without a type is
-- kept
abbrev pub is_kept : (ValueType → Bool) → Option ValueType → Bool
is_kept takes None = true
is_kept takes (Some t) = takes t

-- ---- what is kept

-- a null Variant, and neither a status nor a timestamp
abbrev pub null_value : DataValue
null_value = record {
  value = Some null;
  status = None;
  source_timestamp = None;
  source_picoseconds = None;
  server_timestamp = None;
  server_picoseconds = None;
}

-- the DataValue unchanged if it has no value
abbrev pub kept_with : (ValueType → Bool) → Option VariantData → DataValue → DataValue
kept_with takes None d = d
kept_with takes (Some v) d = cond (is_kept takes (type_of v)) d null_value

-- the DataValue unchanged if its value has a type that is taken, or no type, or if it has no value;
-- otherwise with a null Variant in place of its value
abbrev pub kept_value : (ValueType → Bool) → DataValue → DataValue
kept_value takes d = kept_with takes d.value d

-- the item, with what is kept of its value if its node takes these types
abbrev pub thinned : (NodeId → ValueType → Bool) → WriteValue → WriteValue
thinned takes item = record {
  node_id = item.node_id;
  attribute_id = item.attribute_id;
  index_range = item.index_range;
  value = kept_value (takes item.node_id) item.value;
}

-- the Write, with what is kept of each item
abbrev pub thinned_request : (NodeId → ValueType → Bool) → WriteRequest → WriteRequest
thinned_request takes m = record { request_header = m.request_header; nodes_to_write = option_map (map (thinned takes)) m.nodes_to_write }
