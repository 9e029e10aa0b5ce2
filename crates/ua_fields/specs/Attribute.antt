-- The fields of the structures of the services Read and Write.
use Rattle.std.specs.Prelude.{[], codes, ◌∷◌}
use Rattle.ua_structures.specs.declared.attribute.ReadRequest.{ReadRequest}
use Rattle.ua_structures.specs.declared.attribute.ReadResponse.{ReadResponse}
use Rattle.ua_structures.specs.declared.attribute.ReadValueId.{ReadValueId}
use Rattle.ua_structures.specs.declared.attribute.WriteRequest.{WriteRequest}
use Rattle.ua_structures.specs.declared.attribute.WriteResponse.{WriteResponse}
use Rattle.ua_structures.specs.declared.attribute.WriteValue.{WriteValue}
use Rattle.ua_fields.specs.DataValue.{data_value_entries}
use Rattle.ua_fields.specs.Header.{request_header_entries, response_header_entries}
use Rattle.ua_fields.specs.Leaves.{diagnostic_info, double, node_id_tree, number_tree, qualified_name_tree, signed_tree, status_code_tree, string_tree}
use Rattle.ua_fields.specs.Tree.{Fields, array_of, named, structure}

-- ReadValueId (OPC 10000-4, 7.29)
unfoldable pub read_value_id_entries : ReadValueId → Fields
read_value_id_entries m = named (
    (codes "node_id", node_id_tree m.node_id)
    ∷ (codes "attribute_id", number_tree m.attribute_id)
    ∷ (codes "index_range", string_tree m.index_range)
    ∷ (codes "data_encoding", qualified_name_tree m.data_encoding)
    ∷ [])

-- the request of Read (OPC 10000-4, 5.11.2)
unfoldable pub read_request_entries : ReadRequest → Fields
read_request_entries m = named (
    (codes "request_header", structure (request_header_entries m.request_header))
    ∷ (codes "max_age", double m.max_age)
    ∷ (codes "timestamps_to_return", signed_tree m.timestamps_to_return)
    ∷ (codes "nodes_to_read", array_of (λ e. structure (read_value_id_entries e)) m.nodes_to_read)
    ∷ [])

-- the response of Read (OPC 10000-4, 5.11.2)
unfoldable pub read_response_entries : ReadResponse → Fields
read_response_entries m = named (
    (codes "response_header", structure (response_header_entries m.response_header))
    ∷ (codes "results", array_of (λ e. structure (data_value_entries e)) m.results)
    ∷ (codes "diagnostic_infos", array_of diagnostic_info m.diagnostic_infos)
    ∷ [])

-- WriteValue (OPC 10000-4, 5.11.4)
unfoldable pub write_value_entries : WriteValue → Fields
write_value_entries m = named (
    (codes "node_id", node_id_tree m.node_id)
    ∷ (codes "attribute_id", number_tree m.attribute_id)
    ∷ (codes "index_range", string_tree m.index_range)
    ∷ (codes "value", structure (data_value_entries m.value))
    ∷ [])

-- the request of Write (OPC 10000-4, 5.11.4)
unfoldable pub write_request_entries : WriteRequest → Fields
write_request_entries m = named (
    (codes "request_header", structure (request_header_entries m.request_header))
    ∷ (codes "nodes_to_write", array_of (λ e. structure (write_value_entries e)) m.nodes_to_write)
    ∷ [])

-- the response of Write (OPC 10000-4, 5.11.4)
unfoldable pub write_response_entries : WriteResponse → Fields
write_response_entries m = named (
    (codes "response_header", structure (response_header_entries m.response_header))
    ∷ (codes "results", array_of status_code_tree m.results)
    ∷ (codes "diagnostic_infos", array_of diagnostic_info m.diagnostic_infos)
    ∷ [])
