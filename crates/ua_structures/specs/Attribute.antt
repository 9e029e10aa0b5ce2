-- The structures of the services Read and Write.
use Rattle.ua_builtin.specs.DoubleBits.{double_bits}
use Rattle.ua_builtin.specs.Format.{Format, flat}
use Rattle.ua_builtin.specs.Join.{pair, struct}
use Rattle.ua_builtin.specs.NodeId.{node_id}
use Rattle.ua_builtin.specs.QualifiedName.{qualified_name}
use Rattle.ua_builtin.specs.Status.{status_code}
use Rattle.ua_diagnostic.specs.Formats.{diagnostic_format}
use Rattle.ua_variant.specs.Formats.{data_value_format}
use Rattle.ua_opening.specs.Array.{array}
use Rattle.ua_opening.specs.Field.{int32, string, uint32}
use Rattle.ua_opening.specs.Header.{request_header, response_header}
use Rattle.ua_structures.specs.declared.attribute.ReadRequest.{ReadRequest}
use Rattle.ua_structures.specs.declared.attribute.ReadResponse.{ReadResponse}
use Rattle.ua_structures.specs.declared.attribute.ReadValueId.{ReadValueId}
use Rattle.ua_structures.specs.declared.attribute.WriteRequest.{WriteRequest}
use Rattle.ua_structures.specs.declared.attribute.WriteResponse.{WriteResponse}
use Rattle.ua_structures.specs.declared.attribute.WriteValue.{WriteValue}

-- ---- ReadValueId

-- its fields in order (OPC 10000-4, 7.29)
unfoldable pub read_value_id : Format ReadValueId
read_value_id = struct
    (λ (node_id, (attribute_id, (index_range, data_encoding))). record {
      node_id = node_id;
      attribute_id = attribute_id;
      index_range = index_range;
      data_encoding = data_encoding;
    })
    (λ s. (s.node_id, (s.attribute_id, (s.index_range, s.data_encoding))))
    (pair (flat node_id) (pair uint32 (pair string (flat qualified_name))))

-- ---- ReadRequest

-- its fields in order (OPC 10000-4, 5.11.2)
unfoldable pub read_request : Format ReadRequest
read_request = struct
    (λ (request_header, (max_age, (timestamps_to_return, nodes_to_read))). record {
      request_header = request_header;
      max_age = max_age;
      timestamps_to_return = timestamps_to_return;
      nodes_to_read = nodes_to_read;
    })
    (λ s. (s.request_header, (s.max_age, (s.timestamps_to_return, s.nodes_to_read))))
    (pair request_header (pair (flat double_bits) (pair int32 (array read_value_id))))

-- ---- ReadResponse

-- its fields in order (OPC 10000-4, 5.11.2)
unfoldable pub read_response : Format ReadResponse
read_response = struct
    (λ (response_header, (results, diagnostic_infos)). record {
      response_header = response_header;
      results = results;
      diagnostic_infos = diagnostic_infos;
    })
    (λ s. (s.response_header, (s.results, s.diagnostic_infos)))
    (pair response_header (pair (array data_value_format) (array diagnostic_format)))

-- ---- WriteValue

-- its fields in order (OPC 10000-4, 5.11.4)
unfoldable pub write_value : Format WriteValue
write_value = struct
    (λ (node_id, (attribute_id, (index_range, value))). record {
      node_id = node_id;
      attribute_id = attribute_id;
      index_range = index_range;
      value = value;
    })
    (λ s. (s.node_id, (s.attribute_id, (s.index_range, s.value))))
    (pair (flat node_id) (pair uint32 (pair string data_value_format)))

-- ---- WriteRequest

-- its fields in order (OPC 10000-4, 5.11.4)
unfoldable pub write_request : Format WriteRequest
write_request = struct
    (λ (request_header, nodes_to_write). record { request_header = request_header; nodes_to_write = nodes_to_write })
    (λ s. (s.request_header, s.nodes_to_write))
    (pair request_header (array write_value))

-- ---- WriteResponse

-- its fields in order (OPC 10000-4, 5.11.4)
unfoldable pub write_response : Format WriteResponse
write_response = struct
    (λ (response_header, (results, diagnostic_infos)). record {
      response_header = response_header;
      results = results;
      diagnostic_infos = diagnostic_infos;
    })
    (λ s. (s.response_header, (s.results, s.diagnostic_infos)))
    (pair response_header (pair (array (flat status_code)) (array diagnostic_format)))
