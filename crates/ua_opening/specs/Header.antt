-- The structures of the headers and the ServiceFault.
use Rattle.ua_builtin.specs.DateTime.{date_time}
use Rattle.ua_builtin.specs.ExtensionObject.{extension_object}
use Rattle.ua_builtin.specs.Format.{Format, flat}
use Rattle.ua_builtin.specs.Join.{pair, struct}
use Rattle.ua_builtin.specs.NodeId.{node_id}
use Rattle.ua_builtin.specs.Status.{status_code}
use Rattle.ua_diagnostic.specs.Formats.{diagnostic_format}
use Rattle.ua_opening.specs.Array.{array}
use Rattle.ua_opening.specs.Field.{string, uint32}
use Rattle.ua_opening.specs.declared.header.RequestHeader.{RequestHeader}
use Rattle.ua_opening.specs.declared.header.ResponseHeader.{ResponseHeader}
use Rattle.ua_opening.specs.declared.header.ServiceFault.{ServiceFault}

-- ---- RequestHeader

-- its fields in order (OPC 10000-4, 7.33)
unfoldable pub request_header : Format RequestHeader
request_header = struct
    (λ (authentication_token, (timestamp, (request_handle, (return_diagnostics, (audit_entry_id, (timeout_hint, additional_header)))))). record {
      authentication_token = authentication_token;
      timestamp = timestamp;
      request_handle = request_handle;
      return_diagnostics = return_diagnostics;
      audit_entry_id = audit_entry_id;
      timeout_hint = timeout_hint;
      additional_header = additional_header;
    })
    (λ s. (s.authentication_token, (s.timestamp, (s.request_handle, (s.return_diagnostics, (s.audit_entry_id, (s.timeout_hint, s.additional_header)))))))
    (pair (flat node_id) (pair (flat date_time) (pair uint32 (pair uint32 (pair string (pair uint32 (flat extension_object)))))))

-- ---- ResponseHeader

-- its fields in order (OPC 10000-4, 7.34)
unfoldable pub response_header : Format ResponseHeader
response_header = struct
    (λ (timestamp, (request_handle, (service_result, (service_diagnostics, (string_table, additional_header))))). record {
      timestamp = timestamp;
      request_handle = request_handle;
      service_result = service_result;
      service_diagnostics = service_diagnostics;
      string_table = string_table;
      additional_header = additional_header;
    })
    (λ s. (s.timestamp, (s.request_handle, (s.service_result, (s.service_diagnostics, (s.string_table, s.additional_header))))))
    (pair (flat date_time) (pair uint32 (pair (flat status_code) (pair diagnostic_format (pair (array string) (flat extension_object))))))

-- ---- ServiceFault

-- its fields in order (OPC 10000-4, 7.35)
unfoldable pub service_fault : Format ServiceFault
service_fault = struct
    (λ response_header. record { response_header = response_header })
    (λ s. s.response_header)
    response_header
