-- The fields of the structures of the headers and the ServiceFault.
use Rattle.std.specs.Prelude.{[], codes, ◌∷◌}
use Rattle.ua_opening.specs.declared.header.RequestHeader.{RequestHeader}
use Rattle.ua_opening.specs.declared.header.ResponseHeader.{ResponseHeader}
use Rattle.ua_opening.specs.declared.header.ServiceFault.{ServiceFault}
use Rattle.ua_fields.specs.Leaves.{date_time_tree, diagnostic_info, extension_object_tree, node_id_tree, number_tree, status_code_tree, string_tree}
use Rattle.ua_fields.specs.Tree.{Fields, array_of, named, structure}

-- RequestHeader (OPC 10000-4, 7.33)
unfoldable pub request_header_entries : RequestHeader → Fields
request_header_entries m = named (
    (codes "authentication_token", node_id_tree m.authentication_token)
    ∷ (codes "timestamp", date_time_tree m.timestamp)
    ∷ (codes "request_handle", number_tree m.request_handle)
    ∷ (codes "return_diagnostics", number_tree m.return_diagnostics)
    ∷ (codes "audit_entry_id", string_tree m.audit_entry_id)
    ∷ (codes "timeout_hint", number_tree m.timeout_hint)
    ∷ (codes "additional_header", extension_object_tree m.additional_header)
    ∷ [])

-- ResponseHeader (OPC 10000-4, 7.34)
unfoldable pub response_header_entries : ResponseHeader → Fields
response_header_entries m = named (
    (codes "timestamp", date_time_tree m.timestamp)
    ∷ (codes "request_handle", number_tree m.request_handle)
    ∷ (codes "service_result", status_code_tree m.service_result)
    ∷ (codes "service_diagnostics", diagnostic_info m.service_diagnostics)
    ∷ (codes "string_table", array_of string_tree m.string_table)
    ∷ (codes "additional_header", extension_object_tree m.additional_header)
    ∷ [])

-- ServiceFault (OPC 10000-4, 7.35)
unfoldable pub service_fault_entries : ServiceFault → Fields
service_fault_entries m = named (
    (codes "response_header", structure (response_header_entries m.response_header))
    ∷ [])
