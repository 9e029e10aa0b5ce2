-- The fields of the structures of the Session services.
use Rattle.std.specs.Prelude.{[], codes, ◌∷◌}
use Rattle.ua_structures.specs.declared.session.ActivateSessionRequest.{ActivateSessionRequest}
use Rattle.ua_structures.specs.declared.session.ActivateSessionResponse.{ActivateSessionResponse}
use Rattle.ua_structures.specs.declared.session.CloseSessionRequest.{CloseSessionRequest}
use Rattle.ua_structures.specs.declared.session.CloseSessionResponse.{CloseSessionResponse}
use Rattle.ua_structures.specs.declared.session.CreateSessionRequest.{CreateSessionRequest}
use Rattle.ua_structures.specs.declared.session.CreateSessionResponse.{CreateSessionResponse}
use Rattle.ua_structures.specs.declared.signature.SignatureData.{SignatureData}
use Rattle.ua_structures.specs.declared.signature.SignedSoftwareCertificate.{SignedSoftwareCertificate}
use Rattle.ua_fields.specs.Discovery.{application_description_entries, endpoint_description_entries}
use Rattle.ua_fields.specs.Header.{request_header_entries, response_header_entries}
use Rattle.ua_fields.specs.Leaves.{boolean_tree, byte_string_tree, diagnostic_info, double, extension_object_tree}
use Rattle.ua_fields.specs.Leaves.{node_id_tree, number_tree, status_code_tree, string_tree}
use Rattle.ua_fields.specs.Tree.{Fields, array_of, named, structure}

-- SignedSoftwareCertificate (OPC 10000-4, 7.38)
unfoldable pub signed_software_certificate_entries : SignedSoftwareCertificate → Fields
signed_software_certificate_entries m = named (
    (codes "certificate_data", byte_string_tree m.certificate_data)
    ∷ (codes "signature", byte_string_tree m.signature)
    ∷ [])

-- SignatureData (OPC 10000-4, 7.37)
unfoldable pub signature_data_entries : SignatureData → Fields
signature_data_entries m = named (
    (codes "algorithm", string_tree m.algorithm)
    ∷ (codes "signature", byte_string_tree m.signature)
    ∷ [])

-- the request of CreateSession (OPC 10000-4, 5.7.2)
unfoldable pub create_session_request_entries : CreateSessionRequest → Fields
create_session_request_entries m = named (
    (codes "request_header", structure (request_header_entries m.request_header))
    ∷ (codes "client_description", structure (application_description_entries m.client_description))
    ∷ (codes "server_uri", string_tree m.server_uri)
    ∷ (codes "endpoint_url", string_tree m.endpoint_url)
    ∷ (codes "session_name", string_tree m.session_name)
    ∷ (codes "client_nonce", byte_string_tree m.client_nonce)
    ∷ (codes "client_certificate", byte_string_tree m.client_certificate)
    ∷ (codes "requested_session_timeout", double m.requested_session_timeout)
    ∷ (codes "max_response_message_size", number_tree m.max_response_message_size)
    ∷ [])

-- the response of CreateSession (OPC 10000-4, 5.7.2)
unfoldable pub create_session_response_entries : CreateSessionResponse → Fields
create_session_response_entries m = named (
    (codes "response_header", structure (response_header_entries m.response_header))
    ∷ (codes "session_id", node_id_tree m.session_id)
    ∷ (codes "authentication_token", node_id_tree m.authentication_token)
    ∷ (codes "revised_session_timeout", double m.revised_session_timeout)
    ∷ (codes "server_nonce", byte_string_tree m.server_nonce)
    ∷ (codes "server_certificate", byte_string_tree m.server_certificate)
    ∷ (codes "server_endpoints", array_of (λ e. structure (endpoint_description_entries e)) m.server_endpoints)
    ∷ (codes "server_software_certificates", array_of (λ e. structure (signed_software_certificate_entries e)) m.server_software_certificates)
    ∷ (codes "server_signature", structure (signature_data_entries m.server_signature))
    ∷ (codes "max_request_message_size", number_tree m.max_request_message_size)
    ∷ [])

-- the request of ActivateSession (OPC 10000-4, 5.7.3)
unfoldable pub activate_session_request_entries : ActivateSessionRequest → Fields
activate_session_request_entries m = named (
    (codes "request_header", structure (request_header_entries m.request_header))
    ∷ (codes "client_signature", structure (signature_data_entries m.client_signature))
    ∷ (codes "client_software_certificates", array_of (λ e. structure (signed_software_certificate_entries e)) m.client_software_certificates)
    ∷ (codes "locale_ids", array_of string_tree m.locale_ids)
    ∷ (codes "user_identity_token", extension_object_tree m.user_identity_token)
    ∷ (codes "user_token_signature", structure (signature_data_entries m.user_token_signature))
    ∷ [])

-- the response of ActivateSession (OPC 10000-4, 5.7.3)
unfoldable pub activate_session_response_entries : ActivateSessionResponse → Fields
activate_session_response_entries m = named (
    (codes "response_header", structure (response_header_entries m.response_header))
    ∷ (codes "server_nonce", byte_string_tree m.server_nonce)
    ∷ (codes "results", array_of status_code_tree m.results)
    ∷ (codes "diagnostic_infos", array_of diagnostic_info m.diagnostic_infos)
    ∷ [])

-- the request of CloseSession (OPC 10000-4, 5.7.4)
unfoldable pub close_session_request_entries : CloseSessionRequest → Fields
close_session_request_entries m = named (
    (codes "request_header", structure (request_header_entries m.request_header))
    ∷ (codes "delete_subscriptions", boolean_tree m.delete_subscriptions)
    ∷ [])

-- the response of CloseSession (OPC 10000-4, 5.7.4)
unfoldable pub close_session_response_entries : CloseSessionResponse → Fields
close_session_response_entries m = named (
    (codes "response_header", structure (response_header_entries m.response_header))
    ∷ [])
