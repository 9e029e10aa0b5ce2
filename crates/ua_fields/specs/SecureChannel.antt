-- The fields of the structures of the SecureChannel services.
use Rattle.std.specs.Prelude.{[], codes, ◌∷◌}
use Rattle.ua_opening.specs.declared.secure_channel.CloseRequest.{CloseRequest}
use Rattle.ua_opening.specs.declared.secure_channel.OpenRequest.{OpenRequest}
use Rattle.ua_fields.specs.Header.{request_header_entries}
use Rattle.ua_fields.specs.Leaves.{byte_string_tree, number_tree, signed_tree}
use Rattle.ua_fields.specs.Tree.{Fields, named, structure}

-- the request of OpenSecureChannel (OPC 10000-4, 5.6.2)
unfoldable pub open_request_entries : OpenRequest → Fields
open_request_entries m = named (
    (codes "request_header", structure (request_header_entries m.request_header))
    ∷ (codes "client_protocol_version", number_tree m.client_protocol_version)
    ∷ (codes "request_type", signed_tree m.request_type)
    ∷ (codes "security_mode", signed_tree m.security_mode)
    ∷ (codes "client_nonce", byte_string_tree m.client_nonce)
    ∷ (codes "requested_lifetime", number_tree m.requested_lifetime)
    ∷ [])

-- the request of CloseSecureChannel (OPC 10000-4, 5.6.3)
unfoldable pub close_request_entries : CloseRequest → Fields
close_request_entries m = named (
    (codes "request_header", structure (request_header_entries m.request_header))
    ∷ [])
