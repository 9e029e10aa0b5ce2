-- The fields of the structures of the service GetEndpoints.
use Rattle.std.specs.Prelude.{[], codes, ◌∷◌}
use Rattle.ua_structures.specs.declared.discovery.ApplicationDescription.{ApplicationDescription}
use Rattle.ua_structures.specs.declared.discovery.EndpointDescription.{EndpointDescription}
use Rattle.ua_structures.specs.declared.discovery.GetEndpointsRequest.{GetEndpointsRequest}
use Rattle.ua_structures.specs.declared.discovery.GetEndpointsResponse.{GetEndpointsResponse}
use Rattle.ua_structures.specs.declared.discovery.UserTokenPolicy.{UserTokenPolicy}
use Rattle.ua_fields.specs.Header.{request_header_entries, response_header_entries}
use Rattle.ua_fields.specs.Leaves.{byte_string_tree, localized_text_tree, number_tree, signed_tree, string_tree}
use Rattle.ua_fields.specs.Tree.{Fields, array_of, named, structure}

-- ApplicationDescription (OPC 10000-4, 7.2)
unfoldable pub application_description_entries : ApplicationDescription → Fields
application_description_entries m = named (
    (codes "application_uri", string_tree m.application_uri)
    ∷ (codes "product_uri", string_tree m.product_uri)
    ∷ (codes "application_name", localized_text_tree m.application_name)
    ∷ (codes "application_type", signed_tree m.application_type)
    ∷ (codes "gateway_server_uri", string_tree m.gateway_server_uri)
    ∷ (codes "discovery_profile_uri", string_tree m.discovery_profile_uri)
    ∷ (codes "discovery_urls", array_of string_tree m.discovery_urls)
    ∷ [])

-- UserTokenPolicy (OPC 10000-4, 7.42)
unfoldable pub user_token_policy_entries : UserTokenPolicy → Fields
user_token_policy_entries m = named (
    (codes "policy_id", string_tree m.policy_id)
    ∷ (codes "token_type", signed_tree m.token_type)
    ∷ (codes "issued_token_type", string_tree m.issued_token_type)
    ∷ (codes "issuer_endpoint_url", string_tree m.issuer_endpoint_url)
    ∷ (codes "security_policy_uri", string_tree m.security_policy_uri)
    ∷ [])

-- EndpointDescription (OPC 10000-4, 7.14)
unfoldable pub endpoint_description_entries : EndpointDescription → Fields
endpoint_description_entries m = named (
    (codes "endpoint_url", string_tree m.endpoint_url)
    ∷ (codes "server", structure (application_description_entries m.server))
    ∷ (codes "server_certificate", byte_string_tree m.server_certificate)
    ∷ (codes "security_mode", signed_tree m.security_mode)
    ∷ (codes "security_policy_uri", string_tree m.security_policy_uri)
    ∷ (codes "user_identity_tokens", array_of (λ e. structure (user_token_policy_entries e)) m.user_identity_tokens)
    ∷ (codes "transport_profile_uri", string_tree m.transport_profile_uri)
    ∷ (codes "security_level", number_tree m.security_level)
    ∷ [])

-- the request of GetEndpoints (OPC 10000-4, 5.5.4)
unfoldable pub get_endpoints_request_entries : GetEndpointsRequest → Fields
get_endpoints_request_entries m = named (
    (codes "request_header", structure (request_header_entries m.request_header))
    ∷ (codes "endpoint_url", string_tree m.endpoint_url)
    ∷ (codes "locale_ids", array_of string_tree m.locale_ids)
    ∷ (codes "profile_uris", array_of string_tree m.profile_uris)
    ∷ [])

-- the response of GetEndpoints (OPC 10000-4, 5.5.4)
unfoldable pub get_endpoints_response_entries : GetEndpointsResponse → Fields
get_endpoints_response_entries m = named (
    (codes "response_header", structure (response_header_entries m.response_header))
    ∷ (codes "endpoints", array_of (λ e. structure (endpoint_description_entries e)) m.endpoints)
    ∷ [])
