-- The structures of the service GetEndpoints.
use Rattle.ua_builtin.specs.Format.{Format, flat}
use Rattle.ua_builtin.specs.Join.{pair, struct}
use Rattle.ua_builtin.specs.LocalizedText.{localized_text}
use Rattle.ua_opening.specs.Array.{array}
use Rattle.ua_opening.specs.Field.{byte, byte_string, int32, string}
use Rattle.ua_opening.specs.Header.{request_header, response_header}
use Rattle.ua_structures.specs.declared.discovery.ApplicationDescription.{ApplicationDescription}
use Rattle.ua_structures.specs.declared.discovery.EndpointDescription.{EndpointDescription}
use Rattle.ua_structures.specs.declared.discovery.GetEndpointsRequest.{GetEndpointsRequest}
use Rattle.ua_structures.specs.declared.discovery.GetEndpointsResponse.{GetEndpointsResponse}
use Rattle.ua_structures.specs.declared.discovery.UserTokenPolicy.{UserTokenPolicy}

-- ---- ApplicationDescription

-- its fields in order (OPC 10000-4, 7.2)
unfoldable pub application_description : Format ApplicationDescription
application_description = struct
    (λ (application_uri, (product_uri, (application_name, (application_type, (gateway_server_uri, (discovery_profile_uri, discovery_urls)))))). record {
      application_uri = application_uri;
      product_uri = product_uri;
      application_name = application_name;
      application_type = application_type;
      gateway_server_uri = gateway_server_uri;
      discovery_profile_uri = discovery_profile_uri;
      discovery_urls = discovery_urls;
    })
    (λ s. (s.application_uri, (s.product_uri, (s.application_name, (s.application_type, (s.gateway_server_uri, (s.discovery_profile_uri, s.discovery_urls)))))))
    (pair string (pair string (pair (flat localized_text) (pair int32 (pair string (pair string (array string)))))))

-- ---- UserTokenPolicy

-- its fields in order (OPC 10000-4, 7.42)
unfoldable pub user_token_policy : Format UserTokenPolicy
user_token_policy = struct
    (λ (policy_id, (token_type, (issued_token_type, (issuer_endpoint_url, security_policy_uri)))). record {
      policy_id = policy_id;
      token_type = token_type;
      issued_token_type = issued_token_type;
      issuer_endpoint_url = issuer_endpoint_url;
      security_policy_uri = security_policy_uri;
    })
    (λ s. (s.policy_id, (s.token_type, (s.issued_token_type, (s.issuer_endpoint_url, s.security_policy_uri)))))
    (pair string (pair int32 (pair string (pair string string))))

-- ---- EndpointDescription

-- its fields in order (OPC 10000-4, 7.14)
unfoldable pub endpoint_description : Format EndpointDescription
endpoint_description = struct
    (λ (
      endpoint_url,
      (
        server,
        (
          server_certificate,
          (
            security_mode,
            (
              security_policy_uri,
              (
                user_identity_tokens,
                (transport_profile_uri, security_level),
              ),
            ),
          ),
        ),
      ),
    ). record {
      endpoint_url = endpoint_url;
      server = server;
      server_certificate = server_certificate;
      security_mode = security_mode;
      security_policy_uri = security_policy_uri;
      user_identity_tokens = user_identity_tokens;
      transport_profile_uri = transport_profile_uri;
      security_level = security_level;
    })
    (λ s. (
      s.endpoint_url,
      (
        s.server,
        (
          s.server_certificate,
          (
            s.security_mode,
            (
              s.security_policy_uri,
              (
                s.user_identity_tokens,
                (s.transport_profile_uri, s.security_level),
              ),
            ),
          ),
        ),
      ),
    ))
    (pair string (pair application_description (pair byte_string (pair int32 (pair string (pair (array user_token_policy) (pair string byte)))))))

-- ---- GetEndpointsRequest

-- its fields in order (OPC 10000-4, 5.5.4)
unfoldable pub get_endpoints_request : Format GetEndpointsRequest
get_endpoints_request = struct
    (λ (request_header, (endpoint_url, (locale_ids, profile_uris))). record {
      request_header = request_header;
      endpoint_url = endpoint_url;
      locale_ids = locale_ids;
      profile_uris = profile_uris;
    })
    (λ s. (s.request_header, (s.endpoint_url, (s.locale_ids, s.profile_uris))))
    (pair request_header (pair string (pair (array string) (array string))))

-- ---- GetEndpointsResponse

-- its fields in order (OPC 10000-4, 5.5.4)
unfoldable pub get_endpoints_response : Format GetEndpointsResponse
get_endpoints_response = struct
    (λ (response_header, endpoints). record { response_header = response_header; endpoints = endpoints })
    (λ s. (s.response_header, s.endpoints))
    (pair response_header (array endpoint_description))
