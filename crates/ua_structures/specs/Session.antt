-- The structures of the Session services.
use Rattle.ua_builtin.specs.Boolean.{boolean}
use Rattle.ua_builtin.specs.DoubleBits.{double_bits}
use Rattle.ua_builtin.specs.ExtensionObject.{extension_object}
use Rattle.ua_builtin.specs.Format.{Format, flat}
use Rattle.ua_builtin.specs.Join.{pair, struct}
use Rattle.ua_builtin.specs.NodeId.{node_id}
use Rattle.ua_builtin.specs.Status.{status_code}
use Rattle.ua_diagnostic.specs.Formats.{diagnostic_format}
use Rattle.ua_opening.specs.Array.{array}
use Rattle.ua_opening.specs.Field.{byte_string, string, uint32}
use Rattle.ua_opening.specs.Header.{request_header, response_header}
use Rattle.ua_structures.specs.Discovery.{application_description, endpoint_description}
use Rattle.ua_structures.specs.declared.session.ActivateSessionRequest.{ActivateSessionRequest}
use Rattle.ua_structures.specs.declared.session.ActivateSessionResponse.{ActivateSessionResponse}
use Rattle.ua_structures.specs.declared.session.AnonymousIdentityToken.{AnonymousIdentityToken}
use Rattle.ua_structures.specs.declared.session.CloseSessionRequest.{CloseSessionRequest}
use Rattle.ua_structures.specs.declared.session.CloseSessionResponse.{CloseSessionResponse}
use Rattle.ua_structures.specs.declared.session.CreateSessionRequest.{CreateSessionRequest}
use Rattle.ua_structures.specs.declared.session.CreateSessionResponse.{CreateSessionResponse}
use Rattle.ua_structures.specs.declared.signature.SignatureData.{SignatureData}
use Rattle.ua_structures.specs.declared.signature.SignedSoftwareCertificate.{SignedSoftwareCertificate}

-- ---- SignedSoftwareCertificate

-- its fields in order (OPC 10000-4, 7.38)
unfoldable pub signed_software_certificate : Format SignedSoftwareCertificate
signed_software_certificate = struct
    (λ (certificate_data, signature). record { certificate_data = certificate_data; signature = signature })
    (λ s. (s.certificate_data, s.signature))
    (pair byte_string byte_string)

-- ---- SignatureData

-- its fields in order (OPC 10000-4, 7.37)
unfoldable pub signature_data : Format SignatureData
signature_data = struct
    (λ (algorithm, signature). record { algorithm = algorithm; signature = signature })
    (λ s. (s.algorithm, s.signature))
    (pair string byte_string)

-- ---- AnonymousIdentityToken

-- its fields in order (OPC 10000-4, 7.41.3)
unfoldable pub anonymous_identity_token : Format AnonymousIdentityToken
anonymous_identity_token = struct
    (λ policy_id. record { policy_id = policy_id })
    (λ s. s.policy_id)
    string

-- ---- CreateSessionRequest

-- its fields in order (OPC 10000-4, 5.7.2)
unfoldable pub create_session_request : Format CreateSessionRequest
create_session_request = struct
    (λ (
      request_header,
      (
        client_description,
        (
          server_uri,
          (
            endpoint_url,
            (
              session_name,
              (
                client_nonce,
                (
                  client_certificate,
                  (requested_session_timeout, max_response_message_size),
                ),
              ),
            ),
          ),
        ),
      ),
    ). record {
      request_header = request_header;
      client_description = client_description;
      server_uri = server_uri;
      endpoint_url = endpoint_url;
      session_name = session_name;
      client_nonce = client_nonce;
      client_certificate = client_certificate;
      requested_session_timeout = requested_session_timeout;
      max_response_message_size = max_response_message_size;
    })
    (λ s. (
      s.request_header,
      (
        s.client_description,
        (
          s.server_uri,
          (
            s.endpoint_url,
            (
              s.session_name,
              (
                s.client_nonce,
                (
                  s.client_certificate,
                  (s.requested_session_timeout, s.max_response_message_size),
                ),
              ),
            ),
          ),
        ),
      ),
    ))
    (pair request_header
    (pair application_description (pair string (pair string (pair string (pair byte_string (pair byte_string (pair (flat double_bits) uint32))))))))

-- ---- CreateSessionResponse

-- its fields in order (OPC 10000-4, 5.7.2)
unfoldable pub create_session_response : Format CreateSessionResponse
create_session_response = struct
    (λ (
      response_header,
      (
        session_id,
        (
          authentication_token,
          (
            revised_session_timeout,
            (
              server_nonce,
              (
                server_certificate,
                (
                  server_endpoints,
                  (
                    server_software_certificates,
                    (server_signature, max_request_message_size),
                  ),
                ),
              ),
            ),
          ),
        ),
      ),
    ). record {
      response_header = response_header;
      session_id = session_id;
      authentication_token = authentication_token;
      revised_session_timeout = revised_session_timeout;
      server_nonce = server_nonce;
      server_certificate = server_certificate;
      server_endpoints = server_endpoints;
      server_software_certificates = server_software_certificates;
      server_signature = server_signature;
      max_request_message_size = max_request_message_size;
    })
    (λ s. (
      s.response_header,
      (
        s.session_id,
        (
          s.authentication_token,
          (
            s.revised_session_timeout,
            (
              s.server_nonce,
              (
                s.server_certificate,
                (
                  s.server_endpoints,
                  (
                    s.server_software_certificates,
                    (s.server_signature, s.max_request_message_size),
                  ),
                ),
              ),
            ),
          ),
        ),
      ),
    ))
    (pair response_header
    (pair (flat node_id)
    (pair (flat node_id)
    (pair (flat double_bits)
    (pair byte_string (pair byte_string (pair (array endpoint_description) (pair (array signed_software_certificate) (pair signature_data uint32)))))))))

-- ---- ActivateSessionRequest

-- its fields in order (OPC 10000-4, 5.7.3)
unfoldable pub activate_session_request : Format ActivateSessionRequest
activate_session_request = struct
    (λ (request_header, (client_signature, (client_software_certificates, (locale_ids, (user_identity_token, user_token_signature))))). record {
      request_header = request_header;
      client_signature = client_signature;
      client_software_certificates = client_software_certificates;
      locale_ids = locale_ids;
      user_identity_token = user_identity_token;
      user_token_signature = user_token_signature;
    })
    (λ s. (s.request_header, (s.client_signature, (s.client_software_certificates, (s.locale_ids, (s.user_identity_token, s.user_token_signature))))))
    (pair request_header (pair signature_data (pair (array signed_software_certificate) (pair (array string) (pair (flat extension_object) signature_data)))))

-- ---- ActivateSessionResponse

-- its fields in order (OPC 10000-4, 5.7.3)
unfoldable pub activate_session_response : Format ActivateSessionResponse
activate_session_response = struct
    (λ (response_header, (server_nonce, (results, diagnostic_infos))). record {
      response_header = response_header;
      server_nonce = server_nonce;
      results = results;
      diagnostic_infos = diagnostic_infos;
    })
    (λ s. (s.response_header, (s.server_nonce, (s.results, s.diagnostic_infos))))
    (pair response_header (pair byte_string (pair (array (flat status_code)) (array diagnostic_format))))

-- ---- CloseSessionRequest

-- its fields in order (OPC 10000-4, 5.7.4)
unfoldable pub close_session_request : Format CloseSessionRequest
close_session_request = struct
    (λ (request_header, delete_subscriptions). record { request_header = request_header; delete_subscriptions = delete_subscriptions })
    (λ s. (s.request_header, s.delete_subscriptions))
    (pair request_header (flat boolean))

-- ---- CloseSessionResponse

-- its fields in order (OPC 10000-4, 5.7.4)
unfoldable pub close_session_response : Format CloseSessionResponse
close_session_response = struct
    (λ response_header. record { response_header = response_header })
    (λ s. s.response_header)
    response_header
