-- The structures of the SecureChannel services.
use Rattle.ua_builtin.specs.DateTime.{date_time}
use Rattle.ua_builtin.specs.Format.{Format, flat}
use Rattle.ua_builtin.specs.Join.{pair, struct}
use Rattle.ua_opening.specs.Field.{byte_string, int32, uint32}
use Rattle.ua_opening.specs.Header.{request_header, response_header}
use Rattle.ua_opening.specs.declared.secure_channel.CloseRequest.{CloseRequest}
use Rattle.ua_opening.specs.declared.secure_channel.OpenRequest.{OpenRequest}
use Rattle.ua_opening.specs.declared.secure_channel.OpenResponse.{OpenResponse}

-- ---- OpenRequest

-- its fields in order (OPC 10000-4, 5.6.2)
unfoldable pub open_request : Format OpenRequest
open_request = struct
    (λ (request_header, (client_protocol_version, (request_type, (security_mode, (client_nonce, requested_lifetime))))). record {
      request_header = request_header;
      client_protocol_version = client_protocol_version;
      request_type = request_type;
      security_mode = security_mode;
      client_nonce = client_nonce;
      requested_lifetime = requested_lifetime;
    })
    (λ s. (s.request_header, (s.client_protocol_version, (s.request_type, (s.security_mode, (s.client_nonce, s.requested_lifetime))))))
    (pair request_header (pair uint32 (pair int32 (pair int32 (pair byte_string uint32)))))

-- ---- OpenResponse

-- its fields in order (OPC 10000-4, 5.6.2)
unfoldable pub open_response : Format OpenResponse
open_response = struct
    (λ (response_header, (server_protocol_version, (channel_id, (token_id, (created_at, (revised_lifetime, server_nonce)))))). record {
      response_header = response_header;
      server_protocol_version = server_protocol_version;
      channel_id = channel_id;
      token_id = token_id;
      created_at = created_at;
      revised_lifetime = revised_lifetime;
      server_nonce = server_nonce;
    })
    (λ s. (s.response_header, (s.server_protocol_version, (s.channel_id, (s.token_id, (s.created_at, (s.revised_lifetime, s.server_nonce)))))))
    (pair response_header (pair uint32 (pair uint32 (pair uint32 (pair (flat date_time) (pair uint32 byte_string))))))

-- ---- CloseRequest

-- its fields in order (OPC 10000-4, 5.6.3)
unfoldable pub close_request : Format CloseRequest
close_request = struct
    (λ request_header. record { request_header = request_header })
    (λ s. s.request_header)
    request_header
