-- Structures that contain only what they are made for.
use Rattle.std.specs.Prelude.{ℕ, ℤ, pos, List, Option, Some, None}
use Rattle.ua_builtin.specs.declared.extension_object.ExtensionObject.{ExtensionObject}
use Rattle.ua_builtin.specs.declared.node_id.NodeId.{NodeId}
use Rattle.ua_builtin.specs.declared.status_code.StatusCode.{StatusCode}
use Rattle.ua_wire.specs.declared.double_bits.DoubleBits.{DoubleBits}
use Rattle.ua_variant.specs.declared.values.DataValue.{DataValue}
use Rattle.ua_structures.specs.declared.attribute.ReadRequest.{ReadRequest}
use Rattle.ua_structures.specs.declared.attribute.ReadResponse.{ReadResponse}
use Rattle.ua_structures.specs.declared.attribute.ReadValueId.{ReadValueId}
use Rattle.ua_structures.specs.declared.attribute.WriteRequest.{WriteRequest}
use Rattle.ua_structures.specs.declared.attribute.WriteResponse.{WriteResponse}
use Rattle.ua_structures.specs.declared.attribute.WriteValue.{WriteValue}
use Rattle.ua_structures.specs.declared.discovery.ApplicationDescription.{ApplicationDescription}
use Rattle.ua_structures.specs.declared.discovery.EndpointDescription.{EndpointDescription}
use Rattle.ua_structures.specs.declared.discovery.GetEndpointsRequest.{GetEndpointsRequest}
use Rattle.ua_opening.specs.declared.header.RequestHeader.{RequestHeader}
use Rattle.ua_opening.specs.declared.header.ResponseHeader.{ResponseHeader}
use Rattle.ua_structures.specs.declared.session.ActivateSessionRequest.{ActivateSessionRequest}
use Rattle.ua_structures.specs.declared.session.ActivateSessionResponse.{ActivateSessionResponse}
use Rattle.ua_structures.specs.declared.session.CreateSessionRequest.{CreateSessionRequest}
use Rattle.ua_structures.specs.declared.session.CreateSessionResponse.{CreateSessionResponse}
use Rattle.ua_structures.specs.declared.signature.SignatureData.{SignatureData}
use Rattle.ua_opening.specs.Plain.{empty_request_header, empty_response_header}

-- the whole Value of a node, attribute 13, in its default encoding
abbrev pub value_of_node : NodeId → ReadValueId
value_of_node id = record { node_id = id; attribute_id = 13; index_range = None; data_encoding = record { namespace = 0; name = None } }

-- the whole Value of a node, attribute 13, set to this
abbrev pub value_for_node : NodeId → DataValue → WriteValue
value_for_node id value = record { node_id = id; attribute_id = 13; index_range = None; value = value }

-- a Read of these items, whatever the age of their values, with the timestamps of source and
-- server: the number 2
abbrev pub read_of : RequestHeader → List ReadValueId → ReadRequest
read_of header items = record { request_header = header; max_age = record { bits = 0 }; timestamps_to_return = pos 2; nodes_to_read = Some items }

-- a Write of these items
abbrev pub write_of : RequestHeader → List WriteValue → WriteRequest
write_of header items = record { request_header = header; nodes_to_write = Some items }

-- a Read of nothing, a Write of nothing, and the values of no items
abbrev pub empty_read : ReadRequest
empty_read = record { request_header = empty_request_header; max_age = record { bits = 0 }; timestamps_to_return = pos 0; nodes_to_read = None }

abbrev pub empty_write : WriteRequest
empty_write = record { request_header = empty_request_header; nodes_to_write = None }

abbrev pub empty_read_response : ReadResponse
empty_read_response = record { response_header = empty_response_header; results = None; diagnostic_infos = None }

-- no signature: neither an algorithm nor bytes
abbrev pub null_signature : SignatureData
null_signature = record { algorithm = None; signature = None }

-- ---- sessions

-- an application of this type, 0 for a server and 1 for a client, with this URI, name and
-- addresses; the name has no locale, and all else is null
abbrev pub application_of : ℤ → Option (List ℕ) → Option (List ℕ) → Option (List (Option (List ℕ))) → ApplicationDescription
application_of kind uri name urls = record {
  application_uri = uri;
  product_uri = None;
  application_name = record { locale = None; text = name };
  application_type = kind;
  gateway_server_uri = None;
  discovery_profile_uri = None;
  discovery_urls = urls;
}

-- a GetEndpoints request at this address, for any locale and profile
abbrev pub get_endpoints_request_of : RequestHeader → Option (List ℕ) → GetEndpointsRequest
get_endpoints_request_of header url = record { request_header = header; endpoint_url = url; locale_ids = None; profile_uris = None }

-- a CreateSession request of this client, at this address, under this name, with this timeout: no
-- limit of responses, and all else null
abbrev pub create_session_of : RequestHeader → ApplicationDescription → Option (List ℕ) → Option (List ℕ) → DoubleBits → CreateSessionRequest
create_session_of header client url name timeout = record {
  request_header = header;
  client_description = client;
  server_uri = None;
  endpoint_url = url;
  session_name = name;
  client_nonce = None;
  client_certificate = None;
  requested_session_timeout = timeout;
  max_response_message_size = 0;
}

-- the response: the session's id and token, its timeout, the endpoints, and the most bytes of a
-- request; all else is null
abbrev pub session_of : ResponseHeader → NodeId → NodeId → DoubleBits → Option (List EndpointDescription) → ℕ → CreateSessionResponse
session_of header id token timeout endpoints most = record {
  response_header = header;
  session_id = id;
  authentication_token = token;
  revised_session_timeout = timeout;
  server_nonce = None;
  server_certificate = None;
  server_endpoints = endpoints;
  server_software_certificates = None;
  server_signature = null_signature;
  max_request_message_size = most;
}

-- an ActivateSession request by this identity; all else is null
abbrev pub activate_session_of : RequestHeader → ExtensionObject → ActivateSessionRequest
activate_session_of header identity = record {
  request_header = header;
  client_signature = null_signature;
  client_software_certificates = None;
  locale_ids = None;
  user_identity_token = identity;
  user_token_signature = null_signature;
}

-- the response, with nulls alone
abbrev pub activated_of : ResponseHeader → ActivateSessionResponse
activated_of header = record { response_header = header; server_nonce = None; results = None; diagnostic_infos = None }

-- ---- the answers to Read and Write

-- the values of a Read response, without diagnostics
abbrev pub read_response_of : ResponseHeader → List DataValue → ReadResponse
read_response_of header values = record { response_header = header; results = Some values; diagnostic_infos = None }

-- the result of each item of a Write, without diagnostics
abbrev pub write_response_of : ResponseHeader → List StatusCode → WriteResponse
write_response_of header codes = record { response_header = header; results = Some codes; diagnostic_infos = None }
