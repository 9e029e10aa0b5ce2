-- Headers, ServiceFaults and the structures of secure channels that contain only what they are made
-- for.
use Rattle.std.specs.Prelude.{ℕ, ℤ, pos, None}
use Rattle.ua_builtin.specs.ExtensionObject.{null_object}
use Rattle.ua_builtin.specs.NodeId.{null_id}
use Rattle.ua_builtin.specs.Status.{of_code}
use Rattle.ua_builtin.specs.declared.date_time.DateTime.{DateTime}
use Rattle.ua_builtin.specs.declared.node_id.NodeId.{NodeId}
use Rattle.ua_builtin.specs.declared.status_code.StatusCode.{StatusCode}
use Rattle.ua_diagnostic.specs.View.{no_diagnostics}
use Rattle.ua_opening.specs.declared.header.RequestHeader.{RequestHeader}
use Rattle.ua_opening.specs.declared.header.ResponseHeader.{ResponseHeader}
use Rattle.ua_opening.specs.declared.header.ServiceFault.{ServiceFault}
use Rattle.ua_opening.specs.declared.secure_channel.CloseRequest.{CloseRequest}
use Rattle.ua_opening.specs.declared.secure_channel.OpenRequest.{OpenRequest}
use Rattle.ua_opening.specs.declared.secure_channel.OpenResponse.{OpenResponse}

-- a header of a request that asks for no diagnostics, names no audit entry and no timeout, and has
-- no AdditionalHeader
abbrev pub request_header_of : NodeId → DateTime → ℕ → RequestHeader
request_header_of token time handle = record {
  authentication_token = token;
  timestamp = time;
  request_handle = handle;
  return_diagnostics = 0;
  audit_entry_id = None;
  timeout_hint = 0;
  additional_header = null_object;
}

-- a header of a response without diagnostics, texts and AdditionalHeader
abbrev pub response_header_of : DateTime → ℕ → StatusCode → ResponseHeader
response_header_of time handle code = record {
  timestamp = time;
  request_handle = handle;
  service_result = code;
  service_diagnostics = no_diagnostics;
  string_table = None;
  additional_header = null_object;
}

-- headers whose fields are null or 0
abbrev pub empty_request_header : RequestHeader
empty_request_header = request_header_of null_id (record { ticks = pos 0 }) 0

abbrev pub empty_response_header : ResponseHeader
empty_response_header = response_header_of (record { ticks = pos 0 }) 0 (of_code 0)

-- a ServiceFault with its StatusCode alone
abbrev pub service_fault_of : DateTime → ℕ → StatusCode → ServiceFault
service_fault_of time handle code = record { response_header = response_header_of time handle code }

-- ---- secure channels

-- an OpenSecureChannel request of this type, 0 to issue a token and 1 to renew it: under no token,
-- of version 0, with the mode 1, None, and no nonce
abbrev pub open_request_of : ℤ → DateTime → ℕ → ℕ → OpenRequest
open_request_of kind time handle lifetime = record {
  request_header = request_header_of null_id time handle;
  client_protocol_version = 0;
  request_type = kind;
  security_mode = pos 1;
  client_nonce = None;
  requested_lifetime = lifetime;
}

-- the response that grants it: of version 0, created at this time, without a nonce
abbrev pub open_response_of : DateTime → ℕ → ℕ → ℕ → ℕ → OpenResponse
open_response_of time handle channel token lifetime = record {
  response_header = response_header_of time handle (of_code 0);
  server_protocol_version = 0;
  channel_id = channel;
  token_id = token;
  created_at = time;
  revised_lifetime = lifetime;
  server_nonce = None;
}

-- a CloseSecureChannel request under no token
abbrev pub close_request_of : DateTime → ℕ → CloseRequest
close_request_of time handle = record { request_header = request_header_of null_id time handle }
