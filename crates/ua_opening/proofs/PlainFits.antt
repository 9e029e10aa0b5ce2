-- Headers, faults and the structures of secure channels with nothing in them but what they are made for can be encoded.
use Rattle.std.specs.Prelude.{ℕ, ℤ, pos, ◌<◌, ◌^◌, Bool, true, false, ◌&&◌, IsTrue, None}
use Rattle.std.proofs.Common.{refl, arith}
use Rattle.std.proofs.lemmas.Bool.{lt-ltb}
use Rattle.ua_builtin.specs.Counted.{text, counted}
use Rattle.ua_builtin.specs.DateTime.{date_time}
use Rattle.ua_builtin.specs.ExtensionObject.{extension_object, null_object}
use Rattle.ua_builtin.specs.Format.{Format}
use Rattle.ua_builtin.specs.NodeId.{node_id, null_id}
use Rattle.ua_builtin.specs.Status.{status_code, of_code}
use Rattle.ua_builtin.specs.declared.date_time.DateTime.{DateTime}
use Rattle.ua_builtin.specs.declared.node_id.NodeId.{NodeId}
use Rattle.ua_builtin.specs.declared.status_code.StatusCode.{StatusCode}
use Rattle.ua_diagnostic.specs.Diagnostic.{diagnostic_fields_encodable}
use Rattle.ua_diagnostic.specs.View.{no_diagnostics}
use Rattle.ua_diagnostic.specs.Formats.{diagnostic_format}
use Rattle.ua_opening.specs.Array.{array}
use Rattle.ua_opening.specs.Field.{byte_string, int32, string, uint32}
use Rattle.ua_opening.specs.Header.{request_header, response_header}
use Rattle.ua_opening.specs.SecureChannel.{open_request, open_response, close_request}
use Rattle.ua_opening.specs.Plain.{request_header_of, response_header_of, open_request_of, open_response_of, close_request_of}

pub and_true : (a b : Bool) → IsTrue a → IsTrue b → IsTrue (a && b)
and_true true b h k = k
and_true false b h k = absurd cc

-- ---- nulls

null_id_fits : IsTrue (node_id.encodable null_id)
unfolding node_id
null_id_fits = refl

null_object_fits : IsTrue (extension_object.encodable null_object)
unfolding extension_object node_id
null_object_fits = refl

pub null_string_fits : IsTrue (string.encodable None)
unfolding text counted
null_string_fits = refl

pub null_octets_fit : IsTrue (byte_string.encodable None)
unfolding counted
null_octets_fit = refl

pub null_array_fits : {A : Type 0} (f : Format A) → IsTrue ((array f).encodable None)
unfolding array
null_array_fits f = refl

no_diagnostics_fit : IsTrue (diagnostic_format.encodable no_diagnostics)
unfolding diagnostic_format diagnostic_fields_encodable
no_diagnostics_fit = refl

good_fits : IsTrue (status_code.encodable (of_code 0))
unfolding status_code
good_fits = refl

pub uint32_fits : (n : ℕ) → n < 2 ^ 32 → IsTrue (uint32.encodable n)
uint32_fits n h = lt-ltb n (256 ^ 4) (omega (arith, h))

-- ---- headers

pub request_header_fits : (token : NodeId) (time : DateTime) (handle : ℕ) → IsTrue (node_id.encodable token) → IsTrue (date_time.encodable time)
    → handle < 2 ^ 32 → IsTrue (request_header.encodable (request_header_of token time handle))
unfolding request_header
request_header_fits token time handle id moment number =
    and_true (node_id.encodable token) _ id (and_true (date_time.encodable time) _ moment (and_true (uint32.encodable handle) _ (uint32_fits handle number)
    (and_true (string.encodable None) _ null_string_fits null_object_fits)))

pub response_header_fits : (time : DateTime) (handle : ℕ) (code : StatusCode) → IsTrue (date_time.encodable time) → handle < 2 ^ 32
    → IsTrue (status_code.encodable code) → IsTrue (response_header.encodable (response_header_of time handle code))
unfolding response_header
response_header_fits time handle code moment number result =
    and_true (date_time.encodable time) _ moment
    (and_true (uint32.encodable handle) _ (uint32_fits handle number) (and_true (status_code.encodable code) _ result
    (and_true (diagnostic_format.encodable no_diagnostics) _ no_diagnostics_fit
    (and_true ((array string).encodable None) _ (null_array_fits string) null_object_fits))))

-- ---- secure channels

-- a request of a type that is a number of 32 bits
open_request_fits_by : (kind : ℤ) (time : DateTime) (handle lifetime : ℕ) → IsTrue (int32.encodable kind) → IsTrue (date_time.encodable time) → handle < 2 ^ 32
    → lifetime < 2 ^ 32 → IsTrue (open_request.encodable (open_request_of kind time handle lifetime))
unfolding open_request
open_request_fits_by kind time handle lifetime is moment number life =
    and_true (request_header.encodable (request_header_of null_id time handle)) _ (request_header_fits null_id time handle null_id_fits moment number)
    (and_true (int32.encodable kind) _ is (and_true (byte_string.encodable None) _ null_octets_fit (uint32_fits lifetime life)))

pub issue_fits : (time : DateTime) (handle lifetime : ℕ) → IsTrue (date_time.encodable time) → handle < 2 ^ 32 → lifetime < 2 ^ 32
    → IsTrue (open_request.encodable (open_request_of (pos 0) time handle lifetime))
issue_fits time handle lifetime = open_request_fits_by (pos 0) time handle lifetime refl

pub renew_fits : (time : DateTime) (handle lifetime : ℕ) → IsTrue (date_time.encodable time) → handle < 2 ^ 32 → lifetime < 2 ^ 32
    → IsTrue (open_request.encodable (open_request_of (pos 1) time handle lifetime))
renew_fits time handle lifetime = open_request_fits_by (pos 1) time handle lifetime refl

pub open_response_fits : (time : DateTime) (handle channel token lifetime : ℕ) → IsTrue (date_time.encodable time) → handle < 2 ^ 32 → channel < 2 ^ 32
    → token < 2 ^ 32 → lifetime < 2 ^ 32
    → IsTrue (open_response.encodable (open_response_of time handle channel token lifetime))
unfolding open_response
open_response_fits time handle channel token lifetime moment number one two life =
    and_true (response_header.encodable (response_header_of time handle (of_code 0))) _ (response_header_fits time handle (of_code 0) moment number good_fits)
    (and_true (uint32.encodable channel) _ (uint32_fits channel one)
    (and_true (uint32.encodable token) _ (uint32_fits token two) (and_true (date_time.encodable time) _ moment
    (and_true (uint32.encodable lifetime) _ (uint32_fits lifetime life) null_octets_fit))))

pub close_request_fits : (time : DateTime) (handle : ℕ) → IsTrue (date_time.encodable time) → handle < 2 ^ 32
    → IsTrue (close_request.encodable (close_request_of time handle))
unfolding close_request
close_request_fits time handle moment number = request_header_fits null_id time handle null_id_fits moment number
