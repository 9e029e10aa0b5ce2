-- How many octets the structures have that open and close a channel, with nothing in them but what they are made for.
use Rattle.std.specs.Prelude.{◌≡◌, ℕ, ℤ, pos, ◌+◌, List, ◌++◌, length, None}
use Rattle.std.proofs.Common.{refl, arith, length-append}
use Rattle.ua_wire.proofs.NumbersRead.{length-number_octets}
use Rattle.ua_builtin.specs.Counted.{text, counted}
use Rattle.ua_builtin.specs.DateTime.{date_time}
use Rattle.ua_builtin.specs.ExtensionObject.{extension_object, null_object}
use Rattle.ua_builtin.specs.NodeId.{node_id, null_id}
use Rattle.ua_builtin.specs.Status.{status_code, of_code}
use Rattle.ua_builtin.specs.declared.date_time.DateTime.{DateTime}
use Rattle.ua_diagnostic.specs.Formats.{diagnostic_format}
use Rattle.ua_diagnostic.specs.Diagnostic.{diagnostic_fields_canonical}
use Rattle.ua_diagnostic.specs.View.{no_diagnostics}
use Rattle.ua_opening.specs.Array.{array}
use Rattle.ua_opening.specs.Field.{byte_string, int32, string, uint32}
use Rattle.ua_opening.specs.Header.{request_header, response_header}
use Rattle.ua_opening.specs.Plain.{request_header_of, response_header_of, open_request_of, open_response_of, close_request_of}
use Rattle.ua_opening.specs.SecureChannel.{open_request, open_response, close_request}

-- octets of these lengths, one behind the other
pub joined : (a b : List ℕ) (m n : ℕ) → length a ≡ m → length b ≡ n → length (a ++ b) ≡ m + n
joined a b m n p q = omega (arith, p, q, length-append a b)

uint32_length : (n : ℕ) → length (uint32.canonical n) ≡ 4
uint32_length n = length-number_octets 4 n

int32_length : (z : ℤ) → length (int32.canonical z) ≡ 4
int32_length z = length-number_octets 4 _

time_length : (time : DateTime) → length (date_time.canonical time) ≡ 8
unfolding date_time
time_length time = length-number_octets 8 _

null_id_length : length (node_id.canonical null_id) ≡ 2
unfolding node_id
null_id_length = joined _ _ 1 1 (length-number_octets 1 0) (length-number_octets 1 0)

null_string_length : length (string.canonical None) ≡ 4
unfolding text counted
null_string_length = length-number_octets 4 _

null_octets_length : length (byte_string.canonical None) ≡ 4
unfolding counted
null_octets_length = length-number_octets 4 _

null_strings_length : length ((array string).canonical None) ≡ 4
unfolding array
null_strings_length = length-number_octets 4 _

null_object_length : length (extension_object.canonical null_object) ≡ 3
unfolding extension_object
null_object_length = joined (node_id.canonical null_id) _ 2 1 null_id_length refl

no_diagnostics_length : length (diagnostic_format.canonical no_diagnostics) ≡ 1
unfolding diagnostic_format diagnostic_fields_canonical
no_diagnostics_length = refl

good_length : length (status_code.canonical (of_code 0)) ≡ 4
unfolding status_code
good_length = length-number_octets 4 0

request_header_length : (time : DateTime) (handle : ℕ) → length (request_header.canonical (request_header_of null_id time handle)) ≡ 29
unfolding request_header
request_header_length time handle =
    joined _ _ 2 27 null_id_length (joined _ _ 8 19 (time_length time) (joined _ _ 4 15 (uint32_length handle) (joined _ _ 4 11 (uint32_length 0)
    (joined _ _ 4 7 null_string_length (joined _ _ 4 3 (uint32_length 0) null_object_length)))))

response_header_length : (time : DateTime) (handle : ℕ) → length (response_header.canonical (response_header_of time handle (of_code 0))) ≡ 24
unfolding response_header
response_header_length time handle =
    joined _ _ 8 16 (time_length time) (joined _ _ 4 12 (uint32_length handle) (joined _ _ 4 8 good_length (joined _ _ 1 7 no_diagnostics_length
    (joined _ _ 4 3 null_strings_length null_object_length))))

pub open_request_length : (kind : ℤ) (time : DateTime) (handle lifetime : ℕ) → length (open_request.canonical (open_request_of kind time handle lifetime)) ≡ 49
unfolding open_request
open_request_length kind time handle lifetime =
    joined _ _ 29 20 (request_header_length time handle) (joined _ _ 4 16 (uint32_length 0) (joined _ _ 4 12 (int32_length kind)
    (joined _ _ 4 8 (int32_length (pos 1)) (joined _ _ 4 4 null_octets_length (uint32_length lifetime)))))

pub open_response_length : (time : DateTime) (handle channel token lifetime : ℕ)
    → length (open_response.canonical (open_response_of time handle channel token lifetime)) ≡ 52
unfolding open_response
open_response_length time handle channel token lifetime =
    joined _ _ 24 28 (response_header_length time handle) (joined _ _ 4 24 (uint32_length 0) (joined _ _ 4 20 (uint32_length channel)
    (joined _ _ 4 16 (uint32_length token) (joined _ _ 8 8 (time_length time) (joined _ _ 4 4 (uint32_length lifetime) null_octets_length)))))

pub close_request_length : (time : DateTime) (handle : ℕ) → length (close_request.canonical (close_request_of time handle)) ≡ 29
unfolding close_request
close_request_length time handle = request_header_length time handle
