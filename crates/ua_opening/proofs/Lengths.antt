-- How many octets the bodies have that open and close a channel.
use Rattle.std.specs.Prelude.{◌≡◌, ℕ, ℤ, ◌++◌, length}
use Rattle.ua_wire.proofs.NumbersRead.{length-number_octets}
use Rattle.ua_builtin.specs.NodeId.{node_id}
use Rattle.ua_builtin.specs.Number.{number_octets}
use Rattle.ua_builtin.specs.declared.date_time.DateTime.{DateTime}
use Rattle.ua_opening.specs.Plain.{open_request_of, open_response_of, close_request_of}
use Rattle.ua_opening.specs.SecureChannel.{open_request, open_response, close_request}
use Rattle.ua_opening.proofs.PlainLengths.{joined, open_request_length as request_length}
use Rattle.ua_opening.proofs.PlainLengths.{open_response_length as response_length, close_request_length as close_length}
use Rattle.ua_opening.specs.Message.{message}

-- the NodeId of a number from 256 on has four octets
id_length : (number : ℕ) → length (number_octets 1 1 ++ (number_octets 1 0 ++ number_octets 2 number)) ≡ 4
id_length number = joined _ _ 1 3 (length-number_octets 1 1) (joined _ _ 1 2 (length-number_octets 1 0) (length-number_octets 2 number))

pub open_request_length : (kind : ℤ) (time : DateTime) (handle lifetime : ℕ)
    → length ((message 446 open_request).canonical (open_request_of kind time handle lifetime)) ≡ 53
unfolding node_id
open_request_length kind time handle lifetime = joined _ _ 4 49 (id_length 446) (request_length kind time handle lifetime)

pub open_response_length : (time : DateTime) (handle channel token lifetime : ℕ)
    → length ((message 449 open_response).canonical (open_response_of time handle channel token lifetime)) ≡ 56
unfolding node_id
open_response_length time handle channel token lifetime = joined _ _ 4 52 (id_length 449) (response_length time handle channel token lifetime)

pub close_request_length : (time : DateTime) (handle : ℕ) → length ((message 452 close_request).canonical (close_request_of time handle)) ≡ 33
unfolding node_id
close_request_length time handle = joined _ _ 4 29 (id_length 452) (close_length time handle)
