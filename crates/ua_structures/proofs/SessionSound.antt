-- The structures of the Session services are sound.
use Rattle.std.proofs.Common.{refl}
use Rattle.ua_opening.proofs.HeaderSound.{sound_request_header, sound_response_header}
use Rattle.ua_opening.proofs.Sound.{Sound, sound_array, sound_boolean, sound_byte_string, sound_diagnostic, sound_double_bits}
use Rattle.ua_opening.proofs.Sound.{sound_extension_object, sound_node_id, sound_pair, sound_status_code, sound_string, sound_struct, sound_uint32}
use Rattle.ua_structures.proofs.DiscoverySound.{sound_application_description, sound_endpoint_description}
use Rattle.ua_structures.specs.Session.{activate_session_request, activate_session_response, close_session_request, close_session_response}
use Rattle.ua_structures.specs.Session.{create_session_request, create_session_response, signature_data, signed_software_certificate}

pub sound_signed_software_certificate : Sound signed_software_certificate
unfolding signed_software_certificate
sound_signed_software_certificate = sound_struct _ _ (λ v. refl) (λ p. refl) (sound_pair sound_byte_string sound_byte_string)

pub sound_signature_data : Sound signature_data
unfolding signature_data
sound_signature_data = sound_struct _ _ (λ v. refl) (λ p. refl) (sound_pair sound_string sound_byte_string)

pub sound_create_session_request : Sound create_session_request
unfolding create_session_request
sound_create_session_request =
    sound_struct _ _ (λ v. refl) (λ p. refl)
    (sound_pair sound_request_header
    (sound_pair sound_application_description
    (sound_pair sound_string
    (sound_pair sound_string
    (sound_pair sound_string (sound_pair sound_byte_string (sound_pair sound_byte_string (sound_pair sound_double_bits sound_uint32))))))))

pub sound_create_session_response : Sound create_session_response
unfolding create_session_response
sound_create_session_response =
    sound_struct _ _ (λ v. refl) (λ p. refl)
    (sound_pair sound_response_header
    (sound_pair sound_node_id
    (sound_pair sound_node_id
    (sound_pair sound_double_bits
    (sound_pair sound_byte_string
    (sound_pair sound_byte_string
    (sound_pair (sound_array sound_endpoint_description)
    (sound_pair (sound_array sound_signed_software_certificate) (sound_pair sound_signature_data sound_uint32)))))))))

pub sound_activate_session_request : Sound activate_session_request
unfolding activate_session_request
sound_activate_session_request =
    sound_struct _ _ (λ v. refl) (λ p. refl)
    (sound_pair sound_request_header
    (sound_pair sound_signature_data
    (sound_pair (sound_array sound_signed_software_certificate)
    (sound_pair (sound_array sound_string) (sound_pair sound_extension_object sound_signature_data)))))

pub sound_activate_session_response : Sound activate_session_response
unfolding activate_session_response
sound_activate_session_response =
    sound_struct _ _ (λ v. refl) (λ p. refl)
    (sound_pair sound_response_header (sound_pair sound_byte_string (sound_pair (sound_array sound_status_code) (sound_array sound_diagnostic))))

pub sound_close_session_request : Sound close_session_request
unfolding close_session_request
sound_close_session_request = sound_struct _ _ (λ v. refl) (λ p. refl) (sound_pair sound_request_header sound_boolean)

pub sound_close_session_response : Sound close_session_response
unfolding close_session_response
sound_close_session_response = sound_struct _ _ (λ v. refl) (λ p. refl) sound_response_header
