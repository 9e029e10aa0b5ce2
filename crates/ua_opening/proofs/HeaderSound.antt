-- The structures of the headers and the ServiceFault are sound.
use Rattle.std.proofs.Common.{refl}
use Rattle.ua_opening.proofs.Sound.{Sound, sound_array, sound_date_time, sound_diagnostic, sound_extension_object}
use Rattle.ua_opening.proofs.Sound.{sound_node_id, sound_pair, sound_status_code, sound_string, sound_struct, sound_uint32}
use Rattle.ua_opening.specs.Header.{request_header, response_header, service_fault}

pub sound_request_header : Sound request_header
unfolding request_header
sound_request_header =
    sound_struct _ _ (λ v. refl) (λ p. refl)
    (sound_pair sound_node_id
    (sound_pair sound_date_time (sound_pair sound_uint32 (sound_pair sound_uint32 (sound_pair sound_string (sound_pair sound_uint32 sound_extension_object))))))

pub sound_response_header : Sound response_header
unfolding response_header
sound_response_header =
    sound_struct _ _ (λ v. refl) (λ p. refl)
    (sound_pair sound_date_time
    (sound_pair sound_uint32 (sound_pair sound_status_code (sound_pair sound_diagnostic (sound_pair (sound_array sound_string) sound_extension_object)))))

pub sound_service_fault : Sound service_fault
unfolding service_fault
sound_service_fault = sound_struct _ _ (λ v. refl) (λ p. refl) sound_response_header
