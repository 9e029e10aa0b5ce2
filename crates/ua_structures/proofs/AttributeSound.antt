-- The structures of the services Read and Write are sound.
use Rattle.std.proofs.Common.{refl}
use Rattle.ua_opening.proofs.HeaderSound.{sound_request_header, sound_response_header}
use Rattle.ua_opening.proofs.Sound.{Sound, sound_array, sound_diagnostic, sound_double_bits, sound_int32, sound_node_id}
use Rattle.ua_opening.proofs.Sound.{sound_pair, sound_qualified_name, sound_status_code, sound_string, sound_struct, sound_uint32}
use Rattle.ua_structures.specs.Attribute.{read_request, read_value_id, write_response}

pub sound_read_value_id : Sound read_value_id
unfolding read_value_id
sound_read_value_id =
    sound_struct _ _ (λ v. refl) (λ p. refl) (sound_pair sound_node_id (sound_pair sound_uint32 (sound_pair sound_string sound_qualified_name)))

pub sound_read_request : Sound read_request
unfolding read_request
sound_read_request =
    sound_struct _ _ (λ v. refl) (λ p. refl)
    (sound_pair sound_request_header (sound_pair sound_double_bits (sound_pair sound_int32 (sound_array sound_read_value_id))))

pub sound_write_response : Sound write_response
unfolding write_response
sound_write_response =
    sound_struct _ _ (λ v. refl) (λ p. refl) (sound_pair sound_response_header (sound_pair (sound_array sound_status_code) (sound_array sound_diagnostic)))
