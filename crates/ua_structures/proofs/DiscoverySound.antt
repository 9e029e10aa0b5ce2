-- The structures of the service GetEndpoints are sound.
use Rattle.std.proofs.Common.{refl}
use Rattle.ua_opening.proofs.HeaderSound.{sound_request_header, sound_response_header}
use Rattle.ua_opening.proofs.Sound.{Sound, sound_array, sound_byte, sound_byte_string, sound_int32}
use Rattle.ua_opening.proofs.Sound.{sound_localized_text, sound_pair, sound_string, sound_struct}
use Rattle.ua_structures.specs.Discovery.{application_description, endpoint_description, get_endpoints_request, get_endpoints_response, user_token_policy}

pub sound_application_description : Sound application_description
unfolding application_description
sound_application_description =
    sound_struct _ _ (λ v. refl) (λ p. refl)
    (sound_pair sound_string
    (sound_pair sound_string
    (sound_pair sound_localized_text (sound_pair sound_int32 (sound_pair sound_string (sound_pair sound_string (sound_array sound_string)))))))

pub sound_user_token_policy : Sound user_token_policy
unfolding user_token_policy
sound_user_token_policy =
    sound_struct _ _ (λ v. refl) (λ p. refl) (sound_pair sound_string (sound_pair sound_int32 (sound_pair sound_string (sound_pair sound_string sound_string))))

pub sound_endpoint_description : Sound endpoint_description
unfolding endpoint_description
sound_endpoint_description =
    sound_struct _ _ (λ v. refl) (λ p. refl)
    (sound_pair sound_string
    (sound_pair sound_application_description
    (sound_pair sound_byte_string
    (sound_pair sound_int32 (sound_pair sound_string (sound_pair (sound_array sound_user_token_policy) (sound_pair sound_string sound_byte)))))))

pub sound_get_endpoints_request : Sound get_endpoints_request
unfolding get_endpoints_request
sound_get_endpoints_request =
    sound_struct _ _ (λ v. refl) (λ p. refl)
    (sound_pair sound_request_header (sound_pair sound_string (sound_pair (sound_array sound_string) (sound_array sound_string))))

pub sound_get_endpoints_response : Sound get_endpoints_response
unfolding get_endpoints_response
sound_get_endpoints_response = sound_struct _ _ (λ v. refl) (λ p. refl) (sound_pair sound_response_header (sound_array sound_endpoint_description))
