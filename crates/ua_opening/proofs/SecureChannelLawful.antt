-- The structures of the SecureChannel services are lawful.
use Rattle.std.proofs.Common.{refl}
use Rattle.ua_builtin.specs.Format.{IsLawful}
use Rattle.ua_opening.specs.SecureChannel.{open_request, open_response, close_request}
use Rattle.ua_builtin.proofs.PlainLawful.{lawful_date_time}
use Rattle.ua_wire.proofs.CountedLawful.{lawful_counted}
use Rattle.ua_wire.proofs.Lawfulness.{lawful_32, lawful_pair, lawful_struct}
use Rattle.ua_wire.proofs.ScalarsLawful.{lawful_signed_32}
use Rattle.ua_opening.proofs.HeaderSound.{sound_request_header, sound_response_header}

pub lawful_open_request : IsLawful open_request
unfolding open_request
lawful_open_request =
    lawful_struct _ _ (λ v. refl) (λ p. refl)
    (lawful_pair sound_request_header.lawful
    (lawful_pair lawful_32 (lawful_pair lawful_signed_32 (lawful_pair lawful_signed_32 (lawful_pair lawful_counted lawful_32)))))

pub lawful_open_response : IsLawful open_response
unfolding open_response
lawful_open_response =
    lawful_struct _ _ (λ v. refl) (λ p. refl)
    (lawful_pair sound_response_header.lawful
    (lawful_pair lawful_32 (lawful_pair lawful_32 (lawful_pair lawful_32 (lawful_pair lawful_date_time (lawful_pair lawful_32 lawful_counted))))))

pub lawful_close_request : IsLawful close_request
unfolding close_request
lawful_close_request = lawful_struct _ _ (λ v. refl) (λ p. refl) sound_request_header.lawful
