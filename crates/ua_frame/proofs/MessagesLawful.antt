-- The formats of Hello, Acknowledge and Error are sound and lawful.
use Rattle.std.proofs.Common.{refl}
use Rattle.ua_wire.specs.Format.{flat, IsSound, IsLawful, TakesSome}
use Rattle.ua_wire.specs.Number.{IsNumber}
use Rattle.ua_wire.specs.Join.{number, both}
use Rattle.ua_wire.specs.Counted.{text}
use Rattle.ua_wire.proofs.Lawfulness.{number_starts, pair_starts, image_starts, sound_number, sound_both, sound_made, lawful_flat}
use Rattle.ua_wire.proofs.CountedLawful.{sound_text}
use Rattle.ua_wire.proofs.Leasts.{least_starts}
use Rattle.ua_builtin.specs.Status.{status_code}
use Rattle.ua_builtin.proofs.Leasts.{status_code_least}
use Rattle.ua_builtin.proofs.PlainLawful.{sound_status_code}
use Rattle.ua_frame.specs.Messages.{hello, hello_of, hello_fields, ack, ack_of, ack_fields, error, error_of}

-- ---- Hello

pub sound_hello : IsSound hello
unfolding hello
sound_hello =
    sound_made _ _ (λ h. refl)
    (sound_both (sound_number 4)
    (sound_both (sound_number 4) (sound_both (sound_number 4) (sound_both (sound_number 4) (sound_both (sound_number 4) sound_text)))))

hello_starts : TakesSome hello.encodes
unfolding hello
hello_starts =
    image_starts hello_of hello_fields.encodes (pair_starts (IsNumber 4) (both (number 4) (both (number 4) (both (number 4) (both (number 4) text)))).encodes
    (number_starts 3))

pub lawful_hello : IsLawful (flat hello)
lawful_hello = lawful_flat sound_hello hello_starts

-- ---- Acknowledge

pub sound_ack : IsSound ack
unfolding ack
sound_ack =
    sound_made _ _ (λ a. refl)
    (sound_both (sound_number 4) (sound_both (sound_number 4) (sound_both (sound_number 4) (sound_both (sound_number 4) (sound_number 4)))))

ack_starts : TakesSome ack.encodes
unfolding ack
ack_starts =
    image_starts ack_of ack_fields.encodes (pair_starts (IsNumber 4) (both (number 4) (both (number 4) (both (number 4) (number 4)))).encodes (number_starts 3))

pub lawful_ack : IsLawful (flat ack)
lawful_ack = lawful_flat sound_ack ack_starts

-- ---- Error

pub sound_error : IsSound error
unfolding error
sound_error = sound_made _ _ (λ e. refl) (sound_both sound_status_code sound_text)

error_starts : TakesSome error.encodes
unfolding error
error_starts = image_starts error_of (both status_code text).encodes
    (pair_starts status_code.encodes text.encodes (least_starts 3 status_code.encodes status_code_least))

pub lawful_error : IsLawful (flat error)
lawful_error = lawful_flat sound_error error_starts
