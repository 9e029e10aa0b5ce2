-- The headers and the bodies of aborts: reading finds just what is encoded.
use Rattle.ua_wire.specs.Format.{IsSound}
use Rattle.ua_wire.proofs.CountedLawful.{sound_counted, sound_text}
use Rattle.ua_wire.proofs.Lawfulness.{sound_number, sound_both}
use Rattle.ua_builtin.proofs.PlainLawful.{sound_status_code}
use Rattle.ua_chunk.specs.Abort.{abort_body}
use Rattle.ua_chunk.specs.Layout.{token_header, sequence_header}
use Rattle.ua_chunk.specs.Opening.{policy_header}

pub sound_token_header : IsSound token_header
sound_token_header = sound_both (sound_number 4) (sound_number 4)

pub sound_sequence_header : IsSound sequence_header
sound_sequence_header = sound_both (sound_number 4) (sound_number 4)

pub sound_policy_header : IsSound policy_header
sound_policy_header = sound_both (sound_number 4) (sound_both sound_counted (sound_both sound_counted sound_counted))

pub sound_abort_body : IsSound abort_body
unfolding abort_body
sound_abort_body = sound_both sound_status_code sound_text
