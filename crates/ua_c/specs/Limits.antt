-- The limits that C passes.
use Rattle.std.specs.Prelude.{◌≡◌, ℕ, Option, Some, None}
use Rattle.ua_frame.specs.Limits.{AreAllowed, HasSizes}
use Rattle.ua_frame.specs.declared.limits.Limits.{Limits}
use Rattle.ua_c.specs.declared.limits.UaLimits.{UaLimits}

-- the bytes of the structure: five numbers of 32 bits
abbrev pub limits_size : ℕ
limits_size = 20

-- it has this many bytes, and each number is at least the least one
abbrev pub AreEnough : UaLimits → Type 0
AreEnough c = (c.size ≡ limits_size) × AreAllowed c.receive_buffer_size c.send_buffer_size c.max_message_size c.max_chunk_count

-- these limits are those numbers
abbrev pub AreThese : UaLimits → Limits → Type 0
AreThese c limits = HasSizes limits c.receive_buffer_size c.send_buffer_size c.max_message_size c.max_chunk_count

-- the limits with these numbers, if they are large enough, and none otherwise
abbrev pub Allowed : UaLimits → Option Limits → Type 0
Allowed c (Some limits) = AreEnough c × AreThese c limits
Allowed c None = ¬ (AreEnough c)
