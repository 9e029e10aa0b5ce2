-- The limits that an end of a recorded connection named in its HEL or ACK, as those of our ends.
use Rattle.std.specs.Prelude.{◌≡◌, ℕ, ◌==◌, cond, max}
use Rattle.ua_frame.specs.declared.limits.Limits.{Limits}

-- a limit of messages: 0 is none, as is the greatest number
abbrev pub or_most : ℕ → ℕ
or_most limit = cond (limit == 0) 4294967295 limit

-- the limits of these numbers; a buffer that is too small, for which the other end rejects, counts as
-- one of 8192 bytes
pub record HasLimits (limits : Limits) (receive send message chunks : ℕ) : Type 0 where
  pub receives : limits.receive_buffer_size ≡ max receive 8192
  pub sends : limits.send_buffer_size ≡ max send 8192
  pub takes_octets : limits.max_message_size ≡ or_most message
  pub takes_chunks : limits.max_chunk_count ≡ or_most chunks
