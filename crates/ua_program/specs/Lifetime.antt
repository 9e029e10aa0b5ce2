-- When the token of a SecureChannel is renewed.
use Rattle.std.specs.Prelude.{◌≡◌, ◌||◌, ◌*◌, ◌-◌, ℕ, Bool, nat_le, nat_lt, Some}
use Rattle.ua_chunk.specs.Opening.{opening_in}
use Rattle.ua_chunk.specs.declared.open_chunk.OpenChunk.{OpenChunk}
use Rattle.ua_frame.specs.declared.frame.Frame.{Frame}
use Rattle.ua_opening.specs.Open.{answer_read}
use Rattle.ua_opening.specs.declared.open.OpenAnswer.TheVariants.{Open}
use Rattle.ua_opening.specs.declared.secure_channel.OpenResponse.{OpenResponse}

-- a token that was requested at one time, in ticks of 100 ns, with this lifetime in milliseconds, is
-- renewed at another: three quarters of the lifetime have passed, which are 7500 ticks for each
-- millisecond, or the clock was set back (OPC 10000-4, 5.6.2: after 75 %)
abbrev pub is_due : ℕ → ℕ → ℕ → Bool
is_due moment requested_at lifetime = nat_lt moment requested_at || nat_le (lifetime * 7500) (moment - requested_at)

-- a frame is the response to an OPN, and gives a token this lifetime (OPC 10000-4, 5.6.2)
pub record GivesLifetime (frame : Frame) (lifetime : ℕ) : Type 0 where
  pub chunk : OpenChunk
  pub opening : opening_in frame ≡ Some chunk
  pub response : OpenResponse
  pub read : answer_read chunk.body ≡ Some (Open response)
  pub is : response.revised_lifetime ≡ lifetime
