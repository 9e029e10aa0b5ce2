-- That what both ends send to open a channel can be written.
use Rattle.std.proofs.Common.{ℕ, ◌<◌, IsTrue, Fits, List, Option, min, refl, arith, w32, w64}
use Rattle.std.specs.Prelude.{nat_lt, ℤ, pos, negsuc, ◌^◌}
use Rattle.std.specs.Int.{Width, cast_unsigned}
use Rattle.std.specs.Int.RustNames.{FitsSigned}
use Rattle.std.proofs.Math.Facts.{Fits-lt-pow, Fits-of_z}
use Rattle.std.proofs.lemmas.Bool.{and_from, lt-ltb}
use mir.Val.{hbits}
use Rattle.ua_wire.specs.Counted.{text}
use Rattle.ua_wire.specs.Signed.{in_range, width_octets}
use Rattle.ua_builtin.specs.DateTime.{date_time}
use Rattle.ua_builtin.specs.declared.date_time.DateTime.{DateTime}
use Rattle.ua_frame.specs.Messages.{ack, hello}
use Rattle.ua_frame.specs.declared.limits.Limits.{Limits}
use Rattle.ua_server.specs.State.{State}
use Rattle.ua_loopback.specs.Beginning.{Beginning}
use Rattle.ua_loopback.specs.Talking.{CanBegin}
use Rattle.ua_loopback.specs.inside.Talking.{CanOpenTo}

-- ---- moments

signed_fits : (w : Width) (z : ℤ) → FitsSigned w z → IsTrue (in_range w z)
signed_fits w (pos n) f = lt-ltb n (2 ^ hbits w) f.sfits
signed_fits w (negsuc n) f = lt-ltb n (2 ^ hbits w) f.sfits

pub moment_fits : (moment : DateTime) → FitsSigned w64 moment.ticks → IsTrue (date_time.encodable moment)
unfolding date_time
moment_fits moment f =
    and_from (in_range w64 moment.ticks) (nat_lt (cast_unsigned w64 moment.ticks) (256 ^ width_octets w64)) (signed_fits w64 moment.ticks f)
    (lt-ltb (cast_unsigned w64 moment.ticks) (256 ^ width_octets w64) (Fits-lt-pow (Fits-of_z f)))

-- ---- numbers

below : (n : ℕ) → Fits w32 n → n < 4294967296
below n f = Fits-lt-pow f

lesser : (n m : ℕ) → m < 4294967296 → min n m < 4294967296
lesser n m less = omega (arith, less)

-- what a client with these limits and a server send to open a channel at a time that can be written can be written
pub can_open_at : (b : Beginning) (limits : Limits) (url : Option (List ℕ)) (moment : DateTime) → CanBegin b → Fits w32 limits.receive_buffer_size
    → Fits w32 limits.send_buffer_size → Fits w32 limits.max_message_size → Fits w32 limits.max_chunk_count
    → IsTrue (date_time.encodable moment) → IsTrue (text.encodable url) → CanOpenTo b limits url moment
unfolding hello ack
can_open_at b limits url moment can receive send octets chunks dated url_fits = record {
  hello_fits =
      and_from _ _ refl
      (and_from _ _ (lt-ltb limits.receive_buffer_size (256 ^ 4) (below limits.receive_buffer_size receive))
      (and_from _ _ (lt-ltb limits.send_buffer_size (256 ^ 4) (below limits.send_buffer_size send))
      (and_from _ _ (lt-ltb limits.max_message_size (256 ^ 4) (below limits.max_message_size octets))
      (and_from _ _ (lt-ltb limits.max_chunk_count (256 ^ 4) (below limits.max_chunk_count chunks)) url_fits))));
  url_fits = url_fits;
  ack_fits =
      and_from _ _ refl
      (and_from _ _
      (lt-ltb (min b.limits.receive_buffer_size limits.send_buffer_size) (256 ^ 4)
      (lesser b.limits.receive_buffer_size limits.send_buffer_size (below limits.send_buffer_size send)))
      (and_from _ _
      (lt-ltb (min b.limits.send_buffer_size limits.receive_buffer_size) (256 ^ 4)
      (lesser b.limits.send_buffer_size limits.receive_buffer_size (below limits.receive_buffer_size receive)))
      (and_from _ _ (lt-ltb b.limits.max_message_size (256 ^ 4) can.octets) (lt-ltb b.limits.max_chunk_count (256 ^ 4) can.chunks))));
  on = can.on;
  dated = dated;
  answered = can.dated;
}

-- the same of a time of 64 bits
pub can_open_to : (b : Beginning) (limits : Limits) (url : Option (List ℕ)) (moment : DateTime) → CanBegin b → Fits w32 limits.receive_buffer_size
    → Fits w32 limits.send_buffer_size → Fits w32 limits.max_message_size → Fits w32 limits.max_chunk_count
    → FitsSigned w64 moment.ticks → IsTrue (text.encodable url) → CanOpenTo b limits url moment
can_open_to b limits url moment can receive send octets chunks dated url_fits =
    can_open_at b limits url moment can receive send octets chunks (moment_fits moment dated) url_fits

-- the same of a server with the same limits
pub can_open : (limits : Limits) (channel : ℕ) (first : State) (url : Option (List ℕ)) (moment : DateTime) → Fits w32 limits.receive_buffer_size
    → Fits w32 limits.send_buffer_size → Fits w32 limits.max_message_size → Fits w32 limits.max_chunk_count
    → Fits w32 channel → FitsSigned w64 moment.ticks → (times : ℕ → DateTime) → ((n : ℕ) → IsTrue (date_time.encodable (times n))) → IsTrue (text.encodable url)
    → CanOpenTo (record { limits = limits; channel = channel; first = first; moments = times }) limits url moment
can_open limits channel first url moment receive send octets chunks small dated times all url_fits =
    can_open_to (record { limits = limits; channel = channel; first = first; moments = times }) limits url moment
    (record {
      octets = below limits.max_message_size octets;
      chunks = below limits.max_chunk_count chunks;
      on = below channel small;
      dated = all;
    }) receive send octets chunks dated url_fits
