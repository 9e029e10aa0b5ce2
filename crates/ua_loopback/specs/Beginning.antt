-- How the server at the other end of a transport began.
use Rattle.std.specs.Prelude.{ℕ, pos, [], None}
use Rattle.std.proofs.Math.Nat.{le_refl}
use Rattle.ua_builtin.specs.declared.date_time.DateTime.{DateTime}
use Rattle.ua_frame.specs.declared.limits.Limits.{Limits}
use Rattle.ua_server.specs.State.{State, fresh}
use Rattle.ua_loopback.specs.Times.{time_at}
use Rattle.ua_loopback.specs.declared.server_setup.ServerSetup.{ServerSetup}

-- its limits, its SecureChannelId, its services when the connection began, and the time of each of
-- its answers that carries one, by its number: the first OPN response has the number 0
pub record Beginning : Type 0 where
  pub limits : Limits
  pub channel : ℕ
  pub first : State
  pub moments : ℕ → DateTime

-- how a server begins that is set up so: its answers have its timestamp and the later ones, in
-- order, and then the last of all again and again
abbrev pub beginning_of : ServerSetup → Beginning
beginning_of s = record { limits = s.limits; channel = s.channel_id; first = s.services; moments = time_at s.moment s.later.items }

-- the least limits
abbrev pub least_server_limits : Limits
least_server_limits = record {
  receive_buffer_size = 8192;
  send_buffer_size = 8192;
  max_message_size = 1;
  max_chunk_count = 1;
  max_response_size = 0;
  receives = le_refl 8192;
  sends = le_refl 8192;
  takes_octets = le_refl 1;
  takes_chunks = le_refl 1;
}

-- a server with nothing to serve, which is at the end of no transport
abbrev pub no_server : Beginning
no_server = record {
  limits = least_server_limits;
  channel = 0;
  first = fresh [] (record { url = None; application_uri = None; name = None; message_limit = 0 });
  moments = λ (n : ℕ). record { ticks = pos 0 };
}
