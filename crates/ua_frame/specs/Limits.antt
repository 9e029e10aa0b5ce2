-- What one end allows.
use Rattle.std.specs.Prelude.{◌≡◌, ℕ, ◌≤◌, cond, nat_eq, min}
use Rattle.ua_frame.specs.declared.limits.Limits.{Limits}

-- limits that one end may set: frames of at least 8192 bytes (OPC 10000-6, 7.1.2.3), messages of at
-- least a byte and a chunk
pub record AreAllowed (receive send message chunks : ℕ) : Type 0 where
  pub receives : 8192 ≤ receive
  pub sends : 8192 ≤ send
  pub takes_octets : 1 ≤ message
  pub takes_chunks : 1 ≤ chunks

-- limits with these sizes
pub record HasSizes (limits : Limits) (receive send message chunks : ℕ) : Type 0 where
  pub receives : limits.receive_buffer_size ≡ receive
  pub sends : limits.send_buffer_size ≡ send
  pub takes_octets : limits.max_message_size ≡ message
  pub takes_chunks : limits.max_chunk_count ≡ chunks
  pub answers_all : limits.max_response_size ≡ 0

-- these limits, with at most this many bytes in a response's body; 0 is no limit
abbrev pub with_responses : Limits → ℕ → Limits
with_responses limits most = record limits { max_response_size = most }

-- the smaller of two limits, of which 0 is none
abbrev pub tighter : ℕ → ℕ → ℕ
tighter a b = cond (nat_eq a 0) b (cond (nat_eq b 0) a (min a b))
