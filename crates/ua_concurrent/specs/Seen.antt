-- What is known of a socket, and what its calls make of that.
use Rattle.std.specs.Prelude.{◌≡◌, ℕ, Bool, true, false, ◌||◌, List, cond, length, nat_eq, take, Option, Result, Ok, Err}
use Rattle.std.specs.Option.{option_map}
use Rattle.ua_channel.specs.Line.{one_more}
use Rattle.ua_concurrent.specs.Carried.{Carried, with_read, with_more_written}
use Rattle.ua_concurrent.specs.declared.socket.Readiness.{Readiness}
use Rattle.ua_concurrent.specs.declared.socket.Stop.{Stop}
use Rattle.ua_concurrent.specs.declared.socket.Stop.TheVariants.{Blocked, Failed}

pub record Seen : Type 0 where
  -- the bytes that were read and written so far, where the socket tells them
  pub heard : Option Carried
  -- whether a read may find something: bytes, the end, or a failure; and whether a write may be
  -- taken, or fail
  pub readable : Bool
  pub writable : Bool
  -- how many calls failed so far, counted as those of a `Line`
  pub failures : ℕ
  -- whether a read found the end
  pub ended : Bool

-- after the system reported this
abbrev pub woken : Readiness → Seen → Seen
woken r s = record s { readable = s.readable || (r.readable || r.ended); writable = s.writable || (r.writable || r.ended) }

-- whether a read of this many bytes, where there was room for that many, found the end
abbrev pub finds_end : ℕ → ℕ → Bool
finds_end n room = cond (nat_eq n 0) (cond (nat_eq room 0) false true) false

-- a read: it brought the first bytes of what the buffer has now, or found the end; nothing is there
-- now; or it failed
abbrev pub SocketReads : Result ℕ Stop → List ℕ → Seen → Seen → Type 0
SocketReads (Ok n) buffer a b = b ≡ record a {
  heard = option_map (with_read (take n buffer)) a.heard;
  readable = b.readable;
  ended = a.ended || finds_end n (length buffer);
}
SocketReads (Err Blocked) buffer a b = b ≡ record a { readable = false }
SocketReads (Err Failed) buffer a b = b ≡ record a { failures = one_more a.failures }

-- a write: it took the first of these bytes, or none now, or it failed
abbrev pub SocketWrites : Result ℕ Stop → List ℕ → Seen → Seen → Type 0
SocketWrites (Ok n) octets a b = b ≡ record a { heard = option_map (with_more_written (take n octets)) a.heard; writable = b.writable }
SocketWrites (Err Blocked) octets a b = b ≡ record a { writable = false }
SocketWrites (Err Failed) octets a b = b ≡ record a { failures = one_more a.failures }
