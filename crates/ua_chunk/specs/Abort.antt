-- The bodies of A chunks (OPC 10000-6, 6.7.3): the code of the error, a UInt32, and a String with
-- the reason. So 00 00 02 80 FF FF FF FF is BadInternalError with a null reason.
use Rattle.std.specs.Prelude.{ℕ, Bool, List, Option, is_some}
use Rattle.ua_wire.specs.Counted.{text}
use Rattle.ua_wire.specs.Format.{Flat}
use Rattle.ua_wire.specs.Join.{both}
use Rattle.ua_builtin.specs.Status.{status_code}
use Rattle.ua_builtin.specs.declared.status_code.StatusCode.{StatusCode}
use Rattle.ua_frame.specs.Whole.{whole_of}

-- a StatusCode, and a reason after it
unfoldable pub abort_body : Flat (StatusCode × Option (List ℕ))
abort_body = both status_code text

-- the StatusCode and the reason that the body of an abort encodes, with nothing after
abbrev pub abort_of : List ℕ → Option (StatusCode × Option (List ℕ))
abort_of b = whole_of abort_body b

-- whether the body of an abort can be decoded
abbrev pub is_readable_abort : List ℕ → Bool
is_readable_abort b = is_some (abort_of b)
