-- The first frame of a client: the frame filter for it, and the Hello that its body is.
use Rattle.std.specs.Prelude.{ℕ, List, Bool, false, Option, Some, None}
use Rattle.ua_frame.specs.declared.gate.Gate.{Gate}
use Rattle.ua_frame.specs.declared.hello.Hello.{Hello}
use Rattle.ua_frame.specs.declared.kind.Kind.TheVariants.{Hel}
use Rattle.ua_frame.specs.Kinds.{closed_gate, gate_with}
use Rattle.ua_frame.specs.Messages.{hello}
use Rattle.ua_frame.specs.Whole.{whole_of}

-- HEL frames of at most 8192 bytes (OPC 10000-6, 7.1.2.3)
abbrev pub hello_gate : Gate
hello_gate = gate_with (closed_gate 8192) Hel

-- the Hello that a body is, with nothing after it, if it is one
abbrev pub hello_in : List ℕ → Option Hello
hello_in body = whole_of hello body

-- there is a Hello with this property
abbrev pub is_so : (Hello → Bool) → Option Hello → Bool
is_so test None = false
is_so test (Some h) = test h
