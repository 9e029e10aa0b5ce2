-- The kinds of frames (UA TCP messages), and frame filters: which kinds are accepted.
use Rattle.std.specs.Prelude.{ℕ, List, [], ◌∷◌, Bool, true, false, ◌||◌, nat_eq}
use Rattle.ua_frame.specs.declared.kind.Kind.{Kind}
use Rattle.ua_frame.specs.declared.kind.Kind.TheVariants.{Hel, Ack, Msg, Opn, Clo}
use Rattle.ua_frame.specs.declared.kind.Kind.TheVariants as kind
use Rattle.ua_frame.specs.declared.gate.Gate.{Gate}

-- the three bytes that name a kind, in ASCII (OPC 10000-6, 7.1.2.2)
abbrev pub kind_octets : Kind → List ℕ
kind_octets Hel = 72 ∷ 69 ∷ 76 ∷ []
kind_octets Ack = 65 ∷ 67 ∷ 75 ∷ []
kind_octets kind.Err = 69 ∷ 82 ∷ 82 ∷ []
kind_octets Msg = 77 ∷ 83 ∷ 71 ∷ []
kind_octets Opn = 79 ∷ 80 ∷ 78 ∷ []
kind_octets Clo = 67 ∷ 76 ∷ 79 ∷ []

-- the minimum size of a frame of a kind, its header included (OPC 10000-6, 7.1.2 and 6.7.2)
abbrev pub least_size : Kind → ℕ
least_size Hel = 32
least_size Ack = 28
least_size kind.Err = 16
least_size Msg = 24
least_size Opn = 32
least_size Clo = 24

-- the flags that a kind has: F, C and A of MSG, F of OPN and CLO, and any of the others (OPC
-- 10000-6, 6.7.2.2)
abbrev pub has_flag : Kind → ℕ → Bool
has_flag Hel flag = true
has_flag Ack flag = true
has_flag kind.Err flag = true
has_flag Msg flag = nat_eq flag 70 || nat_eq flag 67 || nat_eq flag 65
has_flag Opn flag = nat_eq flag 70
has_flag Clo flag = nat_eq flag 70

-- whether a frame filter accepts a kind
abbrev pub lets_in : Gate → Kind → Bool
lets_in gate Hel = gate.hel
lets_in gate Ack = gate.ack
lets_in gate kind.Err = gate.err
lets_in gate Msg = gate.msg
lets_in gate Opn = gate.opn
lets_in gate Clo = gate.clo

-- the frame filter that accepts no kind
abbrev pub closed_gate : ℕ → Gate
closed_gate largest = record { hel = false; ack = false; err = false; msg = false; opn = false; clo = false; largest = largest }

-- a frame filter that accepts one kind more
abbrev pub gate_with : Gate → Kind → Gate
gate_with gate Hel = record gate { hel = true }
gate_with gate Ack = record gate { ack = true }
gate_with gate kind.Err = record gate { err = true }
gate_with gate Msg = record gate { msg = true }
gate_with gate Opn = record gate { opn = true }
gate_with gate Clo = record gate { clo = true }
