-- The limits that both ends of a recorded connection named (OPC 10000-6, 7.1.2.3 and 7.1.2.4).
use Rattle.std.specs.Prelude.{◌≡◌, List, ℕ, [], ◌∷◌, drop, Option, Some, None}
use Rattle.ua_frame.specs.declared.ack.Ack.{Ack}
use Rattle.ua_frame.specs.declared.hello.Hello.{Hello}
use Rattle.ua_frame.specs.declared.kind.Kind.{Kind}
use Rattle.ua_frame.specs.declared.kind.Kind.TheVariants as kind
use Rattle.ua_frame.specs.declared.limits.Limits.{Limits}
use Rattle.ua_frame.specs.Frames.{Frames, kind_of}
use Rattle.ua_frame.specs.Messages.{ack, hello}
use Rattle.ua_frame.specs.Whole.{whole_of}
use Rattle.ua_judge.specs.SidesLimits.{HasLimits}

-- the first of a list, if it has one
abbrev pub head_of : {A : Type 0} → List A → Option A
head_of [] = None
head_of (x ∷ xs) = Some x

-- the first frame of the bytes, if all of it is there
pub record IsFirst (octets : List ℕ) (first : Option (List ℕ)) : Type 0 where
  pub frames : List (List ℕ)
  pub rest : List ℕ
  pub framed : Frames octets frames rest
  pub first_is : first ≡ head_of frames

-- the Acknowledge of a frame of this kind
abbrev pub ack_by : Option Kind → List ℕ → Option Ack
ack_by (Some kind.Ack) frame = whole_of ack (drop 8 frame)
ack_by other frame = None

-- the Hello of a frame of this kind
abbrev pub hello_by : Option Kind → List ℕ → Option Hello
hello_by (Some kind.Hel) frame = whole_of hello (drop 8 frame)
hello_by other frame = None

-- the Acknowledge that a frame carries, if it is an ACK whose body is one
abbrev pub ack_in_frame : List ℕ → Option Ack
ack_in_frame frame = ack_by (kind_of frame) frame

-- the Hello that a frame carries, if it is a HEL whose body is one
abbrev pub hello_in_frame : List ℕ → Option Hello
hello_in_frame frame = hello_by (kind_of frame) frame

-- the same of the first frame, if there is one
abbrev pub ack_first : Option (List ℕ) → Option Ack
ack_first None = None
ack_first (Some frame) = ack_in_frame frame

abbrev pub hello_first : Option (List ℕ) → Option Hello
hello_first None = None
hello_first (Some frame) = hello_in_frame frame

-- the Acknowledge that a server's bytes begin with, if they do
pub record HasAck (octets : List ℕ) (found : Option Ack) : Type 0 where
  pub first : Option (List ℕ)
  pub is_first : IsFirst octets first
  pub found_is : found ≡ ack_first first

-- the Hello that a client's bytes begin with, if they do
pub record HasHello (octets : List ℕ) (found : Option Hello) : Type 0 where
  pub first : Option (List ℕ)
  pub is_first : IsFirst octets first
  pub found_is : found ≡ hello_first first

-- the limits in an Acknowledge: the least buffers and no other limits if there is none
abbrev pub AckLimits : Option Ack → Limits → Type 0
AckLimits None limits = HasLimits limits 0 0 0 0
AckLimits (Some a) limits = HasLimits limits a.receive_buffer_size a.send_buffer_size a.max_message_size a.max_chunk_count

-- the limits in a Hello: the least buffers and no other limits if there is none
abbrev pub HelloLimits : Option Hello → Limits → Type 0
HelloLimits None limits = HasLimits limits 0 0 0 0
HelloLimits (Some h) limits = HasLimits limits h.receive_buffer_size h.send_buffer_size h.max_message_size h.max_chunk_count

-- the limits of a server with these bytes
pub record AreServerLimits (octets : List ℕ) (limits : Limits) : Type 0 where
  pub ack : Option Ack
  pub has : HasAck octets ack
  pub are : AckLimits ack limits

-- the limits of a client with these bytes
pub record AreClientLimits (octets : List ℕ) (limits : Limits) : Type 0 where
  pub hello : Option Hello
  pub has : HasHello octets hello
  pub are : HelloLimits hello limits
