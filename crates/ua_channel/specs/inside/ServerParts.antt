-- What the parts of a server make of one frame.
use Rattle.std.specs.Prelude.{◌≡◌, ℕ, ◌≤◌, ◌+◌, ◌==◌, pos, nat_lt, nat_le, Bool, ◌&&◌, not, List, [], ◌∷◌, Option, Some, None, Result, Ok, Err}
use Rattle.std.proofs.Common.{int_eq}
use Rattle.ua_builtin.specs.Reasons.{first_reason}
use Rattle.ua_frame.specs.declared.hello.Hello.{Hello}
use Rattle.ua_frame.specs.declared.limits.Limits.{Limits}
use Rattle.ua_frame.specs.Hello.{hello_in}
use Rattle.ua_opening.specs.Message.{message, body_of}
use Rattle.ua_opening.specs.SecureChannel.{open_request}
use Rattle.ua_opening.specs.declared.secure_channel.OpenRequest.{OpenRequest}
use Rattle.ua_chunk.specs.declared.chunk.Chunk.{Chunk}
use Rattle.ua_chunk.specs.Sequence.{may_follow}
use Rattle.ua_channel.specs.declared.running.Running.{Running}
use Rattle.ua_channel.specs.declared.server_event.Event.{Event}
use Rattle.ua_channel.specs.declared.end_fault.EndFault.{EndFault}
use Rattle.ua_channel.specs.declared.server_opening.Asked.{Asked}
use Rattle.ua_channel.specs.declared.server_opening.Opened.{Opened}
use Rattle.ua_channel.specs.Agreement.{Agreement, agreement_of}
use Rattle.ua_channel.specs.Content.{Content, opening_of}
use Rattle.ua_channel.specs.Content.Content.{Greets, Opens}
use Rattle.ua_channel.specs.inside.Parts.{IsFaultFor, MayEndIn}
use Rattle.ua_channel.specs.Received.{Received, after}
use Rattle.ua_channel.specs.ServerEvents.{server_told_of_event, parts_of_event}
use Rattle.ua_channel.specs.ServerRefusals.{type_wanted, server_reasons}
use Rattle.ua_channel.specs.ServerRules.{receive_size}
use Rattle.ua_channel.specs.ServerStands.{Stays}
use Rattle.ua_channel.specs.ServerTold.{issued, lifetime_for, server_tells, Told, Told as told}

-- a fault of a server's part: it rejects with a code of which this holds, or an allocation failed
abbrev pub IsRefusalFor : (ℕ → Type 0) → EndFault → Type 0
IsRefusalFor Refuses fault = IsFaultFor Refuses (λ (code : ℕ). ⊥) fault

-- ---- HEL

-- the body is a Hello with this agreement, whatever came before
pub record AgreesTo (limits : Limits) (body : List ℕ) (a : Agreement) : Type 0 where
  pub hello : Hello
  pub reads : hello_in body ≡ Some hello
  pub agreement_is : a ≡ agreement_of limits hello
  pub large : 8192 ≤ receive_size limits (Some hello)
  pub accepted : (channel : ℕ) (before : Received) → first_reason (server_reasons limits channel before (Greets (hello_in body))) ≡ None

-- the outcome for the body of a HEL
abbrev pub JudgesHello : Limits → List ℕ → Result Agreement EndFault → Type 0
JudgesHello limits body (Ok a) = AgreesTo limits body a
JudgesHello limits body (Err fault) =
    IsRefusalFor (λ code. (channel : ℕ) (before : Received) → first_reason (server_reasons limits channel before (Greets (hello_in body))) ≡ Some code) fault

-- ---- OPN

-- a request with these contents
pub record AreContentsOfRequest (r : OpenRequest) (a : Asked) : Type 0 where
  pub kind : a.kind ≡ r.request_type
  pub mode : a.mode ≡ r.security_mode
  pub handle : a.handle ≡ r.request_header.request_handle
  pub lifetime : a.lifetime ≡ lifetime_for r.requested_lifetime

-- bytes are the body of a request with these contents
pub record IsAskedIn (octets : List ℕ) (a : Asked) : Type 0 where
  pub request : OpenRequest
  pub reads : body_of (message 446 open_request) octets ≡ Some request
  pub asks : AreContentsOfRequest request a

-- what is decoded of the bytes after a sequence header
abbrev pub ReadsAsked : List ℕ → Result Asked EndFault → Type 0
ReadsAsked octets (Ok a) = IsAskedIn octets a
ReadsAsked octets (Err fault) = IsRefusalFor (λ code. (code ≡ 0x8007_0000) × (body_of (message 446 open_request) octets ≡ None)) fault

-- why a request is rejected whose OPN names this channel, where this many tokens were issued:
-- Bad_RequestTypeInvalid, Bad_SecurityModeRejected, Bad_TcpSecureChannelUnknown
abbrev pub asked_reasons : Asked → ℕ → ℕ → ℕ → List (ℕ × Bool)
asked_reasons a on channel count =
    (0x8053_0000, not (int_eq a.kind (pos (type_wanted count))))
    ∷ (0x8054_0000, not (int_eq a.mode (pos 1)))
    ∷ (0x807F_0000, nat_lt 0 count && not (on == channel))
    ∷ []

-- an OPN has this token issued, apart from what remains to be judged: its SequenceNumber, and
-- whether a token is left
pub record OpensSo (channel count : ℕ) (body : List ℕ) (o : Opened) : Type 0 where
  pub numbers_are : (opening_of body).numbers ≡ Some (o.sequence, o.request)
  pub tells : (limits : Limits) (before : Received) → issued before ≡ count → server_tells limits before (Opens (opening_of body))
      ≡ told.Opened o.request o.handle (count + 1) o.lifetime ∷ []
  pub remain : (limits : Limits) (before : Received) → issued before ≡ count → first_reason (server_reasons limits channel before (Opens (opening_of body)))
      ≡ first_reason ((0x8088_0000, not (may_follow before.last o.sequence)) ∷ (0x8081_0000, issued before == 4294967295) ∷ [])

-- the outcome for the body of an OPN if this many tokens were issued
abbrev pub JudgesOpening : ℕ → ℕ → List ℕ → Result Opened EndFault → Type 0
JudgesOpening channel count body (Ok o) = OpensSo channel count body o
JudgesOpening channel count body (Err fault) = IsRefusalFor (λ code. (limits : Limits) (before : Received) → issued before ≡ count
    → first_reason (server_reasons limits channel before (Opens (opening_of body))) ≡ Some code) fault

-- ---- an open channel

-- what is told by an event, if there is one
abbrev pub told_list : Option Event → List Told
told_list None = []
told_list (Some e) = server_told_of_event e ∷ []

-- a frame with this content is taken after what was received, and tells this, a message in its
-- parts
pub record TakesSo (limits : Limits) (channel : ℕ) (before : Received) (c : Content) (e : Option Event) : Type 0 where
  pub accepted : first_reason (server_reasons limits channel before c) ≡ None
  pub tells : server_tells limits before c ≡ told_list e
  pub parts : MayEndIn before.messages c (parts_of_event e)

-- a frame with this content is rejected with this code after what was received
abbrev pub IsRefused : Limits → ℕ → Received → Content → ℕ → Type 0
IsRefused limits channel before c code = first_reason (server_reasons limits channel before c) ≡ Some code

-- the outcome of an open channel for a frame with this content, and its state then
abbrev pub Judges : Limits → ℕ → Received → Content → Result (Option Event) EndFault → Running → Type 0
Judges limits channel before c (Ok e) r = TakesSo limits channel before c e × Stays limits r (after before c)
Judges limits channel before c (Err fault) r = IsRefusalFor (IsRefused limits channel before c) fault

-- the outcome of an open channel for a close
abbrev pub JudgesClose : Limits → ℕ → Received → Content → Result (Unit {0}) EndFault → Type 0
JudgesClose limits channel before c (Ok done) = first_reason (server_reasons limits channel before c) ≡ None
JudgesClose limits channel before c (Err fault) = IsRefusalFor (IsRefused limits channel before c) fault

-- why the ids of a chunk are rejected: Bad_TcpSecureChannelUnknown, Bad_SecureChannelTokenUnknown
abbrev pub ids_reasons : Chunk → ℕ → ℕ → ℕ → List (ℕ × Bool)
ids_reasons c channel used count = (0x807F_0000, not (c.channel == channel)) ∷ (0x8087_0000, not (nat_le used c.token && nat_le c.token count)) ∷ []

-- ---- before the channel is open

-- the outcome for the first OPN
abbrev pub JudgesFirst : Limits → ℕ → Received → Content → Result (Running × Event) EndFault → Type 0
JudgesFirst limits channel before c (Ok (r, e)) = TakesSo limits channel before c (Some e) × Stays limits r (after before c)
JudgesFirst limits channel before c (Err fault) = IsRefusalFor (IsRefused limits channel before c) fault
