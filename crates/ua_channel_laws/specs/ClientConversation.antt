-- What a conversation is at a client: the frames (UA TCP messages) that it may receive of a server
-- that keeps to the protocol, or the beginning of them.
use Rattle.std.specs.Prelude.{◌≡◌, ◌≤◌, ◌++◌, ℕ, List, [], ◌∷◌, Option, Some, None, Bool, IsTrue, IsFalse, nat_le, map}
use Rattle.std.specs.List.{AllByRecursion}
use Rattle.ua_frame.specs.After.{AllAfter}
use Rattle.ua_frame.specs.Frames.{IsPartial, frame_size, frames_octets}
use Rattle.ua_frame.specs.declared.ack.Ack.{Ack}
use Rattle.ua_frame.specs.declared.frame.Frame.{Frame}
use Rattle.ua_frame.specs.declared.kind.Kind.{Kind}
use Rattle.ua_frame.specs.declared.kind.Kind.TheVariants.{Msg, Opn}
use Rattle.ua_frame.specs.declared.kind.Kind.TheVariants as kind
use Rattle.ua_frame.specs.declared.limits.Limits.{Limits}
use Rattle.ua_opening.specs.declared.open.OpenAnswer.TheVariants.{Open}
use Rattle.ua_opening.specs.declared.secure_channel.OpenResponse.{OpenResponse}
use Rattle.ua_chunk.specs.Opening.{SecurityHeader, is_none_policy, policy_of}
use Rattle.ua_chunk.specs.declared.chunk.Chunk.{Chunk}
use Rattle.ua_channel.specs.Asks.{Asking, Placed, asked_before, end_of, is_in, pending_calls}
use Rattle.ua_channel.specs.ClientTable.{client_gate, is_awaited, is_other, is_outside}
use Rattle.ua_channel.specs.ClientTokens.{answer_in, first_channel, held_tokens, opened_ids, open_responses}
use Rattle.ua_channel.specs.Content.{Content, Opening, content}
use Rattle.ua_channel.specs.Content.Content.{Acks, Fails, Opens, Sends}
use Rattle.ua_channel_laws.specs.Conversation.{AreOrdered, FitMessages, IsFramed}
use Rattle.ua_channel.specs.Received.{Received, messages, numbers, received}

-- ---- the order

-- after the first OPN come OPNs and MSGs
abbrev pub IsClientOrderOpen : List Kind → Type 0
IsClientOrderOpen [] = Unit {0}
IsClientOrderOpen (Msg ∷ ks) = IsClientOrderOpen ks
IsClientOrderOpen (Opn ∷ ks) = IsClientOrderOpen ks
IsClientOrderOpen (other ∷ ks) = ⊥

-- after the ACK comes an OPN
abbrev pub IsOrderAgreed : List Kind → Type 0
IsOrderAgreed [] = Unit {0}
IsOrderAgreed (Opn ∷ ks) = IsClientOrderOpen ks
IsOrderAgreed (other ∷ ks) = ⊥

-- an ACK comes first (OPC 10000-6, 7.1.3)
abbrev pub IsClientOrder : List Kind → Type 0
IsClientOrder [] = Unit {0}
IsClientOrder (kind.Ack ∷ ks) = IsOrderAgreed ks
IsClientOrder (other ∷ ks) = ⊥

-- ---- what frames carry

-- the largest frame that a client takes: 8192 bytes before the ACK, then the size that the server
-- sends
abbrev pub largest_taken : Option Ack → ℕ
largest_taken None = 8192
largest_taken (Some a) = a.send_buffer_size

-- an Acknowledge whose sizes are at least 8192 and within what the Hello of a client with these
-- limits allows
pub record IsGoodAck (limits : Limits) (ack : Option Ack) : Type 0 where
  pub said : Ack
  pub reads : ack ≡ Some said
  pub within : IsFalse (is_outside limits said)

-- an OPN under the policy None with a good response, for the channel if there is one already, with
-- a token that is not among these, under an expected RequestId
pub record IsGoodResponse (channel : Option ℕ) (tokens : List ℕ) (awaits : ℕ → Bool) (o : Opening) : Type 0 where
  pub header : SecurityHeader
  pub security_is : o.security ≡ Some header
  pub policy : IsTrue (is_none_policy (policy_of header))
  pub response : OpenResponse
  pub answer_is : answer_in o ≡ Some (Open response)
  pub good : IsFalse (nat_le 0x8000_0000 response.response_header.service_result.code)
  pub on : IsFalse (is_other channel response.channel_id)
  pub fresh : IsFalse (is_in response.token_id tokens)
  pub numbered : ℕ × ℕ
  pub numbers_are : o.numbers ≡ Some numbered
  pub awaited : IsTrue (awaits numbered.1)

-- a chunk on the channel, under a token that is among these, under one of these RequestIds
pub record IsGoodReply (channel : Option ℕ) (tokens ids : List ℕ) (c : Chunk) : Type 0 where
  pub on : IsFalse (is_other channel c.channel)
  pub held : IsTrue (is_in c.token tokens)
  pub awaited : IsTrue (is_in c.request ids)

-- what a frame that comes after these may carry, with these operations before it, apart from its
-- SequenceNumber and its message: a response has a token that is not held and answers the first
-- OPN, under the RequestId 1, and then a renewal that is unanswered; a chunk has a token that is
-- held and the RequestId of a call that is unanswered
abbrev pub MayCarryBack : Limits → Received → List Asking → Content → Type 0
MayCarryBack limits before asked (Acks ack) = IsGoodAck limits ack
MayCarryBack limits before asked (Fails error) = ⊥
MayCarryBack limits before asked (Opens o) =
    IsGoodResponse (first_channel (open_responses before.openings)) (held_tokens before)
    (is_awaited (open_responses before.openings) (opened_ids before.openings) asked) o
MayCarryBack limits before asked (Sends c) = IsGoodReply (first_channel (open_responses before.openings)) (held_tokens before)
    (pending_calls before.messages asked) c
MayCarryBack limits before asked other = Unit {0}

-- a conversation at a client with these limits and operations
pub record ClientConversation (limits : Limits) (asks : List Placed) (frames : List Frame) : Type 0 where
  -- an ACK, an OPN, then OPNs and MSGs
  pub order : IsClientOrder (map (λ (f : Frame). f.kind) frames)
  -- each frame is as its header tells
  pub framed : AllByRecursion IsFramed frames
  -- none is larger than the server sends at its place
  pub fits : AllAfter (λ before f. frame_size f ≤ largest_taken (received before).ack) frames
  -- the Acknowledge and each response are good, and each chunk has the channel, a token that is
  -- held, and the RequestId of a call that is unanswered at its place
  pub carries : AllAfter (λ before f. MayCarryBack limits (received before) (asked_before (end_of before f) asks) (content f)) frames
  -- all numbers are in order
  pub ordered : AreOrdered None (numbers frames)
  -- the messages are within the limits, at most 4 of them unfinished at a time, and each abort can
  -- be decoded
  pub messages_fit : FitMessages limits (messages frames)

-- ---- bytes without a wrong frame

-- these bytes are the frames of a conversation, and after them less than a frame, with nothing
-- wrong in its header
pub record ClientContinues (limits : Limits) (asks : List Placed) (octets : List ℕ) (frames : List Frame) (rest : List ℕ) : Type 0 where
  pub whole : octets ≡ frames_octets frames ++ rest
  pub converses : ClientConversation limits asks frames
  pub partial : IsPartial (client_gate (received frames)) rest

-- these bytes are a conversation at a client with these limits and operations, or the beginning of
-- one
pub record IsClientConversation (limits : Limits) (asks : List Placed) (octets : List ℕ) : Type 0 where
  pub frames : List Frame
  pub rest : List ℕ
  pub is : ClientContinues limits asks octets frames rest
