-- Conversations: the frames (UA TCP messages) that one end may receive of another that keeps to the
-- protocol, or the beginning of them.
use Rattle.std.specs.Prelude.{◌⊎◌, ◌≡◌, ◌≤◌, ◌==◌, ◌||◌, ◌++◌, ℕ, pos, List, [], ◌∷◌, Option, Some, None, IsTrue, IsFalse, true, false, length, map}
use Rattle.std.specs.List.{AllByRecursion}
use Rattle.std.specs.Ordering.{int_eq}
use Rattle.ua_frame.specs.Agreement.{is_buffer_small, is_url_long}
use Rattle.ua_frame.specs.After.{AllAfter}
use Rattle.ua_frame.specs.Frames.{IsPartial, IsSized, frame_size, frames_octets}
use Rattle.ua_frame.specs.Kinds.{has_flag, least_size}
use Rattle.ua_frame.specs.declared.frame.Frame.{Frame}
use Rattle.ua_frame.specs.declared.hello.Hello.{Hello}
use Rattle.ua_frame.specs.declared.limits.Limits.{Limits}
use Rattle.ua_opening.specs.declared.secure_channel.OpenRequest.{OpenRequest}
use Rattle.ua_chunk.specs.Abort.{is_readable_abort}
use Rattle.ua_chunk.specs.Flag.{is_abort_flag}
use Rattle.ua_chunk.specs.Gathered.{gathered, joined}
use Rattle.ua_chunk.specs.declared.flag.Flag.TheVariants.{A}
use Rattle.ua_chunk.specs.Opening.{SecurityHeader, channel_of_header, is_none_policy, policy_of}
use Rattle.ua_chunk.specs.Refusal.{FewOpen, passes}
use Rattle.ua_chunk.specs.Sequence.{may_follow}
use Rattle.ua_chunk.specs.declared.chunk.Chunk.{Chunk}
use Rattle.ua_channel.specs.Content.{Content, Opening, content}
use Rattle.ua_channel.specs.Content.Content.{Greets, Opens, Sends, Closes, Nothing}
use Rattle.ua_channel.specs.Received.{Received, messages, numbers, received}
use Rattle.ua_channel.specs.ServerRefusals.{is_taken, type_wanted}
use Rattle.ua_channel.specs.ServerRules.{receive_size, server_gate}
use Rattle.ua_channel.specs.ServerTold.{issued, request_of}

-- ---- frames of any conversation

-- a frame as its header tells: a size that the header can name, at least the minimum of the kind,
-- and a flag of the kind
pub record IsFramed (f : Frame) : Type 0 where
  pub sized : IsSized f
  pub flag : IsTrue (has_flag f.kind f.flag)
  pub least : least_size f.kind ≤ frame_size f

-- each number follows the one before it, and the first one the last before all, if there was one
abbrev pub AreOrdered : Option ℕ → List ℕ → Type 0
AreOrdered last [] = Unit {0}
AreOrdered last (n ∷ ns) = IsTrue (may_follow last n) × AreOrdered (Some n) ns

-- messages within these limits: each abort can be decoded, at most 4 messages are unfinished at a
-- time, and what came of a message has no more bytes and no more chunks than the limits allow; an
-- abort counts for neither
pub record FitMessages (limits : Limits) (cs : List Chunk) : Type 0 where
  pub aborts_read : AllByRecursion (λ (c : Chunk). c.flag ≡ A → IsTrue (is_readable_abort c.body)) cs
  pub few_open : FewOpen [] cs
  pub octets_fit : AllAfter (λ us c. IsFalse (is_abort_flag c.flag) → IsFalse (passes limits.max_message_size (length (joined (gathered us c))))) cs
  pub chunks_fit : AllAfter (λ us c. IsFalse (is_abort_flag c.flag) → IsFalse (passes limits.max_chunk_count (length (gathered us c)))) cs

-- ---- what comes at a server

-- after the first OPN come OPNs and MSGs, and a CLO is the last; each MSG and CLO carries a chunk
abbrev pub IsOrderOpen : List Content → Type 0
IsOrderOpen [] = Unit {0}
IsOrderOpen (Opens o ∷ cs) = IsOrderOpen cs
IsOrderOpen (Sends c ∷ cs) = IsOrderOpen cs
IsOrderOpen (Closes c ∷ cs) = cs ≡ []
IsOrderOpen (Nothing ∷ cs) = IsOrderOpen cs
IsOrderOpen (other ∷ cs) = ⊥

-- after the HEL comes an OPN
abbrev pub IsOrderGreeted : List Content → Type 0
IsOrderGreeted [] = Unit {0}
IsOrderGreeted (Opens o ∷ cs) = IsOrderOpen cs
IsOrderGreeted (other ∷ cs) = ⊥

-- a HEL comes first (OPC 10000-6, 7.1.3)
abbrev pub IsServerOrder : List Content → Type 0
IsServerOrder [] = Unit {0}
IsServerOrder (Greets hello ∷ cs) = IsOrderGreeted cs
IsServerOrder (other ∷ cs) = ⊥

-- a Hello that a server agrees to: its URL has fewer than 4096 bytes, and both its sizes are at
-- least 8192
pub record IsGoodHello (hello : Option Hello) : Type 0 where
  pub said : Hello
  pub reads : hello ≡ Some said
  pub url : IsFalse (is_url_long said)
  pub sizes : IsFalse (is_buffer_small said)

-- an OPN on this channel after this many tokens were issued: under the policy None, with a request
-- that can be decoded, of the type Issue first and Renew then, of the mode None, a later one on the
-- channel, and there is a token left
pub record IsGoodRequest (channel count : ℕ) (o : Opening) : Type 0 where
  pub header : SecurityHeader
  pub security_is : o.security ≡ Some header
  pub policy : IsTrue (is_none_policy (policy_of header))
  pub request : OpenRequest
  pub request_is : request_of o ≡ Some request
  pub type_is : IsTrue (int_eq request.request_type (pos (type_wanted count)))
  pub mode_is : IsTrue (int_eq request.security_mode (pos 1))
  pub on : IsTrue (count == 0 || channel_of_header header == channel)
  pub left : IsFalse (count == 4294967295)

-- a chunk of a message or of the close: on this channel, under a token that is accepted at its
-- place
pub record IsGoodChunk (channel : ℕ) (before : Received) (c : Chunk) : Type 0 where
  pub on : IsTrue (c.channel == channel)
  pub taken : IsTrue (is_taken before c.token)

-- what a frame that comes after these may carry, apart from its SequenceNumber and its message
abbrev pub MayCarry : ℕ → Received → Content → Type 0
MayCarry channel before (Greets hello) = IsGoodHello hello
MayCarry channel before (Opens o) = IsGoodRequest channel (issued before) o
MayCarry channel before (Sends c) = IsGoodChunk channel before c
MayCarry channel before (Closes c) = IsGoodChunk channel before c
MayCarry channel before other = Unit {0}

-- a conversation at a server with these limits on this channel
pub record ServerConversation (limits : Limits) (channel : ℕ) (frames : List Frame) : Type 0 where
  -- a HEL, an OPN, then OPNs and MSGs, and at most one CLO, the last
  pub order : IsServerOrder (map content frames)
  -- each frame is as its header tells
  pub framed : AllByRecursion IsFramed frames
  -- none is larger than the server receives at its place
  pub fits : AllAfter (λ before f. frame_size f ≤ receive_size limits (received before).hello) frames
  -- the Hello is acceptable, each OPN is good, and each chunk has this channel and a token that is
  -- accepted
  pub carries : AllAfter (λ before f. MayCarry channel (received before) (content f)) frames
  -- all numbers are in order
  pub ordered : AreOrdered None (numbers frames)
  -- the messages are within the limits, at most 4 of them unfinished at a time, and each abort can
  -- be decoded
  pub messages_fit : FitMessages limits (messages frames)

-- ---- bytes without a wrong frame

-- these bytes are the frames of a conversation that goes on, and after them less than a frame, with
-- nothing wrong in its header
pub record Continues (limits : Limits) (channel : ℕ) (octets : List ℕ) (frames : List Frame) (rest : List ℕ) : Type 0 where
  pub whole : octets ≡ frames_octets frames ++ rest
  pub converses : ServerConversation limits channel frames
  pub goes_on : (received frames).closed ≡ false
  pub partial : IsPartial (server_gate limits (received frames)) rest

-- these bytes are the frames of a conversation that a CLO ends, and any bytes after them
pub record HasEnded (limits : Limits) (channel : ℕ) (octets : List ℕ) (frames : List Frame) (rest : List ℕ) : Type 0 where
  pub whole : octets ≡ frames_octets frames ++ rest
  pub converses : ServerConversation limits channel frames
  pub closed : (received frames).closed ≡ true

-- these bytes are a conversation at a server with these limits on this channel, or the beginning of
-- one: it goes on, or a CLO ended it
pub record IsConversation (limits : Limits) (channel : ℕ) (octets : List ℕ) : Type 0 where
  pub frames : List Frame
  pub rest : List ℕ
  pub is : Continues limits channel octets frames rest ⊎ HasEnded limits channel octets frames rest
