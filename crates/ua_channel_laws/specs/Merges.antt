-- Messages whose chunks come merged on an open channel, with OPNs that renew its token anywhere
-- among them, in the middle of a message too (OPC 10000-6, 6.7.2.4 and 6.7.3): C (3), OPN, C (5), F
-- (3), OPN, A (5), of these RequestIds. They lead from the state of an end before them, as the laws
-- of both ends give it, to its state after them: so merges are chained with what comes before and
-- after.
use Rattle.std.specs.Prelude.{◌≡◌, ◌<◌, ◌≤◌, ◌+◌, ◌++◌, ◌==◌, ℕ, Bool, false, not, if◌then◌else◌, List, [], ◌∷◌, Option, Some, IsTrue, length, map}
use Rattle.std.specs.List.{AllByRecursion, filter, flat_map, range_with_len}
use Rattle.ua_frame.specs.After.{AllFrom, each_from}
use Rattle.ua_frame.specs.Frames.{frame_size, frames_octets}
use Rattle.ua_frame.specs.Run.{Going, Rules, Run}
use Rattle.ua_frame.specs.declared.frame.Frame.{Frame}
use Rattle.ua_frame.specs.declared.limits.Limits.{Limits}
use Rattle.ua_chunk.specs.Cutting.{pieces}
use Rattle.ua_chunk.specs.Gathered.{ends}
use Rattle.ua_chunk.specs.Item.{Item}
use Rattle.ua_chunk.specs.Merge.{Sent, HaveOwnIds, AllWithin, Merges, parts_of, part_of, sent_under, outcome_under}
use Rattle.ua_chunk.specs.Refusal.{FewOpen}
use Rattle.ua_chunk.specs.Sequence.{may_follow}
use Rattle.ua_chunk.specs.declared.chunk.Chunk.{Chunk}
use Rattle.ua_chunk.specs.declared.flag.Flag.TheVariants.{F}
use Rattle.ua_opening.specs.declared.secure_channel.OpenResponse.{OpenResponse}
use Rattle.ua_channel.specs.Asks.{Asking, Placed, asked_before, asked_in, calls, end_of, id_of, is_finished, is_in, next_id, renewals}
use Rattle.ua_channel_laws.specs.ClientConversation.{IsGoodReply, IsGoodResponse}
use Rattle.ua_channel_laws.specs.ClientReads.{AtClient}
use Rattle.ua_channel.specs.ClientTokens.{answer_in, held_by, opened_ids, response_listed, open_responses, tokens_of}
use Rattle.ua_channel.specs.ClientTold.{ClientTold, ClientTold as client_told, told_item}
use Rattle.ua_channel.specs.Content.{Content, Opening, content}
use Rattle.ua_channel.specs.Content.Content.{Opens, Sends}
use Rattle.ua_channel_laws.specs.Conversation.{AreOrdered, IsFramed, IsGoodRequest}
use Rattle.ua_channel.specs.Received.{latest, latest_behind, messages, numbers, openings, received, used_tokens}
use Rattle.ua_channel_laws.specs.ServerReads.{AtServer, IsBodyFor, IsTakenAt}
use Rattle.ua_channel.specs.ServerRules.{receive_size}
use Rattle.ua_channel.specs.ServerTold.{Told, opened_by, request_of, told_under}
use Rattle.ua_channel.specs.ServerTold.Told.{Opened}

-- ---- at either end

-- these chunks are those of these messages, merged in any way
pub record AreMerged (limits : Limits) (ms : List Sent) (cs : List Chunk) : Type 0 where
  -- no two messages have one RequestId
  pub own_ids : HaveOwnIds ms
  -- each is within the limits, in fragments of any size, and ends in an F, or was aborted by an A
  -- that can be decoded
  pub within : AllWithin limits.max_message_size limits.max_chunk_count ms
  -- the chunks of each are in their order, those of the others anywhere among them
  pub merged : Merges (map parts_of ms) (map part_of cs)
  -- at most 4 messages are unfinished after each chunk
  pub few_open : FewOpen [] cs

-- a message as a sender splits it: a body within these limits in fragments of this many bytes, the
-- last of which is an F
pub record IsCutBody (limits : Limits) (m : Sent) : Type 0 where
  pub room : ℕ
  pub body : List ℕ
  pub some_room : 0 < room
  pub fits : IsBodyFor limits room body
  pub pieces_are : pieces room body ≡ m.pieces ++ m.last ∷ []
  pub ends : m.end ≡ F

-- the content of a frame is an OPN with the one property, or a chunk with the other
abbrev pub CarriesEither : (Opening → Type 0) → (Chunk → Type 0) → Content → Type 0
CarriesEither opens sends (Opens o) = opens o
CarriesEither opens sends (Sends c) = sends c
CarriesEither opens sends other = ⊥

-- the last of these, and n if there is none
abbrev pub latest_or : ℕ → List ℕ → ℕ
latest_or n [] = n
latest_or n (m ∷ ms) = latest_or m ms

-- a SequenceNumber that may come next at an end with these rules, after these bytes, which are
-- whole good frames
pub record MayComeNext {T W : Type 0} (R : Rules T W) (octets : List ℕ) (number : ℕ) : Type 0 where
  pub frames : List Frame
  pub run : Run R octets frames [] Going
  pub follows : IsTrue (may_follow (received frames).last number)

-- SequenceNumbers that go on: the first one is the next, each further one follows the one before
-- it, and the one after them may follow the last; it is at most 4294966272, after which a sender
-- starts again. If there are none, the one after them is the next
abbrev pub NumbersGoOn : ℕ → List ℕ → ℕ → Type 0
NumbersGoOn next [] after = (after ≡ next) × (after ≤ 4294966272)
NumbersGoOn next (n ∷ ns) after = (n ≡ next) × AreOrdered (Some n) ns × IsTrue (may_follow (latest_behind (Some n) ns) after) × (after ≤ 4294966272)

-- what a chunk of these messages delivers: where it is the last of its message, the whole of that,
-- or the code and the reason for which it was aborted
abbrev pub ended_by : List Sent → Chunk → List Item
ended_by ms c = if ends c then outcome_under (sent_under c.request ms) else []

-- ---- at a server

-- the state of a server after these frames of a merge, with this number next: with one more token
-- for each OPN, and the last token that a chunk used
abbrev pub with_merged : AtServer → List Frame → ℕ → AtServer
with_merged at more next = record at { issued = at.issued + length (openings more); used = latest_or at.used (used_tokens more); next = next }

-- a chunk on this channel, under a token that is accepted here
abbrev pub IsChunkHere : ℕ → AtServer → Chunk → Type 0
IsChunkHere channel here c = (c.channel ≡ channel) × IsTakenAt here c.token

-- these frames have the chunks of these messages, merged, and OPNs of renewals among them, as a
-- server with these limits on this channel takes them from this state, if its channel is open; and
-- this number is next after them
pub record ServerMerge (limits : Limits) (channel : ℕ) (at : AtServer) (ms : List Sent) (more : List Frame) (next : ℕ) : Type 0 where
  pub is_open : 0 < at.issued
  -- each frame is as its header tells, and no larger than the server receives
  pub framed : AllByRecursion IsFramed more
  pub fits : AllByRecursion (λ (f : Frame). frame_size f ≤ receive_size limits (Some at.hello)) more
  -- it carries what may come at its place, after the frames of the merge before it: an OPN that
  -- requests a renewal, or a chunk
  pub carries :
      AllFrom (λ us f. CarriesEither (IsGoodRequest channel (with_merged at us at.next).issued) (IsChunkHere channel (with_merged at us at.next)) (content f))
      [] more
  -- all are numbered consecutively in the order in which they come
  pub numbered : NumbersGoOn at.next (numbers more) next
  pub merged : AreMerged limits ms (messages more)

-- what a frame of these tells a server, if this many tokens were issued before it: a chunk that
-- ends its message the whole of that, or that its sender aborted it, under the token of this chunk;
-- an OPN the next token
abbrev pub told_by_merged : List Sent → ℕ → Content → List Told
told_by_merged ms count (Opens o) = opened_by (count + 1) o.numbers (request_of o)
told_by_merged ms count (Sends c) = map (told_under c.token) (ended_by ms c)
told_by_merged ms count other = []

-- what these frames tell a server if this many tokens were issued before them, in order
abbrev pub told_of_merge : List Sent → ℕ → List Frame → List Told
told_of_merge ms count more = each_from (λ us f. told_by_merged ms (count + length (openings us)) (content f)) [] more

-- the token that is issued, if one is
abbrev pub token_issued : Told → List ℕ
token_issued (Opened id handle token lifetime) = token ∷ []
token_issued other = []

-- the tokens that are issued, in order
abbrev pub tokens_told : List Told → List ℕ
tokens_told told = flat_map token_issued told

-- what is told of a message has this RequestId
abbrev pub is_message_under : ℕ → ℕ × Option (List ℕ) → Bool
is_message_under id m = m.0 == id

-- ---- at a client

-- these, each at a place that is this many bytes later
abbrev pub placed_later : ℕ → List Placed → List Placed
placed_later n asks = map (λ (a : Placed). (n + a.0, a.1)) asks

-- the state of a client after these frames of a merge, with these operations among them, with this
-- number next: it holds the tokens from the last one that a chunk used; the calls of which no chunk
-- ended the reply are unanswered, and so are the renewals that no OPN answered
abbrev pub with_merged_back : AtClient → List Asking → List Frame → ℕ → AtClient
with_merged_back at asked more next = record at {
  tokens = held_by (latest (used_tokens more)) (at.tokens ++ tokens_of (open_responses (openings more)));
  newest = latest_or at.newest (tokens_of (open_responses (openings more)));
  pending = filter (λ (id : ℕ). not (is_finished (messages more) id)) (at.pending ++ calls asked);
  renewals = filter (λ (id : ℕ). not (is_in id (opened_ids (openings more)))) (at.renewals ++ renewals asked);
  next = next;
}

-- what a frame may carry in this state of a client: an OPN that answers a renewal which is
-- unanswered here, with a token that is not held here; or a chunk of the reply to one of these
-- calls, under a token that is held here
abbrev pub MayComeDown : AtClient → List ℕ → Content → Type 0
MayComeDown here ids k =
    CarriesEither (IsGoodResponse (Some here.channel) here.tokens (λ (id : ℕ). is_in id here.renewals)) (IsGoodReply (Some here.channel) here.tokens ids) k

-- these frames have the chunks of these messages, merged, and OPNs that answer renewals among them,
-- as a client with these limits takes them from this state; it has these operations before them,
-- and further ones in the middle of them, each at a place that is counted from their beginning; and
-- this number is next after them
pub record ClientMerge (limits : Limits) (at : AtClient) (asked : List Asking) (later : List Placed) (ms : List Sent) (more : List Frame)
    (next : ℕ) : Type 0 where
  -- the further operations have the next RequestIds, and places up to the end of the frames
  pub counted : map id_of (asked_in later) ≡ range_with_len (next_id asked) (length later)
  pub placed : AllByRecursion (λ (a : Placed). a.0 ≤ length (frames_octets more)) later
  -- each frame is as its header tells, and no larger than the server sends
  pub framed : AllByRecursion IsFramed more
  pub fits : AllByRecursion (λ (f : Frame). frame_size f ≤ at.ack.send_buffer_size) more
  -- it carries what may come at its place: after the frames of the merge before it, and the
  -- operations before its end. A chunk is of the reply to a call that was unanswered before the
  -- frames, or was made among them before it
  pub carries :
      AllFrom (λ us f. MayComeDown (with_merged_back at (asked_before (end_of us f) later) us at.next) (at.pending ++ calls (asked_before (end_of us f) later))
      (content f))
      [] more
  -- all are numbered consecutively in the order in which they come
  pub numbered : NumbersGoOn at.next (numbers more) next
  pub merged : AreMerged limits ms (messages more)

-- a response that renews the token, as what is told
abbrev pub told_renewed : OpenResponse → ClientTold
told_renewed r = client_told.Renewed r.token_id

-- what a frame of these tells a client: a chunk that ends its message the reply, or that the server
-- aborted it; an OPN its token
abbrev pub told_back : List Sent → Content → List ClientTold
told_back ms (Opens o) = map told_renewed (response_listed (answer_in o))
told_back ms (Sends c) = map told_item (ended_by ms c)
told_back ms other = []

-- what these frames tell a client, in order
abbrev pub told_merged_back : List Sent → List Frame → List ClientTold
told_merged_back ms more = flat_map (λ (f : Frame). told_back ms (content f)) more

-- the token that is told to have come, if one is
abbrev pub renewed_in : ClientTold → List ℕ
renewed_in (client_told.Renewed token) = token ∷ []
renewed_in other = []

-- the tokens that are told to have come, in order
abbrev pub tokens_renewed : List ClientTold → List ℕ
tokens_renewed told = flat_map renewed_in told

-- this is told of the call under this RequestId: the reply, or that the server aborted it
abbrev pub is_told_under : ℕ → ClientTold → Bool
is_told_under id (client_told.Answered i octets) = i == id
is_told_under id (client_told.GaveUp i code) = i == id
is_told_under id other = false
