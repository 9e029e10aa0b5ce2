-- The requests that a client sent: each OPN, and each message at its last chunk, that of the flag F
-- (OPC 10000-6, 6.7.2.2), with the kind that its first chunk begins as. A message that the client aborts
-- asks for nothing. Frames stand before a frame in the order of the bytes.
use Rattle.std.specs.Prelude.{◌≡◌, ℕ, ◌+◌, ◌==◌, Bool, true, false, not, cond, List, [], ◌∷◌, length}
use Rattle.std.specs.Prelude.{drop, option_to_list, Option, Some, None}
use Rattle.std.specs.List.{filter}
use Rattle.ua_chunk.specs.Gathered.{after_last}
use Rattle.ua_frame.specs.After.{each_after}
use Rattle.ua_frame.specs.Frames.{Frames, flag_of, joined_parts, kind_of}
use Rattle.ua_frame.specs.declared.kind.Kind.{Kind}
use Rattle.ua_frame.specs.declared.kind.Kind.TheVariants.{Hel, Ack, Msg, Opn, Clo}
use Rattle.ua_frame.specs.declared.kind.Kind.TheVariants as kind
use Rattle.ua_services.specs.declared.request.RequestKind.{RequestKind}
use Rattle.ua_judge.specs.declared.named.Named.{Named}
use Rattle.ua_judge.specs.Kinds.{request_kind_of}
use Rattle.ua_judge.specs.RawFrames.{number_from, id_place}

-- ---- the chunks of a message

-- a chunk of a MSG with this RequestId, which stands at this place
abbrev pub is_chunk_by : ℕ → Option Kind → Option ℕ → List ℕ → Bool
is_chunk_by number (Some Msg) (Some place) frame = number_from place frame == number
is_chunk_by number other place frame = false

-- the same of a frame
abbrev pub is_chunk_of : ℕ → List ℕ → Bool
is_chunk_of number frame = is_chunk_by number (kind_of frame) (id_place frame) frame

-- no chunk of its message follows a frame: its flag is not C
abbrev pub is_last : List ℕ → Bool
is_last frame = not (flag_of frame == 67)

-- the chunks of an unfinished message of this RequestId, after these frames
abbrev pub unfinished_chunks : ℕ → List (List ℕ) → List (List ℕ)
unfinished_chunks number before = after_last is_last (filter (is_chunk_of number) before)

-- the kind of request that a chunk begins as, whose RequestId stands at this place: its body follows
abbrev pub chunk_kind : ℕ → List ℕ → Option RequestKind
chunk_kind place frame = request_kind_of (drop (place + 4) frame)

-- the same of a chunk, if it has a RequestId
abbrev pub chunk_kind_at : Option ℕ → List ℕ → Option RequestKind
chunk_kind_at None frame = None
chunk_kind_at (Some place) frame = chunk_kind place frame

-- the kind of the first of some chunks, or else this one
abbrev pub first_kind : List (List ℕ) → Option RequestKind → Option RequestKind
first_kind [] other = other
first_kind (frame ∷ frames) other = chunk_kind_at (id_place frame) frame

-- the kind of a message of this RequestId after these frames, one chunk of which begins as this kind: that
-- of its first chunk
abbrev pub request_message_kind : List (List ℕ) → ℕ → Option RequestKind → Option RequestKind
request_message_kind before number own = first_kind (unfinished_chunks number before) own

-- ---- requests

-- a request of this RequestId and kind, in a frame that ends at this place
abbrev pub request_with_id : Option Kind → ℕ → ℕ → ℕ → Option RequestKind → Option Named
request_with_id (Some Opn) flag number end asked = Some (record { number = number; place = end; opens = true; kind = None })
request_with_id (Some Msg) flag number end asked = cond (flag == 70) (Some (record { number = number; place = end; opens = false; kind = asked })) None
request_with_id (Some Clo) flag number end asked = None
request_with_id (Some Hel) flag number end asked = None
request_with_id (Some Ack) flag number end asked = None
request_with_id (Some kind.Err) flag number end asked = None
request_with_id None flag number end asked = None

-- the same by the place of the RequestId in the frame, if it has one
abbrev pub request_behind_id : List (List ℕ) → ℕ → Option ℕ → List ℕ → Option Named
request_behind_id before end None frame = None
request_behind_id before end (Some place) frame =
    request_with_id (kind_of frame) (flag_of frame) (number_from place frame) end
    (request_message_kind before (number_from place frame) (chunk_kind place frame))

-- the request that a frame sends after these, if it sends one
abbrev pub request_in : List (List ℕ) → List ℕ → Option Named
request_in before frame = request_behind_id before (length (joined_parts before) + length frame) (id_place frame) frame

-- the requests of a client's bytes, in order
pub record AreRequests (octets : List ℕ) (requests : List Named) : Type 0 where
  pub frames : List (List ℕ)
  pub rest : List ℕ
  pub framed : Frames octets frames rest
  pub requests_are : requests ≡ each_after (λ before frame. option_to_list (request_in before frame)) frames
