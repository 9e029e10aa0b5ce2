-- The marks for a record that tells no order. Each request was sent just before the server's reply to it, or
-- to a later one, begins. RequestIds come again: a reply is to the first request of its RequestId that was
-- not sent before it.
use Rattle.std.specs.Prelude.{◌≡◌, ℕ, ◌==◌, Bool, false, cond, List, [], ◌∷◌, ◌++◌, length}
use Rattle.std.specs.Prelude.{is_some, option_map, option_to_list, Option, Some, None}
use Rattle.std.specs.List.{filter, list_any}
use Rattle.ua_chunk.specs.Gathered.{after_last}
use Rattle.ua_frame.specs.After.{each_after}
use Rattle.ua_frame.specs.Frames.{Frames, joined_parts}
use Rattle.ua_judge.specs.Agreed.{IsFirst, head_of}
use Rattle.ua_judge.specs.RawFrames.{number_from, id_place}
use Rattle.ua_judge.specs.Requests.{AreRequests, is_last}
use Rattle.ua_judge.specs.declared.mark.Mark.{Mark}
use Rattle.ua_judge.specs.declared.named.Named.{Named}

-- ---- the replies of a server, where they begin

-- this RequestId stands at the place in the frame, if it has one
abbrev pub has_id_at : ℕ → Option ℕ → List ℕ → Bool
has_id_at id None frame = false
has_id_at id (Some place) frame = number_from place frame == id

-- a MSG, a CLO or an OPN with this RequestId
abbrev pub has_id : ℕ → List ℕ → Bool
has_id id frame = has_id_at id (id_place frame) frame

-- after these frames more chunks of a message with this RequestId follow: its last frame has the flag C
abbrev pub is_unfinished : ℕ → List (List ℕ) → Bool
is_unfinished id before = is_some (head_of (after_last is_last (filter (has_id id) before)))

-- a reply: its RequestId, and how many of the server's bytes come before it
pub record ReplyStart : Type 0 where
  pub id : ℕ
  pub place : ℕ

-- the RequestId of the reply that begins with a frame after these, which has it at this place
abbrev pub begun_id_at : List (List ℕ) → Option ℕ → List ℕ → Option ℕ
begun_id_at before None frame = None
begun_id_at before (Some place) frame = cond (is_unfinished (number_from place frame) before) None (Some (number_from place frame))

-- the same of a frame, if it has a RequestId
abbrev pub begun_id : List (List ℕ) → List ℕ → Option ℕ
begun_id before frame = begun_id_at before (id_place frame) frame

-- a reply of this RequestId that begins after these frames
abbrev pub reply_after : List (List ℕ) → ℕ → ReplyStart
reply_after before id = record { id = id; place = length (joined_parts before) }

-- the reply that begins with a frame after these, if one does
abbrev pub reply_begun : List (List ℕ) → List ℕ → List ReplyStart
reply_begun before frame = option_to_list (option_map (reply_after before) (begun_id before frame))

-- the replies of a server's bytes, in order
pub record AreReplyStarts (octets : List ℕ) (replies : List ReplyStart) : Type 0 where
  pub frames : List (List ℕ)
  pub rest : List ℕ
  pub framed : Frames octets frames rest
  pub replies_are : replies ≡ each_after reply_begun frames

-- ---- the marks

-- the reply is to one of these requests
abbrev pub is_to_any : List Named → ReplyStart → Bool
is_to_any requests reply = list_any (λ (request : Named). request.number == reply.id) requests

-- the replies from the first on that is to one of these requests
abbrev pub replies_from : List Named → List ReplyStart → List ReplyStart
replies_from requests [] = []
replies_from requests (reply ∷ replies) = cond (is_to_any requests reply) (reply ∷ replies) (replies_from requests replies)

-- without the first reply, if that is to a request of this RequestId
abbrev pub unless_to : ℕ → List ReplyStart → List ReplyStart
unless_to id [] = []
unless_to id (reply ∷ replies) = cond (id == reply.id) replies (reply ∷ replies)

-- where the first reply begins, or else the end of the server's bytes, of which there are all
abbrev pub first_place : ℕ → List ReplyStart → ℕ
first_place all [] = all
first_place all (reply ∷ replies) = reply.place

-- the request was sent where so many of the server's bytes had been
abbrev pub mark_at : ℕ → Named → Mark
mark_at down request = record { up = request.place; down = down }

-- each of these requests was sent just before the first of these replies that is to it or to a later one,
-- or else after all of the server's bytes; a request has the replies after those to the requests before it
abbrev pub request_marks : ℕ → List Named → List ReplyStart → List Mark
request_marks all [] replies = []
request_marks all (request ∷ requests) replies =
    mark_at (first_place all (replies_from (request ∷ requests) replies)) request
    ∷ request_marks all requests (unless_to request.number (replies_from (request ∷ requests) replies))

-- the first frame of a client was sent before all of the server's bytes
abbrev pub first_mark : Option (List ℕ) → List Mark
first_mark None = []
first_mark (Some frame) = record { up = length frame; down = 0 } ∷ []

-- the marks for these bytes of a client and of a server
pub record AreGuessed (up down : List ℕ) (marks : List Mark) : Type 0 where
  pub first : Option (List ℕ)
  pub is_first : IsFirst up first
  pub requests : List Named
  pub requests_are : AreRequests up requests
  pub replies : List ReplyStart
  pub replies_are : AreReplyStarts down replies
  pub marks_are : marks ≡ first_mark first ++ request_marks (length down) requests replies
