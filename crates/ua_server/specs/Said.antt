-- The bytes that a server sends for what it is told, and the state that it leaves.
use Rattle.std.specs.Prelude.{ℕ, ◌+◌, pos, Bool, true, false, List, [], ◌∷◌, ◌++◌, Option, Some, None}
use Rattle.ua_builtin.specs.Status.{of_code}
use Rattle.ua_builtin.specs.declared.date_time.DateTime.{DateTime}
use Rattle.ua_chunk.specs.declared.lane.Lane.{Lane}
use Rattle.ua_chunk.specs.Sequence.{next_number}
use Rattle.ua_frame.specs.Frames.{frame_octets}
use Rattle.ua_frame.specs.Messages.{ack_frame, err_frame}
use Rattle.ua_frame.specs.Run.{End, Going, Stopped, Over}
use Rattle.ua_channel.specs.Agreement.{Agreement, lane_of}
use Rattle.ua_channel.specs.ServerSends.{opened_frame, replied}
use Rattle.ua_channel.specs.ServerTold.{Told, Agreed, Opened, Asked, GaveUp, Closed}
use Rattle.ua_services.specs.Response.{response}
use Rattle.ua_services.specs.declared.response.Response.{Response}
use Rattle.ua_server.specs.Reply.{answered}
use Rattle.ua_server.specs.State.{State}

-- ---- what is sent

-- the course of a server: its state, the number of the chunk that it sends next, the timestamps
-- that are not used yet, and the agreement
pub record Course : Type 0 where
  pub state : State
  pub number : ℕ
  pub moments : List DateTime
  pub agreement : Option Agreement

-- the first of the timestamps, 0 if there is none
abbrev pub first_time : List DateTime → DateTime
first_time [] = record { ticks = pos 0 }
first_time (moment ∷ moments) = moment

-- the timestamps after the first
abbrev pub behind_first : List DateTime → List DateTime
behind_first [] = []
behind_first (moment ∷ moments) = moments

-- the course when a connection begins
abbrev pub start : State → List DateTime → Course
start s moments = record { state = s; number = 1; moments = moments; agreement = None }

-- the lane of a reply under this token, once there is an agreement
abbrev pub lane_at : ℕ → ℕ → Option Agreement → Option Lane
lane_at channel token None = None
lane_at channel token (Some agreement) = Some (lane_of channel token agreement)

-- the bytes of a reply, and the number after them; none if nothing was agreed to
abbrev pub replied_at : Option Lane → List ℕ → ℕ → ℕ → List ℕ × ℕ
replied_at None body number id = ([], number)
replied_at (Some lane) body number id = replied lane body number id

-- the course after a reply
abbrev pub replying : Course → State → ℕ → Course
replying c s number = record { state = s; number = number; moments = behind_first c.moments; agreement = c.agreement }

-- a reply with this response under this RequestId: its bytes, and the course after it
abbrev pub reply_with : ℕ → ℕ → ℕ → Course → State × Response → List ℕ × Course
reply_with channel token id c given =
    let out = replied_at (lane_at channel token c.agreement) (response.canonical given.1) c.number id in
    (out.0, replying c given.0 out.1)

-- the course with these further timestamps
abbrev pub with_more : Course → List DateTime → Course
with_more c more = record { state = c.state; number = c.number; moments = c.moments ++ more; agreement = c.agreement }

-- what is sent for one thing, and the course after it: the ACK, the OPN response, the reply to a
-- whole message; nothing for the rest
abbrev pub say : ℕ → Course → Told → List ℕ × Course
say channel c (Agreed agreement) =
    (frame_octets (ack_frame agreement.ack), record { state = c.state; number = c.number; moments = c.moments; agreement = Some agreement })
say channel c (Opened id handle token lifetime) = (
  frame_octets (opened_frame channel c.number id handle token lifetime (first_time c.moments)),
  record { state = c.state; number = next_number c.number; moments = behind_first c.moments; agreement = c.agreement },
)
say channel c (Asked id token octets) = reply_with channel token id c (answered c.state (first_time c.moments) octets)
say channel c (GaveUp id) = ([], c)
say channel c Closed = ([], c)

-- what is sent for what is told, in order
abbrev pub said_of : ℕ → Course → List Told → List ℕ
said_of channel c [] = []
said_of channel c (t ∷ told) = (say channel c t).0 ++ said_of channel (say channel c t).1 told

-- the course after what is told
abbrev pub course_after : ℕ → Course → List Told → Course
course_after channel c [] = c
course_after channel c (t ∷ told) = course_after channel (say channel c t).1 told

-- the ERR frame if the stream is rejected
abbrev pub last_words : End ℕ → List ℕ
last_words Going = []
last_words Over = []
last_words (Stopped code) = frame_octets (err_frame (of_code code))

-- what a server in this state sends for what it is told by frames that end in this way, at these
-- times
unfoldable pub output_of : ℕ → State → List Told → End ℕ → List DateTime → List ℕ
output_of channel s told end moments = said_of channel (start s moments) told ++ last_words end

-- its course then, and the state that it leaves
unfoldable pub state_after : ℕ → State → List Told → List DateTime → Course
state_after channel s told moments = course_after channel (start s moments) told

-- ---- times

-- the number of timestamps that this uses: an OPN response and a reply use one each
abbrev pub times_used_by : Told → ℕ
times_used_by (Agreed agreement) = 0
times_used_by (Opened id handle token lifetime) = 1
times_used_by (Asked id token octets) = 1
times_used_by (GaveUp id) = 0
times_used_by Closed = 0

abbrev pub used_in : List Told → ℕ
used_in [] = 0
used_in (t ∷ told) = times_used_by t + used_in told

-- there is an answer to this: the ACK, an OPN response or a reply
abbrev pub is_answered : Told → Bool
is_answered (Agreed agreement) = true
is_answered (Opened id handle token lifetime) = true
is_answered (Asked id token octets) = true
is_answered (GaveUp id) = false
is_answered Closed = false
