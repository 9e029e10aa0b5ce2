-- What a server decodes of a client that keeps to the protocol, one message after the other.
use Rattle.std.specs.Prelude.{◌≡◌, ◌<◌, ◌≤◌, ◌+◌, ◌^◌, ℕ, List, [], IsTrue, IsFalse, Option, None, Some, length}
use Rattle.ua_frame.specs.Run.{Going, Over, Run, events}
use Rattle.ua_frame.specs.declared.frame.Frame.{Frame}
use Rattle.ua_frame.specs.declared.hello.Hello.{Hello}
use Rattle.ua_frame.specs.declared.limits.Limits.{Limits}
use Rattle.ua_chunk.specs.Cutting.{number_after, pieces}
use Rattle.ua_chunk.specs.Open.{open_ids}
use Rattle.ua_chunk.specs.Refusal.{passes}
use Rattle.ua_chunk.specs.Sequence.{may_follow, next_number}
use Rattle.ua_chunk.specs.declared.lane.Lane.{Lane}
use Rattle.ua_channel.specs.Received.{Received, received}
use Rattle.ua_channel.specs.ServerRefusals.{last_used}
use Rattle.ua_channel.specs.ServerRules.{receive_size, server_rules}
use Rattle.ua_channel.specs.ServerTold.{Told, issued}

-- the state of a server between two messages of its client
pub record AtServer : Type 0 where
  -- the client's Hello
  pub hello : Hello
  -- how many tokens were issued: they are 1, 2, 3, .. up to this
  pub issued : ℕ
  -- the last token that was used; the first one if none was
  pub used : ℕ
  -- the number of the next chunk
  pub next : ℕ

-- the state with this Hello, if there is one
abbrev pub server_with : Option Hello → ℕ → ℕ → ℕ → Option AtServer
server_with None issued used next = None
server_with (Some h) issued used next = Some (record { hello = h; issued = issued; used = used; next = next })

-- the state of a server that received this, with this number next; none before the HEL
abbrev pub at_server : Received → ℕ → Option AtServer
at_server before next = server_with before.hello (issued before) (last_used before) next

-- a server with these limits on this channel decodes these bytes as whole frames that are good,
-- with no message unfinished after them; they told it this, and then it has this state
pub record ServerReads (limits : Limits) (channel : ℕ) (octets : List ℕ) (told : List Told) (at : AtServer) : Type 0 where
  pub frames : List Frame
  pub run : Run (server_rules limits channel) octets frames [] Going
  pub told_is : events (server_rules limits channel) frames ≡ told
  pub hello_is : (received frames).hello ≡ Some at.hello
  pub large : 8192 ≤ receive_size limits (Some at.hello)
  pub sized : receive_size limits (Some at.hello) < 2 ^ 32
  pub issued_is : issued (received frames) ≡ at.issued
  pub few_issued : at.issued < 2 ^ 32
  pub used_is : last_used (received frames) ≡ at.used
  pub some_used : 0 < at.used
  pub follows : IsTrue (may_follow (received frames).last at.next)
  pub next_small : at.next ≤ 4294966272
  pub none_open : open_ids (received frames).messages ≡ []

-- the same, and the last of the frames closes the channel
pub record ServerCloses (limits : Limits) (channel : ℕ) (octets : List ℕ) (told : List Told) : Type 0 where
  pub frames : List Frame
  pub run : Run (server_rules limits channel) octets frames [] Over
  pub told_is : events (server_rules limits channel) frames ≡ told

-- ---- what a client may send next

-- a token that the server accepts here: from the last one used to the newest issued
pub record IsTakenAt (at : AtServer) (token : ℕ) : Type 0 where
  pub not_before : at.used ≤ token
  pub issued : token ≤ at.issued

-- a lane to the server: on its channel, under a token that it accepts, in frames that it accepts
pub record IsLaneTo (limits : Limits) (channel : ℕ) (at : AtServer) (lane : Lane) : Type 0 where
  pub on : lane.channel ≡ channel
  pub taken : IsTakenAt at lane.token
  pub some : 0 < lane.room
  pub fits : 24 + lane.room ≤ receive_size limits (Some at.hello)

-- a body that a receiver with these limits takes in chunks of this many bytes
pub record IsBodyFor (limits : Limits) (room : ℕ) (body : List ℕ) : Type 0 where
  pub some : 0 < length body
  pub octets_fit : IsFalse (passes limits.max_message_size (length body))
  pub chunks_fit : IsFalse (passes limits.max_chunk_count (length (pieces room body)))

-- ---- where the server then is

-- after the HEL
abbrev pub greeted_at : Hello → AtServer
greeted_at h = record { hello = h; issued = 0; used = 1; next = 1 }

-- with one more token
abbrev pub with_token : AtServer → AtServer
with_token at = record at { issued = at.issued + 1; next = next_number at.next }

-- after a message of this body
abbrev pub with_message : AtServer → Lane → List ℕ → AtServer
with_message at lane body = record at { used = lane.token; next = number_after at.next (pieces lane.room body) }
