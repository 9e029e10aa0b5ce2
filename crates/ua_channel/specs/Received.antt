-- What the frames so far have brought: each definition is a filter, a map or the last element of
-- the whole list of frames.
use Rattle.std.specs.Prelude.{ℕ, List, [], ◌∷◌, ◌++◌, Bool, true, false, Option, Some, None}
use Rattle.std.specs.List.{flat_map}
use Rattle.ua_frame.specs.declared.ack.Ack.{Ack}
use Rattle.ua_frame.specs.declared.frame.Frame.{Frame}
use Rattle.ua_frame.specs.declared.hello.Hello.{Hello}
use Rattle.ua_chunk.specs.declared.chunk.Chunk.{Chunk}
use Rattle.ua_channel.specs.Content.{Opening, Content, content}
use Rattle.ua_channel.specs.Content.Content.{Greets, Acks, Fails, Opens, Sends, Closes, Nothing}

-- the last of a list, or else this
abbrev pub latest_behind : {A : Type 0} → Option A → List A → Option A
latest_behind a [] = a
latest_behind a (x ∷ xs) = latest_behind (Some x) xs

-- the last of a list, if it has one
abbrev pub latest : {A : Type 0} → List A → Option A
latest xs = latest_behind None xs

-- there is something
abbrev pub has_some : {A : Type 0} → List A → Bool
has_some [] = false
has_some (x ∷ xs) = true

-- ---- what one frame brings

-- the one, if there is one
abbrev pub listed : {A : Type 0} → Option A → List A
listed None = []
listed (Some a) = a ∷ []

-- the Hello of a HEL
abbrev pub hellos_in : Content → List Hello
hellos_in (Greets hello) = listed hello
hellos_in other = []

-- the Acknowledge of an ACK
abbrev pub acks_in : Content → List Ack
acks_in (Acks ack) = listed ack
acks_in other = []

-- the opening of an OPN
abbrev pub openings_in : Content → List Opening
openings_in (Opens o) = o ∷ []
openings_in other = []

-- the chunk of a MSG
abbrev pub chunks_in : Content → List Chunk
chunks_in (Sends c) = c ∷ []
chunks_in other = []

-- the chunk of a CLO
abbrev pub closings_in : Content → List Chunk
closings_in (Closes c) = c ∷ []
closings_in other = []

-- the SequenceNumber of an OPN, if it can be decoded
abbrev pub number_listed : Option (ℕ × ℕ) → List ℕ
number_listed None = []
number_listed (Some n) = n.0 ∷ []

-- the SequenceNumber of an OPN, a MSG or a CLO
abbrev pub numbers_in : Content → List ℕ
numbers_in (Opens o) = number_listed o.numbers
numbers_in (Sends c) = c.sequence ∷ []
numbers_in (Closes c) = c.sequence ∷ []
numbers_in other = []

-- the token that a MSG or a CLO uses
abbrev pub tokens_in : Content → List ℕ
tokens_in (Sends c) = c.token ∷ []
tokens_in (Closes c) = c.token ∷ []
tokens_in other = []

-- ---- what all frames so far have brought

-- the Hellos; a server takes one
unfoldable pub hellos : List Frame → List Hello
hellos fs = flat_map (λ f. hellos_in (content f)) fs

-- the Acknowledges; a client takes one
unfoldable pub acks : List Frame → List Ack
acks fs = flat_map (λ f. acks_in (content f)) fs

-- the OPNs: at a server each has one token issued, at a client each brings one
unfoldable pub openings : List Frame → List Opening
openings fs = flat_map (λ f. openings_in (content f)) fs

-- the chunks of messages
unfoldable pub messages : List Frame → List Chunk
messages fs = flat_map (λ f. chunks_in (content f)) fs

-- the chunks of CLOs; a server takes one
unfoldable pub closings : List Frame → List Chunk
closings fs = flat_map (λ f. closings_in (content f)) fs

-- the SequenceNumbers of the OPNs, MSGs and CLOs
unfoldable pub numbers : List Frame → List ℕ
numbers fs = flat_map (λ f. numbers_in (content f)) fs

-- the tokens that the MSGs and CLOs used
unfoldable pub used_tokens : List Frame → List ℕ
used_tokens fs = flat_map (λ f. tokens_in (content f)) fs

-- what frames have brought
pub record Received : Type 0 where
  -- the Hello, once there is one
  pub hello : Option Hello
  -- the Acknowledge, once there is one
  pub ack : Option Ack
  -- the openings, in order
  pub openings : List Opening
  -- the last token that a MSG or a CLO used
  pub used : Option ℕ
  -- the last SequenceNumber
  pub last : Option ℕ
  -- the chunks of messages, in order
  pub messages : List Chunk
  -- whether a CLO came
  pub closed : Bool

-- the result of these lists
abbrev pub received_of : List Hello → List Ack → List Opening → List ℕ → List ℕ → List Chunk → List Chunk → Received
received_of hs ks os ts ns cs ds = record {
  hello = latest hs;
  ack = latest ks;
  openings = os;
  used = latest ts;
  last = latest ns;
  messages = cs;
  closed = has_some ds;
}

-- what the frames so far have brought
unfoldable pub received : List Frame → Received
received fs = received_of (hellos fs) (acks fs) (openings fs) (used_tokens fs) (numbers fs) (messages fs) (closings fs)

-- before any frame
abbrev pub nothing_received : Received
nothing_received = record { hello = None; ack = None; openings = []; used = None; last = None; messages = []; closed = false }

-- ---- with one frame more

-- the one that comes, else the one that was there
abbrev pub or_before : {A : Type 0} → Option A → Option A → Option A
or_before before None = before
or_before before (Some a) = Some a

-- the SequenceNumber of an OPN, if it can be decoded, else the last one before
abbrev pub number_or : Option ℕ → Option (ℕ × ℕ) → Option ℕ
number_or before None = before
number_or before (Some n) = Some n.0

-- what was received, with one more frame with this content
abbrev pub after : Received → Content → Received
after before (Greets hello) = record before { hello = or_before before.hello hello }
after before (Acks ack) = record before { ack = or_before before.ack ack }
after before (Fails error) = before
after before (Opens o) = record before { openings = before.openings ++ o ∷ []; last = number_or before.last o.numbers }
after before (Sends c) = record before { used = Some c.token; last = Some c.sequence; messages = before.messages ++ c ∷ [] }
after before (Closes c) = record before { used = Some c.token; last = Some c.sequence; closed = true }
after before Nothing = before
