-- The server's responses to unanswered calls and renewals, in the order in which it answers.
use Rattle.std.specs.Prelude.{◌≡◌, ℕ, ◌<◌, ◌^◌, ◌++◌, List, [], ◌∷◌, length, IsTrue, IsFalse}
use Rattle.ua_builtin.specs.DateTime.{date_time}
use Rattle.ua_builtin.specs.declared.date_time.DateTime.{DateTime}
use Rattle.ua_frame.specs.Frames.{frame_octets}
use Rattle.ua_chunk.specs.Cutting.{cut_refusal}
use Rattle.ua_chunk.specs.Sequence.{next_number}
use Rattle.ua_chunk.specs.declared.lane.Lane.{Lane}
use Rattle.ua_channel.specs.Asks.{is_in}
use Rattle.ua_channel_laws.specs.ClientReads.{AtClient, told_reply, with_answer, with_reply}
use Rattle.ua_channel.specs.ClientTold.{ClientTold, Renewed}
use Rattle.ua_channel.specs.ServerSends.{opened_frame, replied}

-- the reply with this body to the call of this RequestId; or the OPN response to the renewal of
-- this RequestId, with this RequestHandle, token and lifetime, created at this time
pub data Answer : Type 0 where
  ReplyTo : (id : ℕ) (body : List ℕ) → Answer
  TokenFor : (id handle token lifetime : ℕ) (moment : DateTime) → Answer

-- ---- the bytes, where replies go in this lane, with this SequenceNumber next

-- the bytes of one: the chunks of a reply, or the abort in its place if the client takes no such
-- body; the OPN response
abbrev pub answer_octets : Lane → ℕ → Answer → List ℕ
answer_octets lane number (ReplyTo id body) = (replied lane body number id).0
answer_octets lane number (TokenFor id handle token lifetime moment) = frame_octets (opened_frame lane.channel number id handle token lifetime moment)

-- the SequenceNumber after it
abbrev pub number_answered : Lane → ℕ → Answer → ℕ
number_answered lane number (ReplyTo id body) = (replied lane body number id).1
number_answered lane number (TokenFor id handle token lifetime moment) = next_number number

-- the bytes of all in order, numbered consecutively
abbrev pub answers_octets : Lane → ℕ → List Answer → List ℕ
answers_octets lane number [] = []
answers_octets lane number (a ∷ answers) = answer_octets lane number a ++ answers_octets lane (number_answered lane number a) answers

-- ---- what they tell a client

-- each call is told its own reply, or that it was aborted; a renewal its token
abbrev pub answer_told : Lane → Answer → ClientTold
answer_told lane (ReplyTo id body) = told_reply (cut_refusal lane body) id body
answer_told lane (TokenFor id handle token lifetime moment) = Renewed token

-- all in order, each once
abbrev pub answers_told : Lane → List Answer → List ClientTold
answers_told lane [] = []
answers_told lane (a ∷ answers) = answer_told lane a ∷ answers_told lane answers

-- the state of the client after one
abbrev pub client_answered : Lane → AtClient → Answer → AtClient
client_answered lane at (ReplyTo id body) = with_reply at lane.token id (replied lane body at.next id).1
client_answered lane at (TokenFor id handle token lifetime moment) = with_answer at token (next_number at.next)

-- and after all of them
abbrev pub client_answered_all : Lane → AtClient → List Answer → AtClient
client_answered_all lane at [] = at
client_answered_all lane at (a ∷ answers) = client_answered_all lane (client_answered lane at a) answers

-- ---- which answers a server may give

-- this RequestId, RequestHandle, token, lifetime and time can be encoded
pub record CanIssue (id handle token lifetime : ℕ) (moment : DateTime) : Type 0 where
  pub id_small : id < 2 ^ 32
  pub handle_small : handle < 2 ^ 32
  pub token_small : token < 2 ^ 32
  pub lifetime_small : lifetime < 2 ^ 32
  pub moment_fits : IsTrue (date_time.encodable moment)

-- one: the call is unanswered, its RequestId can be encoded, and the reply has bytes; the renewal
-- is the one that is unanswered, the client does not hold the token, and the content of the
-- response can be encoded
abbrev pub IsAnswerTo : AtClient → Answer → Type 0
IsAnswerTo at (ReplyTo id body) = IsTrue (is_in id at.pending) × (id < 2 ^ 32) × (0 < length body)
IsAnswerTo at (TokenFor id handle token lifetime moment) = (at.renewals ≡ id ∷ []) × IsFalse (is_in token at.tokens) × CanIssue id handle token lifetime moment

-- all in order, each in the state of the client after those before it
abbrev pub AreAnswersTo : Lane → AtClient → List Answer → Type 0
AreAnswersTo lane at [] = Unit {0}
AreAnswersTo lane at (a ∷ answers) = IsAnswerTo at a × AreAnswersTo lane (client_answered lane at a) answers

-- the token that it brings, if it brings one, is this one
abbrev pub BringsToken : ℕ → Answer → Type 0
BringsToken newest (ReplyTo id body) = Unit {0}
BringsToken newest (TokenFor id handle token lifetime moment) = token ≡ newest
