-- The outcome of a server's channel for bytes.
use Rattle.std.specs.Prelude.{◌≡◌, ℕ, ◌<◌, ◌≤◌, length, take, is_some, List, [], ◌∷◌, ◌++◌, Some, Result, Ok, Err}
use Rattle.std.specs.List.{concat}
use Rattle.ua_builtin.specs.declared.date_time.DateTime.{DateTime}
use Rattle.ua_frame.specs.Frames.{frame_octets}
use Rattle.ua_frame.specs.Messages.{err_frame}
use Rattle.ua_chunk.specs.Cutting.{cut_refusal}
use Rattle.ua_chunk.specs.declared.lane.Lane.{Lane}
use Rattle.ua_channel.specs.declared.sent_reply.SentReply.{SentReply}
use Rattle.ua_channel.specs.declared.server.ServerChannel.{ServerChannel}
use Rattle.ua_channel.specs.declared.server_event.ServerEvent.{ServerEvent}
use Rattle.ua_channel.specs.declared.server_event.ServerEvent.TheVariants.{NeedMore, Send, Asked, Aborted}
use Rattle.ua_channel.specs.declared.server_event.ServerEvent.TheVariants as event
use Rattle.ua_channel.specs.declared.server_fault.ChannelFault.{ChannelFault}
use Rattle.ua_channel.specs.declared.server_fault.ChannelFault.TheVariants.{Refused, Closed, OutOfMemory}
use Rattle.ua_channel.specs.Ends.{HandsOutParts}
use Rattle.ua_channel.specs.Received.{Received}
use Rattle.ua_channel.specs.ServerSends.{AreSent, IsReply, RepliesGo, counted_by}
use Rattle.ua_channel.specs.ServerStands.{limits_of, channel_of, next_of, server_side, Goes, GoesTelling, ClosedAt, RefusedAt, StarvedAt}
use Rattle.ua_channel.specs.ServerTold.{Told}
use Rattle.ua_channel.specs.ServerTold.{Told as told}

-- ---- what comes with an event

-- these bytes are sent for what the last frame told
pub record SendsOctets (channel number : ℕ) (moment : DateTime) (sent : List ℕ) (new : ServerChannel) (octets : List ℕ) (before : List Told) : Type 0 where
  pub said : Told
  pub are_sent : AreSent channel number moment said sent
  pub goes : GoesTelling new octets before said
  pub counted : next_of new ≡ counted_by said number

-- the last frame ends the message with these parts, in which its chunks brought it, under this
-- RequestId
pub record Asks (id : ℕ) (parts : List (List ℕ)) (new : ServerChannel) (octets : List ℕ) (before : List Told) : Type 0 where
  pub token : ℕ
  pub goes : GoesTelling new octets before (told.Asked id token (concat parts))
  pub in_parts : HandsOutParts server_side (Some parts) new.end tt octets

-- the state of the channel with an event, after bytes whose frames but the last told this, and what
-- the event returns; the channel and the number of its next chunk are given, and the time of an OPN
-- response
abbrev pub EventHandedOut : ℕ → ℕ → DateTime → ServerEvent → ServerChannel → List ℕ → List Told → Type 0
EventHandedOut channel number moment NeedMore new octets before = Goes new octets before × (next_of new ≡ number)
EventHandedOut channel number moment (Send sent) new octets before = SendsOctets channel number moment sent.items new octets before
EventHandedOut channel number moment (Asked id message) new octets before = Asks id message new octets before × (next_of new ≡ number)
EventHandedOut channel number moment (Aborted id) new octets before = GoesTelling new octets before (told.GaveUp id) × (next_of new ≡ number)
EventHandedOut channel number moment event.Closed new octets before = ClosedAt new octets (before ++ told.Closed ∷ [])

-- how many bytes of a fragment are taken with an event: all if nothing came, else some
abbrev pub Counts : List ℕ → ℕ → ServerEvent → Type 0
Counts piece n NeedMore = n ≡ length piece
Counts piece n other = (0 < n) × (n ≤ length piece)

-- the outcome for a fragment, after bytes whose frames told this, with the number of bytes that
-- were taken: for a rejection up to the end of the rejected frame, or to the eighth byte of the
-- rejected header; if an allocation failed, to the eighth byte of a valid header, or within its
-- frame
abbrev pub AnswersAt : ℕ → ℕ → DateTime → List ℕ → ℕ → Result ServerEvent ChannelFault → ServerChannel → List ℕ → List Told → Type 0
AnswersAt channel number moment piece n (Ok e) new octets before = Counts piece n e × EventHandedOut channel number moment e new (octets ++ take n piece) before
AnswersAt channel number moment piece n (Err (Refused code err)) new octets before = (n ≤ length piece)
    × RefusedAt new (octets ++ take n piece) before code.code × (err ≡ frame_octets (err_frame code))
AnswersAt channel number moment piece n (Err OutOfMemory) new octets before = (n ≤ length piece) × StarvedAt new (octets ++ take n piece) before
AnswersAt channel number moment piece n (Err Closed) new octets before = ⊥

-- the same if a fault does not tell how many bytes were taken: some number of them was
abbrev pub ServerAnswers : ℕ → ℕ → DateTime → List ℕ → Result (ℕ × ServerEvent) ChannelFault → ServerChannel → List ℕ → List Told → Type 0
ServerAnswers channel number moment piece (Ok (n, e)) new octets before = AnswersAt channel number moment piece n (Ok e) new octets before
ServerAnswers channel number moment piece (Err fault) new octets before = (n : ℕ) × AnswersAt channel number moment piece n (Err fault) new octets before

-- what is taken is within the fragment, and is something, if no fault comes, unless the fragment is
-- empty
abbrev pub Progress : {A E : Type 0} → List ℕ → ℕ → Result A E → Type 0
Progress piece n (Ok e) = (n ≤ length piece) × (0 < length piece → 0 < n)
Progress piece n (Err fault) = n ≤ length piece

-- ---- replies

-- the lane of replies of a server, after what it received
abbrev pub RepliesOn : ServerChannel → Received → Lane → Type 0
RepliesOn x before lane = RepliesGo (limits_of x) (channel_of x) before lane

-- these bytes are sent for a body where replies go after these frames, and the next number is the
-- one behind them: the chunks of the body, or an abort in their place
abbrev pub ReplyGoes : ServerChannel → ServerChannel → Received → List ℕ → ℕ → List ℕ → Type 0
ReplyGoes old new before body id octets = (lane : Lane) × RepliesOn old before lane × IsReply lane body (next_of old) id octets (next_of new)

-- the same of a reply that tells whether it is an abort: it is one where the body is refused
abbrev pub SendsReply : ServerChannel → ServerChannel → Received → List ℕ → ℕ → SentReply → Type 0
SendsReply old new before body id sent = (lane : Lane) × RepliesOn old before lane
    × IsReply lane body (next_of old) id sent.octets.items (next_of new) × (sent.is_abort ≡ is_some (cut_refusal lane body))
