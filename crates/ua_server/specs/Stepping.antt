-- The state of a server after bytes, and the outcome of a step.
use Rattle.std.specs.Prelude.{◌≡◌, ◌⊎◌, ℕ, ◌<◌, ◌≤◌, Bool, true, false, IsTrue, List, [], ◌∷◌, ◌++◌}
use Rattle.std.specs.Prelude.{map, replicate, take, length, Option, None, Some, Result, Ok, Err}
use Rattle.ua_builtin.specs.declared.date_time.DateTime.{DateTime}
use Rattle.ua_frame.specs.Run.{Going, Run, Stopped, Over, events}
use Rattle.ua_frame.specs.declared.frame.Frame.{Frame}
use Rattle.ua_frame.specs.declared.limits.Limits.{Limits}
use Rattle.ua_channel.specs.Agreement.{Agreement}
use Rattle.ua_channel.specs.ServerAnswers.{AnswersAt}
use Rattle.ua_channel.specs.ServerRules.{server_rules}
use Rattle.ua_channel.specs.ServerStands.{channel_of, limits_of, next_of, IsDone, Goes, GoesTelling, ClosedAt, RefusedAt}
use Rattle.ua_channel.specs.ServerTold.{Told, GaveUp, Asked, Closed}
use Rattle.ua_channel.specs.declared.server.ServerChannel.{ServerChannel}
use Rattle.ua_channel.specs.declared.server_event.ServerEvent.{ServerEvent}
use Rattle.ua_channel.specs.declared.server_event.ServerEvent.TheVariants as event
use Rattle.ua_channel.specs.declared.server_fault.ChannelFault.{ChannelFault}
use Rattle.ua_server.specs.Reply.{answered}
use Rattle.ua_server.specs.Said.{is_answered, lane_at, state_after, replied_at, output_of, used_in}
use Rattle.ua_server.specs.State.{State}
use Rattle.ua_server.specs.declared.step.End.{End as Ending}
use Rattle.ua_server.specs.declared.step.End.TheVariants as ending
use Rattle.ua_server.specs.declared.step.Step.{Step}
use Rattle.ua_server.specs.declared.step.StepFault.{StepFault}
use Rattle.ua_server.specs.declared.step.StepFault.TheVariants as step_fault

-- ---- where a server stands

-- the state of a server is that after these bytes, which told this: its services were in the first
-- state when the connection began and are in this one now, the chunk that it sends next has the
-- number that is due, and each of the timestamps was used
pub record ServerStands (x : ServerChannel) (octets : List ℕ) (told : List Told) (first : State) (moments : List DateTime) (now : State) : Type 0 where
  pub goes : Goes x octets told
  pub state_is : (state_after (channel_of x) first told moments).state ≡ now
  pub number_is : (state_after (channel_of x) first told moments).number ≡ next_of x
  pub used : length moments ≡ used_in told

-- ---- what a step answers

-- these messages were aborted
abbrev pub given_up : List ℕ → List Told
given_up ids = map GaveUp ids

-- the timestamps that this uses: an OPN response and a reply use one each
abbrev pub times_of_answers : List Told → DateTime → List DateTime
times_of_answers more moment = replicate (used_in more) moment

-- where a step stops: nothing is answered, and the whole fragment is taken; or the last byte is
-- that of the frame that is answered
abbrev pub StepStops : ServerChannel → List ℕ → List ℕ → ℕ → List ℕ → List Told → List Told → Type 0
StepStops new octets piece n out before [] = (n ≡ length piece) × (out ≡ [])
StepStops new octets piece n out before (t ∷ []) = (0 < n) × (n ≤ length piece) × IsTrue (is_answered t) × GoesTelling new (octets ++ take n piece) before t
StepStops new octets piece n out before (t ∷ (u ∷ more)) = ⊥

-- the connection goes on: what was taken told that messages were aborted, and then at most one
-- thing more, which is answered; what is sent for it is what the server sends
pub record StepGoes (channel : ℕ) (moment : DateTime) (piece : List ℕ) (n : ℕ) (out : List ℕ) (new : ServerChannel) (octets : List ℕ) (told : List Told)
    (first : State) (moments : List DateTime) (now : State) : Type 0 where
  pub quiet : List ℕ
  pub more : List Told
  pub stops : StepStops new octets piece n out (told ++ given_up quiet) more
  pub stands : ServerStands new (octets ++ take n piece) ((told ++ given_up quiet) ++ more) first (moments ++ times_of_answers more moment) now
  pub out_is : output_of channel first ((told ++ given_up quiet) ++ more) Going (moments ++ times_of_answers more moment)
      ≡ output_of channel first told Going moments ++ out

-- the connection ended at the last byte of a CLO, and nothing is sent
pub record StepCloses (channel : ℕ) (piece : List ℕ) (n : ℕ) (out : List ℕ) (new : ServerChannel) (octets : List ℕ) (told : List Told) (first : State)
    (moments : List DateTime) (before now : State) : Type 0 where
  pub quiet : List ℕ
  pub some : (0 < n) × (n ≤ length piece)
  pub closed : ClosedAt new (octets ++ take n piece) ((told ++ given_up quiet) ++ Closed ∷ [])
  pub state_is : now ≡ before
  pub left_is : (state_after channel first ((told ++ given_up quiet) ++ Closed ∷ []) moments).state ≡ now
  pub silent : out ≡ []
  pub out_is : output_of channel first ((told ++ given_up quiet) ++ Closed ∷ []) Over moments ≡ output_of channel first told Going moments ++ out

-- the server rejected what follows, and the last bytes that it sends are the ERR frame
pub record StepRefuses (channel : ℕ) (code : ℕ) (piece : List ℕ) (n : ℕ) (out : List ℕ) (new : ServerChannel) (octets : List ℕ) (told : List Told)
    (first : State) (moments : List DateTime) (before now : State) : Type 0 where
  pub quiet : List ℕ
  pub within : n ≤ length piece
  pub refused : RefusedAt new (octets ++ take n piece) (told ++ given_up quiet) code
  pub state_is : now ≡ before
  pub left_is : (state_after channel first (told ++ given_up quiet) moments).state ≡ now
  pub out_is : output_of channel first (told ++ given_up quiet) (Stopped code) moments ≡ output_of channel first told Going moments ++ out

-- within this fragment, after messages that were aborted, ends a frame that tells of this whole
-- message
pub record EndsWholeMessage (limits : Limits) (channel : ℕ) (piece : List ℕ) (octets : List ℕ) (told : List Told) (message : List ℕ) : Type 0 where
  pub n : ℕ
  pub within : n ≤ length piece
  pub quiet : List ℕ
  pub id : ℕ
  pub token : ℕ
  pub frames : List Frame
  pub frame : Frame
  pub run : Run (server_rules limits channel) (octets ++ take n piece) (frames ++ frame ∷ []) [] Going
  pub told_is : events (server_rules limits channel) frames ≡ told ++ given_up quiet
  pub tells : (server_rules limits channel).tells frames frame ≡ Asked id token message ∷ []

-- the state that the first whole message of the fragment leaves
pub record LeftByMessage (limits : Limits) (channel : ℕ) (moment : DateTime) (piece : List ℕ) (octets : List ℕ) (told : List Told)
    (before now : State) : Type 0 where
  pub message : List ℕ
  pub ends : EndsWholeMessage limits channel piece octets told message
  pub now_is : now ≡ (answered before moment message).0

-- an allocation failed: the state is unchanged, or the one that the first whole message of the
-- fragment leaves
abbrev pub StepBreaks : Limits → ℕ → DateTime → List ℕ → ServerChannel → List ℕ → List Told → State → State → Type 0
StepBreaks limits channel moment piece new octets told before now = IsDone new
    × ((now ≡ before) ⊎ LeftByMessage limits channel moment piece octets told before now)

-- by how the connection ended, if it did
abbrev pub StepBy : ℕ → DateTime → List ℕ → Option Ending → ℕ → List ℕ → ServerChannel → List ℕ → List Told → State → List DateTime → State → State → Type 0
StepBy channel moment piece None n out new octets told first moments before now = StepGoes channel moment piece n out new octets told first moments now
StepBy channel moment piece (Some ending.Closed) n out new octets told first moments before now =
    StepCloses channel piece n out new octets told first moments before now
StepBy channel moment piece (Some (ending.Refused code)) n out new octets told first moments before now =
    StepRefuses channel code.code piece n out new octets told first moments before now
StepBy channel moment piece (Some ending.NoClose) n out new octets told first moments before now = ⊥
StepBy channel moment piece (Some ending.Cut) n out new octets told first moments before now = ⊥

-- the outcome of a step for a fragment at a time, from the state of the server after bytes
abbrev pub StepAnswers : Limits → ℕ → DateTime → List ℕ → Result Step StepFault → ServerChannel → List ℕ → List Told → State → List DateTime → State → State
    → Type 0
StepAnswers limits channel moment piece (Ok step) new octets told first moments before now =
    StepBy channel moment piece step.end step.taken step.out.items new octets told first moments before now
StepAnswers limits channel moment piece (Err step_fault.OutOfMemory) new octets told first moments before now =
    StepBreaks limits channel moment piece new octets told before now
StepAnswers limits channel moment piece (Err step_fault.Closed) new octets told first moments before now = ⊥

-- ---- where a step leaves a server, whatever the state of its services

-- the connection goes on: what was taken told that messages were aborted, and then at most one
-- thing more, which is answered
pub record StandsOn (piece : List ℕ) (n : ℕ) (out : List ℕ) (new : ServerChannel) (octets : List ℕ) (told : List Told) : Type 0 where
  pub quiet : List ℕ
  pub more : List Told
  pub stops : StepStops new octets piece n out (told ++ given_up quiet) more
  pub goes : Goes new (octets ++ take n piece) ((told ++ given_up quiet) ++ more)

-- the connection closed at the last byte of a CLO
pub record ClosesAt (piece : List ℕ) (n : ℕ) (new : ServerChannel) (octets : List ℕ) (told : List Told) : Type 0 where
  pub quiet : List ℕ
  pub some : (0 < n) × (n ≤ length piece)
  pub closed : ClosedAt new (octets ++ take n piece) ((told ++ given_up quiet) ++ Closed ∷ [])

-- the server rejected what follows
pub record RefusesAt (code : ℕ) (piece : List ℕ) (n : ℕ) (new : ServerChannel) (octets : List ℕ) (told : List Told) : Type 0 where
  pub quiet : List ℕ
  pub within : n ≤ length piece
  pub refused : RefusedAt new (octets ++ take n piece) (told ++ given_up quiet) code

-- by how the connection ended, if it did
abbrev pub StandsBy : List ℕ → Option Ending → ℕ → List ℕ → ServerChannel → List ℕ → List Told → Type 0
StandsBy piece None n out new octets told = StandsOn piece n out new octets told
StandsBy piece (Some ending.Closed) n out new octets told = ClosesAt piece n new octets told
StandsBy piece (Some (ending.Refused code)) n out new octets told = RefusesAt code.code piece n new octets told
StandsBy piece (Some ending.NoClose) n out new octets told = ⊥
StandsBy piece (Some ending.Cut) n out new octets told = ⊥

-- the state in which a step leaves a server that went on after bytes which told this
abbrev pub StepStands : List ℕ → Result Step StepFault → ServerChannel → List ℕ → List Told → Type 0
StepStands piece (Ok step) new octets told = StandsBy piece step.end step.taken step.out.items new octets told
StepStands piece (Err step_fault.OutOfMemory) new octets told = IsDone new
StepStands piece (Err step_fault.Closed) new octets told = ⊥

-- what a step takes is within the fragment, and is something, if the connection goes on, unless the
-- fragment is empty
abbrev pub StepTakes : List ℕ → Step → Type 0
StepTakes piece step = (step.taken ≤ length piece) × (step.end ≡ None → 0 < length piece → 0 < step.taken)

-- ---- inside

-- a message was aborted
abbrev pub is_given_up : Result ServerEvent ChannelFault → Bool
is_given_up (Ok (event.Aborted id)) = true
is_given_up (Ok event.NeedMore) = false
is_given_up (Ok (event.Send sent)) = false
is_given_up (Ok (event.Asked id message)) = false
is_given_up (Ok event.Closed) = false
is_given_up (Err f) = false

-- what a channel answers after messages that were aborted
pub record AnswersBehind (old : ServerChannel) (moment : DateTime) (piece : List ℕ) (n : ℕ) (answer : Result ServerEvent ChannelFault) (new : ServerChannel)
    (octets : List ℕ) (before : List Told) : Type 0 where
  pub limits : limits_of new ≡ limits_of old
  pub channel : channel_of new ≡ channel_of old
  pub quiet : List ℕ
  pub answers : AnswersAt (channel_of old) (next_of old) moment piece n answer new octets (before ++ given_up quiet)

-- these bytes are a reply by the agreement, and the number after them is this
abbrev pub IsReplyAt : ℕ → ℕ → Option Agreement → List ℕ → ℕ → ℕ → List ℕ → ℕ → Type 0
IsReplyAt channel token agreement body number id octets next =
    (octets ≡ (replied_at (lane_at channel token agreement) body number id).0) × (next ≡ (replied_at (lane_at channel token agreement) body number id).1)
