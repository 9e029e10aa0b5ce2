-- The outcome of a step in terms of the current state: of its services, the number of the chunk
-- that it sends next and the agreement, whatever was before.
use Rattle.std.specs.Prelude.{◌≡◌, ℕ, Bool, false, List, [], ◌++◌, take, Option, None, Some, Result, Ok, Err}
use Rattle.ua_builtin.specs.declared.date_time.DateTime.{DateTime}
use Rattle.ua_frame.specs.Run.{Stopped}
use Rattle.ua_channel.specs.Agreement.{Agreement}
use Rattle.ua_channel.specs.Received.{has_some, listed}
use Rattle.ua_channel.specs.ServerPlaces.{agreed_by}
use Rattle.ua_channel.specs.ServerStands.{limits_of, channel_of, next_of, Goes, WhateverWasTold}
use Rattle.ua_channel.specs.ServerTold.{Told}
use Rattle.ua_channel.specs.declared.server.ServerChannel.{ServerChannel}
use Rattle.ua_server.specs.Requests.{requests_of}
use Rattle.ua_server.specs.Said.{Course, last_words, course_after, said_of}
use Rattle.ua_server.specs.State.{State}
use Rattle.ua_server.specs.Stepping.{ClosesAt, RefusesAt, StepBreaks, StepStops, given_up, times_of_answers}
use Rattle.ua_server.specs.declared.step.Advanced.{Advanced}
use Rattle.ua_server.specs.declared.step.End.{End as Ending}
use Rattle.ua_server.specs.declared.step.End.TheVariants as ending
use Rattle.ua_server.specs.declared.step.Step.{Step}
use Rattle.ua_server.specs.declared.step.StepFault.{StepFault}
use Rattle.ua_server.specs.declared.step.StepFault.TheVariants as step_fault
use Rattle.ua_server.specs.declared.watch.AnsweredRequest.{AnsweredRequest}

-- the course of a server with this state, which answers at this time
abbrev pub standing : State → ℕ → Option Agreement → List Told → DateTime → Course
standing now number agreement more moment = record { state = now; number = number; moments = times_of_answers more moment; agreement = agreement }

-- the connection goes on: what was taken told that messages were aborted, and then at most one
-- thing more, which is answered; what is sent for it, the state that is left and the number of the
-- chunk that is sent next are those from the current state
pub record NowGoes (old : ServerChannel) (moment : DateTime) (piece : List ℕ) (n : ℕ) (out : List ℕ) (new : ServerChannel) (octets : List ℕ)
    (told : List Told) (before now : State) : Type 0 where
  pub quiet : List ℕ
  pub more : List Told
  pub stops : StepStops new octets piece n out (told ++ given_up quiet) more
  pub goes : Goes new (octets ++ take n piece) ((told ++ given_up quiet) ++ more)
  pub out_is : out ≡ said_of (channel_of old) (standing before (next_of old) (agreed_by told) more moment) more
  pub state_is : now ≡ (course_after (channel_of old) (standing before (next_of old) (agreed_by told) more moment) more).state
  pub number_is : next_of new ≡ (course_after (channel_of old) (standing before (next_of old) (agreed_by told) more moment) more).number

-- by how the connection ended, if it did: then the services are unchanged, and the last bytes after
-- a rejection are the ERR frame
abbrev pub NowBy : ServerChannel → DateTime → List ℕ → Option Ending → ℕ → List ℕ → ServerChannel → List ℕ → List Told → State → State → Type 0
NowBy old moment piece None n out new octets told before now = NowGoes old moment piece n out new octets told before now
NowBy old moment piece (Some ending.Closed) n out new octets told before now = ClosesAt piece n new octets told × (out ≡ []) × (now ≡ before)
NowBy old moment piece (Some (ending.Refused code)) n out new octets told before now = RefusesAt code.code piece n new octets told
    × (out ≡ last_words (Stopped code.code)) × (now ≡ before)
NowBy old moment piece (Some ending.NoClose) n out new octets told before now = ⊥
NowBy old moment piece (Some ending.Cut) n out new octets told before now = ⊥

-- the outcome of a step of a server with this channel for a fragment at a time, in terms of the
-- current state after bytes that told this
abbrev pub StepNow : ServerChannel → DateTime → List ℕ → Result Step StepFault → ServerChannel → List ℕ → List Told → State → State → Type 0
StepNow old moment piece (Ok step) new octets told before now = NowBy old moment piece step.end step.taken step.out.items new octets told before now
StepNow old moment piece (Err step_fault.OutOfMemory) new octets told before now =
    StepBreaks (limits_of old) (channel_of old) moment piece new octets told before now
StepNow old moment piece (Err step_fault.Closed) new octets told before now = ⊥

-- the outcome of a step after whatever bytes
abbrev pub StepsNow : ServerChannel → DateTime → List ℕ → Result Step StepFault → ServerChannel → State → State → Type 0
StepsNow old moment piece result new before now = WhateverWasTold old (λ octets told. StepNow old moment piece result new octets told before now)

-- ---- inside

-- what is answered is told separately, and which request it is, if it is one
pub record NowTells (answered : Bool) (request : Option AnsweredRequest) (old : ServerChannel) (moment : DateTime) (piece : List ℕ) (n : ℕ) (out : List ℕ)
    (new : ServerChannel) (octets : List ℕ) (told : List Told) (before now : State) : Type 0 where
  pub goes : NowGoes old moment piece n out new octets told before now
  pub answered_is : answered ≡ has_some goes.more
  pub requests_are : listed request ≡ requests_of (channel_of old) (standing before (next_of old) (agreed_by told) goes.more moment) goes.more

-- the same by how the connection ended, with whether something was answered, and which request
abbrev pub AdvanceNowBy : Bool → Option AnsweredRequest → ServerChannel → DateTime → List ℕ → Option Ending → ℕ → List ℕ → ServerChannel → List ℕ → List Told
    → State → State → Type 0
AdvanceNowBy answered request old moment piece None n out new octets told before now =
    NowTells answered request old moment piece n out new octets told before now
AdvanceNowBy answered request old moment piece (Some end) n out new octets told before now =
    NowBy old moment piece (Some end) n out new octets told before now × (answered ≡ false)

-- the outcome of a step, with whether something was answered, and which request
abbrev pub AdvanceNow : ServerChannel → DateTime → List ℕ → Result Advanced StepFault → ServerChannel → List ℕ → List Told → State → State → Type 0
AdvanceNow old moment piece (Ok found) new octets told before now =
    AdvanceNowBy found.answered found.request old moment piece found.step.end found.step.taken found.step.out.items new octets told before now
AdvanceNow old moment piece (Err f) new octets told before now = StepNow old moment piece (Err f) new octets told before now
