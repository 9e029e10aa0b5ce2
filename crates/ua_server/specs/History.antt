-- What a server sends to a client, and the state that it leaves, where its nodes may change between
-- the messages of that client.
use Rattle.std.specs.Prelude.{◌≡◌, ◌⊎◌, ℕ, List, [], ◌∷◌, ◌++◌, map, take, Option, None, Some, Result, Ok, Err}
use Rattle.ua_builtin.specs.declared.date_time.DateTime.{DateTime}
use Rattle.ua_nodes.specs.Table.{Nodes}
use Rattle.ua_frame.specs.Run.{End, Going, Stopped, Over}
use Rattle.ua_frame.specs.declared.limits.Limits.{Limits}
use Rattle.ua_channel.specs.ServerStands.{channel_of, next_of, ClosedAt, Goes, IsDone, RefusedAt}
use Rattle.ua_channel.specs.ServerTold.{Told, Asked}
use Rattle.ua_channel.specs.declared.server.ServerChannel.{ServerChannel}
use Rattle.ua_server.specs.Said.{Course, last_words, say, start}
use Rattle.ua_server.specs.State.{State}
use Rattle.ua_server.specs.Stepping.{EndsWholeMessage, given_up, times_of_answers}
use Rattle.ua_server.specs.declared.step.End.{End as Ending}
use Rattle.ua_server.specs.declared.step.End.TheVariants as ending
use Rattle.ua_server.specs.declared.step.Step.{Step}
use Rattle.ua_server.specs.declared.step.StepFault.{StepFault}
use Rattle.ua_server.specs.declared.step.StepFault.TheVariants as step_fault

-- an event of a connection: a frame tells this, which is answered at this time, if it is answered;
-- or the application or another connection changed the state: these are the nodes, and this many
-- sessions were made
pub data ConnectionEvent : Type 0 where
  Heard : (t : Told) (moment : DateTime) → ConnectionEvent
  Became : (nodes : Nodes) (made : ℕ) → ConnectionEvent

-- what the frames of the connection told
abbrev pub told_in : List ConnectionEvent → List Told
told_in [] = []
told_in (Heard t moment ∷ hs) = t ∷ told_in hs
told_in (Became nodes made ∷ hs) = told_in hs

-- the course after this is answered at the time
abbrev pub answered_at : Course → Told → DateTime → Course
answered_at c t moment = record { state = c.state; number = c.number; moments = times_of_answers (t ∷ []) moment; agreement = c.agreement }

-- the course with its timestamps used
abbrev pub used_up : Course → Course
used_up c = record { state = c.state; number = c.number; moments = []; agreement = c.agreement }

-- the state with these nodes and this number of sessions made; its own session stays
abbrev pub with_changes : State → Nodes → ℕ → State
with_changes s nodes made = record { nodes = nodes; endpoint = s.endpoint; memory_limit = s.memory_limit; made = made; session = s.session }

-- the course with these nodes and this number of sessions made
abbrev pub course_with : Course → Nodes → ℕ → Course
course_with c nodes made = record { state = with_changes c.state nodes made; number = c.number; moments = []; agreement = c.agreement }

-- what is sent for an event, and the course after it
abbrev pub event_answer : ℕ → Course → ConnectionEvent → List ℕ × Course
event_answer channel c (Heard t moment) = ((say channel (answered_at c t moment) t).0, used_up (say channel (answered_at c t moment) t).1)
event_answer channel c (Became nodes made) = ([], course_with c nodes made)

-- what is sent over these events, in order
abbrev pub output_over : ℕ → Course → List ConnectionEvent → List ℕ
output_over channel c [] = []
output_over channel c (h ∷ hs) = (event_answer channel c h).0 ++ output_over channel (event_answer channel c h).1 hs

-- the course after them
abbrev pub course_over : ℕ → Course → List ConnectionEvent → Course
course_over channel c [] = c
course_over channel c (h ∷ hs) = course_over channel (event_answer channel c h).1 hs

-- frames tell these, and all are answered at this time
abbrev pub heard_at : DateTime → List Told → List ConnectionEvent
heard_at moment told = map (λ t. Heard t moment) told

-- the timestamps that the answers to what the frames told use, in order
abbrev pub moments_of : List ConnectionEvent → List DateTime
moments_of [] = []
moments_of (Heard t moment ∷ hs) = times_of_answers (t ∷ []) moment ++ moments_of hs
moments_of (Became nodes made ∷ hs) = moments_of hs

-- nothing changed the state from outside: neither the application nor another connection
abbrev pub IsUndisturbed : List ConnectionEvent → Type 0
IsUndisturbed [] = Unit {0}
IsUndisturbed (Heard t moment ∷ hs) = IsUndisturbed hs
IsUndisturbed (Became nodes made ∷ hs) = ⊥

-- ---- where a server stands

-- the state of a server is that after these bytes and these events: its services were in the first
-- state when the connection began and are in this one now, and the chunk that it sends next has the
-- number that is due
pub record StandsOver (x : ServerChannel) (octets : List ℕ) (hs : List ConnectionEvent) (first now : State) : Type 0 where
  pub goes : Goes x octets (told_in hs)
  pub state_is : (course_over (channel_of x) (start first []) hs).state ≡ now
  pub number_is : (course_over (channel_of x) (start first []) hs).number ≡ next_of x

-- ---- a step

-- nothing was handled; or the first whole message that ends within the fragment, after messages
-- that were aborted
abbrev pub IsHandled : Limits → ℕ → List ℕ → List ℕ → List Told → List Told → Type 0
IsHandled limits channel piece octets told more =
    (more ≡ [])
    ⊎ ((message : List ℕ) × (ends : EndsWholeMessage limits channel piece octets told message)
    × (more ≡ given_up ends.quiet ++ Asked ends.id ends.token message ∷ []))

-- how a connection ended after these bytes, which told this: at a CLO, or rejected with this code
abbrev pub EndedAt : End ℕ → ServerChannel → List ℕ → List Told → Type 0
EndedAt Going x octets told = ⊥
EndedAt Over x octets told = ClosedAt x octets told
EndedAt (Stopped code) x octets told = RefusedAt x octets told code

-- the connection ended: nothing changed, and what is sent over all events, with the ERR frame of a
-- rejection, is what was sent before and this
abbrev pub EndsOver : End ℕ → ServerChannel → ℕ → List ℕ → List ℕ → List ConnectionEvent → List ConnectionEvent → State → State → State → Type 0
EndsOver end new channel octets out hs more first before now =
    EndedAt end new octets (told_in (hs ++ more)) × (now ≡ before)
    × (output_over channel (start first []) (hs ++ more) ++ last_words end ≡ output_over channel (start first []) hs ++ out)

-- by how the connection ended, if it did; otherwise its state is that after all events, and what is
-- sent over them is what was sent before and this
abbrev pub OverBy : Option Ending → ServerChannel → ℕ → List ℕ → List ℕ → List ConnectionEvent → List ConnectionEvent → State → State → State → Type 0
OverBy None new channel octets out hs more first before now =
    StandsOver new octets (hs ++ more) first now × (output_over channel (start first []) (hs ++ more) ≡ output_over channel (start first []) hs ++ out)
OverBy (Some ending.Closed) new channel octets out hs more first before now = EndsOver Over new channel octets out hs more first before now
OverBy (Some (ending.Refused code)) new channel octets out hs more first before now =
    EndsOver (Stopped code.code) new channel octets out hs more first before now
OverBy (Some ending.NoClose) new channel octets out hs more first before now = ⊥
OverBy (Some ending.Cut) new channel octets out hs more first before now = ⊥

-- the outcome for a fragment; if an allocation failed the connection ended, and no more than its
-- first whole message was handled
abbrev pub ResultOver : Limits → ℕ → List ℕ → Result Step StepFault → ServerChannel → List ℕ → List ConnectionEvent → List ConnectionEvent → List Told → State
    → State → State → Type 0
ResultOver limits channel piece (Ok step) new octets hs more told first before now =
    OverBy step.end new channel (octets ++ take step.taken piece) step.out.items hs more first before now
ResultOver limits channel piece (Err step_fault.OutOfMemory) new octets hs more told first before now = IsDone new
    × IsHandled limits channel piece octets (told_in hs) told
ResultOver limits channel piece (Err step_fault.Closed) new octets hs more told first before now = ⊥

-- what a step at a time adds to the events of a connection: what its frames tell at this time, and
-- nothing else; the state that all events leave is the one that it leaves
pub record StepOver (limits : Limits) (channel : ℕ) (moment : DateTime) (piece : List ℕ) (result : Result Step StepFault) (new : ServerChannel)
    (octets : List ℕ) (hs : List ConnectionEvent) (first before now : State) : Type 0 where
  pub told : List Told
  pub left_is : (course_over channel (start first []) (hs ++ heard_at moment told)).state ≡ now
  pub comes_to : ResultOver limits channel piece result new octets hs (heard_at moment told) told first before now
