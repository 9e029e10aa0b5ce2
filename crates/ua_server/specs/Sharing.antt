-- Several connections over one AddressSpace: what is sent to each client, and the state that all of
-- them leave.
use Rattle.std.specs.Prelude.{◌≡◌, ℕ, nat_eq, cond, List, [], ◌∷◌, ◌++◌, map, take, Option, None, Some, Result, Ok, Err}
use Rattle.ua_builtin.specs.declared.date_time.DateTime.{DateTime}
use Rattle.ua_frame.specs.Run.{End, Stopped, Over}
use Rattle.ua_frame.specs.declared.limits.Limits.{Limits}
use Rattle.ua_channel.specs.Agreement.{Agreement}
use Rattle.ua_channel.specs.ServerStands.{limits_of, channel_of, next_of, Goes, IsDone}
use Rattle.ua_channel.specs.ServerTold.{Told}
use Rattle.ua_channel.specs.declared.server.ServerChannel.{ServerChannel}
use Rattle.ua_nodes.specs.Table.{Nodes}
use Rattle.ua_server.specs.History.{ConnectionEvent, Heard, Became, EndedAt, IsHandled, event_answer, with_changes}
use Rattle.ua_server.specs.Said.{Course, last_words}
use Rattle.ua_server.specs.State.{State, with_nodes, with_session}
use Rattle.ua_server.specs.declared.session.Session.{Session}
use Rattle.ua_server.specs.declared.step.End.{End as Ending}
use Rattle.ua_server.specs.declared.step.End.TheVariants as ending
use Rattle.ua_server.specs.declared.step.Step.{Step}
use Rattle.ua_server.specs.declared.step.StepFault.{StepFault}
use Rattle.ua_server.specs.declared.step.StepFault.TheVariants as step_fault

-- ---- one server that handles every message in the order of completion

-- an event of a server: a frame of a connection tells this, which is answered at this time, if it
-- is answered; or the application changed the nodes to these. Each connection has a number of its
-- own
pub data SharedEvent : Type 0 where
  At : (connection : ℕ) (t : Told) (moment : DateTime) → SharedEvent
  Changed : (nodes : Nodes) → SharedEvent

-- what a connection has of its own: its session, if there is one, the number of the chunk that is
-- sent to it next, and its agreement
pub record Own : Type 0 where
  pub session : Option Session
  pub number : ℕ
  pub agreement : Option Agreement

-- a server with several connections: the state, whose session is that of none of them, and what
-- each connection has of its own
pub record SharedState : Type 0 where
  pub state : State
  pub own : ℕ → Own

-- before the first byte of any connection
abbrev pub opened : State → SharedState
opened s = record { state = s; own = λ k. record { session = None; number = 1; agreement = None } }

-- the course of a connection: the state that all share, with its own session
abbrev pub course_at : SharedState → ℕ → Course
course_at p k = record { state = with_session p.state (p.own k).session; number = (p.own k).number; moments = []; agreement = (p.own k).agreement }

-- the server after one connection has this course; the others are unchanged
abbrev pub with_course : SharedState → ℕ → Course → SharedState
with_course p k c = record {
  state = with_changes p.state c.state.nodes c.state.made;
  own = λ j. cond (nat_eq j k) (record { session = c.state.session; number = c.number; agreement = c.agreement }) (p.own j);
}

-- what the server answers to what a frame of a connection tells, and the course of that connection
-- after it
abbrev pub answer_at : (ℕ → ℕ) → SharedState → ℕ → Told → DateTime → List ℕ × Course
answer_at channels p k t moment = event_answer (channels k) (course_at p k) (Heard t moment)

-- the server after an event; the connections have these SecureChannelIds
abbrev pub shared_by : (ℕ → ℕ) → SharedState → SharedEvent → SharedState
shared_by channels p (At k t moment) = with_course p k (answer_at channels p k t moment).1
shared_by channels p (Changed nodes) = record { state = with_nodes p.state nodes; own = p.own }

-- the server after these events, in order
abbrev pub shared_over : (ℕ → ℕ) → SharedState → List SharedEvent → SharedState
shared_over channels p [] = p
shared_over channels p (e ∷ es) = shared_over channels (shared_by channels p e) es

-- what is sent to a connection for an event: the answer to what its own frame tells, nothing for
-- the events of others
abbrev pub sent_for_event : (ℕ → ℕ) → ℕ → SharedState → SharedEvent → List ℕ
sent_for_event channels k p (At j t moment) = cond (nat_eq k j) (answer_at channels p j t moment).0 []
sent_for_event channels k p (Changed nodes) = []

-- what is sent to a connection over these events, in order
abbrev pub sent_to : (ℕ → ℕ) → ℕ → SharedState → List SharedEvent → List ℕ
sent_to channels k p [] = []
sent_to channels k p (e ∷ es) = sent_for_event channels k p e ++ sent_to channels k (shared_by channels p e) es

-- ---- the same as one connection sees it

-- an event as a connection sees it: what its own frame tells; otherwise the nodes and the number of
-- sessions made that the event leaves
abbrev pub seen_as : (ℕ → ℕ) → ℕ → SharedState → SharedEvent → ConnectionEvent
seen_as channels k p (At j t moment) =
    cond (nat_eq k j) (Heard t moment) (Became (answer_at channels p j t moment).1.state.nodes (answer_at channels p j t moment).1.state.made)
seen_as channels k p (Changed nodes) = Became nodes p.state.made

-- these events as a connection sees them
abbrev pub seen_by : (ℕ → ℕ) → ℕ → SharedState → List SharedEvent → List ConnectionEvent
seen_by channels k p [] = []
seen_by channels k p (e ∷ es) = seen_as channels k p e ∷ seen_by channels k (shared_by channels p e) es

-- what the frames of one connection tell
abbrev pub told_by : ℕ → List SharedEvent → List Told
told_by k [] = []
told_by k (At j t moment ∷ es) = cond (nat_eq k j) (t ∷ told_by k es) (told_by k es)
told_by k (Changed nodes ∷ es) = told_by k es

-- frames of one connection tell these, and all are answered at this time
abbrev pub at_moment : ℕ → DateTime → List Told → List SharedEvent
at_moment k moment told = map (λ t. At k t moment) told

-- ---- where one of several connections stands

-- the state of a connection is that after these bytes of its client and these events of all: the
-- services were in the first state before any connection began and are in this one now, this is its
-- session, if there is one, and the chunk that is sent to it next has the number that is due
pub record StandsAmong (channels : ℕ → ℕ) (k : ℕ) (x : ServerChannel) (session : Option Session) (octets : List ℕ) (es : List SharedEvent)
    (first now : State) : Type 0 where
  pub channel_is : channel_of x ≡ channels k
  pub goes : Goes x octets (told_by k es)
  pub state_is : (shared_over channels (opened first) es).state ≡ now
  pub session_is : ((shared_over channels (opened first) es).own k).session ≡ session
  pub number_is : ((shared_over channels (opened first) es).own k).number ≡ next_of x

-- the connection ended: nothing changed, and what is sent to it over all events, with the ERR frame
-- of a rejection, is what was sent to it before and this
abbrev pub EndsAmong : End ℕ → (ℕ → ℕ) → ℕ → ServerChannel → List ℕ → List ℕ → List SharedEvent → List SharedEvent → State → State → State → Type 0
EndsAmong end channels k new octets out es more first before now =
    EndedAt end new octets (told_by k (es ++ more)) × (now ≡ before)
    × (sent_to channels k (opened first) (es ++ more) ++ last_words end ≡ sent_to channels k (opened first) es ++ out)

-- by how the connection ended, if it did; otherwise its state is that after all events, and what is
-- sent to it over them is what was sent to it before and this
abbrev pub AmongBy : Option Ending → (ℕ → ℕ) → ℕ → ServerChannel → Option Session → List ℕ → List ℕ → List SharedEvent → List SharedEvent → State → State
    → State → Type 0
AmongBy None channels k new session octets out es more first before now =
    StandsAmong channels k new session octets (es ++ more) first now
    × (sent_to channels k (opened first) (es ++ more) ≡ sent_to channels k (opened first) es ++ out)
AmongBy (Some ending.Closed) channels k new session octets out es more first before now = EndsAmong Over channels k new octets out es more first before now
AmongBy (Some (ending.Refused code)) channels k new session octets out es more first before now =
    EndsAmong (Stopped code.code) channels k new octets out es more first before now
AmongBy (Some ending.NoClose) channels k new session octets out es more first before now = ⊥
AmongBy (Some ending.Cut) channels k new session octets out es more first before now = ⊥

-- the outcome for a fragment of the connection's bytes; if an allocation failed the connection
-- ended, and no more than its first whole message was handled, whose reply is not sent
abbrev pub ResultAmong : Limits → (ℕ → ℕ) → ℕ → List ℕ → Result Step StepFault → ServerChannel → Option Session → List ℕ → List SharedEvent → List SharedEvent
    → List Told → State → State → State → Type 0
ResultAmong limits channels k piece (Ok step) new session octets es more told first before now =
    AmongBy step.end channels k new session (octets ++ take step.taken piece) step.out.items es more first before now
ResultAmong limits channels k piece (Err step_fault.OutOfMemory) new session octets es more told first before now = IsDone new
    × IsHandled limits (channels k) piece octets (told_by k es) told
ResultAmong limits channels k piece (Err step_fault.Closed) new session octets es more told first before now = ⊥

-- the events tell and send nothing to any other connection, also none to one that ended or that has
-- not begun; and the state of each is that after them
abbrev pub OthersStand : (ℕ → ℕ) → ℕ → List SharedEvent → List SharedEvent → State → State → State → Type 0
OthersStand channels k es more first before now =
    (j : ℕ) → (j ≡ k → ⊥) → (told_by j (es ++ more) ≡ told_by j es) × (sent_to channels j (opened first) (es ++ more) ≡ sent_to channels j (opened first) es)
    × ((x : ServerChannel) (session : Option Session) (octets : List ℕ) → StandsAmong channels j x session octets es first before
    → StandsAmong channels j x session octets (es ++ more) first now)

-- what a step of one connection at a time adds to the events of all: what its frames tell at this
-- time, and nothing else; the state that all events leave is the one that it leaves
pub record StepAmong (limits : Limits) (channels : ℕ → ℕ) (k : ℕ) (moment : DateTime) (piece : List ℕ) (result : Result Step StepFault) (new : ServerChannel)
    (session : Option Session) (octets : List ℕ) (es : List SharedEvent) (first before now : State) : Type 0 where
  pub told : List Told
  pub left_is : (shared_over channels (opened first) (es ++ at_moment k moment told)).state ≡ now
  pub comes_to : ResultAmong limits channels k piece result new session octets es (at_moment k moment told) told first before now
  pub others : OthersStand channels k es (at_moment k moment told) first before now

-- the outcome of a step of one connection at a time among others, whatever happened on each before
abbrev pub StepsAmong : DateTime → List ℕ → Result Step StepFault → ServerChannel → Option Session → State → ServerChannel → Option Session → State → Type 0
StepsAmong moment piece result old mine before new session now =
    (channels : ℕ → ℕ) (k : ℕ) (octets : List ℕ) (es : List SharedEvent) (first : State) → StandsAmong channels k old mine octets es first before
    → StepAmong (limits_of old) channels k moment piece result new session octets es first before now

-- a connection with this SecureChannelId begins among others, wherever these stand
abbrev pub BeginsAmong : ServerChannel → Option Session → ℕ → Type 0
BeginsAmong x session channel =
    (channels : ℕ → ℕ) (k : ℕ) (es : List SharedEvent) (first now : State) → channels k ≡ channel → told_by k es ≡ []
    → (shared_over channels (opened first) es).state ≡ now → StandsAmong channels k x session [] es first now
