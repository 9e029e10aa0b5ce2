-- What a connection over shared nodes does for C: each clause of the calls of `Connection`, over
-- the contents of two handles.
use Rattle.std.specs.Prelude.{◌≡◌, ◌⊎◌, ℕ, List, [], Option, None, Result, Ok, Err, IfOk, OnErr, IsErrOf}
use Rattle.std.specs.Map.{keys_of}
use Rattle.ua_builtin.specs.declared.date_time.DateTime.{DateTime}
use Rattle.ua_channel.specs.ServerStands.{limits_of, channel_of, bound_of, IsDone, Goes, ChannelStands as Holds}
use Rattle.ua_channel.specs.ServerTold.{Told}
use Rattle.ua_frame.specs.declared.limits.Limits.{Limits}
use Rattle.ua_server.specs.History.{StandsOver}
use Rattle.ua_server.specs.Now.{StepNow}
use Rattle.ua_server.specs.Served.{channel_at, session_at, with_own_session}
use Rattle.ua_server.specs.Sharing.{SharedEvent, StandsAmong, StepAmong, opened, shared_over, told_by}
use Rattle.ua_server.specs.State.{State}
use Rattle.ua_server.specs.Stepping.{StepTakes}
use Rattle.ua_server.specs.Storing.{StepStores}
use Rattle.ua_server.specs.declared.connection.Connection.{Connection}
use Rattle.ua_server.specs.declared.step.Step.{Step}
use Rattle.ua_server.specs.declared.step.StepFault.{StepFault}
use Rattle.ua_server.specs.declared.step.StepFault.TheVariants as step_fault
use Rattle.ua_structures.specs.declared.attribute.WriteValue.{WriteValue}
use Rattle.ua_c.specs.Handled.{OfShared, WhereNone}
use Rattle.ua_c.specs.Limits.{AreEnough, AreThese}
use Rattle.ua_c.specs.Making.{Seats}
use Rattle.ua_c.specs.Serving.{Shows, status_report}
use Rattle.ua_c.specs.Status.{bad_limits, other_handle}
use Rattle.ua_c.specs.Telling.{untold_in}
use Rattle.ua_c.specs.declared.holding.Holding.{Holding}
use Rattle.ua_c.specs.declared.holding.Machine.TheVariants as machine
use Rattle.ua_c.specs.declared.limits.UaLimits.{UaLimits}
use Rattle.ua_c.specs.declared.report.Report.{Report}
use Rattle.ua_c.specs.declared.untold.ServedConnection.{ServedConnection}
use Rattle.ua_c.specs.declared.shared.SharedNodes.{SharedNodes}

-- ---- a connection

-- what `Connection::new` ensures of the connection that it makes
pub record IsNewConnection (limits : Limits) (channel : ℕ) (connection : Connection) : Type 0 where
  pub among : (channels : ℕ → ℕ) (k : ℕ) (es : List SharedEvent) (first now : State) → channels k ≡ channel → told_by k es ≡ []
      → (shared_over channels (opened first) es).state ≡ now
      → StandsAmong channels k (channel_at connection) (session_at connection) [] es first now
  pub history : (first : State) → StandsOver (channel_at connection) [] [] first first
  pub holds : Holds (channel_at connection) [] [] []
  pub session_is : session_at connection ≡ None
  pub limits_is : limits_of (channel_at connection) ≡ limits
  pub channel_is : channel_of (channel_at connection) ≡ channel

-- what `Connection::step_telling` ensures of its outcome for a fragment at a time, of what was
-- stored, and of the connection and the services that it leaves
pub record StepsConnectionAs (connection : Connection) (services : State) (piece : List ℕ) (moment : DateTime) (answer : Result Step StepFault)
    (written : List WriteValue) (new : Connection) (left : State) : Type 0 where
  pub among : (channels : ℕ → ℕ) (k : ℕ) (octets : List ℕ) (es : List SharedEvent) (first : State)
      → StandsAmong channels k (channel_at connection) (session_at connection) octets es first services
      → StepAmong (limits_of (channel_at connection)) channels k moment piece answer (channel_at new) (session_at new) octets es first services left
  pub now : (octets : List ℕ) (told : List Told) → Goes (channel_at connection) octets told
      → StepNow (channel_at connection) moment piece answer
      (channel_at new) octets told (with_own_session connection services) (with_own_session new left)
  pub stores : (octets : List ℕ) (told : List Told) → Goes (channel_at connection) octets told
      → StepStores piece answer written (channel_at new) octets told (with_own_session connection services)
  pub failed : OnErr answer (written ≡ [])
  pub apart : left.session ≡ services.session
  pub endpoint : left.endpoint ≡ services.endpoint
  pub memory_limit : left.memory_limit ≡ services.memory_limit
  pub ids : keys_of left.nodes ≡ keys_of services.nodes
  pub progress : IfOk answer (λ step. StepTakes piece step)
  pub starved : (octets : List ℕ) (told : List Told) → Goes (channel_at connection) octets told
      → IsErrOf answer step_fault.OutOfMemory → bound_of (channel_at new) ≡ bound_of (channel_at connection)
  pub closed : IsDone (channel_at connection) → (answer ≡ Err step_fault.Closed) × (new ≡ connection) × (left ≡ services)
  pub limits : limits_of (channel_at new) ≡ limits_of (channel_at connection)
  pub channel : channel_of (channel_at new) ≡ channel_of (channel_at connection)

-- ---- what handles hold

-- a connection was made
pub record IsMadeConnection (limits : UaLimits) (channel : ℕ) (old new : Option Holding) (status : ℕ) : Type 0 where
  pub these : Limits
  pub served : ServedConnection
  pub enough : AreEnough limits
  pub are_these : AreThese limits these
  pub made : IsNewConnection these channel served.connection
  pub none : untold_in served.written ≡ []
  pub seated : Seats (machine.Connection served) old new status

-- a connection was made, or the handle is unchanged
abbrev pub MakesConnection : UaLimits → ℕ → Option Holding → Option Holding → ℕ → Type 0
MakesConnection limits channel old new status = IsMadeConnection limits channel old new status ⊎ ((new ≡ old) × (status ≡ bad_limits) × ¬ (AreEnough limits))

-- only a status is told, and nothing waits
abbrev pub TellsOnly : ℕ → Report → ℕ → Type 0
TellsOnly why report waiting = (report ≡ status_report why) × (waiting ≡ 0)

-- what is then to be told of Writes: what the step stored, and no longer what one before it did
abbrev pub stored_after : Result Step StepFault → List WriteValue → List WriteValue → List WriteValue
stored_after (Ok step) written before = written
stored_after (Err f) written before = before

-- one step of a connection over shared nodes: the outcome is one of `Connection::step_telling`, and
-- C is told exactly that
pub record StepsConnection (old : ServedConnection) (shared : SharedNodes) (new before after : Holding) (piece : List ℕ) (moment : DateTime)
    (report : Report) : Type 0 where
  pub answer : Result Step StepFault
  pub written : List WriteValue
  pub served : ServedConnection
  pub left : SharedNodes
  pub machine_is : new.machine ≡ machine.Connection served
  pub nodes_are : after ≡ record { machine = machine.Nodes left; waiting = before.waiting }
  pub steps : StepsConnectionAs old.connection shared.services piece moment answer written served.connection left.services
  pub shown : Shows answer report [] new.waiting
  pub stored : untold_in served.written ≡ stored_after answer written (untold_in old.written)

-- a step tells only a status, and the nodes are unchanged
abbrev pub SaysOnly : Report → Holding → Holding → ℕ → Type 0
SaysOnly report before after why = (report ≡ status_report why) × (after ≡ before)

-- what a step does with the contents of two handles
abbrev pub StepsShared : Holding → Holding → Holding → Holding → List ℕ → DateTime → Report → Type 0
StepsShared old new before after piece moment report =
    OfShared old.machine before.machine (SaysOnly report before after other_handle × (new ≡ old))
    (λ served shared. WhereNone old new (SaysOnly report before after) (StepsConnection served shared new before after piece moment report))
