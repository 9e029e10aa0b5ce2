-- What a server does for C: each clause of the calls of `ua_server`, over the content of a handle.
use Rattle.std.specs.Prelude.{◌≡◌, ℕ, List, [], Option, Some, None, Result, Ok, Err, IfOk, IsErrOf}
use Rattle.std.specs.Map.{keys_of}
use Rattle.ua_builtin.specs.declared.date_time.DateTime.{DateTime}
use Rattle.ua_channel.specs.ServerStands.{limits_of, channel_of, bound_of, IsDone, Goes, ChannelStands as Holds}
use Rattle.ua_channel.specs.ServerTold.{Told}
use Rattle.ua_frame.specs.declared.limits.Limits.{Limits}
use Rattle.ua_server.specs.History.{StandsOver}
use Rattle.ua_server.specs.Now.{StepNow}
use Rattle.ua_server.specs.Served.{channel_in}
use Rattle.ua_server.specs.State.{State, begun}
use Rattle.ua_server.specs.Stepping.{ServerStands, StepTakes}
use Rattle.ua_server.specs.declared.server.Server.{Server}
use Rattle.ua_server.specs.declared.step.End.{End}
use Rattle.ua_server.specs.declared.step.End.TheVariants as ending
use Rattle.ua_server.specs.declared.step.Step.{Step}
use Rattle.ua_server.specs.declared.step.StepFault.{StepFault}
use Rattle.ua_server.specs.declared.step.StepFault.TheVariants as step_fault
use Rattle.ua_c.specs.Handled.{OfServer, WhereNone}
use Rattle.ua_c.specs.Status.{ok, no_memory, closed, refused, ended}
use Rattle.ua_c.specs.declared.holding.Holding.{Holding}
use Rattle.ua_c.specs.declared.holding.Machine.TheVariants as machine
use Rattle.ua_c.specs.declared.report.Report.{Report}
use Rattle.ua_c.specs.declared.station.Station.{Station}

-- ---- a server

-- what `Server::new` ensures of the server that it makes
pub record IsFreshServer (limits : Limits) (channel : ℕ) (server : Server) : Type 0 where
  pub stands : (first : State) → ServerStands (channel_in server) [] [] first [] first
  pub history : (first : State) → StandsOver (channel_in server) [] [] first first
  pub holds : Holds (channel_in server) [] [] []
  pub limits_is : limits_of (channel_in server) ≡ limits
  pub channel_is : channel_of (channel_in server) ≡ channel

-- what `Server::step` ensures of its outcome for a fragment at a time, and of the server and the
-- services that it leaves
pub record StepsAs (server : Server) (services : State) (piece : List ℕ) (moment : DateTime) (answer : Result Step StepFault) (new : Server)
    (left : State) : Type 0 where
  pub now : (octets : List ℕ) (told : List Told) → Goes (channel_in server) octets told
      → StepNow (channel_in server) moment piece answer (channel_in new) octets told
      services left
  pub endpoint : left.endpoint ≡ services.endpoint
  pub memory_limit : left.memory_limit ≡ services.memory_limit
  pub ids : keys_of left.nodes ≡ keys_of services.nodes
  pub progress : IfOk answer (λ step. StepTakes piece step)
  pub starved : (octets : List ℕ) (told : List Told) → Goes (channel_in server) octets told
      → IsErrOf answer step_fault.OutOfMemory → bound_of (channel_in new) ≡ bound_of (channel_in server)
  pub closed : IsDone (channel_in server) → (answer ≡ Err step_fault.Closed) × (new ≡ server) × (left ≡ services)
  pub limits : limits_of (channel_in new) ≡ limits_of (channel_in server)
  pub channel : channel_of (channel_in new) ≡ channel_of (channel_in server)

-- ---- what of that C is told

-- the status of a step by how the connection ended, if it did
abbrev pub status_of_end : Option End → ℕ
status_of_end None = ok
status_of_end (Some (ending.Refused code)) = refused
status_of_end (Some ending.Closed) = ended
status_of_end (Some ending.NoClose) = ended
status_of_end (Some ending.Cut) = ended

-- the code of a rejection, and 0 if there is none
abbrev pub code_of_end : Option End → ℕ
code_of_end None = 0
code_of_end (Some (ending.Refused code)) = code.code
code_of_end (Some ending.Closed) = 0
code_of_end (Some ending.NoClose) = 0
code_of_end (Some ending.Cut) = 0

-- only a status
abbrev pub status_report : ℕ → Report
status_report status = record { status = status; taken = 0; code = 0 }

-- what C is told of an outcome, and which bytes then wait
abbrev pub Shows : Result Step StepFault → Report → List ℕ → List ℕ → Type 0
Shows (Ok step) report before waiting = (report ≡ record { status = status_of_end step.end; taken = step.taken; code = code_of_end step.end })
    × (waiting ≡ step.out.items)
Shows (Err step_fault.Closed) report before waiting = (report ≡ status_report closed) × (waiting ≡ before)
Shows (Err step_fault.OutOfMemory) report before waiting = (report ≡ status_report no_memory) × (waiting ≡ before)

-- ---- what a handle holds

-- a server with these limits that took no byte yet, over these services; no bytes wait
pub record HoldsFresh (limits : Limits) (channel : ℕ) (services : State) (new : Holding) : Type 0 where
  pub station : Station
  pub machine_is : new.machine ≡ machine.Server station
  pub server_is : IsFreshServer limits channel station.server
  pub services_is : station.services ≡ services
  pub limits_is : station.limits ≡ limits
  pub silent : new.waiting ≡ []

-- one step of a server: the outcome is one of `Server::step`, and C is told exactly that
pub record StepsServer (old : Station) (new : Holding) (piece : List ℕ) (moment : DateTime) (report : Report) : Type 0 where
  pub answer : Result Step StepFault
  pub station : Station
  pub machine_is : new.machine ≡ machine.Server station
  pub steps : StepsAs old.server old.services piece moment answer station.server station.services
  pub limits_is : station.limits ≡ old.limits
  pub shown : Shows answer report [] new.waiting

-- what a step does with the content of a handle
abbrev pub StepsMachine : Holding → Holding → List ℕ → DateTime → Report → Type 0
StepsMachine old new piece moment report = OfServer old.machine old new (λ why. report ≡ status_report why)
    (λ station. WhereNone old new (λ why. report ≡ status_report why) (StepsServer station new piece moment report))

-- the next connection begins over the same services, without a session; what still waited is
-- dropped
abbrev pub NextMachine : Holding → Holding → ℕ → ℕ → Type 0
NextMachine old new channel status = OfServer old.machine old new (λ why. status ≡ why)
    (λ station. (status ≡ ok) × HoldsFresh station.limits channel (begun station.services) new)
