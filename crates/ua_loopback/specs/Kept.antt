-- What a transport to a server keeps.
use Rattle.std.specs.Prelude.{◌≡◌, ◌≤◌, ◌+◌, ◌++◌, ℕ, List, length, drop}
use Rattle.ua_builtin.specs.declared.date_time.DateTime.{DateTime}
use Rattle.ua_channel.specs.Line.{Traffic}
use Rattle.ua_frame.specs.Run.{End as run}
use Rattle.ua_channel.specs.ServerStands.{channel_of, limits_of}
use Rattle.ua_channel.specs.ServerTold.{Told}
use Rattle.ua_server.specs.Said.{used_in}
use Rattle.ua_server.specs.Served.{channel_in}
use Rattle.ua_server.specs.State.{State}
use Rattle.ua_server.specs.Stepping.{ServerStands}
use Rattle.ua_server.specs.declared.server.Server.{Server}
use Rattle.ua_server.specs.declared.step.End.TheVariants as ending
use Rattle.ua_loopback.specs.Beginning.{Beginning}
use Rattle.ua_loopback.specs.Says.{end_by, services_after, server_output, answer_times}
use Rattle.ua_loopback.specs.declared.stage.Stage.{Stage}
use Rattle.ua_loopback.specs.declared.stage.Stage.TheVariants.{Going, Ended, Broken}

-- what was written to it, and what the server sent, of which this many bytes were read; the
-- services; the progress of the connection; how many calls failed
pub record Served : Type 0 where
  pub up : List ℕ
  pub down : List ℕ
  pub read : ℕ
  pub services : State
  pub stage : Stage
  pub failures : ℕ

-- the bytes of a transport to a server that began in this way: what is to come is the response to
-- all that is then written, after what was read
abbrev pub traffic_of : Beginning → Served → Traffic
traffic_of b l = record { coming = λ (more : List ℕ). drop l.read (server_output b (l.up ++ more)); written = l.up }

-- the connection goes no further: it ended, or an allocation failed
abbrev pub IsOver : Stage → Type 0
IsOver Going = ⊥
IsOver (Ended end) = Unit {0}
IsOver Broken = Unit {0}

-- the progress of the connection before a write that fails, and after it: it was over, and stays
-- unchanged; or it is broken from then on
abbrev pub BreaksAtWrite : Stage → Stage → Type 0
BreaksAtWrite Going new = new ≡ Broken
BreaksAtWrite (Ended end) new = new ≡ Ended end
BreaksAtWrite Broken new = new ≡ Broken

-- the server took all that was written, and its further answers have these times
pub record HasTakenAll (b : Beginning) (server : Server) (times : ℕ → DateTime) (now : State) (up : List ℕ) : Type 0 where
  pub told : List Told
  pub stands : ServerStands (channel_in server) up told b.first (answer_times told b.moments) now
  pub limits_are : limits_of (channel_in server) ≡ b.limits
  pub channel_is : channel_of (channel_in server) ≡ b.channel
  pub times_are : (n : ℕ) → b.moments (used_in told + n) ≡ times n

-- the state of the server: that after all that was written while the connection goes on
abbrev pub ServesAtStage : Stage → Beginning → Server → (ℕ → DateTime) → State → List ℕ → Type 0
ServesAtStage Going b server times now up = HasTakenAll b server times now up
ServesAtStage (Ended end) b server times now up = Unit {0}
ServesAtStage Broken b server times now up = Unit {0}

-- the services are what all that was written leaves, unless an allocation failed
abbrev pub LeavesAtStage : Stage → Beginning → List ℕ → State → Type 0
LeavesAtStage Going b up now = now ≡ services_after b up
LeavesAtStage (Ended end) b up now = now ≡ services_after b up
LeavesAtStage Broken b up now = Unit {0}

-- how what was written ends at such a server, if the connection has this progress: nothing of it is
-- rejected and nothing closed the channel, and it goes on, or an allocation failed; or a CLO closed
-- the channel; or what follows is rejected with this code
abbrev pub EndsAtStage : Stage → Beginning → List ℕ → Type 0
EndsAtStage Going b up = end_by b up ≡ run.Going
EndsAtStage (Ended ending.Closed) b up = end_by b up ≡ run.Over
EndsAtStage (Ended (ending.Refused code)) b up = end_by b up ≡ run.Stopped code.code
EndsAtStage (Ended ending.NoClose) b up = ⊥
EndsAtStage (Ended ending.Cut) b up = ⊥
EndsAtStage Broken b up = end_by b up ≡ run.Going

-- what a transport to a server that began in this way keeps, whose further answers have these times
pub record Keeps (b : Beginning) (server : Server) (now : State) (times : ℕ → DateTime) (up down : List ℕ) (read : ℕ) (stage : Stage) : Type 0 where
  pub down_is : down ≡ server_output b up
  pub within : read ≤ length down
  pub serves : ServesAtStage stage b server times now up
  pub leaves : LeavesAtStage stage b up now
  pub ends : EndsAtStage stage b up
