-- The outcome of client operations that both ends of a connection run through.
use Rattle.std.specs.Prelude.{ℕ, List}
use Rattle.ua_builtin.specs.declared.date_time.DateTime.{DateTime}
use Rattle.ua_frame.specs.Run.{Over}
use Rattle.ua_nodes.specs.Table.{Nodes}
use Rattle.ua_server.specs.Said.{output_of}
use Rattle.ua_server.specs.State.{State}
use Rattle.ua_loopback.specs.Says.{answer_times}
use Rattle.ua_exchange.specs.Accepted.{FirstRefused}
use Rattle.ua_exchange.specs.Programs.{begun_over, channel}
use Rattle.ua_exchange.specs.Turns.{all_told}
use Rattle.ua_exchange.specs.declared.fault.PairFault.{PairFault}
use Rattle.ua_exchange.specs.declared.fault.PairFault.TheVariants.{NotWritable, Request, OutOfMemory}
use Rattle.ua_exchange.specs.declared.turn.Turn.{Turn}

-- all that a server in this state sends to a client with these operations, with this time for each
-- answer
abbrev pub all_said : State → DateTime → List Turn → List ℕ
all_said first moment turns = output_of channel first (all_told turns) Over (answer_times (all_told turns) (λ (n : ℕ). moment))

-- the same for a server over these nodes, when the connection begins
abbrev pub down_octets : Nodes → DateTime → List Turn → List ℕ
down_octets nodes moment turns = all_said (begun_over nodes) moment turns

-- why there is no transcript: the first operation that is not accepted, or an allocation failed
abbrev pub IsRefusedFor : List Turn → PairFault → Type 0
IsRefusedFor turns (Request index fault) = FirstRefused turns (Request index fault)
IsRefusedFor turns (NotWritable index) = FirstRefused turns (NotWritable index)
IsRefusedFor turns OutOfMemory = Unit {0}
