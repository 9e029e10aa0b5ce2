-- The lines of `ua serve` where many connections are served at a time.
use Rattle.std.specs.Prelude.{◌≡◌, ◌≤◌, ◌⊎◌, ℕ, suc, Bool, true, false, cond, ⊤, List, [], ◌∷◌, flat_map, Option, Some, None, Result, Ok, Err}
use Rattle.std.specs.Io.KnownBytes.{Appends}
use Rattle.std.specs.List.{AllByRecursion}
use Rattle.ua_builtin.specs.declared.date_time.DateTime.{DateTime}
use Rattle.ua_node_files.specs.CurrentTime.{current_time, current_time_id}
use Rattle.ua_nodes.specs.Set.{after_set}
use Rattle.ua_concurrent.specs.declared.outcome.Failure.{Failure}
use Rattle.ua_concurrent.specs.declared.outcome.Failure.TheVariants as failure
use Rattle.ua_concurrent.specs.Acts.{Act, Acted, Told}
use Rattle.ua_poll.specs.News.{News, Over, Missed, Acts}
use Rattle.ua_poll.specs.declared.endings.NotTaken.{NotTaken}
use Rattle.ua_poll.specs.declared.endings.NotTaken.TheVariants as not_taken
use Rattle.ua_server.specs.declared.serve_fault.ServeFault.{ServeFault}
use Rattle.ua_server.specs.declared.serve_fault.ServeFault.TheVariants as serve_fault
use Rattle.ua_server.specs.State.{State, with_nodes}
use Rattle.ua_server.specs.declared.step.End.{End}
use Rattle.ua_structures.specs.declared.attribute.WriteValue.{WriteValue}
use Rattle.ua_serving.specs.Served.{HasServed, HasServedSome, IsSaid, connection_line, listening_line, no_memory_text, outcome_text}
use Rattle.ua_serving.specs.Live.{LooksAt}
use Rattle.ua_serving.specs.Stored.{AreStoredLines, lost_line}
use Rattle.ua_words.specs.declared.arguments.Serve.{Serve}
use Rattle.ua_report.specs.Reasons.{StopsWriting}
use Rattle.ua_serving.specs.declared.at_once.Host.{Host}
use Rattle.ua_serving.specs.declared.at_once.Halt.{Halt}
use Rattle.ua_serving.specs.declared.at_once.Halt.TheVariants as halt
use Rattle.ua_report.specs.declared.output.Stop.{Stop}

-- what is printed: of a connection that ended its number and the text of its outcome; of what a
-- Write stored its items and their lines
pub data Said : Type 0 where
  Ended : (number : ℕ) (outcome : List ℕ) → Said
  Wrote : (items : List WriteValue) (lines : List ℕ) → Said

-- whether stored values are printed in the human-readable form, if they are printed
abbrev pub writes_of : Serve → Option Bool
writes_of asked = cond asked.writes (Some asked.plain) None

-- the lines are those of items that were stored, if such lines are wanted; or one line that says
-- that an allocation failed for them, where the server goes on
abbrev pub IsWrote : Option Bool → Bool → List WriteValue → List ℕ → Type 0
IsWrote None goes_on items lines = ⊥
IsWrote (Some plain) goes_on items lines = AreStoredLines plain items lines ⊎ ((goes_on ≡ true) × (lines ≡ lost_line))

-- the text of an outcome is that of one, or says that an allocation failed, where the server goes
-- on; the lines of stored items are theirs
abbrev pub IsPrinted : Option Bool → Bool → Said → Type 0
IsPrinted writes goes_on (Ended number outcome) = IsSaid goes_on outcome
IsPrinted writes goes_on (Wrote items lines) = IsWrote writes goes_on items lines

-- the lines of one of them
abbrev pub said_lines : Said → List ℕ
said_lines (Ended number outcome) = connection_line number outcome
said_lines (Wrote items lines) = lines

-- how many connections ended among them
abbrev pub count_ended : List Said → ℕ
count_ended [] = 0
count_ended (Ended number outcome ∷ said) = suc (count_ended said)
count_ended (Wrote items lines ∷ said) = count_ended said

-- the lines of this many connections that ended are added, in the order in which they ended, and
-- between them, if they are wanted, those of items that were stored
pub record HasPrintedEnded (writes : Option Bool) (goes_on : Bool) (count : ℕ) (old new : Option (List ℕ)) : Type 0 where
  pub said : List Said
  pub each : AllByRecursion (IsPrinted writes goes_on) said
  pub count_is : count_ended said ≡ count
  pub added : Appends old new (flat_map said_lines said)

-- a writer that had the old bytes then has after them the lines of this many connections on a port,
-- in the order in which they ended
pub record HasServedAtOnce (writes : Option Bool) (goes_on : Bool) (port connections : ℕ) (old new : Option (List ℕ)) : Type 0 where
  pub between : Option (List ℕ)
  pub listening : Appends old between (listening_line port)
  pub ended : HasPrintedEnded writes goes_on connections between new

-- the same of at most this many connections
pub record HasServedSomeAtOnce (writes : Option Bool) (goes_on : Bool) (port connections : ℕ) (old new : Option (List ℕ)) : Type 0 where
  pub count : ℕ
  pub fewer : count ≤ connections
  pub served : HasServedAtOnce writes goes_on port count old new

-- the outcome of a connection, as of one that was served alone
abbrev pub outcome_of : Result End Failure → Result End ServeFault
outcome_of (Ok end) = Ok end
outcome_of (Err failure.Read) = Err serve_fault.Read
outcome_of (Err failure.Write) = Err (serve_fault.Write 0)
outcome_of (Err failure.OutOfMemory) = Err serve_fault.OutOfMemory

-- the text says this outcome, or that an allocation failed, where the server goes on
abbrev pub SaysOutcomeOf : Bool → Result End ServeFault → List ℕ → Type 0
SaysOutcomeOf goes_on outcome text = (outcome_text outcome ≡ Some text) ⊎ ((goes_on ≡ true) × (text ≡ no_memory_text))

-- the result of printing the line of a connection: it is added, or nothing is where an allocation
-- failed and the server does not go on
abbrev pub SaysEnd : Bool → ℕ → Result End ServeFault → Option Halt → Option (List ℕ) → Option (List ℕ) → Type 0
SaysEnd goes_on number outcome None old new = (text : List ℕ) × SaysOutcomeOf goes_on outcome text × Appends old new (connection_line number text)
SaysEnd goes_on number outcome (Some halt.Memory) old new = (goes_on ≡ false) × (new ≡ old)
SaysEnd goes_on number outcome (Some (halt.Output error)) old new = ⊤
SaysEnd goes_on number outcome (Some (halt.Listener error)) old new = ⊥

-- why a server serves no further connection where this one could not be served
abbrev pub halt_of : NotTaken → Halt
halt_of (not_taken.System error) = halt.Listener error
halt_of not_taken.OutOfMemory = halt.Memory

-- the same, unless it goes on
abbrev pub halt_unless : Bool → NotTaken → Option Halt
halt_unless true why = None
halt_unless false why = Some (halt_of why)

-- no further connection is served, since a line could not be written
abbrev pub IsUnwritten : Option Halt → Type 0
IsUnwritten (Some (halt.Output error)) = Unit {0}
IsUnwritten other = ⊥

-- the result of printing what a Write stored: nothing is printed if its lines are not wanted; if
-- they are, each item has its line, in the order of the Write. If an allocation failed one line
-- tells so, or nothing is printed where the server does not go on
abbrev pub SaysStored : Option Bool → Bool → List WriteValue → Option Halt → Option (List ℕ) → Option (List ℕ) → Type 0
SaysStored None goes_on items after old new = (after ≡ None) × (new ≡ old)
SaysStored (Some plain) goes_on items None old new = (lines : List ℕ) × IsWrote (Some plain) goes_on items lines × Appends old new lines
SaysStored (Some plain) goes_on items (Some halt.Memory) old new = (goes_on ≡ false) × (new ≡ old)
SaysStored (Some plain) goes_on items (Some (halt.Output error)) old new = ⊤
SaysStored (Some plain) goes_on items (Some (halt.Listener error)) old new = ⊥

-- what is printed of news; nothing is once no further connection is to be served
abbrev pub PrintsBy : News → Option Bool → Bool → Option Halt → Option Halt → Option (List ℕ) → Option (List ℕ) → Type 0
PrintsBy (Over number outcome) writes goes_on None after old new = SaysEnd goes_on number (outcome_of outcome) after old new
PrintsBy (Missed why) writes goes_on None after old new = (after ≡ halt_unless goes_on why) × (new ≡ old)
PrintsBy (Acts (Acted before now moment)) writes goes_on None after old new = (after ≡ None) × (new ≡ old)
PrintsBy (Acts (Told number step items)) writes goes_on None after old new = SaysStored writes goes_on items after old new
PrintsBy news writes goes_on (Some halt) after old new = (after ≡ Some halt) × (new ≡ old)

-- the lines went on by these news, over the same writers; faults are told only aloud
pub record PrintsNews {R O E : Type 0} (contents : O → Option (List ℕ)) (old : Host R O E) (news : News) (new : Host R O E) : Type 0 where
  pub same_out : new.out.ghost_name ≡ old.out.ghost_name
  pub same_err : new.err.ghost_name ≡ old.err.ghost_name
  pub same : (new.telling ≡ old.telling) × (new.goes_on ≡ old.goes_on) × (new.writes ≡ old.writes)
  pub quiet : old.telling.aloud ≡ false → new.err.now ≡ old.err.now
  pub printed : PrintsBy news old.writes old.goes_on old.halt new.halt (contents old.out.now) (contents new.out.now)

-- CurrentTime was set to a time, where the server keeps it
abbrev pub timed : Bool → DateTime → State → State
timed true moment s = with_nodes s (after_set current_time_id (current_time moment) s.nodes)
timed false moment s = s

-- before a step the node file was followed, if it is, and then CurrentTime set
pub record SetsNodes {R O E : Type 0} (old : Host R O E) (before after : State) (moment : DateTime) (new : Host R O E) : Type 0 where
  pub between : State
  pub looked : LooksAt old.live before new.live between
  pub set : after ≡ timed old.keeps_time moment between

-- what the program does beside connections
abbrev pub DoesBeside : {R O E : Type 0} → Host R O E → Act → Host R O E → Type 0
DoesBeside old (Acted before after moment) new = SetsNodes old before after moment new
DoesBeside old (Told number step items) new = new.live ≡ old.live

-- it does this, and its lines go on
pub record ActsBeside {R O E : Type 0} (contents : O → Option (List ℕ)) (old : Host R O E) (act : Act) (new : Host R O E) : Type 0 where
  pub prints : PrintsNews contents old (Acts act) new
  pub does : DoesBeside old act new

-- why the command stops: its output cannot be written, where that is why no further connection is
-- served
abbrev pub StopsAtHalt : Option Halt → Stop → Type 0
StopsAtHalt (Some (halt.Output error)) why = StopsWriting why
StopsAtHalt other why = ⊤

-- the connections that the words ask for were served, one after the other or many at a time
abbrev pub ServesAsAsked : Option ℕ → Serve → Option (List ℕ) → Option (List ℕ) → Type 0
ServesAsAsked None asked old new = HasServed asked.requests asked.goes_on asked.port asked.connections old new
ServesAsAsked (Some places) asked old new = HasServedAtOnce (writes_of asked) asked.goes_on asked.port asked.connections old new

abbrev pub ServesAsked : Serve → Option (List ℕ) → Option (List ℕ) → Type 0
ServesAsked asked old new = ServesAsAsked asked.at_once asked old new

-- the same of some of them
abbrev pub ServesSomeBy : Option ℕ → Serve → Option (List ℕ) → Option (List ℕ) → Type 0
ServesSomeBy None asked old new = HasServedSome asked.requests asked.goes_on asked.port asked.connections old new
ServesSomeBy (Some places) asked old new = HasServedSomeAtOnce (writes_of asked) asked.goes_on asked.port asked.connections old new

abbrev pub ServesSomeAsked : Serve → Option (List ℕ) → Option (List ℕ) → Type 0
ServesSomeAsked asked old new = ServesSomeBy asked.at_once asked old new
