-- Why a command stopped, whether more is known of it or not.
use Rattle.std.specs.Prelude.{◌≡◌, ◌⊎◌, Bool, true, false, List, ℕ}
use Rattle.std.specs.Borrow.{Bor}
use Rattle.ua_session.specs.declared.fault.QuestionFault.{QuestionFault}
use Rattle.ua_session.specs.declared.fault.QuestionFault.TheVariants.{Output}
use Rattle.ua_report.specs.Refused.{RefusesNodes}
use Rattle.ua_report.specs.declared.fault.Fault.{Fault}
use Rattle.ua_report.specs.declared.fault.Fault.TheVariants.{Asking, CannotListen, CannotRead, CannotWriteDown, CannotWriteUp, NoMemory}
use Rattle.ua_report.specs.declared.output.Stop.{Stop}
use Rattle.ua_report.specs.declared.output.Stop.TheVariants as stop

-- a command stopped at a fault with this property
abbrev pub StopsBy : (Fault → Type 0) → Stop → Type 0
StopsBy Is (stop.Fault fault) = Is fault
StopsBy Is (stop.Because fault reason) = Is fault
StopsBy Is (stop.Output error) = ⊥

-- a command stopped since what it prints cannot be written
abbrev pub StopsWriting : Stop → Type 0
StopsWriting (stop.Output error) = Unit {0}
StopsWriting other = ⊥

-- a command stopped since an allocation failed
abbrev pub is_starved : Stop → Bool
is_starved (stop.Fault NoMemory) = true
is_starved (stop.Because NoMemory reason) = true
is_starved other = false

-- why serving a connection stops: what is printed cannot be written, or an allocation failed
abbrev pub StopsConnection : Stop → Type 0
StopsConnection why = StopsWriting why ⊎ (is_starved why ≡ true)

-- a listener gave no connection and no reason: an error of it has its reason. No clause tells how
-- often it was asked
abbrev pub NeverAccepts : Stop → Type 0
NeverAccepts why = why ≡ stop.Fault CannotListen

-- what ends a server that goes on, once it listens: what it prints cannot be written, or its
-- listener gives no connection and no reason
abbrev pub EndsServing : Stop → Type 0
EndsServing why = StopsWriting why ⊎ NeverAccepts why

-- a command stopped at this fault, or since an allocation failed
abbrev pub StopsForFault : Fault → Stop → Type 0
StopsForFault fault why = StopsBy (λ told. (told ≡ fault) ⊎ (told ≡ NoMemory)) why

-- a command stopped at a fault of a conversation: the writer failed in it, or the fault is told,
-- with what more is known of it or without
abbrev pub StopsAsking : QuestionFault → Stop → Type 0
StopsAsking (Output error) why = why ≡ stop.Output error
StopsAsking other why = StopsForFault (Asking other) why

-- why a file is not read: it cannot be, or an allocation failed
abbrev pub StopsAtFile : Bor (List ℕ) → Stop → Type 0
StopsAtFile file why = StopsForFault (CannotRead file) why

-- why a record of this name is not written: one of its two files cannot be, or an allocation failed
abbrev pub StopsRecording : Bor (List ℕ) → Stop → Type 0
StopsRecording name why = StopsForFault (CannotWriteUp name) why ⊎ StopsForFault (CannotWriteDown name) why

-- why the nodes of a text are not served: its first bad line, or an allocation failed
abbrev pub StopsAtNodes : List ℕ → Stop → Type 0
StopsAtNodes text why = StopsBy (RefusesNodes text) why
