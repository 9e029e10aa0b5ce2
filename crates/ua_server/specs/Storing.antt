-- Which step tells of what a Write stored.
use Rattle.std.specs.Prelude.{◌≡◌, ℕ, List, [], ◌∷◌, Option, None, Some, Result, Ok, Err}
use Rattle.ua_channel.specs.ServerTold.{Told, Agreed, Opened, Asked, GaveUp, Closed}
use Rattle.ua_channel.specs.declared.server.ServerChannel.{ServerChannel}
use Rattle.ua_structures.specs.declared.attribute.WriteValue.{WriteValue}
use Rattle.ua_server.specs.State.{State}
use Rattle.ua_server.specs.Stepping.{StandsOn}
use Rattle.ua_server.specs.Stored.{stored_of}
use Rattle.ua_server.specs.declared.step.Advanced.{Advanced}
use Rattle.ua_server.specs.declared.step.End.{End as Ending}
use Rattle.ua_server.specs.declared.step.Step.{Step}
use Rattle.ua_server.specs.declared.step.StepFault.{StepFault}

-- ---- what is told

-- what is stored of one thing that the frames of a connection told: a whole message alone stores
-- anything
abbrev pub stored_at : State → Told → List WriteValue
stored_at s (Agreed agreement) = []
stored_at s (Opened id handle token lifetime) = []
stored_at s (Asked id token octets) = stored_of s octets
stored_at s (GaveUp id) = []
stored_at s Closed = []

-- what is stored of the one thing that is answered, if one is
abbrev pub stored_first : State → List Told → List WriteValue
stored_first s [] = []
stored_first s (t ∷ told) = stored_at s t

-- ---- a step

-- it goes on after messages that were aborted, and at most one thing more, which is answered: what
-- that stores is told, and nothing else
abbrev pub StoresOn : List ℕ → ℕ → List ℕ → List WriteValue → ServerChannel → List ℕ → List Told → State → Type 0
StoresOn piece n out written new octets told before = (on : StandsOn piece n out new octets told) × (written ≡ stored_first before on.more)

-- by how the connection ended, if it did: then nothing is stored
abbrev pub StoresBy : List ℕ → Option Ending → ℕ → List ℕ → List WriteValue → ServerChannel → List ℕ → List Told → State → Type 0
StoresBy piece None n out written new octets told before = StoresOn piece n out written new octets told before
StoresBy piece (Some end) n out written new octets told before = written ≡ []

-- which items a step tells, if it goes on after bytes that told this
abbrev pub StepStores : List ℕ → Result Step StepFault → List WriteValue → ServerChannel → List ℕ → List Told → State → Type 0
StepStores piece (Ok step) written new octets told before = StoresBy piece step.end step.taken step.out.items written new octets told before
StepStores piece (Err f) written new octets told before = Unit {0}

-- ---- inside

-- the same for a step that tells which request it answered
abbrev pub AdvanceStores : List ℕ → Result Advanced StepFault → List WriteValue → ServerChannel → List ℕ → List Told → State → Type 0
AdvanceStores piece (Ok found) written new octets told before = StoresBy piece found.step.end found.step.taken found.step.out.items written new octets told
    before
AdvanceStores piece (Err f) written new octets told before = Unit {0}
