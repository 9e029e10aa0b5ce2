-- What an application does around the steps of connections, and what the steps do.
use Rattle.std.specs.Prelude.{◌≡◌, ℕ, ◌+◌, ◌<◌, true, List, [], ◌∷◌, ◌++◌, Option, Some, None, is_some}
use Rattle.ua_builtin.specs.declared.date_time.DateTime.{DateTime}
use Rattle.ua_channel.specs.ServerTold.{Told as Said}
use Rattle.ua_frame.specs.Run.{Over, Stopped}
use Rattle.ua_nodes.specs.Table.{Nodes}
use Rattle.ua_structures.specs.declared.attribute.WriteValue.{WriteValue}
use Rattle.ua_server.specs.Said.{last_words}
use Rattle.ua_server.specs.Sharing.{SharedEvent, Changed, SharedState, at_moment, course_at, sent_to, shared_by, shared_over}
use Rattle.ua_server.specs.State.{State, with_nodes}
use Rattle.ua_server.specs.Storing.{stored_at}
use Rattle.ua_server.specs.declared.step.End.{End}
use Rattle.ua_server.specs.declared.step.End.TheVariants as ending
use Rattle.ua_server.specs.declared.step.Step.{Step}

-- before a step the application changed the services, and gave the time of the answer; after a step
-- of the connection of this number it was told the step, and the items that it stored
pub data Act : Type 0 where
  Acted : (before after : State) (moment : DateTime) → Act
  Told : (number : ℕ) (step : Step) (items : List WriteValue) → Act

-- the SecureChannelId of each connection is its number
abbrev pub own_id : ℕ → ℕ
own_id k = k

-- A step of the connection of this number: the application left these nodes, and gave this time;
-- the bytes that were stepped told this, and this came of it, unless an allocation failed.
pub record Stepping : Type 0 where
  pub number : ℕ
  pub nodes : Nodes
  pub moment : DateTime
  pub said : List Said
  pub step : Option Step

-- its events: the change by the application, and then what was told, all answered at the time that
-- the application gave
abbrev pub events_at : Stepping → List SharedEvent
events_at s = Changed s.nodes ∷ at_moment s.number s.moment s.said

abbrev pub events_in : List Stepping → List SharedEvent
events_in [] = []
events_in (s ∷ steps) = events_at s ++ events_in steps

-- all are of the connection of this number
abbrev pub AreOf : ℕ → List Stepping → Type 0
AreOf k [] = Unit {0}
AreOf k (s ∷ steps) = (s.number ≡ k) × AreOf k steps

-- no allocation failed in them
abbrev pub AllTold : List Stepping → Type 0
AllTold [] = Unit {0}
AllTold (s ∷ steps) = (is_some s.step ≡ true) × AllTold steps

-- how many bytes were taken
abbrev pub taken_by : Option Step → ℕ
taken_by None = 0
taken_by (Some step) = step.taken

abbrev pub taken_in : List Stepping → ℕ
taken_in [] = 0
taken_in (s ∷ steps) = taken_by s.step + taken_in steps

-- the items that are stored of what is told in a state: of one whole message at most
abbrev pub stored_in : State → List Said → List WriteValue
stored_in s [] = []
stored_in s (t ∷ told) = stored_at s t ++ stored_in s told

-- the last bytes to a connection that ends, if it does
abbrev pub last_if : Option End → List ℕ
last_if None = []
last_if (Some ending.Closed) = last_words Over
last_if (Some (ending.Refused code)) = last_words (Stopped code.code)
last_if (Some ending.NoClose) = []
last_if (Some ending.Cut) = []

-- A step, where a server stands after the application's change: what is answered is what that
-- server sends for what was told; where the connection goes on, some bytes were taken; and the
-- application is told this step, once, with the items that it stored. Where an allocation failed it
-- is told nothing.
abbrev pub TellsStep : {A : Type 0} → (A → Act → A → Type 0) → SharedState → Stepping → Option Step → A → A → Type 0
TellsStep acts p s None before after = before ≡ after
TellsStep acts p s (Some step) before after =
    (step.out.items ≡ sent_to own_id s.number p (at_moment s.number s.moment s.said) ++ last_if step.end) × (step.end ≡ None → 0 < step.taken)
    × acts before (Told s.number step (stored_in (course_at p s.number).state s.said)) after

-- What led the application over a step, from where the server stood: before it, it left the nodes
-- and gave the time; and then it was told the step.
pub record ActsAt {A : Type 0} (acts : A → Act → A → Type 0) (p : SharedState) (s : Stepping) (before after : A) : Type 0 where
  pub mid : A
  pub acted : acts before (Acted p.state (with_nodes p.state s.nodes) s.moment) mid
  pub told : TellsStep acts (shared_by own_id p (Changed s.nodes)) s s.step mid after

-- These steps, each from where the one before it left the server, and nothing else, led the
-- application from before to after.
abbrev pub ActsOver : {A : Type 0} → (A → Act → A → Type 0) → SharedState → A → List Stepping → A → Type 0
ActsOver acts p before [] after = before ≡ after
ActsOver {A = A} acts p before (s ∷ steps) after =
    (next : A) × ActsAt acts p s before next × ActsOver acts (shared_over own_id p (events_at s)) next steps after
