-- What serving many connections at once does.
use Rattle.std.specs.Prelude.{◌≡◌, ◌≤◌, ℕ, suc, List, [], ◌∷◌, Result, Ok, Err}
use Rattle.ua_concurrent.specs.Acts.{Act, ActsAt, Stepping, events_at, events_in, own_id}
use Rattle.ua_concurrent.specs.declared.outcome.Failure.{Failure}
use Rattle.ua_poll.specs.News.{News, Over, Missed}
use Rattle.ua_poll.specs.declared.endings.NotTaken.{NotTaken}
use Rattle.ua_poll.specs.declared.serving.PollFault.{PollFault}
use Rattle.ua_server.specs.Sharing.{SharedState, opened, shared_over}
use Rattle.ua_server.specs.State.{State}
use Rattle.ua_server.specs.declared.step.End.{End}

-- a connection took a step, or ended so, or a peer that came is not served
pub data Event : Type 0 where
  Stepped : (step : Stepping) → Event
  Ended : (number : ℕ) (outcome : Result End Failure) → Event
  Passed : (why : NotTaken) → Event

-- the steps among them
abbrev pub steps_among : List Event → List Stepping
steps_among [] = []
steps_among (Stepped s ∷ events) = s ∷ steps_among events
steps_among (Ended number outcome ∷ events) = steps_among events
steps_among (Passed why ∷ events) = steps_among events

-- how many connections ended
abbrev pub count_ended : List Event → ℕ
count_ended [] = 0
count_ended (Stepped s ∷ events) = count_ended events
count_ended (Ended number outcome ∷ events) = suc (count_ended events)
count_ended (Passed why ∷ events) = count_ended events

-- These events, and nothing else, led the host from before to after: at each step it acts, as the
-- application, from where the steps before it left the server; it is told of each connection that
-- ended, and of each peer that is not served.
abbrev pub EventsLead : {E : Type 0} → (E → News → E → Type 0) → (E → Act → E → Type 0) → SharedState → E → List Event → E → Type 0
EventsLead notes acts p before [] after = before ≡ after
EventsLead {E = E} notes acts p before (Stepped s ∷ events) after =
    (next : E) × ActsAt acts p s before next × EventsLead notes acts (shared_over own_id p (events_at s)) next events after
EventsLead {E = E} notes acts p before (Ended number outcome ∷ events) after =
    (next : E) × notes before (Over number outcome) next × EventsLead notes acts p next events after
EventsLead {E = E} notes acts p before (Passed why ∷ events) after =
    (next : E) × notes before (Missed why) next × EventsLead notes acts p next events after

-- how many connections ended where serving ends so: all, or no more than these
abbrev pub AreEnded : {T : Type 0} → ℕ → Result T PollFault → ℕ → Type 0
AreEnded total (Ok value) count = count ≡ total
AreEnded total (Err fault) count = count ≤ total

-- Serving led the services and the host from before to now by these events, and by nothing else: the
-- services are left as by one server that handles what was told at each step, at the time that the
-- host gave for it, and the host's changes before each.
pub record ServesAtOnce {T E : Type 0} (notes : E → News → E → Type 0) (acts : E → Act → E → Type 0) (total : ℕ) (result : Result T PollFault)
    (before now : State × E) : Type 0 where
  pub events : List Event
  pub led : EventsLead notes acts (opened before.0) before.1 events now.1
  pub left : (shared_over own_id (opened before.0) (events_in (steps_among events))).state ≡ now.0
  pub over : AreEnded total result (count_ended events)
