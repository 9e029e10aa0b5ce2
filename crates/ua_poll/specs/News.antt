-- What is told of the connections of a server.
use Rattle.std.specs.Prelude.{◌≡◌, ◌≤◌, ℕ, suc, List, [], ◌∷◌, Result, Ok, Err}
use Rattle.ua_concurrent.specs.Acts.{Act}
use Rattle.ua_concurrent.specs.declared.outcome.Failure.{Failure}
use Rattle.ua_poll.specs.declared.endings.NotTaken.{NotTaken}
use Rattle.ua_poll.specs.declared.serving.PollFault.{PollFault}
use Rattle.ua_server.specs.Happening.{Leads}
use Rattle.ua_server.specs.declared.step.End.{End}

-- a connection resulted in this, a peer that came is not served, or the application acted
pub data News : Type 0 where
  Over : (number : ℕ) (outcome : Result End Failure) → News
  Missed : (why : NotTaken) → News
  Acts : (act : Act) → News

-- how many connections are over
abbrev pub count_over : List News → ℕ
count_over [] = 0
count_over (Over number outcome ∷ news) = suc (count_over news)
count_over (Missed why ∷ news) = count_over news
count_over (Acts act ∷ news) = count_over news

-- one of these: connections that are over and peers that are not served are told, and the
-- application acts
abbrev pub notes_of : {E : Type 0} → (E → News → E → Type 0) → (E → Act → E → Type 0) → E → News → E → Type 0
notes_of notes acts before (Over number outcome) after = notes before (Over number outcome) after
notes_of notes acts before (Missed why) after = notes before (Missed why) after
notes_of notes acts before (Acts act) after = acts before act after

-- this happened, one after the other: this many connections are over, peers are not served, and the
-- application acted
pub record WasToldOf {E : Type 0} (notes : E → News → E → Type 0) (count : ℕ) (before after : E) : Type 0 where
  pub news : List News
  pub leads : Leads notes before news after
  pub count_is : count_over news ≡ count

-- the outcome of serving this many connections: all were told, or no more than these
abbrev pub TellsOfAll : {T E : Type 0} → (E → News → E → Type 0) → ℕ → Result T PollFault → E → E → Type 0
TellsOfAll notes total (Ok value) before after = WasToldOf notes total before after
TellsOfAll notes total (Err fault) before after = (count : ℕ) × (count ≤ total) × WasToldOf notes count before after
