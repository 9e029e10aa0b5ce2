-- What a round tells, and in which state it leaves the connections.
use Rattle.std.specs.Prelude.{◌≡◌, ◌+◌, ◌++◌, ℕ, List, [], Option, None}
use Rattle.ua_concurrent.specs.Acts.{Act, events_in, own_id}
use Rattle.ua_concurrent.specs.Seen.{Seen}
use Rattle.ua_concurrent.specs.Standing.{StandTogether}
use Rattle.ua_concurrent.specs.Talk.{Talk}
use Rattle.ua_poll.specs.News.{News}
use Rattle.ua_poll.specs.Serving.{Event, EventsLead, count_ended, steps_among}
use Rattle.ua_poll.specs.declared.polled_socket.PolledSocket.{PolledSocket}
use Rattle.ua_server.specs.Sharing.{SharedEvent, SharedState, opened, shared_over}
use Rattle.ua_server.specs.State.{State}

-- sockets of a system do not tell their bytes
abbrev pub seen_of : PolledSocket → Seen
seen_of s = record { heard = None; readable = s.readable; writable = s.writable; failures = s.failures; ended = s.at_end }

-- these events, of which none is a step, led the host on, and as many connections ended as their
-- count grew
pub record Tells {E : Type 0} (notes : E → News → E → Type 0) (acts : E → Act → E → Type 0) (before_count after_count : ℕ) (before after : E) : Type 0 where
  pub events : List Event
  pub led : (p : SharedState) → EventsLead notes acts p before events after
  pub still : steps_among events ≡ []
  pub count_is : count_ended events + before_count ≡ after_count

-- these events led the host on, from where the events of all left the server; all stand after them,
-- and as many connections ended as their count grew
pub record Goes {E : Type 0} (notes : E → News → E → Type 0) (acts : E → Act → E → Type 0) (es : List SharedEvent) (first : State)
    (before_count after_count : ℕ) (before : E) (now : State × E) (last : ℕ) (places : List (Option (Talk PolledSocket))) : Type 0 where
  pub events : List Event
  pub led : EventsLead notes acts (shared_over own_id (opened first) es) before events now.1
  pub stand : StandTogether seen_of (es ++ events_in (steps_among events)) first now.0 last places
  pub count_is : count_ended events + before_count ≡ after_count
