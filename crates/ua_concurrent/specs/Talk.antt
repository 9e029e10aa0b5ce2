-- One client's conversation, as contracts see it.
use Rattle.std.specs.Prelude.{ℕ, Bool, true, false, cond, List, [], ◌∷◌, Option, None, Some, is_some, Result, slice_index_or}
use Rattle.ua_server.specs.declared.connection.Connection.{Connection}
use Rattle.ua_server.specs.declared.step.End.{End}
use Rattle.std.specs.Option.{option_map}
use Rattle.ua_concurrent.specs.Seen.{Seen}
use Rattle.ua_concurrent.specs.declared.outcome.Failure.{Failure}
use Rattle.ua_concurrent.specs.declared.outcome.Released.{Released}
use Rattle.ua_concurrent.specs.declared.outcome.Phase.{Phase}
use Rattle.ua_concurrent.specs.declared.outcome.Phase.TheVariants as phase

-- a connection with its socket, and what is kept between two turns
pub record Talk (S : Type 0) : Type 0 where
  -- the connection's number, which is the id of its channel
  pub number : ℕ
  pub socket : S
  pub connection : Connection
  pub phase : Phase
  -- the outcome, once it is over
  pub outcome : Option (Result End Failure)
  -- bytes that were read and are not stepped yet, and those that were answered and are not written
  -- yet
  pub unread : List ℕ
  pub waiting : List ℕ

-- bytes are there
abbrev pub are_there : List ℕ → Bool
are_there [] = false
are_there (x ∷ xs) = true

-- the client's bytes go on
abbrev pub is_going : Phase → Bool
is_going phase.Going = true
is_going phase.Closed = false
is_going (phase.Refused code) = false
is_going phase.Starved = false

-- Whether a turn would do something, by the outcome, what waits, the phase of the client's bytes,
-- what is unread, and whether the socket can be read and written: nothing if it is over; what waits
-- goes on once the socket can be written; otherwise an end, and bytes that are not stepped, go on
-- at once; otherwise it goes on once the socket can be read.
abbrev pub ready_of : Option (Result End Failure) → List ℕ → Phase → List ℕ → Bool → Bool → Bool
ready_of outcome waiting p unread readable writable =
    cond (is_some outcome) false (cond (are_there waiting) writable (cond (is_going p) (cond (are_there unread) true readable) true))

abbrev pub is_ready : {S : Type 0} → (S → Seen) → Talk S → Bool
is_ready seen t = ready_of t.outcome t.waiting t.phase t.unread (seen t.socket).readable (seen t.socket).writable

-- the outcome, and its socket, once it is over
abbrev pub released : {S : Type 0} → Talk S → Option (Released S)
released t = option_map (λ outcome. record { number = t.number; outcome = outcome; socket = t.socket }) t.outcome

-- the same of the conversation at a place, if there is one
abbrev pub released_by : {S : Type 0} → Option (Talk S) → Option (Released S)
released_by None = None
released_by (Some t) = released t

abbrev pub released_at : {S : Type 0} → List (Option (Talk S)) → ℕ → Option (Released S)
released_at places p = released_by (slice_index_or places p None)

-- a turn at a place would do something
abbrev pub is_place_ready : {S : Type 0} → (S → Seen) → Option (Talk S) → Bool
is_place_ready seen None = false
is_place_ready seen (Some t) = is_ready seen t
