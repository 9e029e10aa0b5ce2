-- All connections.
use Rattle.std.specs.Prelude.{◌≡◌, ◌≢◌, ℕ, List, length, Option, None, Some, slice_get, slice_set}
use Rattle.ua_concurrent.specs.Seen.{Seen}
use Rattle.ua_concurrent.specs.Standing.{IsAt}
use Rattle.ua_concurrent.specs.Talk.{Talk}
use Rattle.ua_concurrent.specs.Turning.{HadTurn, IsTalkIdle, WokeTalk}
use Rattle.ua_concurrent.specs.declared.connections.Connections.{Connections}
use Rattle.ua_concurrent.specs.declared.socket.Readiness.{Readiness}

-- the conversations, each at its place
abbrev pub places_of : {S : Type 0} → Connections S → List (Option (Talk S))
places_of x = x.places.items

-- the number of the connection that was opened last, 0 before the first one
abbrev pub last_of : {S : Type 0} → Connections S → ℕ
last_of x = x.opened

-- the place is free
abbrev pub IsFree : {S : Type 0} → List (Option (Talk S)) → ℕ → Type 0
IsFree places p = slice_get places p ≡ Some None

-- Each place that is not free had its turn, exactly one; the free ones are free.
pub record HadRound {S : Type 0} (seen : S → Seen) (before after : List (Option (Talk S))) : Type 0 where
  pub count : length after ≡ length before
  pub free : (p : ℕ) → IsFree before p → IsFree after p
  pub each : (p : ℕ) (a : Talk S) → IsAt before p a → (b : Talk S) × IsAt after p b × HadTurn seen a b

-- The one at this place had its turn, if there is one; all others are left as they are.
pub record TurnsAt {S : Type 0} (seen : S → Seen) (place : ℕ) (before after : List (Option (Talk S))) : Type 0 where
  pub count : length after ≡ length before
  pub others : (p : ℕ) → p ≢ place → slice_get after p ≡ slice_get before p
  pub free : IsFree before place → IsFree after place
  pub turn : (a : Talk S) → IsAt before place a → (b : Talk S) × IsAt after place b × HadTurn seen a b

-- A connection of this number was opened to the peer of a socket at a place.
pub record OpensTalk {S : Type 0} (number : ℕ) (socket : S) (place : ℕ) (before after : List (Option (Talk S))) : Type 0 where
  pub talk : Talk S
  pub number_is : talk.number ≡ number
  pub socket_is : talk.socket ≡ socket
  pub idle : (talk.outcome ≡ None) × IsTalkIdle talk
  pub is : after ≡ slice_set before place (Some talk)

-- What the system reported of the socket at this place is passed on to it, if there is one; all
-- others are left as they are.
pub record WokeAt {S : Type 0} (seen : S → Seen) (readiness : Readiness) (place : ℕ) (before after : List (Option (Talk S))) : Type 0 where
  pub count : length after ≡ length before
  pub others : (p : ℕ) → p ≢ place → slice_get after p ≡ slice_get before p
  pub free : IsFree before place → IsFree after place
  pub woke : (a : Talk S) → IsAt before place a → (b : Talk S) × IsAt after place b × WokeTalk seen readiness a b
