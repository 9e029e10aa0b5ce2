-- The states of connections over one table: what was read of each, what was sent to it, and the
-- state that all of them leave.
use Rattle.std.specs.Prelude.{◌≡◌, ◌⊎◌, ℕ, ◌≤◌, ◌<◌, ◌+◌, List, [], ◌++◌, length, Option, Some, slice_get}
use Rattle.ua_frame.specs.Run.{Stopped, Over}
use Rattle.ua_server.specs.History.{EndedAt}
use Rattle.ua_server.specs.Said.{last_words}
use Rattle.ua_server.specs.Served.{channel_at, session_at}
use Rattle.ua_server.specs.Sharing.{SharedEvent, OthersStand, StandsAmong, opened, sent_to, shared_over, told_by}
use Rattle.ua_server.specs.State.{State}
use Rattle.ua_server.specs.declared.connection.Connection.{Connection}
use Rattle.ua_concurrent.specs.Acts.{Act, ActsOver, AllTold, AreOf, Stepping, events_in, own_id, taken_in}
use Rattle.ua_concurrent.specs.Carried.{Carried}
use Rattle.ua_concurrent.specs.Seen.{Seen}
use Rattle.ua_concurrent.specs.Talk.{Talk}
use Rattle.ua_concurrent.specs.declared.outcome.Phase.{Phase}
use Rattle.ua_concurrent.specs.declared.outcome.Phase.TheVariants as phase

-- The state of a connection that stepped these bytes and was sent these, where these events are
-- those of all connections and of the application, in the order in which they were handled. One
-- server that handles every message in this order (`sent_to` of ua_server) sends it exactly these
-- bytes; if the connection was rejected the ERR frame follows them. If an allocation failed in a
-- step, the reply to the last message that was handled may be lost; all before it is sent.
abbrev pub HasCome : Phase → ℕ → Connection → List ℕ → List SharedEvent → State → State → List ℕ → Type 0
HasCome phase.Going k c octets es first now sent = StandsAmong own_id k (channel_at c) (session_at c) octets es first now
    × (sent_to own_id k (opened first) es ≡ sent)
HasCome phase.Closed k c octets es first now sent = EndedAt Over (channel_at c) octets (told_by k es)
    × (sent_to own_id k (opened first) es ++ last_words Over ≡ sent)
HasCome (phase.Refused code) k c octets es first now sent =
    EndedAt (Stopped code.code) (channel_at c) octets (told_by k es) × (sent_to own_id k (opened first) es ++ last_words (Stopped code.code) ≡ sent)
HasCome phase.Starved k c octets es first now sent = (lost : List ℕ) × (sent_to own_id k (opened first) es ≡ sent ++ lost)

-- One conversation: what was read of its socket is what its connection stepped, each byte once and
-- in order, and then the unread; what its connection was sent is what was written, and then what
-- waits.
pub record TalkStands {S : Type 0} (seen : S → Seen) (es : List SharedEvent) (first now : State) (t : Talk S) : Type 0 where
  pub octets : List ℕ
  pub written : List ℕ
  pub come : HasCome t.phase t.number t.connection octets es first now (written ++ t.waiting)
  pub carried : (c : Carried) → (seen t.socket).heard ≡ Some c → (c.read ≡ octets ++ t.unread) × (c.written ≡ written)

-- What one conversation did, where the services and the application were in these states before and
-- after: these steps, each of its own, and nothing else, changed both; the application was told of
-- each, but for one in which an allocation failed; what was stepped of its bytes is what they took;
-- and the state of each other conversation is that after them.
pub record Went {S A : Type 0} (seen : S → Seen) (acts : A → Act → A → Type 0) (es : List SharedEvent) (first : State) (before now : State × A)
    (octets : List ℕ) (t : Talk S) : Type 0 where
  pub steps : List Stepping
  pub own : AreOf t.number steps
  pub told : AllTold steps ⊎ (t.phase ≡ phase.Starved)
  pub acted : ActsOver acts (shared_over own_id (opened first) es) before.1 steps now.1
  pub state_is : (shared_over own_id (opened first) (es ++ events_in steps)).state ≡ now.0
  pub stands : TalkStands seen (es ++ events_in steps) first now.0 t
  pub taken : length stands.octets ≡ length octets + taken_in steps
  pub others : OthersStand own_id t.number es (events_in steps) first before.0 now.0

-- the conversation at a place
abbrev pub IsAt : {S : Type 0} → List (Option (Talk S)) → ℕ → Talk S → Type 0
IsAt places p t = slice_get places p ≡ Some (Some t)

-- no number is above the last one that was given, and no two conversations have the same one
pub record AreNumbered {S : Type 0} (last : ℕ) (places : List (Option (Talk S))) : Type 0 where
  pub within : (p : ℕ) (t : Talk S) → IsAt places p t → t.number ≤ last
  pub apart : (p q : ℕ) (t u : Talk S) → IsAt places p t → IsAt places q u → t.number ≡ u.number → p ≡ q

-- All conversations over the services, which were in the first state before any of them began and
-- are in this one now: these events left it, the state of each conversation is that after them, and
-- those that are still to come have sent nothing.
pub record StandTogether {S : Type 0} (seen : S → Seen) (es : List SharedEvent) (first now : State) (last : ℕ)
    (places : List (Option (Talk S))) : Type 0 where
  pub state_is : (shared_over own_id (opened first) es).state ≡ now
  pub numbered : AreNumbered last places
  pub each : (p : ℕ) (t : Talk S) → IsAt places p t → TalkStands seen es first now t
  pub unheard : (k : ℕ) → last < k → told_by k es ≡ []

-- They go on: these steps of conversations, and nothing else, changed the services and the
-- application, and the state of all is that after them.
pub record GoOn {S A : Type 0} (seen : S → Seen) (acts : A → Act → A → Type 0) (es : List SharedEvent) (first : State) (before : A) (now : State × A)
    (last : ℕ) (places : List (Option (Talk S))) : Type 0 where
  pub steps : List Stepping
  pub acted : ActsOver acts (shared_over own_id (opened first) es) before steps now.1
  pub stand : StandTogether seen (es ++ events_in steps) first now.0 last places

-- nothing was read or written yet of a socket that tells its bytes
abbrev pub IsFreshSocket : Seen → Type 0
IsFreshSocket s = (c : Carried) → s.heard ≡ Some c → (c.read ≡ []) × (c.written ≡ [])
