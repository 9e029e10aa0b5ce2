-- The timestamps that a server requests, and the requests that it tells a watcher, one after the
-- other.
use Rattle.std.specs.Prelude.{◌≡◌, ℤ, List, [], ◌∷◌, Option, Some, None}
use Rattle.ua_server.specs.declared.watch.AnsweredRequest.{AnsweredRequest}

-- a time was given, or a request was told
pub data Event : Type 0 where
  Given : (ticks : ℤ) → Event
  Noted : (request : AnsweredRequest) → Event

-- the times among them, as ticks
abbrev pub ticks_in : List Event → List ℤ
ticks_in [] = []
ticks_in (Given ticks ∷ events) = ticks ∷ ticks_in events
ticks_in (Noted request ∷ events) = ticks_in events

-- the requests that were told among them
abbrev pub noted_in : List Event → List AnsweredRequest
noted_in [] = []
noted_in (Given ticks ∷ events) = noted_in events
noted_in (Noted request ∷ events) = request ∷ noted_in events

-- these led from before to after, one step each
abbrev pub Leads : {S E : Type 0} → (S → E → S → Type 0) → S → List E → S → Type 0
Leads step before [] after = before ≡ after
Leads {S = S} step before (e ∷ events) after = (next : S) × step before e next × Leads step next events after

-- some requests were told, one after the other
abbrev pub WasTold : {W : Type 0} → (W → AnsweredRequest → W → Type 0) → W → W → Type 0
WasTold notes before after = (requests : List AnsweredRequest) × Leads notes before requests after

-- a request was told, if there is one
abbrev pub IsTold : {W : Type 0} → (W → AnsweredRequest → W → Type 0) → W → Option AnsweredRequest → W → Type 0
IsTold notes before None after = after ≡ before
IsTold notes before (Some request) after = notes before request after

-- one step of both: of the clock, and of the watcher
abbrev pub Happens : {M W : Type 0} → (M → ℤ → M → Type 0) → (W → AnsweredRequest → W → Type 0) → M × W → Event → M × W → Type 0
Happens gives notes before (Given ticks) after = gives before.0 ticks after.0 × (after.1 ≡ before.1)
Happens gives notes before (Noted request) after = notes before.1 request after.1 × (after.0 ≡ before.0)
