-- What calls do with a handle, whatever its content.
use Rattle.std.specs.Prelude.{◌≡◌, ◌<◌, ℕ, [], length, Option, Some, None}
use Rattle.ua_channel.specs.declared.client.channel.ClientChannel.{ClientChannel}
use Rattle.ua_c.specs.Status.{fetch_first, no_handle, other_handle}
use Rattle.ua_c.specs.declared.holding.Holding.{Holding}
use Rattle.ua_c.specs.declared.holding.Machine.{Machine}
use Rattle.ua_c.specs.declared.holding.Machine.TheVariants as machine
use Rattle.ua_c.specs.declared.untold.ServedConnection.{ServedConnection}
use Rattle.ua_c.specs.declared.shared.SharedNodes.{SharedNodes}
use Rattle.ua_c.specs.declared.station.Station.{Station}

-- ---- in each of these `says` is that a call says this status, and nothing else

-- an empty handle is left empty; for one with a content `P` holds of the content before and after
abbrev pub OfHandle : Option Holding → Option Holding → (ℕ → Type 0) → (Holding → Holding → Type 0) → Type 0
OfHandle None new says P = says no_handle × (new ≡ None)
OfHandle (Some old) None says P = ⊥
OfHandle (Some old) (Some new) says P = P old new

-- nothing changes if a client is held, in the place of a server
abbrev pub OfServer : Machine → Holding → Holding → (ℕ → Type 0) → (Station → Type 0) → Type 0
OfServer (machine.Server station) old new says P = P station
OfServer (machine.Client client) old new says P = says other_handle × (new ≡ old)
OfServer (machine.Nodes shared) old new says P = says other_handle × (new ≡ old)
OfServer (machine.Connection served) old new says P = says other_handle × (new ≡ old)

-- nothing changes if a server is held, in the place of a client
abbrev pub OfClient : Machine → Holding → Holding → (ℕ → Type 0) → (ClientChannel → Type 0) → Type 0
OfClient (machine.Server station) old new says P = says other_handle × (new ≡ old)
OfClient (machine.Client client) old new says P = P client
OfClient (machine.Nodes shared) old new says P = says other_handle × (new ≡ old)
OfClient (machine.Connection served) old new says P = says other_handle × (new ≡ old)

-- the call is refused if a machine of another kind is held, in the place of nodes
abbrev pub OfNodes : Machine → Type 0 → (SharedNodes → Type 0) → Type 0
OfNodes (machine.Server station) refused P = refused
OfNodes (machine.Client client) refused P = refused
OfNodes (machine.Nodes shared) refused P = P shared
OfNodes (machine.Connection served) refused P = refused

-- the same for a connection and nodes, which two handles hold
abbrev pub OfShared : Machine → Machine → Type 0 → (ServedConnection → SharedNodes → Type 0) → Type 0
OfShared (machine.Server station) nodes refused P = refused
OfShared (machine.Client client) nodes refused P = refused
OfShared (machine.Nodes shared) nodes refused P = refused
OfShared (machine.Connection served) nodes refused P = OfNodes nodes refused (P served)

-- what a call does with two handles: if either is empty, both are left unchanged
abbrev pub OfHandles : Option Holding → Option Holding → Option Holding → Option Holding → (ℕ → Type 0) → (Holding → Holding → Holding → Holding → Type 0)
    → Type 0
OfHandles None new second left says P = says no_handle × (new ≡ None) × (left ≡ second)
OfHandles (Some old) new None left says P = says no_handle × (new ≡ Some old) × (left ≡ None)
OfHandles (Some old) None (Some before) left says P = ⊥
OfHandles (Some old) (Some new) (Some before) None says P = ⊥
OfHandles (Some old) (Some new) (Some before) (Some after) says P = P old new before after

-- nothing changes if bytes wait, and `P` holds if none do
abbrev pub WhereNone : Holding → Holding → (ℕ → Type 0) → Type 0 → Type 0
WhereNone old new says P = (0 < length old.waiting → says fetch_first × (new ≡ old)) × (old.waiting ≡ [] → P)
