-- What any handle tells: how many bytes it holds, and those that wait.
use Rattle.std.specs.Prelude.{◌≡◌, ◌⊎◌, ◌≤◌, ℕ, List, Option, Some, None}
use Rattle.ua_channel.specs.Client.{IsClientDone, WhateverPassed, client_bound, client_bound_behind, held_octets, client_limits}
use Rattle.ua_channel.specs.Received.{received}
use Rattle.ua_channel.specs.ServerStands.{IsDone, WhateverCame, bound_of, bound_after, held_after, limits_of}
use Rattle.ua_server.specs.Served.{channel_at, channel_in}
use Rattle.ua_c.specs.Status.{ok, no_memory, no_handle}
use Rattle.ua_c.specs.Waiting.{FillsBuffer}
use Rattle.ua_c.specs.declared.holding.Holding.{Holding}
use Rattle.ua_c.specs.declared.holding.Machine.{Machine}
use Rattle.ua_c.specs.declared.holding.Machine.TheVariants as machine

-- what `Server::held`, `ClientChannel::held` and `Connection::held` ensure of this count; nodes
-- hold no bytes
abbrev pub HoldsCount : Machine → ℕ → Type 0
HoldsCount (machine.Server station) count =
    WhateverCame (channel_in station.server) (λ octets frames rest. count ≡ held_after (received frames) rest)
    × WhateverCame (channel_in station.server) (λ octets frames rest. count ≤ bound_after (limits_of (channel_in station.server)) (received frames))
    × (IsDone (channel_in station.server) → count ≡ 0)
HoldsCount (machine.Client client) count =
    WhateverPassed client (λ asks octets frames rest. count ≡ held_octets frames rest)
    × WhateverPassed client (λ asks octets frames rest. count ≤ client_bound client)
    × (IsClientDone client → count ≡ 0)
HoldsCount (machine.Nodes shared) count = count ≡ 0
HoldsCount (machine.Connection served) count =
    WhateverCame (channel_at served.connection) (λ octets frames rest. count ≡ held_after (received frames) rest)
    × WhateverCame (channel_at served.connection) (λ octets frames rest. count ≤ bound_after (limits_of (channel_at served.connection)) (received frames))
    × (IsDone (channel_at served.connection) → count ≡ 0)

-- what `Server::bound`, `ClientChannel::bound` and `Connection::bound` ensure of this count
abbrev pub Bounds : Machine → ℕ → Type 0
Bounds (machine.Server station) count =
    WhateverCame (channel_in station.server) (λ octets frames rest. count ≡ bound_after (limits_of (channel_in station.server)) (received frames))
    × (count ≡ bound_of (channel_in station.server))
Bounds (machine.Client client) count =
    WhateverPassed client (λ asks octets frames rest. count ≡ client_bound_behind (client_limits client) (received frames).ack)
    × (count ≡ client_bound client)
Bounds (machine.Nodes shared) count = count ≡ 0
Bounds (machine.Connection served) count =
    WhateverCame (channel_at served.connection) (λ octets frames rest. count ≡ bound_after (limits_of (channel_at served.connection)) (received frames))
    × (count ≡ bound_of (channel_at served.connection))

-- a count of what is held, which is 0 if nothing is
abbrev pub CountsHeld : (Holding → Type 0) → ℕ → Option Holding → Type 0
CountsHeld P count None = count ≡ 0
CountsHeld P count (Some holding) = P holding

-- bytes that wait are moved into a buffer, and the machine is unchanged; or an allocation failed,
-- and nothing changed
abbrev pub FetchesHandle : Option Holding → Option Holding → List ℕ → List ℕ → ℕ → ℕ → Type 0
FetchesHandle None new before after count status = (status ≡ no_handle) × (count ≡ 0) × (after ≡ before) × (new ≡ None)
FetchesHandle (Some old) None before after count status = ⊥
FetchesHandle (Some old) (Some new) before after count status = (new.machine ≡ old.machine)
    × (((status ≡ ok) × FillsBuffer old.waiting new.waiting before after count)
    ⊎ ((status ≡ no_memory) × (count ≡ 0) × (after ≡ before) × (new.waiting ≡ old.waiting)))
