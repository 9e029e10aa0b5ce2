-- Servers and clients when they begin.
use Rattle.std.specs.Prelude.{◌≡◌, ◌⊎◌, ◌+◌, ℕ, List, [], Option, Some, Result, Ok, Err, codes}
use Rattle.std.specs.Str.{IsUtf8}
use Rattle.ua_channel.specs.declared.client.channel.ClientChannel.{ClientChannel}
use Rattle.ua_frame.specs.declared.limits.Limits.{Limits}
use Rattle.ua_nodes.specs.NodeFile.{IsFirstBad, WriteNodes, node_lines, place}
use Rattle.ua_nodes.specs.Table.{Nodes}
use Rattle.ua_nodes.specs.declared.fault.LineReason.{LineReason}
use Rattle.ua_server.specs.State.{fresh}
use Rattle.ua_server.specs.declared.endpoint.Endpoint.{Endpoint}
use Rattle.ua_c.specs.Asking.{IsNewClient}
use Rattle.ua_c.specs.Limits.{AreEnough, AreThese}
use Rattle.ua_c.specs.Serving.{IsFreshServer}
use Rattle.ua_c.specs.Status.{ok, no_memory, bad_limits, bad_nodes, bad_text, text_nodes}
use Rattle.ua_c.specs.Texts.{IsNoString, IsStringOf}
use Rattle.ua_c.specs.declared.holding.Holding.{Holding}
use Rattle.ua_c.specs.declared.holding.Machine.{Machine}
use Rattle.ua_c.specs.declared.holding.Machine.TheVariants as machine
use Rattle.ua_c.specs.declared.limits.UaLimits.{UaLimits}
use Rattle.ua_c.specs.declared.station.Station.{Station}

-- ---- texts

-- the line of this number is the first bad one of a node file, for the reason of this number: in
-- the order in which they are judged, from 1
pub record IsBadAt (octets : List ℕ) (line number : ℕ) : Type 0 where
  pub utf8 : IsUtf8 octets
  pub reason : LineReason
  pub is : IsFirstBad (node_lines octets) line reason
  pub number_is : number ≡ place reason + 1

-- an allocation failed, or bytes are no text, or the node file has a first bad line
abbrev pub RefusesFile : List ℕ → ℕ → ℕ → ℕ → Type 0
RefusesFile octets line reason status = ((status ≡ no_memory) × (line ≡ 0) × (reason ≡ 0))
    ⊎ ((status ≡ bad_text) × (line ≡ 0) × (reason ≡ text_nodes) × ¬ (IsUtf8 octets))
    ⊎ ((status ≡ bad_nodes) × IsBadAt octets line reason)

-- the same, if the reason is not told
abbrev pub RefusesNodesUntold : List ℕ → ℕ → ℕ → Type 0
RefusesNodesUntold octets line status = (reason : ℕ) × RefusesFile octets line reason status

-- how a server describes itself: the application `ua`, at its URL
abbrev pub endpoint_of : Option (List ℕ) → ℕ → Endpoint
endpoint_of url message_limit = record { url = url; application_uri = Some (codes "urn:ua:server"); name = Some (codes "ua"); message_limit = message_limit }

-- ---- handles

-- a machine is put into a handle, and nothing waits; or an allocation failed, and the handle is
-- unchanged
abbrev pub Seats : Machine → Option Holding → Option Holding → ℕ → Type 0
Seats m old new status = ((status ≡ ok) × (new ≡ Some (record { machine = m; waiting = [] }))) ⊎ ((status ≡ no_memory) × (new ≡ old))

-- a client was made
pub record IsMadeClient (limits : UaLimits) (url : List ℕ) (old new : Option Holding) (status : ℕ) : Type 0 where
  pub these : Limits
  pub client : ClientChannel
  pub enough : AreEnough limits
  pub are_these : AreThese limits these
  pub is_url : IsStringOf url (Some url)
  pub made : IsNewClient these url client
  pub seated : Seats (machine.Client client) old new status

-- a client was made, or the handle is unchanged
abbrev pub MakesClient : UaLimits → List ℕ → Option Holding → Option Holding → ℕ → Type 0
MakesClient limits url old new status = IsMadeClient limits url old new status
    ⊎ ((new ≡ old) × (((status ≡ bad_limits) × ¬ (AreEnough limits)) ⊎ IsNoString url status))

-- a server over the nodes of a file waits for a client
pub record IsStation (nodes : List ℕ) (limits : Limits) (url : List ℕ) (channel : ℕ) (station : Station) : Type 0 where
  pub table : Nodes
  pub utf8 : IsUtf8 nodes
  pub written : WriteNodes (node_lines nodes) table
  pub is_url : IsStringOf url (Some url)
  pub services_is : station.services ≡ fresh table (endpoint_of (Some url) limits.max_message_size)
  pub server_is : IsFreshServer limits channel station.server
  pub limits_is : station.limits ≡ limits

-- why there is none
abbrev pub IsNoStation : List ℕ → List ℕ → ℕ → ℕ → Type 0
IsNoStation nodes url line status = (IsNoString url status × (line ≡ 0)) ⊎ RefusesNodesUntold nodes line status

abbrev pub MakesStation : List ℕ → Limits → List ℕ → ℕ → ℕ → Result Station ℕ → Type 0
MakesStation nodes limits url channel line (Ok station) = (line ≡ 0) × IsStation nodes limits url channel station
MakesStation nodes limits url channel line (Err status) = IsNoStation nodes url line status

-- a server was made
pub record IsMadeServer (nodes : List ℕ) (limits : UaLimits) (url : List ℕ) (channel : ℕ) (old new : Option Holding) (line status : ℕ) : Type 0 where
  pub these : Limits
  pub station : Station
  pub enough : AreEnough limits
  pub are_these : AreThese limits these
  pub made : IsStation nodes these url channel station
  pub no_line : line ≡ 0
  pub seated : Seats (machine.Server station) old new status

-- a server was made, or the handle is unchanged
abbrev pub MakesServer : List ℕ → UaLimits → List ℕ → ℕ → Option Holding → Option Holding → ℕ → ℕ → Type 0
MakesServer nodes limits url channel old new line status =
    IsMadeServer nodes limits url channel old new line status
    ⊎ ((new ≡ old) × (((status ≡ bad_limits) × (line ≡ 0) × ¬ (AreEnough limits)) ⊎ IsNoStation nodes url line status))
