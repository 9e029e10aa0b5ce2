-- Nodes apart from connections: one table, with the description of a server, at the beginning.
use Rattle.std.specs.Prelude.{◌≡◌, ◌⊎◌, ℕ, List, Option, Some, Result, Ok, Err}
use Rattle.std.specs.Str.{IsUtf8}
use Rattle.ua_nodes.specs.NodeFile.{WriteNodes, node_lines}
use Rattle.ua_nodes.specs.Table.{Nodes}
use Rattle.ua_server.specs.State.{fresh}
use Rattle.ua_server.specs.declared.endpoint.Endpoint.{Endpoint}
use Rattle.ua_c.specs.Making.{RefusesFile, Seats}
use Rattle.ua_c.specs.Status.{text_application_uri, text_name, text_url}
use Rattle.ua_c.specs.Texts.{IsNoString, IsString}
use Rattle.ua_c.specs.declared.holding.Holding.{Holding}
use Rattle.ua_c.specs.declared.holding.Machine.TheVariants as machine
use Rattle.ua_c.specs.declared.shared.SharedNodes.{SharedNodes}

-- the description of a server: these three Strings, and the most bytes of a request that it takes
pub record IsAbout (url application_uri name : List ℕ) (most : ℕ) (e : Endpoint) : Type 0 where
  pub is : e ≡ record { url = Some url; application_uri = Some application_uri; name = Some name; message_limit = most }
  pub is_url : IsString url
  pub is_application_uri : IsString application_uri
  pub is_name : IsString name

-- one of the three is no String, or an allocation failed; which of them is told by its number
abbrev pub IsNoAbout : List ℕ → List ℕ → List ℕ → ℕ → ℕ → Type 0
IsNoAbout url application_uri name reason status =
    ((reason ≡ text_url) × IsNoString url status) ⊎ ((reason ≡ text_application_uri) × IsNoString application_uri status)
    ⊎ ((reason ≡ text_name) × IsNoString name status)

-- the nodes that the lines of a file define, before any session, with the description of a server
-- of them
pub record IsShared (file url application_uri name : List ℕ) (most : ℕ) (shared : SharedNodes) : Type 0 where
  pub endpoint : Endpoint
  pub about : IsAbout url application_uri name most endpoint
  pub table : Nodes
  pub utf8 : IsUtf8 file
  pub written : WriteNodes (node_lines file) table
  pub services_is : shared.services ≡ fresh table endpoint

-- why there are none: a text is none, or the file is rejected
abbrev pub IsNoShared : List ℕ → List ℕ → List ℕ → List ℕ → ℕ → ℕ → ℕ → Type 0
IsNoShared file url application_uri name line reason status = ((line ≡ 0) × IsNoAbout url application_uri name reason status)
    ⊎ RefusesFile file line reason status

abbrev pub MakesShared : List ℕ → List ℕ → List ℕ → List ℕ → ℕ → ℕ → ℕ → Result SharedNodes ℕ → Type 0
MakesShared file url application_uri name most line reason (Ok shared) = (line ≡ 0) × (reason ≡ 0) × IsShared file url application_uri name most shared
MakesShared file url application_uri name most line reason (Err status) = IsNoShared file url application_uri name line reason status

-- nodes were made
pub record AreMadeNodes (file url application_uri name : List ℕ) (most : ℕ) (old new : Option Holding) (line reason status : ℕ) : Type 0 where
  pub shared : SharedNodes
  pub made : IsShared file url application_uri name most shared
  pub no_line : line ≡ 0
  pub no_reason : reason ≡ 0
  pub seated : Seats (machine.Nodes shared) old new status

-- nodes were made, or the handle is unchanged
abbrev pub MakesNodes : List ℕ → List ℕ → List ℕ → List ℕ → ℕ → Option Holding → Option Holding → ℕ → ℕ → ℕ → Type 0
MakesNodes file url application_uri name most old new line reason status = AreMadeNodes file url application_uri name most old new line reason status
    ⊎ ((new ≡ old) × IsNoShared file url application_uri name line reason status)
