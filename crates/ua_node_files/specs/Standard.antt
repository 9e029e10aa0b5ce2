-- The nodes of namespace 0 that clients ask first (OPC 10000-5, 6.3.1, 6.3.3 and 6.3.11), as lines
-- of a node file.
use Rattle.std.specs.Prelude.{ℕ, Bool, cond, List, [], ◌∷◌, ◌++◌, is_none, codes}
use Rattle.std.specs.List.{flat_map}
use Rattle.ua_builtin.specs.NodeId.{node}
use Rattle.ua_builtin.specs.declared.node_id.Identifier.TheVariants.{Numeric}
use Rattle.ua_nodes.specs.Table.{Nodes, node_at}

-- the number of a NodeId of namespace 0, and the line of its node
pub record StandardLine : Type 0 where
  pub number : ℕ
  pub text : List ℕ

abbrev pub standard_line_of : ℕ → List ℕ → StandardLine
standard_line_of number text = record { number = number; text = text }

-- the URIs of the server's NamespaceArray after the first two, as an array's text goes on: each
-- after a comma
abbrev pub more_uris : List (List ℕ) → List ℕ
more_uris uris = flat_map (λ uri. codes "," ++ uri) uris

-- the URIs of the servers: this one
abbrev pub server_array : StandardLine
server_array = standard_line_of 2254 (codes "i=2254\tr\tServerArray\tString[]\turn:ua:server")

-- the URIs of the namespaces: the standard's for index 0, the server's for 1, and then these
abbrev pub namespace_array : List (List ℕ) → StandardLine
namespace_array uris = standard_line_of 2255 (codes "i=2255\tr\tNamespaceArray\tString[]\thttp://opcfoundation.org/UA/,urn:ua:server" ++ more_uris uris)

-- the server's time, which is set before each answer
abbrev pub current_time_line : StandardLine
current_time_line = standard_line_of 2258 (codes "i=2258\tr\tCurrentTime\tDateTime\t0")

-- its state: 0, running
abbrev pub state : StandardLine
state = standard_line_of 2259 (codes "i=2259\tr\tState\tInt32\t0")

-- how well it serves: 255, wholly
abbrev pub service_level : StandardLine
service_level = standard_line_of 2267 (codes "i=2267\tr\tServiceLevel\tByte\t255")

-- the most nodes of a Read, and of a Write
abbrev pub max_nodes_per_read : StandardLine
max_nodes_per_read = standard_line_of 11705 (codes "i=11705\tr\tMaxNodesPerRead\tUInt32\t1000")

abbrev pub max_nodes_per_write : StandardLine
max_nodes_per_write = standard_line_of 11707 (codes "i=11707\tr\tMaxNodesPerWrite\tUInt32\t1000")

-- what the server is and how it is, and what it takes at once
abbrev pub server_lines : List (List ℕ) → List StandardLine
server_lines uris = server_array ∷ namespace_array uris ∷ current_time_line ∷ state ∷ service_level ∷ []

abbrev pub limit_lines : List StandardLine
limit_lines = max_nodes_per_read ∷ max_nodes_per_write ∷ []

-- the standard's nodes that clients ask first
abbrev pub standard_lines : List (List ℕ) → List StandardLine
standard_lines uris = server_lines uris ++ limit_lines

-- the nodes have none of this number in namespace 0
abbrev pub lacks : Nodes → ℕ → Bool
lacks nodes number = is_none (node_at nodes (node 0 (Numeric number)))

-- a line after a text, if the nodes have none of its NodeId
abbrev pub added_line : Nodes → StandardLine → List ℕ
added_line nodes line = cond (lacks nodes line.number) (codes "\n" ++ line.text) []

-- the text of a node file that writes these nodes, and after it each standard line whose node they
-- lack
abbrev pub standard_text : Nodes → List (List ℕ) → List ℕ → List ℕ
standard_text nodes uris text = text ++ flat_map (added_line nodes) (standard_lines uris)
