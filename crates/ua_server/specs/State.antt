-- The state of a server: its nodes, its description, how many sessions it made, and at most one
-- session (OPC 10000-4, 5.7).
use Rattle.std.specs.Prelude.{ℕ, ◌+◌, Bool, true, false, Option, Some, None}
use Rattle.ua_builtin.specs.NodeId.{node}
use Rattle.ua_builtin.specs.declared.node_id.NodeId.{NodeId}
use Rattle.ua_builtin.specs.declared.node_id.Identifier.TheVariants.{Numeric}
use Rattle.ua_nodes.specs.declared.fault.SetFault.{SetFault}
use Rattle.ua_nodes.specs.Set.{set_refusal_at}
use Rattle.ua_nodes.specs.Table.{Nodes, node_id_at, same_id}
use Rattle.ua_nodes.specs.declared.set.Reading.{Reading}
use Rattle.ua_server.specs.declared.endpoint.Endpoint.{Endpoint}
use Rattle.ua_server.specs.declared.session.Session.{Session}

-- the nodes as a finite map, the endpoint, the most bytes of memory that Writes may make the values
-- of the nodes take, if there is a limit, the number of sessions made, and the session, if there is
-- one
pub record State : Type 0 where
  pub nodes : Nodes
  pub endpoint : Endpoint
  pub memory_limit : Option ℕ
  pub made : ℕ
  pub session : Option Session

-- the state before any session, without a limit
abbrev pub fresh : Nodes → Endpoint → State
fresh nodes endpoint = record { nodes = nodes; endpoint = endpoint; memory_limit = None; made = 0; session = None }

-- the state as a connection begins: without a session
abbrev pub begun : State → State
begun s = record { nodes = s.nodes; endpoint = s.endpoint; memory_limit = s.memory_limit; made = s.made; session = None }

-- the state with one more session, which is not activated yet
abbrev pub with_next_session : State → State
with_next_session s = record {
  nodes = s.nodes;
  endpoint = s.endpoint;
  memory_limit = s.memory_limit;
  made = s.made + 1;
  session = Some (record { number = s.made + 1; activated = false });
}

-- the state with these nodes
abbrev pub with_nodes : State → Nodes → State
with_nodes s nodes = record { nodes = nodes; endpoint = s.endpoint; memory_limit = s.memory_limit; made = s.made; session = s.session }

-- why the node with this index among these does not take a reading, if it does not
abbrev pub setting_refusal : Nodes → ℕ → Reading → Option SetFault
setting_refusal nodes index reading = set_refusal_at (node_id_at nodes index) reading nodes

-- the state with this limit
abbrev pub with_memory_limit : State → ℕ → State
with_memory_limit s most = record { nodes = s.nodes; endpoint = s.endpoint; memory_limit = Some most; made = s.made; session = s.session }

-- the state with this session, or none
abbrev pub with_session : State → Option Session → State
with_session s session = record { nodes = s.nodes; endpoint = s.endpoint; memory_limit = s.memory_limit; made = s.made; session = session }

-- the SessionId of the nth session: ns=1;i=n
abbrev pub session_id : ℕ → NodeId
session_id n = node 1 (Numeric n)

-- the AuthenticationToken of the nth session, which is no secret: ns=2;i=n
abbrev pub session_token : ℕ → NodeId
session_token n = node 2 (Numeric n)

-- there is a session, and this is its token
abbrev pub is_own : NodeId → Option Session → Bool
is_own token None = false
is_own token (Some session) = same_id token (session_token session.number)

-- there is a session, and it is activated
abbrev pub is_activated : Option Session → Bool
is_activated None = false
is_activated (Some session) = session.activated

-- the session, activated, if there is one
abbrev pub activated : Option Session → Option Session
activated None = None
activated (Some session) = Some (record { number = session.number; activated = true })
