-- Sound services: each response of theirs can be encoded.
use Rattle.std.specs.Prelude.{◌<◌, ◌^◌}
use Rattle.ua_nodes.specs.Sound.{AreNodesSound}
use Rattle.ua_server.specs.Endpoint.{IsEndpointEncodable}
use Rattle.ua_server.specs.State.{State}

-- the results of a Read of the nodes and the texts of the endpoint can be encoded, and the limit of
-- the endpoint and the number of sessions made are numbers of 32 bits
pub record IsSoundState (s : State) : Type 0 where
  pub nodes : AreNodesSound s.nodes
  pub endpoint : IsEndpointEncodable s.endpoint
  pub limit : s.endpoint.message_limit < 2 ^ 32
  pub made : s.made < 2 ^ 32
