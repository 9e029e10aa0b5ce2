-- No response is empty.
use Rattle.std.specs.Prelude.{◌<◌, ℕ, List, ◌++◌, length}
use Rattle.std.proofs.Common.{arith, length-append}
use Rattle.ua_wire.proofs.NumbersRead.{length-number_octets}
use Rattle.ua_builtin.specs.NodeId.{node_id, form_of, in_form}
use Rattle.ua_builtin.specs.Number.{number_octets}
use Rattle.ua_builtin.specs.declared.node_id.NodeId.{NodeId}
use Rattle.ua_opening.specs.Message.{message_id}
use Rattle.ua_services.specs.Response.{response, responses, response_parts}
use Rattle.ua_services.specs.declared.response.Response.{Response}

-- a NodeId takes an octet at least, whatever stands behind it
id_first : (id : NodeId) (b : List ℕ) → 0 < length (node_id.canonical id ++ b)
unfolding node_id
id_first id b =
    omega (
      arith,
      length-append (node_id.canonical id) b,
      length-append (number_octets 1 (form_of id)) ((in_form (form_of id)).canonical id),
      length-number_octets 1 (form_of id),
    )

-- a body begins with the NodeId of its encoding
pub response_takes_some : (r : Response) → 0 < length (response.canonical r)
unfolding response
response_takes_some r = id_first (message_id responses r) ((responses.format (response_parts r).0).canonical (response_parts r).1)
