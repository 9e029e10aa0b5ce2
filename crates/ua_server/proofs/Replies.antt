-- No reply is empty.
use Rattle.std.specs.Prelude.{◌≡◌, ◌<◌, ℕ, List, [], ◌∷◌, ◌++◌, length, IsTrue}
use Rattle.std.proofs.Common.{arith, sym}
use Rattle.ua_builtin.specs.NodeId.{node_id}
use Rattle.ua_opening.specs.Message.{standard}
use Rattle.ua_services.proofs.ByKind.{response-canonical}
use Rattle.ua_services.proofs.ResponseLawful.{lawful_response}
use Rattle.ua_services.specs.Response.{response}
use Rattle.ua_services.specs.declared.response.Response.{Response}
use Rattle.ua_services.specs.declared.response.Response.TheVariants.{Write as WriteMessage}
use Rattle.ua_services.specs.declared.response.ResponseKind.TheVariants.{Write}
use Rattle.ua_structures.specs.Attribute.{write_response}
use Rattle.ua_structures.specs.declared.attribute.WriteResponse.{WriteResponse}

some_of : (r : Response) (b : List ℕ) → response.encodes r b → 0 < length b
some_of r [] h = absurd (lawful_response.starts r h)
some_of r (x ∷ b) h = omega arith

pub response_takes_some : (r : Response) → IsTrue (response.encodable r) → 0 < length (response.canonical r)
response_takes_some r h = some_of r (response.canonical r) (lawful_response.canonical_encodes r h)

-- the body of the response to a Write
pub write_whole : (m : WriteResponse) → node_id.canonical (standard 676) ++ write_response.canonical m ≡ response.canonical (WriteMessage m)
write_whole m = sym (response-canonical Write m)
