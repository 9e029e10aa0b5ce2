-- No request is empty.
use Rattle.std.specs.Prelude.{◌<◌, ℕ, List, [], ◌∷◌, length, IsTrue}
use Rattle.std.proofs.Common.{arith}
use Rattle.ua_services.proofs.RequestLawful.{lawful_request}
use Rattle.ua_services.specs.Request.{request}
use Rattle.ua_services.specs.declared.request.Request.{Request}

some_of : (r : Request) (b : List ℕ) → request.encodes r b → 0 < length b
some_of r [] h = absurd (lawful_request.starts r h)
some_of r (x ∷ b) h = omega arith

pub request_takes_some : (r : Request) → IsTrue (request.encodable r) → 0 < length (request.canonical r)
request_takes_some r h = some_of r (request.canonical r) (lawful_request.canonical_encodes r h)
