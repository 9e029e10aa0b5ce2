-- Requests and responses, kind by kind.
use Rattle.std.specs.Prelude.{◌≡◌, ◌++◌}
use Rattle.std.proofs.Common.{refl}
use Rattle.ua_builtin.specs.NodeId.{node_id}
use Rattle.ua_opening.specs.Message.{standard}
use Rattle.ua_opening.proofs.MessagesLawful.{canonical-made}
use Rattle.ua_services.proofs.ResponseLawful.{are_responses}
use Rattle.ua_services.specs.Request.{request, requests, RequestStructure}
use Rattle.ua_services.specs.Response.{response, responses, ResponseStructure as Held}
use Rattle.ua_services.specs.declared.request.RequestKind.{RequestKind}
use Rattle.ua_services.specs.declared.request.RequestKind.TheVariants.{Read}
use Rattle.ua_services.specs.declared.response.ResponseKind.{ResponseKind}
use Rattle.ua_services.specs.declared.response.ResponseKind.TheVariants.{Read as WasRead}

pub request-encodable : (k : RequestKind) (m : RequestStructure k) → request.encodable (requests.make k m) ≡ (requests.format k).encodable m
unfolding request node_id
request-encodable Read m = refl
request-encodable k m = refl

pub response-encodable : (k : ResponseKind) (m : Held k) → response.encodable (responses.make k m) ≡ (responses.format k).encodable m
unfolding response node_id
response-encodable WasRead m = refl
response-encodable k m = refl

pub response-canonical : (k : ResponseKind) (m : Held k) → response.canonical (responses.make k m) ≡ node_id.canonical (standard (responses.number k))
    ++ (responses.format k).canonical m
unfolding response
response-canonical = canonical-made responses are_responses
