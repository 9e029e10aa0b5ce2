-- What a client does in an operation.
use Rattle.std.specs.Prelude.{List, Option, Some, None}
use Rattle.ua_services.specs.declared.request.Request.{Request}
use Rattle.ua_loopback.specs.declared.operation.Operation.{Operation}
use Rattle.ua_loopback.specs.declared.operation.Operation.TheVariants.{Ask, Renew}

-- the requests of an operation; none if it is a renewal
abbrev pub asked_by : Operation → Option (List Request)
asked_by (Ask requests) = Some requests.items
asked_by Renew = None
