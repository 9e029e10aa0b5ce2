use Rattle.std.proofs.Common.{◌<◌, ◌^◌, subst, sym, arith}
use Rattle.ua_server.specs.Endpoint.{IsEndpointEncodable}
use Rattle.ua_serving.proofs.Serves.{own_fits}
use Rattle.ua_serving.proofs.serve.services.Goals as goal

pub new-requires-clause-fits : goal.new-requires-clause-fits
new-requires-clause-fits c =
    let small : c.args.port < 2 ^ 16 = omega arith in
    subst (λ e. IsEndpointEncodable e) (sym c.in_ok-endpoint.ensures) (own_fits c.args.port small)
