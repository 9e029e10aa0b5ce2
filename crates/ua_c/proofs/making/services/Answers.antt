use Rattle.std.proofs.Common.{sym, subst}
use Rattle.ua_services.proofs.Words.{name_fits, server_uri_fits}
use Rattle.ua_server.specs.Endpoint.{IsEndpointEncodable}
use Rattle.ua_c.proofs.making.services.Goals as goal

-- the texts of the endpoint can be written
pub new-requires-clause-fits : goal.new-requires-clause-fits
new-requires-clause-fits c = subst (λ e. IsEndpointEncodable e) (sym c.in_ok-endpoint.ensures)
    (record { url = c.requires.writable; application_uri = server_uri_fits; name = name_fits })
