-- The fields are appended in order.
use Rattle.ua_wire.proofs.Appends.{more_then, pair_more}
use Rattle.ua_opening.specs.Header.{request_header}
use Rattle.ua_structures.specs.Discovery.{get_endpoints_request}
use Rattle.ua_structures.proofs.discovery_wire.GetEndpointsRequestWire.append.Goals as goal

pub returns-clause-ok : goal.returns-clause-ok
unfolding get_endpoints_request
returns-clause-ok c =
    pair_more c.append_two-2.result c.args.out.now.items _ _ (request_header.canonical c.args.self.now.request_header) _ _ c.in_ok-append_two.ensures.ok
    c.append_two-2.ensures.ok

pub returns-clause-err : goal.returns-clause-err
returns-clause-err c =
    let r = c.append_two-2.result in
    more_then r c.args.out.now.items _ _ _ c.in_ok-append_two.ensures.ok
    c.append_two-2.ensures.err
