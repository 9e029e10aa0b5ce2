-- The fields are appended in order.
use Rattle.ua_wire.proofs.Appends.{more_then, on_err, pair_more}
use Rattle.ua_opening.specs.Field.{byte_string, string}
use Rattle.ua_structures.specs.Discovery.{endpoint_description}
use Rattle.ua_structures.proofs.discovery_wire.EndpointDescriptionWire.append.Goals as goal

pub returns-clause-ok : goal.returns-clause-ok
unfolding endpoint_description
returns-clause-ok c =
    pair_more c.append_two-4.result c.args.out.now.items _ _ (string.canonical c.args.self.now.endpoint_url) _ _ c.in_ok-append_two.ensures.ok
    (pair_more c.append_two-4.result c.append_two.new.out.items _ _ (byte_string.canonical c.args.self.now.server_certificate) _ _
    c.in_ok-append_two-2.ensures.ok
    (pair_more c.append_two-4.result c.append_two-2.new.out.items _ _ (string.canonical c.args.self.now.security_policy_uri) _ _ c.in_ok-append_two-3.ensures.ok
    c.append_two-4.ensures.ok))

pub returns-in_err-append_two-2-clause-err : goal.returns-in_err-append_two-2-clause-err
returns-in_err-append_two-2-clause-err c =
    let r = c.from_residual-in_err-append_two-2.result in
    more_then r c.args.out.now.items _ _ _ c.in_ok-append_two.ensures.ok
    (on_err r c.in_err-append_two-2.ensures.err)

pub returns-in_err-append_two-3-clause-err : goal.returns-in_err-append_two-3-clause-err
returns-in_err-append_two-3-clause-err c =
    let r = c.from_residual-in_err-append_two-3.result in
    more_then r c.args.out.now.items _ _ _ c.in_ok-append_two.ensures.ok
    (more_then r c.append_two.new.out.items _ _ _ c.in_ok-append_two-2.ensures.ok
    (on_err r c.in_err-append_two-3.ensures.err))

pub returns-clause-err : goal.returns-clause-err
returns-clause-err c =
    let r = c.append_two-4.result in
    more_then r c.args.out.now.items _ _ _ c.in_ok-append_two.ensures.ok
    (more_then r c.append_two.new.out.items _ _ _ c.in_ok-append_two-2.ensures.ok
    (more_then r c.append_two-2.new.out.items _ _ _ c.in_ok-append_two-3.ensures.ok
    c.append_two-4.ensures.err))
