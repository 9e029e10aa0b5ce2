-- The fields are appended in order.
use Rattle.ua_wire.proofs.Appends.{more_then, on_err, pair_more}
use Rattle.ua_builtin.specs.Format.{flat}
use Rattle.ua_builtin.specs.NodeId.{node_id}
use Rattle.ua_opening.specs.Array.{array}
use Rattle.ua_opening.specs.Field.{byte_string}
use Rattle.ua_opening.specs.Header.{response_header}
use Rattle.ua_structures.specs.Discovery.{endpoint_description}
use Rattle.ua_structures.specs.Session.{create_session_response}
use Rattle.ua_structures.proofs.session_wire.CreateSessionResponseWire.append.Goals as goal

pub returns-clause-ok : goal.returns-clause-ok
unfolding create_session_response
returns-clause-ok c =
    pair_more c.append_two-5.result c.args.out.now.items _ _ (response_header.canonical c.args.self.now.response_header) _ _ c.in_ok-append_two.ensures.ok
    (pair_more c.append_two-5.result c.append_two.new.out.items _ _ ((flat node_id).canonical c.args.self.now.authentication_token) _ _
    c.in_ok-append_two-2.ensures.ok
    (pair_more c.append_two-5.result c.append_two-2.new.out.items _ _ (byte_string.canonical c.args.self.now.server_nonce) _ _ c.in_ok-append_two-3.ensures.ok
    (pair_more c.append_two-5.result c.append_two-3.new.out.items _ _ ((array endpoint_description).canonical c.args.self.now.server_endpoints) _ _
    c.in_ok-append_two-4.ensures.ok
    c.append_two-5.ensures.ok)))

pub returns-in_err-append_two-2-clause-err : goal.returns-in_err-append_two-2-clause-err
returns-in_err-append_two-2-clause-err c =
    let r = c.from_residual-in_err-append_two-2.result in
    more_then r c.args.out.now.items _ _ _ c.in_ok-append_two.ensures.ok
    (on_err r c.in_err-append_two-2.ensures.err)

pub returns-in_err-append_two-3-clause-err : goal.returns-in_err-append_two-3-clause-err
returns-in_err-append_two-3-clause-err c =
    let r = c.from_residual-in_err-append_two-3.result in
    more_then r c.args.out.now.items _ _ _ c.in_ok-append_two.ensures.ok
    (more_then r c.append_two.new.out.items _ _ _ c.in_ok-append_two-2.ensures.ok
    (on_err r c.in_err-append_two-3.ensures.err))

pub returns-in_err-append_two-4-clause-err : goal.returns-in_err-append_two-4-clause-err
returns-in_err-append_two-4-clause-err c =
    let r = c.from_residual-in_err-append_two-4.result in
    more_then r c.args.out.now.items _ _ _ c.in_ok-append_two.ensures.ok
    (more_then r c.append_two.new.out.items _ _ _ c.in_ok-append_two-2.ensures.ok
    (more_then r c.append_two-2.new.out.items _ _ _ c.in_ok-append_two-3.ensures.ok
    (on_err r c.in_err-append_two-4.ensures.err)))

pub returns-clause-err : goal.returns-clause-err
returns-clause-err c =
    let r = c.append_two-5.result in
    more_then r c.args.out.now.items _ _ _ c.in_ok-append_two.ensures.ok
    (more_then r c.append_two.new.out.items _ _ _ c.in_ok-append_two-2.ensures.ok
    (more_then r c.append_two-2.new.out.items _ _ _ c.in_ok-append_two-3.ensures.ok
    (more_then r c.append_two-3.new.out.items _ _ _ c.in_ok-append_two-4.ensures.ok
    c.append_two-5.ensures.err)))
