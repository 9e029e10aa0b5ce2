-- The fields are appended in order.
use Rattle.ua_wire.proofs.Appends.{more_then, on_err, pair_more}
use Rattle.ua_opening.specs.Field.{string}
use Rattle.ua_opening.specs.Header.{request_header}
use Rattle.ua_structures.specs.Session.{create_session_request}
use Rattle.ua_structures.proofs.session_wire.CreateSessionRequestWire.append.Goals as goal

pub returns-clause-ok : goal.returns-clause-ok
unfolding create_session_request
returns-clause-ok c =
    pair_more c.append_three.result c.args.out.now.items _ _ (request_header.canonical c.args.self.now.request_header) _ _ c.in_ok-append_two.ensures.ok
    (pair_more c.append_three.result c.append_two.new.out.items _ _ (string.canonical c.args.self.now.server_uri) _ _ c.in_ok-append_two-2.ensures.ok
    (pair_more c.append_three.result c.append_two-2.new.out.items _ _ (string.canonical c.args.self.now.session_name) _ _ c.in_ok-append_two-3.ensures.ok
    c.append_three.ensures.ok))

pub returns-in_err-append_two-2-clause-err : goal.returns-in_err-append_two-2-clause-err
returns-in_err-append_two-2-clause-err c =
    let r = c.from_residual-in_err-append_two-2.result in
    more_then r c.args.out.now.items _ _ _ c.in_ok-append_two.ensures.ok
    (on_err r c.in_err-append_two-2.ensures.err)

pub returns-in_err-append_two-3-clause-err : goal.returns-in_err-append_two-3-clause-err
returns-in_err-append_two-3-clause-err c =
    let r = c.from_residual-in_err-append_two-3.result in
    more_then r c.args.out.now.items _ _ _ c.in_ok-append_two.ensures.ok
    (more_then r c.append_two.new.out.items _ _ _ c.in_ok-append_two-2.ensures.ok
    (on_err r c.in_err-append_two-3.ensures.err))

pub returns-clause-err : goal.returns-clause-err
returns-clause-err c =
    let r = c.append_three.result in
    more_then r c.args.out.now.items _ _ _ c.in_ok-append_two.ensures.ok
    (more_then r c.append_two.new.out.items _ _ _ c.in_ok-append_two-2.ensures.ok
    (more_then r c.append_two-2.new.out.items _ _ _ c.in_ok-append_two-3.ensures.ok
    c.append_three.ensures.err))
