-- The fields are appended in order.
use Rattle.ua_wire.proofs.Appends.{more_then, on_err, pair_more}
use Rattle.ua_builtin.specs.Format.{flat}
use Rattle.ua_builtin.specs.NodeId.{node_id}
use Rattle.ua_opening.specs.Field.{uint32}
use Rattle.ua_opening.specs.Header.{request_header}
use Rattle.ua_opening.proofs.header_wire.RequestHeaderWire.append.Goals as goal

pub returns-clause-ok : goal.returns-clause-ok
unfolding request_header
returns-clause-ok c =
    pair_more c.append_three.result c.args.out.now.items _ _ ((flat node_id).canonical c.args.self.now.authentication_token) _ _ c.in_ok-append_two.ensures.ok
    (pair_more c.append_three.result c.append_two.new.out.items _ _ (uint32.canonical c.args.self.now.request_handle) _ _ c.in_ok-append_two-2.ensures.ok
    c.append_three.ensures.ok)

pub returns-in_err-append_two-2-clause-err : goal.returns-in_err-append_two-2-clause-err
returns-in_err-append_two-2-clause-err c =
    let r = c.from_residual-in_err-append_two-2.result in
    more_then r c.args.out.now.items _ _ _ c.in_ok-append_two.ensures.ok
    (on_err r c.in_err-append_two-2.ensures.err)

pub returns-clause-err : goal.returns-clause-err
returns-clause-err c =
    let r = c.append_three.result in
    more_then r c.args.out.now.items _ _ _ c.in_ok-append_two.ensures.ok
    (more_then r c.append_two.new.out.items _ _ _ c.in_ok-append_two-2.ensures.ok
    c.append_three.ensures.err)
