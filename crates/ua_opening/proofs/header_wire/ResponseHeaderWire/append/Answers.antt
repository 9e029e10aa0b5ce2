-- The fields are appended in order.
use Rattle.ua_wire.proofs.Appends.{more_then, on_err, pair_more}
use Rattle.ua_builtin.specs.DateTime.{date_time}
use Rattle.ua_builtin.specs.Format.{flat}
use Rattle.ua_builtin.specs.Status.{status_code}
use Rattle.ua_opening.specs.Header.{response_header}
use Rattle.ua_opening.proofs.header_wire.ResponseHeaderWire.append.Goals as goal

pub returns-clause-ok : goal.returns-clause-ok
unfolding response_header
returns-clause-ok c =
    pair_more c.append_two-3.result c.args.out.now.items _ _ ((flat date_time).canonical c.args.self.now.timestamp) _ _ c.in_ok-append_two.ensures.ok
    (pair_more c.append_two-3.result c.append_two.new.out.items _ _ ((flat status_code).canonical c.args.self.now.service_result) _ _
    c.in_ok-append_two-2.ensures.ok
    c.append_two-3.ensures.ok)

pub returns-in_err-append_two-2-clause-err : goal.returns-in_err-append_two-2-clause-err
returns-in_err-append_two-2-clause-err c =
    let r = c.from_residual-in_err-append_two-2.result in
    more_then r c.args.out.now.items _ _ _ c.in_ok-append_two.ensures.ok
    (on_err r c.in_err-append_two-2.ensures.err)

pub returns-clause-err : goal.returns-clause-err
returns-clause-err c =
    let r = c.append_two-3.result in
    more_then r c.args.out.now.items _ _ _ c.in_ok-append_two.ensures.ok
    (more_then r c.append_two.new.out.items _ _ _ c.in_ok-append_two-2.ensures.ok
    c.append_two-3.ensures.err)
