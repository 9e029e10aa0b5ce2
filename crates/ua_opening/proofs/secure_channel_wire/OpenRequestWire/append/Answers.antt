-- The fields are appended in order.
use Rattle.ua_wire.proofs.Appends.{more_then, on_err, pair_more}
use Rattle.ua_opening.specs.Field.{int32}
use Rattle.ua_opening.specs.Header.{request_header}
use Rattle.ua_opening.specs.SecureChannel.{open_request}
use Rattle.ua_opening.proofs.secure_channel_wire.OpenRequestWire.append.Goals as goal

pub returns-clause-ok : goal.returns-clause-ok
unfolding open_request
returns-clause-ok c =
    pair_more c.append_two-3.result c.args.out.now.items _ _ (request_header.canonical c.args.self.now.request_header) _ _ c.in_ok-append_two.ensures.ok
    (pair_more c.append_two-3.result c.append_two.new.out.items _ _ (int32.canonical c.args.self.now.request_type) _ _ c.in_ok-append_two-2.ensures.ok
    c.append_two-3.ensures.ok)

pub returns-in_err-append_two-2-clause-err : goal.returns-in_err-append_two-2-clause-err
returns-in_err-append_two-2-clause-err c =
    let r = c.from_residual-in_err-append_two-2.result in
    more_then r c.args.out.now.items _ _ _ c.in_ok-append_two.ensures.ok
    (on_err r c.in_err-append_two-2.ensures.err)

pub returns-clause-err : goal.returns-clause-err
returns-clause-err c =
    let r = c.append_two-3.result in
    more_then r c.args.out.now.items _ _ _ c.in_ok-append_two.ensures.ok
    (more_then r c.append_two.new.out.items _ _ _ c.in_ok-append_two-2.ensures.ok
    c.append_two-3.ensures.err)
