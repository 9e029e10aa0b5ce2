-- The fields are appended in order.
use Rattle.ua_wire.proofs.Appends.{more_then, pair_more}
use Rattle.ua_opening.specs.Header.{response_header}
use Rattle.ua_structures.specs.Session.{activate_session_response}
use Rattle.ua_structures.proofs.session_wire.ActivateSessionResponseWire.append.Goals as goal

pub returns-clause-ok : goal.returns-clause-ok
unfolding activate_session_response
returns-clause-ok c =
    pair_more c.append_two-2.result c.args.out.now.items _ _ (response_header.canonical c.args.self.now.response_header) _ _ c.in_ok-append_two.ensures.ok
    c.append_two-2.ensures.ok

pub returns-clause-err : goal.returns-clause-err
returns-clause-err c =
    let r = c.append_two-2.result in
    more_then r c.args.out.now.items _ _ _ c.in_ok-append_two.ensures.ok
    c.append_two-2.ensures.err
