use Rattle.std.proofs.Common.{Some}
use Rattle.ua_pair.specs.Before.{message_chunks}
use Rattle.ua_pair.proofs.Refusals.{opening_titled}
use Rattle.ua_pair.proofs.Standings.{stands_opening}
use Rattle.ua_pair.proofs.teller.Teller.push_opening.Goals as goal

pub returns-clause-judged : goal.returns-clause-judged
returns-clause-judged c = λ before more s pending.
    opening_titled c.args.self.now before c.args.place c.frame_size-size.result c.args.frame c.in-Ok.chunk (Some c.in_ok-pending.pending) _ _ _
    s c.in-Ok.ensures.faults c.in-Ok.ensures.found c.frame_size-size.ensures (c.in_default.ensures.follows (message_chunks before) s.messages)
    c.in_ok-push_opening_line.ensures (c.in_ok-pending.ensures more pending)

pub returns-clause-stands : goal.returns-clause-stands
returns-clause-stands c = λ before s.
    stands_opening c.args.self.now (record c.args.self.now { assembler = c.step.new.self }) before c.args.frame c.in-Ok.chunk
    s c.requires.kind c.in-Ok.ensures.found (c.in_default.ensures.stands (message_chunks before) s.messages) c.in_default.ensures.last
    c.in_default.ensures.limits
