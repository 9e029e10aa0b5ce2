use Rattle.ua_pair.specs.Before.{message_chunks}
use Rattle.ua_pair.proofs.Standings.{stands_close}
use Rattle.ua_pair.proofs.teller.Teller.push_close.Goals as goal

pub returns-clause-stands : goal.returns-clause-stands
returns-clause-stands c = λ before s.
    stands_close c.args.self.now (record c.args.self.now { assembler = c.step.new.self }) before c.args.frame c.read_chunk-chunk.result
    s c.requires.kind c.read_chunk-chunk.ensures.found (c.in_default.ensures.stands (message_chunks before) s.messages) c.in_default.ensures.last
    c.in_default.ensures.limits
