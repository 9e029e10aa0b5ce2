use Rattle.std.proofs.Common.{refl}
use Rattle.std.proofs.lemmas.Bool.{both_ways}
use Rattle.ua_chunk.proofs.assembler.Assembler.step.Goals as goal

pub returns-then-self-clause-follows : goal.returns-then-self-clause-follows
returns-then-self-clause-follows c = λ cs s. absurd (both_ways _ s.goes_on c.if-self.true)

pub returns-then-self-clause-failed : goal.returns-then-self-clause-failed
returns-then-self-clause-failed c = λ cs s. absurd (both_ways _ s.goes_on c.if-self.true)

pub returns-then-not-follows-clause-limits : goal.returns-then-not-follows-clause-limits
returns-then-not-follows-clause-limits c = record { octets = c.close.ensures.limits.octets; chunks = c.close.ensures.limits.chunks }

pub returns-then-not-follows-clause-failed : goal.returns-then-not-follows-clause-failed
returns-then-not-follows-clause-failed c = λ cs s. c.close.ensures.closed

pub returns-then-not-follows-clause-closed : goal.returns-then-not-follows-clause-closed
returns-then-not-follows-clause-closed c = λ k. absurd (both_ways _ c.if-self.false k.closed)

pub returns-then-not-follows-clause-unchanged : goal.returns-then-not-follows-clause-unchanged
returns-then-not-follows-clause-unchanged c = λ k. absurd (both_ways _ c.if-self.false k.closed)

pub returns-clause-closed : goal.returns-clause-closed
returns-clause-closed c = λ k. absurd (both_ways _ c.if-self.false k.closed)

pub returns-clause-unchanged : goal.returns-clause-unchanged
returns-clause-unchanged c = λ k. absurd (both_ways _ c.if-self.false k.closed)

pub returns-clause-stands : goal.returns-clause-stands
returns-clause-stands c = λ cs s. record { goes_on = s.goes_on; unfinished = s.unfinished; few = s.few; within = s.within }

pub returns-clause-limits : goal.returns-clause-limits
returns-clause-limits c = record { octets = refl; chunks = refl }
