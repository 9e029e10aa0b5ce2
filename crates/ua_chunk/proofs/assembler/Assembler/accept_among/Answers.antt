use Rattle.std.proofs.Common.{sym, ◌∙◌, refl, arith}
use Rattle.ua_chunk.proofs.Assembles.{delivered_is, given_is, parts_are, refusal_is, fault_is_for, stays}
use Rattle.std.proofs.lemmas.Bool.{both_ways}
use Rattle.ua_chunk.proofs.assembler.Assembler.accept_among.Goals as goal

pub returns-in-Some-clause-faults : goal.returns-in-Some-clause-faults
returns-in-Some-clause-faults c = λ cs s.
    fault_is_for c.args.self.now.octets c.args.self.now.chunks c.args.self.now.last cs c.args.chunk c.in-Some.fault
    (refusal_is c.args.self.now (record c.args.self.now { pending = c.take_out-pending.new.self }) cs c.args.chunk s (omega arith) refl refl refl
    c.take_out-pending.ensures.rest
    ∙ rw (← c.take_out-pending.ensures.taken) (sym c.in-Some.ensures))

pub returns-in-Ok-clause-given : goal.returns-in-Ok-clause-given
returns-in-Ok-clause-given c = λ cs s.
    delivered_is cs c.args.chunk c.args.self.now.pending _ s.unfinished (rw (← c.take_out-pending.ensures.taken) c.in-Ok.ensures.given)

pub returns-in-Ok-clause-items : goal.returns-in-Ok-clause-items
returns-in-Ok-clause-items c = λ cs s.
    given_is cs c.args.chunk c.args.self.now.pending _ s.unfinished (rw (← c.take_out-pending.ensures.taken) c.in-Ok.ensures.given)

pub returns-in-Ok-clause-parts : goal.returns-in-Ok-clause-parts
returns-in-Ok-clause-parts c = λ cs s.
    parts_are cs c.args.chunk c.args.self.now.pending _ s.unfinished (rw (← c.take_out-pending.ensures.taken) c.in-Ok.ensures.parts)

pub returns-in-Ok-clause-stands : goal.returns-in-Ok-clause-stands
returns-in-Ok-clause-stands c = λ cs s.
    stays c.args.self.now c.add.new.self cs c.args.chunk s
    (refusal_is c.args.self.now (record c.args.self.now { pending = c.take_out-pending.new.self }) cs c.args.chunk s (omega arith) refl refl refl
    c.take_out-pending.ensures.rest
    ∙ rw (← c.take_out-pending.ensures.taken) (sym c.in_default.ensures))
    (c.in-Ok.ensures.closed ∙ s.goes_on)
    (sym c.in-Ok.ensures.limits.octets)
    (rw (← c.take_out-pending.ensures.taken, ← c.take_out-pending.ensures.rest) c.in-Ok.ensures.pending)

pub returns-in-Ok-clause-faults : goal.returns-in-Ok-clause-faults
returns-in-Ok-clause-faults c = λ cs s.
    refusal_is c.args.self.now (record c.args.self.now { pending = c.take_out-pending.new.self }) cs c.args.chunk s (omega arith) refl refl refl
    c.take_out-pending.ensures.rest
    ∙ rw (← c.take_out-pending.ensures.taken) (sym c.in_default.ensures)

pub returns-in-Err-clause-faults : goal.returns-in-Err-clause-faults
returns-in-Err-clause-faults c = λ cs s.
    refusal_is c.args.self.now (record c.args.self.now { pending = c.take_out-pending.new.self }) cs c.args.chunk s (omega arith) refl refl refl
    c.take_out-pending.ensures.rest
    ∙ rw (← c.take_out-pending.ensures.taken) (sym c.in_default.ensures)

pub returns-then-self-clause-faults : goal.returns-then-self-clause-faults
returns-then-self-clause-faults c = λ cs s. both_ways _ s.goes_on c.if-self.true

pub returns-then-self-clause-failed : goal.returns-then-self-clause-failed
returns-then-self-clause-failed c = λ cs s. absurd (both_ways _ s.goes_on c.if-self.true)

pub returns-in-Some-clause-limits : goal.returns-in-Some-clause-limits
returns-in-Some-clause-limits c = record { octets = c.close.ensures.limits.octets; chunks = c.close.ensures.limits.chunks }

pub returns-in-Some-clause-failed : goal.returns-in-Some-clause-failed
returns-in-Some-clause-failed c = λ cs s. c.close.ensures.closed

pub returns-in-Some-clause-closed : goal.returns-in-Some-clause-closed
returns-in-Some-clause-closed c = λ k. absurd (both_ways _ c.if-self.false k.closed)

pub returns-in-Some-clause-unchanged : goal.returns-in-Some-clause-unchanged
returns-in-Some-clause-unchanged c = λ k. absurd (both_ways _ c.if-self.false k.closed)

pub returns-in-Ok-clause-last : goal.returns-in-Ok-clause-last
returns-in-Ok-clause-last c = c.in-Ok.ensures.last

pub returns-in-Ok-clause-limits : goal.returns-in-Ok-clause-limits
returns-in-Ok-clause-limits c = record { octets = c.in-Ok.ensures.limits.octets; chunks = c.in-Ok.ensures.limits.chunks }

pub returns-in-Ok-clause-closed : goal.returns-in-Ok-clause-closed
returns-in-Ok-clause-closed c = λ k. absurd (both_ways _ c.if-self.false k.closed)

pub returns-in-Ok-clause-unchanged : goal.returns-in-Ok-clause-unchanged
returns-in-Ok-clause-unchanged c = λ k. absurd (both_ways _ c.if-self.false k.closed)

pub returns-in-Err-clause-limits : goal.returns-in-Err-clause-limits
returns-in-Err-clause-limits c = record {
  octets = c.in-Err.ensures.limits.octets ∙ c.close-in-Err.ensures.limits.octets;
  chunks = c.in-Err.ensures.limits.chunks ∙ c.close-in-Err.ensures.limits.chunks;
}

pub returns-in-Err-clause-failed : goal.returns-in-Err-clause-failed
returns-in-Err-clause-failed c = λ cs s. c.close-in-Err.ensures.closed

pub returns-in-Err-clause-closed : goal.returns-in-Err-clause-closed
returns-in-Err-clause-closed c = λ k. absurd (both_ways _ c.if-self.false k.closed)

pub returns-in-Err-clause-unchanged : goal.returns-in-Err-clause-unchanged
returns-in-Err-clause-unchanged c = λ k. absurd (both_ways _ c.if-self.false k.closed)
