use Rattle.std.proofs.Common.{Some, refl, arith}
use Rattle.ua_chunk.specs.declared.delivered.Delivered.TheVariants.{Whole}
use Rattle.ua_chunk.proofs.Assembles.{delivered_is, given_is, parts_are, stays, alone_given, alone_parts, alone_left, alone_unrefused}
use Rattle.std.proofs.lemmas.Bool.{both_ways}
use Rattle.ua_chunk.proofs.assembler.Assembler.accept.Goals as goal

pub returns-then-takes_alone-clause-given : goal.returns-then-takes_alone-clause-given
returns-then-takes_alone-clause-given c = λ cs s.
    let alone = c.takes_alone.ensures c.if-takes_alone.true in
    delivered_is cs c.args.chunk c.args.self.now.pending _ s.unfinished
    (alone_given c.args.self.now.pending c.args.chunk c.with_body.result alone.1 alone.2 c.with_body.ensures)

pub returns-then-takes_alone-clause-items : goal.returns-then-takes_alone-clause-items
returns-then-takes_alone-clause-items c = λ cs s.
    let alone = c.takes_alone.ensures c.if-takes_alone.true in
    given_is cs c.args.chunk c.args.self.now.pending _ s.unfinished
    (alone_given c.args.self.now.pending c.args.chunk c.with_body.result alone.1 alone.2 c.with_body.ensures)

pub returns-then-takes_alone-clause-parts : goal.returns-then-takes_alone-clause-parts
returns-then-takes_alone-clause-parts c = λ cs s.
    let alone = c.takes_alone.ensures c.if-takes_alone.true in
    parts_are cs c.args.chunk c.args.self.now.pending (Some (Whole c.args.chunk.request c.with_body.result)) s.unfinished
    (alone_parts c.args.self.now.pending c.args.chunk c.with_body.result alone.1 c.with_body.ensures)

pub returns-then-takes_alone-clause-stands : goal.returns-then-takes_alone-clause-stands
returns-then-takes_alone-clause-stands c = λ cs s.
    let alone = c.takes_alone.ensures c.if-takes_alone.true in
    stays c.args.self.now _ cs c.args.chunk s
    (alone_unrefused c.args.self.now cs c.args.chunk s (omega arith) alone.1 alone.3)
    alone.0 refl (alone_left c.args.self.now.pending c.args.chunk alone.1 alone.2)

pub returns-then-takes_alone-clause-faults : goal.returns-then-takes_alone-clause-faults
returns-then-takes_alone-clause-faults c = λ cs s.
    let alone = c.takes_alone.ensures c.if-takes_alone.true in
    alone_unrefused c.args.self.now cs c.args.chunk s (omega arith) alone.1 alone.3

pub returns-clause-given : goal.returns-clause-given
returns-clause-given c = c.accept_among.ensures.given

pub returns-clause-items : goal.returns-clause-items
returns-clause-items c = c.accept_among.ensures.items

pub returns-clause-parts : goal.returns-clause-parts
returns-clause-parts c = c.accept_among.ensures.parts

pub returns-clause-stands : goal.returns-clause-stands
returns-clause-stands c = c.accept_among.ensures.stands

pub returns-clause-last : goal.returns-clause-last
returns-clause-last c = c.accept_among.ensures.last

pub returns-clause-limits : goal.returns-clause-limits
returns-clause-limits c = c.accept_among.ensures.limits

pub returns-clause-faults : goal.returns-clause-faults
returns-clause-faults c = c.accept_among.ensures.faults

pub returns-clause-failed : goal.returns-clause-failed
returns-clause-failed c = c.accept_among.ensures.failed

pub returns-clause-closed : goal.returns-clause-closed
returns-clause-closed c = c.accept_among.ensures.closed

pub returns-clause-unchanged : goal.returns-clause-unchanged
returns-clause-unchanged c = c.accept_among.ensures.unchanged

pub returns-then-takes_alone-clause-limits : goal.returns-then-takes_alone-clause-limits
returns-then-takes_alone-clause-limits c = record { octets = refl; chunks = refl }

pub returns-then-takes_alone-clause-closed : goal.returns-then-takes_alone-clause-closed
returns-then-takes_alone-clause-closed c = λ k. absurd (both_ways _ (c.takes_alone.ensures c.if-takes_alone.true).0 k.closed)

pub returns-then-takes_alone-clause-unchanged : goal.returns-then-takes_alone-clause-unchanged
returns-then-takes_alone-clause-unchanged c = λ k. absurd (both_ways _ (c.takes_alone.ensures c.if-takes_alone.true).0 k.closed)
