use Rattle.std.proofs.Common.{ℕ, List, subst}
use Rattle.ua_concurrent.specs.Standing.{Went}
use Rattle.ua_concurrent.proofs.Behind.{went_none}
use Rattle.ua_concurrent.proofs.Moving.{all_written, not_empty, stands_reads, turned_nothing, turned_read}
use Rattle.ua_concurrent.proofs.conversation.Conversation.read_and_answer.Goals as goal

pub returns-then-not-is_empty-clause-turned : goal.returns-then-not-is_empty-clause-turned
returns-then-not-is_empty-clause-turned g c =
    turned_read g.S.Socket.seen c.args.self.now c.read_on.new.self c.answer.new.self c.requires.still c.read_on.ensures.reads
    (not_empty c.unread.result.now c.read_on.new.self.unread c.if-not-is_empty.ensures c.unread.ensures) c.requires.none.0 c.answer.ensures.answered

pub returns-then-not-is_empty-clause-went : goal.returns-then-not-is_empty-clause-went
returns-then-not-is_empty-clause-went g c = λ es first state s.
    let stood = stands_reads g.S.Socket.seen es first c.args.services.now c.args.self.now c.read_on.new.self c.requires.none.0 c.read_on.ensures.reads s in
    subst (λ (o : List ℕ). Went g.S.Socket.seen g.A.Application.acts es first (c.args.services.now, c.args.application.now)
    (c.answer.new.services, c.answer.new.application) o c.answer.new.self) stood.1
    (c.answer.ensures.went es first stood.0)

pub returns-else-not-is_empty-clause-turned : goal.returns-else-not-is_empty-clause-turned
returns-else-not-is_empty-clause-turned g c =
    turned_nothing g.S.Socket.seen c.args.self.now c.read_on.new.self c.requires.still c.requires.going c.requires.none.1 c.requires.none.0
    c.read_on.ensures.reads
    (all_written c.unread.result.now c.read_on.new.self.unread c.if-not-is_empty.ensures c.unread.ensures)

pub returns-else-not-is_empty-clause-went : goal.returns-else-not-is_empty-clause-went
returns-else-not-is_empty-clause-went g c = λ es first state s.
    went_none g.S.Socket.seen g.A.Application.acts es first c.args.services.now c.args.application.now s.octets c.read_on.new.self state
    (stands_reads g.S.Socket.seen es first c.args.services.now c.args.self.now c.read_on.new.self c.requires.none.0 c.read_on.ensures.reads s)
