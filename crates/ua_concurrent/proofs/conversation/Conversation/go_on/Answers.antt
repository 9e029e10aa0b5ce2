use Rattle.ua_concurrent.proofs.Moving.{turned_answered}
use Rattle.ua_concurrent.proofs.conversation.Conversation.go_on.Goals as goal

pub returns-else-is_empty-clause-turned : goal.returns-else-is_empty-clause-turned
returns-else-is_empty-clause-turned g c = turned_answered g.S.Socket.seen c.args.self.now c.answer.new.self c.answer.ensures.answered
