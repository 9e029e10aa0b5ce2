use Rattle.std.proofs.Common.{◌≡◌}
use Rattle.ua_loopback.proofs.Courses.{TakenSoFar}
use Rattle.ua_loopback.proofs.conversation.take_turns.Given as goal

abbrev pub invariant-loop-turn : goal.invariant-loop-turn
invariant-loop-turn g l = TakenSoFar g.T.AsOperation.turn l.moment l.turns l.turn-index l.fn.client l.client (g.L.Line.traffic l.fn.line)
    (g.L.Line.traffic l.line) l.fn.progress.replies.items l.progress.replies.items × (l.progress.taken ≡ l.turn-index)
    × (g.L.Line.failures l.line ≡ g.L.Line.failures l.fn.line)
