use Rattle.std.proofs.Common.{refl, arith}
use Rattle.ua_c.proofs.Asked.{takes_machine}
use Rattle.ua_c.proofs.holding.Holding.take.Goals as goal

-- where nothing waits
pub returns : goal.returns
returns c = takes_machine c.args.self.now _ c.args.piece.now c.args.moment c.from_take.result c.in-Client.client c.take-answer.new.self c.take-answer.result
    c.in-Client.is
    (λ some. let a = c.len.ensures in let b = c.if-len-gt0.false in omega (some, a, b, arith))
    (record {
      answers = c.take-answer.ensures.answers;
      progress = c.take-answer.ensures.progress;
      closed = c.take-answer.ensures.closed;
      starved = c.take-answer.ensures.starved;
      same =
          c.take-answer.ensures.same;
      next = c.take-answer.ensures.next;
    }) refl c.from_take.ensures
