use Rattle.std.proofs.Common.{refl, arith}
use Rattle.ua_c.proofs.Asked.{asks_machine}
use Rattle.ua_c.proofs.holding.Holding.ask.Goals as goal

-- where nothing waits
pub returns : goal.returns
returns c = asks_machine c.args.self.now _ c.args.body.now c.of_ask.result.0 c.of_ask.result.1 c.in-Client.client c.ask-answer.new.self c.ask-answer.result
    c.in-Client.is
    (λ some. let a = c.len.ensures in let b = c.if-len-gt0.false in omega (some, a, b, arith))
    (λ no. let a = c.if-is_empty.ensures in grind (arith, a, no))
    (record {
      answers = c.ask-answer.ensures.answers;
      sent = c.ask-answer.ensures.sent;
      refuses = c.ask-answer.ensures.refuses;
      calls = c.ask-answer.ensures.calls;
      stands = c.ask-answer.ensures.stands;
      kept = c.ask-answer.ensures.kept;
      next = c.ask-answer.ensures.next;
      done =
          c.ask-answer.ensures.done;
      same = c.ask-answer.ensures.same;
      bound = c.ask-answer.ensures.bound;
    }) refl c.of_ask.ensures
