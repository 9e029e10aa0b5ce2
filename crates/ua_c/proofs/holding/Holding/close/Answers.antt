use Rattle.std.proofs.Common.{refl, arith}
use Rattle.ua_c.proofs.Asked.{closes_machine}
use Rattle.ua_c.proofs.holding.Holding.close.Goals as goal

-- where nothing waits
pub returns : goal.returns
returns c = closes_machine c.args.self.now _ c.args.moment c.of_close.result c.in-Client.client c.close-answer.new.self c.close-answer.result c.in-Client.is
    (λ some. let a = c.len.ensures in let b = c.if-len-gt0.false in omega (some, a, b, arith))
    (record {
      answers = c.close-answer.ensures.answers;
      sent = c.close-answer.ensures.sent;
      refuses = c.close-answer.ensures.refuses;
      closes = c.close-answer.ensures.closes;
      done = c.close-answer.ensures.done;
      unchanged = c.close-answer.ensures.unchanged;
      same =
          c.close-answer.ensures.same;
      bound = c.close-answer.ensures.bound;
    }) refl c.of_close.ensures
