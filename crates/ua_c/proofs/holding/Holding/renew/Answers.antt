use Rattle.std.proofs.Common.{refl, arith}
use Rattle.ua_c.proofs.Asked.{renews_machine}
use Rattle.ua_c.proofs.holding.Holding.renew.Goals as goal

-- where nothing waits
pub returns : goal.returns
returns c = renews_machine c.args.self.now _ c.args.moment c.of_ask.result.0 c.of_ask.result.1 c.in-Client.client c.renew-answer.new.self c.renew-answer.result
    c.in-Client.is
    (λ some. let a = c.len.ensures in let b = c.if-len-gt0.false in omega (some, a, b, arith))
    (record {
      answers = c.renew-answer.ensures.answers;
      sent = c.renew-answer.ensures.sent;
      refuses = c.renew-answer.ensures.refuses;
      renews = c.renew-answer.ensures.renews;
      stands = c.renew-answer.ensures.stands;
      unchanged = c.renew-answer.ensures.unchanged;
      same =
          c.renew-answer.ensures.same;
      bound = c.renew-answer.ensures.bound;
    }) refl c.of_ask.ensures
