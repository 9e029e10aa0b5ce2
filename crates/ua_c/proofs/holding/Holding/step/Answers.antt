use Rattle.std.proofs.Common.{refl, arith}
use Rattle.ua_c.proofs.Served.{steps_machine}
use Rattle.ua_c.proofs.holding.Holding.step.Goals as goal

-- where nothing waits
pub returns : goal.returns
returns c = steps_machine c.args.self.now _ c.args.piece.now c.args.moment c.from_step.result c.in-Server.station c.step-answer.new.self c.step-answer.result
    c.in-Server.is
    (λ some. let a = c.len.ensures in let b = c.if-len-gt0.false in omega (some, a, b, arith))
    c.step-answer.ensures.steps c.step-answer.ensures.limits refl c.from_step.ensures
