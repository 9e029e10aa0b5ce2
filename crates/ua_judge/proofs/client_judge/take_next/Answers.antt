use Rattle.std.proofs.Common.{◌-◌, ◌<◌, length, length-drop, length-take, take, drop, refl, subst, arith}
use Rattle.ua_judge.specs.Judging.{IsOutcome}
use Rattle.ua_judge.proofs.Pieces.{next_at}
use Rattle.ua_judge.proofs.ServerTakes.{further_by, server_took}
use Rattle.ua_judge.proofs.client_judge.take_next.Goals as goal

pub returns-in-Ok-clause-takes : goal.returns-in-Ok-clause-takes
returns-in-Ok-clause-takes c = λ limits channel s.
    server_took limits channel c.args.octets.now (take (length c.args.octets.now - c.args.at) (drop c.args.at c.args.octets.now)) c.args.at
    (length c.args.octets.now - c.args.at) c.advance-taken.result.size c.advance-taken.new.server c.advance-taken.result.outcome c.in-Ok.verdict
    (omega (arith, c.requires)) c.advance-taken.ensures.within refl (c.advance-taken.ensures.takes limits channel (take c.args.at c.args.octets.now) s)
    c.in-Ok.ensures

pub returns-in-Ok-clause-within : goal.returns-in-Ok-clause-within
returns-in-Ok-clause-within c =
    next_at c.args.octets.now (take (length c.args.octets.now - c.args.at) (drop c.args.at c.args.octets.now)) c.args.at (length c.args.octets.now - c.args.at)
    c.advance-taken.result.size (omega (arith, c.requires)) c.advance-taken.ensures.within refl

pub returns-in-Ok-clause-further : goal.returns-in-Ok-clause-further
returns-in-Ok-clause-further c = λ none.
    let some : 0 < length (take (length c.args.octets.now - c.args.at) (drop c.args.at c.args.octets.now)) =
    omega (arith, c.requires, length-take (length c.args.octets.now - c.args.at) (drop c.args.at c.args.octets.now), length-drop c.args.at c.args.octets.now) in
    let more : 0 < c.advance-taken.result.size = further_by _ _ c.advance-taken.result.size c.advance-taken.result.outcome
    (subst (IsOutcome _ c.advance-taken.result.outcome) none c.in-Ok.ensures) c.advance-taken.ensures.progress some in
    omega (arith, more)
