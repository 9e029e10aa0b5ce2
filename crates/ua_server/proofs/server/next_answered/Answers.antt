use Rattle.std.proofs.Common.{rules, ◌≡◌, ◌∙◌, true}
use Rattle.ua_server.specs.Stepping.{is_given_up}
use Rattle.ua_server.proofs.Bounds.{passed-bound}
use Rattle.ua_server.proofs.Passing.{first-passed, next-passed, at-last, all-passed, progress-on, all-progress}
use Rattle.ua_server.proofs.server.next_answered.Goals as goal

pub loop-taken-init : goal.loop-taken-init
loop-taken-init c =
    let given : is_given_up c.advance-size.result.outcome ≡ true = search rules in
    first-passed c.args.channel.now c.advance-size.new.self c.args.moment c.args.piece.now c.advance-size.result.size c.advance-size.result.outcome
    c.advance-size.ensures.answers c.advance-size.ensures.progress (λ d. (c.advance-size.ensures.closed d).1) c.advance-size.ensures.limits
    c.advance-size.ensures.channel given

pub returns-then-not-is_given_up-2-clause-answers : goal.returns-then-not-is_given_up-2-clause-answers
returns-then-not-is_given_up-2-clause-answers c =
    at-last c.args.channel.now c.loop-taken.channel c.advance-size-in-loop-taken.new.self c.args.moment c.args.piece.now c.loop-taken.taken
    c.advance-size-in-loop-taken.result.size c.advance-size-in-loop-taken.result.outcome
    c.loop-taken.invariant c.advance-size-in-loop-taken.ensures.answers c.advance-size-in-loop-taken.ensures.limits
    c.advance-size-in-loop-taken.ensures.channel

pub loop-taken-preserved : goal.loop-taken-preserved
loop-taken-preserved c =
    let given : is_given_up c.advance-size-in-loop-taken.result.outcome ≡ true = search rules in
    next-passed c.args.channel.now c.loop-taken.channel c.advance-size-in-loop-taken.new.self c.args.moment c.args.piece.now c.loop-taken.taken
    c.advance-size-in-loop-taken.result.size c.advance-size-in-loop-taken.result.outcome
    c.loop-taken.invariant c.advance-size-in-loop-taken.ensures.answers c.advance-size-in-loop-taken.ensures.progress
    c.advance-size-in-loop-taken.ensures.limits c.advance-size-in-loop-taken.ensures.channel given

pub returns-clause-answers : goal.returns-clause-answers
returns-clause-answers c = all-passed c.args.channel.now c.loop-taken.channel c.args.moment c.args.piece.now c.loop-taken.taken c.loop-taken.invariant
    c.loop-taken-test.false

pub returns-then-not-is_given_up-2-clause-progress : goal.returns-then-not-is_given_up-2-clause-progress
returns-then-not-is_given_up-2-clause-progress c =
    progress-on c.args.channel.now c.loop-taken.channel c.args.piece.now c.loop-taken.taken c.advance-size-in-loop-taken.result.size
    c.advance-size-in-loop-taken.result.outcome c.loop-taken.invariant c.advance-size-in-loop-taken.ensures.progress

pub returns-clause-progress : goal.returns-clause-progress
returns-clause-progress c = all-progress c.args.channel.now c.loop-taken.channel c.args.piece.now c.loop-taken.taken c.loop-taken.invariant

pub returns-then-not-is_given_up-2-clause-starved : goal.returns-then-not-is_given_up-2-clause-starved
returns-then-not-is_given_up-2-clause-starved c = λ octets told g fails.
    c.advance-size-in-loop-taken.ensures.starved fails ∙ passed-bound c.args.channel.now c.loop-taken.channel c.args.piece.now c.loop-taken.taken octets told
    c.loop-taken.invariant g
