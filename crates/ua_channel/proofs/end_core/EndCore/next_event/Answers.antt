use Rattle.std.proofs.Common.{◌∙◌, Ok, Err, Some, ap}
use Rattle.ua_channel.proofs.Ends.{fails_by, moved_by, moves_nothing, tells_by, took_all, took_by, took_nothing}
use Rattle.ua_channel.proofs.end_core.EndCore.next_event.Goals as goal

pub loop-taken-init : goal.loop-taken-init
loop-taken-init g c = took_nothing g.R.EndRules.side c.args.self.now c.args.piece.now

pub loop-taken-preserved : goal.loop-taken-preserved
loop-taken-preserved g c = took_by c.args.piece.now c.loop-taken.taken c.step-size.result.size c.loop-taken-test.true g.R.EndRules.side c.args.self.now
    c.loop-taken.self c.step-size.new.self c.loop-taken.invariant c.step-size.result.outcome c.step-size.ensures.steps c.step-size.ensures.moves
    (c.in-Ok-None.is ∙ ap Ok c.in-Ok-None.field-0-is) c.step-size.ensures.kept

pub returns-in-Ok-Some-clause-nexts : goal.returns-in-Ok-Some-clause-nexts
returns-in-Ok-Some-clause-nexts g c = tells_by c.args.piece.now c.loop-taken.taken c.step-size.result.size c.loop-taken-test.true g.R.EndRules.side
    c.args.self.now c.loop-taken.self c.step-size.new.self c.loop-taken.invariant c.step-size.result.outcome c.step-size.ensures.steps c.step-size.ensures.moves
    c.in-Ok-Some.event (c.in-Ok-Some.is ∙ ap Ok c.in-Ok-Some.field-0-is)

pub returns-in-Err-clause-nexts : goal.returns-in-Err-clause-nexts
returns-in-Err-clause-nexts g c = fails_by c.args.piece.now c.loop-taken.taken c.step-size.result.size c.loop-taken-test.true g.R.EndRules.side c.args.self.now
    c.loop-taken.self c.step-size.new.self c.loop-taken.invariant c.step-size.result.outcome c.step-size.ensures.steps c.step-size.ensures.moves c.in-Err.fault
    c.in-Err.is

pub returns-clause-nexts : goal.returns-clause-nexts
returns-clause-nexts g c = took_all g.R.EndRules.side c.args.self.now c.loop-taken.self c.args.piece.now c.loop-taken.taken c.loop-taken.invariant
    c.loop-taken-test.false

pub returns-in-Ok-Some-clause-moves : goal.returns-in-Ok-Some-clause-moves
returns-in-Ok-Some-clause-moves g c = moved_by c.args.piece.now c.loop-taken.taken c.step-size.result.size c.loop-taken-test.true c.step-size.result.outcome
    (Ok (Some c.in-Ok-Some.event)) (c.in-Ok-Some.is ∙ ap Ok c.in-Ok-Some.field-0-is) c.step-size.ensures.moves

pub returns-in-Err-clause-moves : goal.returns-in-Err-clause-moves
returns-in-Err-clause-moves g c = moved_by c.args.piece.now c.loop-taken.taken c.step-size.result.size c.loop-taken-test.true c.step-size.result.outcome
    (Err c.in-Err.fault) c.in-Err.is c.step-size.ensures.moves

pub returns-clause-moves : goal.returns-clause-moves
returns-clause-moves g c = moves_nothing c.args.piece.now c.loop-taken.taken c.loop-taken.invariant.within c.loop-taken-test.false
