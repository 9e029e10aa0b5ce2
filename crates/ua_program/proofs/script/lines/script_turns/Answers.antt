use Rattle.std.proofs.Common.{sym, ◌∙◌}
use Rattle.ua_program.proofs.ScriptTurns.{turns-added, turns_to-nil}
use Rattle.ua_program.proofs.script.lines.script_turns.Goals as goal

pub loop-index-init : goal.loop-index-init
loop-index-init c = c.in_ok-turns.ensures ∙ sym turns_to-nil

pub loop-index-preserved : goal.loop-index-preserved
loop-index-preserved c =
    let at = c.loop-index in
    turns-added c.args.lines.now at.index c.handle_behind.result c.index-lines-index.result at.turns.items c.push.new.self.items c.in_ok-step_turn.field-0
    c.loop-index-test.true c.index-lines-index.is
    c.handle_behind.ensures c.in_ok-step_turn.ensures at.invariant c.in_ok-push.ensures.items
