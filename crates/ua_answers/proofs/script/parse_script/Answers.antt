use Rattle.std.proofs.Common.{◌≡◌, ◌+◌, true, false, length, lit<, arith, rules, subst, sym, List, ℕ, Err}
use Rattle.std.proofs.lemmas.Iterator.Consumers.{YieldsList-turn, YieldsList-end}
use Rattle.std.proofs.lemmas.Iterator.Splits.{YieldsList-from_str_split}
use Rattle.std.proofs.lemmas.List.{length_push}
use Rattle.std.specs.Str.Lines.{strip_carriage_return}
use Rattle.ua_nodes.specs.NodeFile.{fields, is_read}
use Rattle.ua_answers.specs.Script.{GivesStep}
use Rattle.ua_answers.specs.declared.script.ScriptLine.{ScriptLine}
use Rattle.ua_answers.proofs.Scripts.{StepsOf, turn_skip, turn_step, turn_fault, turns_done}
use Rattle.ua_answers.proofs.script.parse_script.Goals as goal

pub loop-line-preserved-then-not-is_read : goal.loop-line-preserved-then-not-is_read
loop-line-preserved-then-not-is_read c =
    let at = c.loop-line in
    let t = YieldsList-turn (YieldsList-from_str_split 10 c.args.text.now (lit< tt) (cc) (cc) (cc)) at.yielded _ at.yielded_by _ _ c.in-Some.line c.in-Some.is
    c.next.ensures.steps in
    let skipped : is_read (strip_carriage_return c.in-Some.line.now) ≡ false = search rules in (
      (let long = length_push at.yielded c.in-Some.line in let was = at.invariant.0 in omega arith),
      turn_skip c.args.text.now at.number (length at.yielded) c.in-Some.line.now at.steps.items at.invariant.0 t skipped at.invariant.1,
    )

pub loop-line-preserved : goal.loop-line-preserved
loop-line-preserved c =
    let at = c.loop-line in
    let t = YieldsList-turn (YieldsList-from_str_split 10 c.args.text.now (lit< tt) (cc) (cc) (cc)) at.yielded _ at.yielded_by _ _ c.in-Some.line c.in-Some.is
    c.next.ensures.steps in
    let read : is_read (strip_carriage_return c.in-Some.line.now) ≡ true = search rules in
    let asks = rw c.without_return-line.ensures at c.in-Ok.ensures in (
      (let long = length_push at.yielded c.in-Some.line in let was = at.invariant.0 in omega arith),
      subst (λ (steps : List ScriptLine). StepsOf c.args.text.now (at.number + 1) steps) (sym {A = List ScriptLine} c.in_ok-push-in-Ok.ensures.items)
          (turn_step c.args.text.now at.number (length at.yielded) c.in-Some.line.now at.steps.items c.in-Ok.step at.invariant.0 t read at.invariant.1 asks),
    )

pub returns-in-Err-clause-fault : goal.returns-in-Err-clause-fault
returns-in-Err-clause-fault c =
    let at = c.loop-line in
    let t = YieldsList-turn (YieldsList-from_str_split 10 c.args.text.now (lit< tt) (cc) (cc) (cc)) at.yielded _ at.yielded_by _ _ c.in-Some.line c.in-Some.is
    c.next.ensures.steps in
    let read : is_read (strip_carriage_return c.in-Some.line.now) ≡ true = search rules in
    let gives = subst (λ (line : List ℕ). GivesStep (fields line) (Err c.in-Err.fault)) c.without_return-line.ensures c.in-Err.ensures in
    rw c.at.ensures (turn_fault c.args.text.now at.number (length at.yielded) c.in-Some.line.now at.steps.items c.in-Err.fault at.invariant.0 t read
    at.invariant.1 gives)

pub returns-clause-steps : goal.returns-clause-steps
returns-clause-steps c =
    let at = c.loop-line in
    let t = YieldsList-end (YieldsList-from_str_split 10 c.args.text.now (lit< tt) (cc) (cc) (cc)) at.yielded _ at.yielded_by _ _ c.in-None.is
    c.next.ensures.steps in
    turns_done c.args.text.now at.number (length at.yielded) at.steps.items at.invariant.0 t.1 at.invariant.1
