use Rattle.std.proofs.Common.{◌≡◌, length}
use Rattle.ua_answers.proofs.Scripts.{StepsOf}
use Rattle.ua_answers.proofs.script.parse_script.Given as goal

-- the lines so far ask for the steps
abbrev pub invariant-loop-line : goal.invariant-loop-line
invariant-loop-line l = (l.number ≡ length l.yielded) × StepsOf l.text l.number l.steps.items
