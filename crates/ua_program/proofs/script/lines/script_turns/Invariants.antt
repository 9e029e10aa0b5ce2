use Rattle.std.proofs.Common.{◌≡◌, take}
use Rattle.ua_program.specs.Script.{turns_to}
use Rattle.ua_program.proofs.script.lines.script_turns.Given as goal

-- the turns of the lines so far
abbrev pub invariant-loop-index : goal.invariant-loop-index
invariant-loop-index l = l.turns.items ≡ turns_to (take l.index l.lines)
