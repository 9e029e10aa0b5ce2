use Rattle.std.proofs.Common.{◌≤◌, ◌+◌, string_bytes}
use Rattle.ua_program.proofs.ScriptTold.{Behind}
use Rattle.ua_program.proofs.script.printed.push_answers.Given as goal

-- what is left to tell stands behind the lines so far, and a line has at most one reply
abbrev pub invariant-loop-line : goal.invariant-loop-line
invariant-loop-line l = (l.place ≤ l.line-index + 2) × Behind l.plain l.names l.lines l.replies l.line-index l.place (string_bytes l.fn.out)
    (string_bytes l.out)
