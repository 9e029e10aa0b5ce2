use Rattle.std.proofs.Common.{◌≡◌, ◌++◌, string_bytes, take}
use Rattle.ua_answers.specs.Answers.{write_lines}
use Rattle.ua_answers.proofs.reply.push_write_lines.Given as goal

-- the lines so far were added
abbrev pub invariant-loop-index : goal.invariant-loop-index
invariant-loop-index l = string_bytes l.out ≡ string_bytes l.fn.out ++ write_lines l.style (take l.index l.nodes) (take l.index l.answers)
