use Rattle.std.proofs.Common.{string_bytes, take}
use Rattle.ua_answers.specs.PlainAnswers.{ArePlainReads}
use Rattle.ua_answers.proofs.PlainPairs.{Grown}
use Rattle.ua_answers.proofs.plain_reply.push_plain_read_lines.Given as goal

-- the lines so far were added
abbrev pub invariant-loop-index : goal.invariant-loop-index
invariant-loop-index l = Grown (string_bytes l.fn.out) (string_bytes l.out) (ArePlainReads l.style (take l.index l.nodes) (take l.index l.answers))
