use Rattle.std.proofs.Common.{◌≡◌, take, false}
use Rattle.std.specs.List.{list_any}
use Rattle.ua_answers.specs.Replies.{is_bad_value}
use Rattle.ua_answers.proofs.reply.has_bad_value.Given as goal

-- none so far is bad
abbrev pub invariant-loop-answer : goal.invariant-loop-answer
invariant-loop-answer l = list_any is_bad_value (take l.answer-index l.answers) ≡ false
