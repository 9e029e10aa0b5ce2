use Rattle.std.proofs.Common.{◌≡◌, take, false}
use Rattle.std.specs.List.{list_any}
use Rattle.ua_builtin.specs.Status.{is_bad}
use Rattle.ua_answers.proofs.reply.has_bad_status.Given as goal

-- none so far is bad
abbrev pub invariant-loop-status : goal.invariant-loop-status
invariant-loop-status l = list_any is_bad (take l.status-index l.statuses) ≡ false
