use Rattle.std.proofs.Common.{◌≡◌, take, false}
use Rattle.std.specs.List.{list_any}
use Rattle.ua_program.specs.ScriptPrinted.{is_bad_reply}
use Rattle.ua_program.proofs.script.looped.are_bad.Given as goal

-- none so far is bad
abbrev pub invariant-loop-reply : goal.invariant-loop-reply
invariant-loop-reply l = list_any is_bad_reply (take l.reply-index l.replies) ≡ false
