use Rattle.std.proofs.Common.{◌≡◌, take, true}
use Rattle.std.specs.List.{list_all}
use Rattle.ua_builtin.specs.DateTime.{date_time}
use Rattle.ua_loopback.proofs.conversation.times_are_encodable.Given as goal

abbrev pub invariant-loop-time : goal.invariant-loop-time
invariant-loop-time l = list_all date_time.encodable (take l.time-index l.times) ≡ true
