use Rattle.std.proofs.Common.{length, ◌-◌}
use Rattle.ua_channel.specs.inside.Ends.{EndTook}
use Rattle.ua_channel.proofs.end_core.EndCore.next_event.Given as goal

abbrev pub invariant-loop-taken : goal.invariant-loop-taken
invariant-loop-taken g l = EndTook g.R.EndRules.side l.fn.self l.self l.piece l.taken

abbrev pub decreases-loop-taken : goal.decreases-loop-taken
decreases-loop-taken g l = length l.piece - l.taken
