use Rattle.std.proofs.Common.{◌≡◌, ◌≤◌, length, take}
use Rattle.ua_judge.specs.Names.{rank, is_known}
use Rattle.ua_judge.proofs.named.rank_of.Given as goal

abbrev pub invariant-loop-at : goal.invariant-loop-at
invariant-loop-at l = record {
  within : l.at ≤ length l.names;
  none_later : rank (is_known l.number l.end) l.names ≡ rank (is_known l.number l.end) (take l.at l.names);
}

abbrev pub decreases-loop-at : goal.decreases-loop-at
decreases-loop-at l = l.at
