use Rattle.std.proofs.Common.{◌≤◌, ◌-◌, length, take}
use Rattle.ua_judge.specs.Verdicts.{ServerAt}
use Rattle.ua_judge.proofs.client_judge.judge_client.Given as goal

abbrev pub invariant-loop-at : goal.invariant-loop-at
invariant-loop-at l = record {
  within : l.at ≤ length l.octets;
  follows : ServerAt l.fn.limits l.channel l.server (take l.at l.octets);
}

abbrev pub decreases-loop-at : goal.decreases-loop-at
decreases-loop-at l = length l.octets - l.at
