use Rattle.std.proofs.Common.{◌≡◌, ◌≤◌, ◌-◌, List, length, take}
use Rattle.std.specs.Prelude.{max}
use Rattle.ua_channel.specs.Asks.{Placed}
use Rattle.ua_channel.specs.Client.{client_limits}
use Rattle.ua_judge.specs.Verdicts.{GoesOnAfter}
use Rattle.ua_judge.proofs.server_judge.take_to.Given as goal

abbrev pub invariant-loop-at : goal.invariant-loop-at
invariant-loop-at l = record {
  within : l.at ≤ length l.octets;
  further : l.from ≤ l.at;
  upto : l.at ≤ max l.from l.end;
  follows : (asks : List Placed) → GoesOnAfter l.requests l.fn.client asks (take l.from l.octets) → GoesOnAfter l.requests l.client asks (take l.at l.octets);
  limits : client_limits l.client ≡ client_limits l.fn.client;
}

abbrev pub decreases-loop-at : goal.decreases-loop-at
decreases-loop-at l = l.end - l.at
