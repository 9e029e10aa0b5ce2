use Rattle.std.proofs.Common.{◌≡◌, ◌≤◌, length, take}
use Rattle.ua_channel.specs.Client.{client_limits}
use Rattle.ua_frame.specs.After.{AllAfter}
use Rattle.ua_judge.specs.Verdicts.{GoesOnAfter, IsSent, named_asks_of, place_after}
use Rattle.ua_judge.proofs.server_judge.judge_server.Given as goal

abbrev pub invariant-loop-request : goal.invariant-loop-request
invariant-loop-request l = record {
  within : l.at ≤ length l.octets;
  last : place_after 0 (take l.request-index l.requests) ≡ l.at;
  each : AllAfter (IsSent l.fn.limits l.requests l.octets) (take l.request-index l.requests);
  follows : GoesOnAfter l.requests l.client (named_asks_of (take l.request-index l.requests)) (take l.at l.octets);
  limits : client_limits l.client ≡ l.fn.limits;
}
