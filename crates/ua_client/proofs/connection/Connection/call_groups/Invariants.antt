use Rattle.std.proofs.Common.{◌≡◌, ◌≤◌, ◌<◌, ◌-◌, ◌+◌, length, take}
use Rattle.ua_client.proofs.Grouping.{Called}
use Rattle.ua_client.proofs.connection.Connection.call_groups.Given as goal

abbrev pub invariant-loop-start : goal.invariant-loop-start
invariant-loop-start g l = record {
  within : l.start ≤ length l.requests;
  count : length l.replies.items ≡ length l.fn.replies.items + l.start;
  called : Called (take l.start l.requests) (l.start < length l.requests) l.fn.self l.self (g.L.Line.traffic l.fn.line) (g.L.Line.traffic l.line) l.reads
      l.fn.replies.items l.replies.items;
  same : g.L.Line.failures l.line ≡ g.L.Line.failures l.fn.line;
}

abbrev pub decreases-loop-start : goal.decreases-loop-start
decreases-loop-start g l = length l.requests - l.start
