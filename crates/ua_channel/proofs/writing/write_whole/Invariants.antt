use Rattle.std.proofs.Common.{◌≡◌, ◌≤◌, ◌-◌, [], take, length}
use Rattle.ua_channel.specs.Line.{IfTrafficKnown, MovesTraffic}
use Rattle.ua_channel.proofs.writing.write_whole.Given as goal

abbrev pub invariant-loop-written : goal.invariant-loop-written
invariant-loop-written g l = record {
  within : l.written ≤ length l.octets;
  moved : IfTrafficKnown (MovesTraffic [] (take l.written l.octets)) (g.L.Line.traffic l.fn.line) (g.L.Line.traffic l.line);
  same : g.L.Line.failures l.line ≡ g.L.Line.failures l.fn.line;
}

abbrev pub decreases-loop-written : goal.decreases-loop-written
decreases-loop-written g l = length l.octets - l.written
