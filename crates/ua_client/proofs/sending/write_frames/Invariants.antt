use Rattle.std.proofs.Common.{◌≡◌, ◌-◌, length}
use Rattle.ua_client.proofs.Carrying.{Written}
use Rattle.ua_client.proofs.sending.write_frames.Given as goal

abbrev pub invariant-loop-at : goal.invariant-loop-at
invariant-loop-at g l = record {
  written : Written l.octets l.at (g.L.Line.traffic l.fn.line) (g.L.Line.traffic l.line);
  same : g.L.Line.failures l.line ≡ g.L.Line.failures l.fn.line;
}

abbrev pub decreases-loop-at : goal.decreases-loop-at
decreases-loop-at g l = length l.octets - l.at
