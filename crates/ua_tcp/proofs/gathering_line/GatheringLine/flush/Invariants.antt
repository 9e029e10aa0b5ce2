use Rattle.std.proofs.Common.{◌≡◌, ◌-◌, length, option_map}
use Rattle.ua_tcp.proofs.gathering_line.GatheringLine.flush.Given as goal
use Rattle.ua_tcp.specs.Lines.{behind_gathered, gathered_in}

abbrev pub invariant-loop-self : goal.invariant-loop-self
invariant-loop-self g l = record {
  same : g.L.Line.failures l.self.line ≡ g.L.Line.failures l.fn.self.line;
  octets : option_map (behind_gathered (gathered_in l.self)) (g.L.Line.traffic l.self.line) ≡ option_map (behind_gathered (gathered_in l.fn.self))
      (g.L.Line.traffic l.fn.self.line);
}

abbrev pub decreases-loop-self : goal.decreases-loop-self
decreases-loop-self g l = length l.self.gathered.items - l.self.gone
