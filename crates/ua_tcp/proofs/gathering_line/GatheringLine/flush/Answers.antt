use Rattle.std.proofs.Common.{◌∙◌}
use Rattle.ua_tcp.proofs.Gathering.{went-on}
use Rattle.ua_tcp.proofs.gathering_line.GatheringLine.flush.Goals as goal

pub loop-self-preserved : goal.loop-self-preserved
loop-self-preserved g c = record {
  same = c.in-Ok.ensures.failed ∙ c.loop-self.invariant.same;
  octets = went-on c.in-Ok.n c.loop-self.self.gone c.loop-self.self.gathered.items c.deref.result.now (g.L.Line.traffic c.loop-self.self.line)
      (g.L.Line.traffic c.write.new.self) _
      c.deref.ensures.value c.in-Ok.ensures.octets c.loop-self.invariant.octets;
}
