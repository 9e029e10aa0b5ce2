use Rattle.std.proofs.Common.{arith, ◌∙◌, refl}
use Rattle.ua_channel.proofs.Moving.{told-nothing, within-piece, wrote-more}
use Rattle.ua_channel.proofs.writing.write_whole.Goals as goal

pub loop-written-init : goal.loop-written-init
loop-written-init g c = record { within = omega arith; moved = told-nothing (g.L.Line.traffic c.args.line.now); same = refl }

pub loop-written-preserved : goal.loop-written-preserved
loop-written-preserved g c = record {
  within = within-piece c.args.octets.now c.loop-written.written c.in-Ok.n c.loop-written.invariant.within c.in-Ok.ensures.within;
  moved = wrote-more c.args.octets.now c.loop-written.written c.in-Ok.n (g.L.Line.traffic c.args.line.now) (g.L.Line.traffic c.loop-written.line)
      (g.L.Line.traffic c.write.new.self) c.loop-written.invariant.moved c.in-Ok.ensures.octets;
  same = c.in-Ok.ensures.failed ∙ c.loop-written.invariant.same;
}
