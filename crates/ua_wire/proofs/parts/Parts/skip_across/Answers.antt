use Rattle.std.proofs.Common.{arith}
use Rattle.ua_wire.proofs.PartsRead.{passed_more}
use Rattle.ua_wire.proofs.parts.Parts.skip_across.Goals as goal

pub loop-passed-preserved : goal.loop-passed-preserved
loop-passed-preserved c = (
  omega arith,
  passed_more c.args.self.now c.loop-passed.self c.take_run.result.now c.take_run.new.self c.loop-passed.passed c.loop-passed.invariant.1
      c.take_run.ensures.octets,
)
