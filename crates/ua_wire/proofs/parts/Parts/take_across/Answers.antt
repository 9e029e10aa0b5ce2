use Rattle.std.proofs.Common.{arith}
use Rattle.ua_wire.proofs.PartsRead.{filled_more}
use Rattle.ua_wire.proofs.parts.Parts.take_across.Goals as goal

pub loop-filled-preserved : goal.loop-filled-preserved
loop-filled-preserved c = (
  omega arith,
  omega arith,
  filled_more c.args.self.now c.loop-filled.out c.loop-filled.self c.take_run-run.result.now c.copy_from_slice.new.self c.take_run-run.new.self
      c.loop-filled.filled _ c.loop-filled.invariant.0 c.loop-filled.invariant.2
      c.take_run-run.ensures.octets c.copy_from_slice.ensures.after,
)
