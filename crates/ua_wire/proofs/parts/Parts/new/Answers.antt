use Rattle.std.proofs.Common.{◌+◌, arith}
use Rattle.ua_wire.proofs.PartsRead.{length_more, length_front}
use Rattle.ua_wire.proofs.parts.Parts.new.Goals as goal

pub overflow_add-left : goal.overflow_add-left
overflow_add-left c =
    omega (
      arith,
      length_more c.args.parts.now c.loop-part.part-index c.part-item.result c.loop-part-test.true c.part-item.is,
      length_front c.args.parts.now (c.loop-part.part-index + 1),
    )

pub loop-part-preserved : goal.loop-part-preserved
loop-part-preserved c = omega (arith, length_more c.args.parts.now c.loop-part.part-index c.part-item.result c.loop-part-test.true c.part-item.is)
