use Rattle.ua_variant.specs.View.{scalar_of}
use Rattle.ua_texts.proofs.Rows.{at_index}
use Rattle.ua_answers.proofs.Tokens.{elements_next}
use Rattle.ua_answers.proofs.object.put_scalars.Goals as goal

pub loop-scalar-preserved : goal.loop-scalar-preserved
loop-scalar-preserved c =
    elements_next scalar_of c.args.scalars.now c.loop-scalar.scalar-index (scalar_of c.scalar-item.result) c.args.line.now c.loop-scalar.line
    c.put_scalar.new.line
    (at_index scalar_of c.args.scalars.now c.loop-scalar.scalar-index c.scalar-item.result c.loop-scalar-test.true c.scalar-item.is) c.loop-scalar.invariant
    c.in_ok-put_scalar.ensures
