use Rattle.ua_variant.specs.Data.{leaf}
use Rattle.ua_variant.specs.Packed.{packed_leaves}
use Rattle.ua_variant.specs.View.{scalar_of}
use Rattle.ua_answers.proofs.Tokens.{elements_next}
use Rattle.ua_answers.proofs.object.put_packed.Goals as goal

pub loop-index-preserved : goal.loop-index-preserved
loop-index-preserved c = elements_next leaf (packed_leaves c.args.packed.now) c.loop-index.index (scalar_of c.in-Some.scalar) c.args.line.now c.loop-index.line
    c.put_scalar.new.line c.in-Some.ensures c.loop-index.invariant c.in_ok-put_scalar.ensures
