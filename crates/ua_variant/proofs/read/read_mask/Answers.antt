use Rattle.ua_variant.proofs.VariantsRead.{data_value_none}
use Rattle.ua_variant.proofs.read.read_mask.Goals as goal

pub returns-then-depth-eq0-clause-none : goal.returns-then-depth-eq0-clause-none
returns-then-depth-eq0-clause-none g c = data_value_none c.args.depth (g.S.Source.octets c.args.src.now) c.if-depth-eq0.true
