use Rattle.std.proofs.Common.{arith}
use Rattle.ua_variant.specs.Formats.{data_value_format}
use Rattle.ua_variant.proofs.VariantsLawful.{lawful_data_value}
use Rattle.ua_opening.proofs.ItemsRead.{claims_more}
use Rattle.ua_structures.proofs.data_values.read_data_values.Goals as goal

pub returns-then-left-count-clause-exact : goal.returns-then-left-count-clause-exact
returns-then-left-count-clause-exact g c = claims_more data_value_format lawful_data_value c.args.depth c.in_ok-count.count (g.S.Source.octets c.args.src.now) _
    c.in_ok-count.ensures.exact (omega arith) (omega arith)
