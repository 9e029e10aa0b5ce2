use Rattle.std.proofs.Common.{arith}
use Rattle.ua_structures.proofs.Thinned.{claims_many}
use Rattle.ua_structures.proofs.thin.read_array.Goals as goal

pub returns-then-left-count-clause-exact : goal.returns-then-left-count-clause-exact
returns-then-left-count-clause-exact g c =
    claims_many (g.T.TakesTypes.takes c.args.types.now) c.args.depth c.in_ok-count.count (g.S.Source.octets c.args.src.now)
    (g.S.Source.octets c.read_value.new.src)
    c.in_ok-count.ensures.exact (omega arith) (omega arith)
