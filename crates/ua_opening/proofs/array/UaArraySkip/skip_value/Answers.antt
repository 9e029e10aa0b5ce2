use Rattle.std.proofs.Common.{ap, arith}
use Rattle.ua_opening.proofs.ItemsRead.{claims_more}
use Rattle.ua_opening.proofs.ItemsSkipped.{rest}
use Rattle.ua_opening.proofs.array.UaArraySkip.skip_value.Goals as goal

pub returns-then-left-count-clause-exact : goal.returns-then-left-count-clause-exact
returns-then-left-count-clause-exact g c =
    ap rest (claims_more g.T.Wire.format c.lawful.ensures c.args.depth c.in_ok-count.count (g.S.Source.octets c.args.src.now) _ c.in_ok-count.ensures.exact
    (omega arith) (omega arith))
