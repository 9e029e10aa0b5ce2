use Rattle.std.proofs.Common.{◌∙◌, ap, ◌++◌, List, ℕ}
use Rattle.ua_c.proofs.Parts.{one_more}
use Rattle.ua_c.proofs.waiting.joined.Goals as goal

-- one part more
pub loop-part-preserved : goal.loop-part-preserved
loop-part-preserved c =
    one_more c.parts-part-items.result.now c.loop-part.part-index c.part-item.result c.loop-part.octets.items c.extend_from_slice.new.self.items
    c.loop-part-test.true c.part-item.is c.loop-part.invariant (c.in_ok-extend_from_slice.ensures.items
    ∙ ap (λ (t : List ℕ). c.loop-part.octets.items ++ t) c.deref.ensures)
