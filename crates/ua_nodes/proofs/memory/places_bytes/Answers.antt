use Rattle.std.proofs.Common.{◌*◌, min, ap, ap₂, ◌∙◌}
use Rattle.ua_nodes.proofs.Memories.{length_row}
use Rattle.ua_nodes.proofs.memory.places_bytes.Goals as goal

pub returns : goal.returns
returns c =
    c.saturating_mul.ensures
    ∙ ap₂ (λ a b. min (a * b) 18446744073709551615) c.place_of.ensures (c.len.ensures ∙ length_row c.args.items.now)
