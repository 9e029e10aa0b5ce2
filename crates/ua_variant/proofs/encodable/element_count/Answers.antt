use Rattle.std.proofs.Common.{◌∙◌}
use Rattle.ua_variant.proofs.PackedRows.{length_row}
use Rattle.ua_variant.proofs.encodable.element_count.Goals as goal

pub returns : goal.returns
returns c = c.len.ensures ∙ length_row c.args.items.now
