use Rattle.std.proofs.Common.{◌-◌, map, sym, ap, ◌∙◌}
use Rattle.ua_variant.specs.Data.{leaf}
use Rattle.ua_variant.specs.Packed.{packed_leaves}
use Rattle.ua_variant.specs.View.{elements_of, scalar_of}
use Rattle.ua_variant.proofs.PackedRows.{part_of}
use Rattle.ua_variant.proofs.values.Scalars.part.Goals as goal

pub returns-in_ok-part-in-Packed : goal.returns-in_ok-part-in-Packed
returns-in_ok-part-in-Packed c =
    let all = ap elements_of (sym c.in-Packed.is) ∙ c.elements.ensures in
    c.packed.ensures ∙ ap (map leaf) c.in_ok-part-in-Packed.ensures
    ∙ part_of leaf c.args.from (c.args.to - c.args.from) (packed_leaves c.in-Packed.packed) c.args.self.now all

pub returns-in_ok-copy_scalars-in-Mixed : goal.returns-in_ok-copy_scalars-in-Mixed
returns-in_ok-copy_scalars-in-Mixed c =
    let all = ap elements_of (sym c.in-Mixed.is) ∙ c.elements.ensures in
    c.new.ensures ∙ c.in_ok-copy_scalars-in-Mixed.ensures ∙ part_of scalar_of c.args.from (c.args.to - c.args.from) c.deref.result.now c.args.self.now
    (ap (map scalar_of) c.deref.ensures.value ∙ all)
