use Rattle.std.proofs.Common.{◌++◌, ◌∷◌, [], take, sym, ap, ◌∙◌, arith}
use Rattle.std.proofs.lemmas.List.{flat_map_more, take_more}
use Rattle.std.proofs.lemmas.List.Sums.{AllPass-from_list_all}
use Rattle.std.specs.List.{flat_map}
use Rattle.ua_opening.proofs.array.append_items.Goals as goal

pub append-requires : goal.append-requires
append-requires g c =
    let encodable = g.T.Wire.format.encodable in
    ap encodable c.item-item.is
    ∙ AllPass-from_list_all encodable c.args.items.now c.requires c.loop-item.item-index c.item-item.result c.loop-item-test.true

pub loop-item-preserved : goal.loop-item-preserved
loop-item-preserved g c =
    c.in_ok-append.ensures.ok ∙ ap (λ xs. xs ++ g.T.Wire.format.canonical c.item-item.result) c.loop-item.invariant
    ∙ flat_map_more g.T.Wire.format.canonical c.args.out.now.items (take c.loop-item.item-index c.args.items.now) c.item-item.result
    ∙ ap (λ xs. c.args.out.now.items ++ flat_map g.T.Wire.format.canonical xs)
    (ap (λ x. take c.loop-item.item-index c.args.items.now ++ x ∷ []) c.item-item.is
    ∙ sym (take_more c.args.items.now c.loop-item.item-index c.item-item.result (omega arith)))
