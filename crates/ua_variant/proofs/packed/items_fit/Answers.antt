use Rattle.std.proofs.Common.{sym, ◌∙◌, arith}
use Rattle.ua_variant.proofs.Fits.{same_kind}
use Rattle.ua_variant.proofs.PackedRows.{leaves_fit_after, leaves_fit_fails, other_leaf, unfit_leaf}
use Rattle.ua_variant.proofs.packed.items_fit.Goals as goal

pub returns-then-own-kind : goal.returns-then-own-kind
returns-then-own-kind g c =
    sym (leaves_fit_fails g.T.Leaf.as_leaf c.args.kind c.args.items.now c.loop-item.item-index c.item-item.result (omega arith) c.item-item.is
    (other_leaf c.args.kind (g.T.Leaf.as_leaf c.item-item.result) c.args.own (c.is_leaf.ensures.id c.item-item.result ∙ sym c.requires) c.if-own-kind.true))

pub returns-then-not-is_encodable : goal.returns-then-not-is_encodable
returns-then-not-is_encodable g c =
    sym (leaves_fit_fails g.T.Leaf.as_leaf c.args.kind c.args.items.now c.loop-item.item-index c.item-item.result (omega arith) c.item-item.is
    (unfit_leaf c.args.kind (g.T.Leaf.as_leaf c.item-item.result) (c.is_leaf.ensures.fits c.item-item.result ∙ sym c.is_encodable.ensures
    ∙ c.if-not-is_encodable.true)))

pub loop-item-preserved : goal.loop-item-preserved
loop-item-preserved g c =
    leaves_fit_after g.T.Leaf.as_leaf c.args.kind c.args.items.now c.loop-item.item-index c.item-item.result (omega arith) c.item-item.is c.loop-item.invariant
    (same_kind _ c.args.kind (c.is_leaf.ensures.id c.item-item.result ∙ sym c.requires ∙ c.if-own-kind.false)) (c.is_leaf.ensures.fits c.item-item.result
    ∙ sym c.is_encodable.ensures ∙ c.if-not-is_encodable.false)
