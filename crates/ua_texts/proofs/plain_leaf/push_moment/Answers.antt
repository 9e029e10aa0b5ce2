use Rattle.std.proofs.Common.{refl, inl}
use Rattle.ua_texts.specs.PlainLeaf.{IsPlainMoment}
use Rattle.ua_texts.proofs.PlainAdds.{adds_if}
use Rattle.ua_texts.proofs.plain_leaf.push_moment.Goals as goal

pub returns-in-Some : goal.returns-in-Some
returns-in-Some c =
    adds_if c.push_str.result _ _ c.deref.result.now (IsPlainMoment c.args.value) c.push_str.ensures.bytes
    (rw c.deref.ensures.0 (inl (c.in-Some.ensures.some.0 refl, c.in-Some.ensures.form)))
