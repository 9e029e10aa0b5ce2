use Rattle.std.proofs.Common.{◌∙◌, subst, sym}
use Rattle.std.specs.Float.{Float, binary32}
use Rattle.ua_answers.specs.PlainJson.{IsFloatJson, PutsJson}
use Rattle.ua_texts.specs.PlainLeaf.{IsPlainFloat}
use Rattle.ua_answers.proofs.PlainTokens.{number_put, other_put, text_whole}
use Rattle.ua_answers.proofs.plain_object.put_float.Goals as goal

pub returns-then-is_finite : goal.returns-then-is_finite
returns-then-is_finite c =
    let shown = IsPlainFloat c.args.value.bits in
    subst (λ (x : Float). PutsJson c.float.result c.args.line.now c.float.new.self (IsFloatJson binary32 x shown)) c.f32_from_bits_with_nan-number.ensures
    (number_put c.float.result c.args.line.now c.float.new.self binary32 c.f32_from_bits_with_nan-number.result shown (sym c.is_finite.ensures.value
    ∙ c.if-is_finite.true) c.float.ensures.room.1.0 c.float.ensures.plain)

pub returns : goal.returns
returns c =
    let shown = IsPlainFloat c.args.value.bits in
    subst (λ (x : Float). PutsJson c.string.result c.args.line.now c.string.new.self (IsFloatJson binary32 x shown)) c.f32_from_bits_with_nan-number.ensures
    (other_put c.string.result c.args.line.now c.string.new.self binary32 c.f32_from_bits_with_nan-number.result c.deref.result.now shown
    (sym c.is_finite.ensures.value ∙ c.if-is_finite.false) c.string.ensures
    (text_whole shown _ _ c.deref.result.now c.new-text.ensures.bytes c.in_ok-push_float.ensures c.deref.ensures))
