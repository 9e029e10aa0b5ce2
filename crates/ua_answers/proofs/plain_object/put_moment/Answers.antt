use Rattle.ua_texts.specs.PlainLeaf.{IsPlainMoment}
use Rattle.ua_answers.proofs.PlainTokens.{text_put, text_whole}
use Rattle.ua_answers.proofs.plain_object.put_moment.Goals as goal

pub returns : goal.returns
returns c =
    text_put c.string.result c.args.line.now c.string.new.self c.deref.result.now (IsPlainMoment c.args.moment) c.string.ensures
    (text_whole (IsPlainMoment c.args.moment) _ _ c.deref.result.now c.new-text.ensures.bytes c.in_ok-push_moment.ensures c.deref.ensures)
