use Rattle.std.proofs.Common.{false}
use Rattle.ua_variant.specs.View.{scalar_of}
use Rattle.ua_texts.specs.Plain.{IsPlainScalar}
use Rattle.ua_answers.proofs.PlainTokens.{text_put, text_whole}
use Rattle.ua_answers.proofs.plain_object.put_plain_text.Goals as goal

pub returns : goal.returns
returns c =
    text_put c.string.result c.args.line.now c.string.new.self c.deref.result.now (IsPlainScalar c.args.names false (scalar_of c.args.scalar.now))
    c.string.ensures
    (text_whole (IsPlainScalar c.args.names false (scalar_of c.args.scalar.now)) _ _ c.deref.result.now c.new-text.ensures.bytes
    c.in_ok-push_plain_scalar.ensures c.deref.ensures)
