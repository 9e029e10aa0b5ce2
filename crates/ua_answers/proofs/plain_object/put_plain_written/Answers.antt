use Rattle.std.proofs.Common.{◌≡◌, false, rules}
use Rattle.ua_variant.specs.Encodable.{variant_encodable}
use Rattle.ua_variant.specs.View.{variant_of}
use Rattle.ua_answers.proofs.PlainTokens.{unwritable_put}
use Rattle.ua_answers.proofs.plain_object.put_plain_written.Goals as goal

pub returns-else-writable : goal.returns-else-writable
returns-else-writable c =
    let none : variant_encodable (variant_of c.args.value.now) ≡ false = search rules in
    unwritable_put c.put_unwritable.result c.args.line.now c.put_unwritable.new.line c.args.names (variant_of c.args.value.now) none c.put_unwritable.ensures
