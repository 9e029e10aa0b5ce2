use Rattle.std.proofs.Common.{refl, ap}
use Rattle.std.proofs.lemmas.Str.{is_utf8-from_IsUtf8}
use Rattle.ua_wire.proofs.Readers.{not_false}
use Rattle.ua_wire.proofs.FrontsRead.{not_utf8}
use Rattle.ua_wire.proofs.counted.text_of.Goals as goal

pub returns-then-not-is_utf8 : goal.returns-then-not-is_utf8
returns-then-not-is_utf8 c = rw c.deref.ensures.value at (not_utf8 c.deref.result.now (λ u. not_false (c.if-not-is_utf8.ensures.1 u)))

pub returns : goal.returns
returns c = (
  rw c.deref.ensures.value at (is_utf8-from_IsUtf8 c.deref.result.now (c.if-not-is_utf8.ensures.0 refl)),
  ap (λ v. v.items) c.from_utf8_unchecked.ensures.value,
)
