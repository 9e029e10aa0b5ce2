use Rattle.std.proofs.Common.{arith, ap, sym, subst, ◌∙◌, length}
use Rattle.std.specs.Str.{IsUtf8}
use Rattle.ua_wire.proofs.FrontsRead.{utf8_front}
use Rattle.ua_wire.proofs.short_text.ShortText.of.Goals as goal

pub invariant_of-result : goal.invariant_of-result
invariant_of-result c =
    let same = c.copy_from_slice.ensures.after ∙ c.as_bytes.ensures.value in
    (omega arith, utf8_front c.copy_from_slice.new.self _ _ (ap length same) (subst IsUtf8 (sym same) c.utf8.text))
