use Rattle.std.proofs.Common.{ℕ, List, length, subst, arith}
use Rattle.std.proofs.lemmas.List.{take_all}
use Rattle.std.specs.List.{All}
use Rattle.ua_texts.specs.Shown.{IsPlainOctet}
use Rattle.ua_texts.proofs.Escapes.{both_true, escaped_plain, next_plain}
use Rattle.ua_texts.proofs.text.is_plain.Goals as goal

pub loop-octet-preserved : goal.loop-octet-preserved
loop-octet-preserved c both =
    let each = both_true c.loop-octet.plain c.is_plain_octet-plain.result both in
    next_plain c.as_bytes-octet-items.result.now c.loop-octet.octet-index 0 c.loop-octet-test.true (c.loop-octet.invariant each.0)
    (c.is_plain_octet-plain.ensures each.1)

pub returns : goal.returns
returns c plain =
    let octets = c.as_bytes-octet-items.result.now in
    let all : All IsPlainOctet octets = subst (λ (xs : List ℕ). All IsPlainOctet xs)
    (take_all c.loop-octet.octet-index octets (omega arith)) (c.loop-octet.invariant plain) in
    escaped_plain c.args.text.now (subst (λ (xs : List ℕ). All IsPlainOctet xs) c.as_bytes-octet-items.ensures.value all)
