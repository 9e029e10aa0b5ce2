use Rattle.std.proofs.Common.{List, ℕ, length, ap, arith}
use Rattle.std.specs.List.{concat}
use Rattle.ua_chunk.specs.HeldParts.{held_parts}
use Rattle.ua_chunk.proofs.Lists.{length_part}
use Rattle.ua_chunk.proofs.message.Message.add.Goals as goal

pub invariant_of-self-2 : goal.invariant_of-self-2
invariant_of-self-2 c =
    omega (
      arith,
      c.in-Some.ensures,
      c.self.invariant,
      c.len.ensures.value,
      ap (λ (t : List (List ℕ)). length (concat t)) c.in_ok-push.ensures.ok,
      length_part (held_parts c.self.inside.parts) c.args.body,
    )
