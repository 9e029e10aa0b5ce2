use Rattle.std.proofs.Common.{List, ℕ, length, ap, arith}
use Rattle.std.specs.List.{concat}
use Rattle.ua_chunk.proofs.message.Message.source.Goals as goal

pub new-requires : goal.new-requires
new-requires c = omega (arith, c.self.invariant, ap (λ (t : List (List ℕ)). length (concat t)) c.as_slice.ensures)
