use Rattle.std.proofs.Common.{◌≡◌, ◌++◌, map, take}
use Rattle.std.specs.List.{flat_map}
use Rattle.ua_variant.specs.Data.{leaf}
use Rattle.ua_variant.specs.Packed.{packed_leaves}
use Rattle.ua_answers.specs.Tokens.{element_tokens}
use Rattle.ua_answers.proofs.object.put_packed.Given as goal

-- the elements so far were put
abbrev pub invariant-loop-index : goal.invariant-loop-index
invariant-loop-index l = (l.line.before ≡ l.fn.line.before)
    × (l.line.tokens ≡ l.fn.line.tokens ++ flat_map element_tokens (take l.index (map leaf (packed_leaves l.packed))))
