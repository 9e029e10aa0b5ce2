use Rattle.std.proofs.Common.{◌≡◌, ◌++◌, map, take}
use Rattle.std.specs.List.{flat_map}
use Rattle.ua_variant.specs.View.{scalar_of}
use Rattle.ua_answers.specs.Tokens.{element_tokens}
use Rattle.ua_answers.proofs.object.put_scalars.Given as goal

-- the elements so far were put
abbrev pub invariant-loop-scalar : goal.invariant-loop-scalar
invariant-loop-scalar l = (l.line.before ≡ l.fn.line.before)
    × (l.line.tokens ≡ l.fn.line.tokens ++ flat_map element_tokens (take l.scalar-index (map scalar_of l.scalars)))
