use Rattle.std.proofs.Common.{◌≡◌, ◌++◌, take}
use Rattle.std.specs.List.{flat_map}
use Rattle.json.specs.Tree.{json_tokens}
use Rattle.ua_answers.specs.Json.{signed_json}
use Rattle.ua_answers.proofs.object.put_sizes.Given as goal

-- the sizes so far were put
abbrev pub invariant-loop-dim : goal.invariant-loop-dim
invariant-loop-dim l = (l.line.before ≡ l.fn.line.before)
    × (l.line.tokens ≡ l.fn.line.tokens ++ flat_map (λ n. json_tokens (signed_json n)) (take l.dim-index l.dims))
