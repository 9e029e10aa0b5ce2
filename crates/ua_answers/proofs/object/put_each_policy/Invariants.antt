use Rattle.std.proofs.Common.{◌≡◌, ◌++◌, take}
use Rattle.std.specs.List.{flat_map}
use Rattle.json.specs.Tree.{json_tokens}
use Rattle.ua_answers.specs.Json.{policy_json}
use Rattle.ua_answers.proofs.object.put_each_policy.Given as goal

-- the policies so far were put
abbrev pub invariant-loop-policy : goal.invariant-loop-policy
invariant-loop-policy l = (l.line.before ≡ l.fn.line.before)
    × (l.line.tokens ≡ l.fn.line.tokens ++ flat_map (λ p. json_tokens (policy_json p)) (take l.policy-index l.policies))
