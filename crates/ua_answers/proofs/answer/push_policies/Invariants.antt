use Rattle.std.proofs.Common.{◌≡◌, ◌++◌, string_bytes, take}
use Rattle.std.specs.List.{flat_map}
use Rattle.ua_answers.specs.Answers.{policy_line}
use Rattle.ua_answers.proofs.answer.push_policies.Given as goal

-- the lines so far were added
abbrev pub invariant-loop-policy : goal.invariant-loop-policy
invariant-loop-policy l = string_bytes l.out ≡ string_bytes l.fn.out ++ flat_map policy_line (take l.policy-index l.policies)
