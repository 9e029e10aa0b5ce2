use Rattle.std.proofs.Common.{◌≡◌, ◌≤◌, ◌-◌, drop}
use Rattle.ua_wire.proofs.parts.Parts.skip_across.Given as goal

abbrev pub invariant-loop-passed : goal.invariant-loop-passed
invariant-loop-passed l = (l.passed ≤ l.n) × (drop l.passed l.fn.self ≡ l.self)

abbrev pub decreases-loop-passed : goal.decreases-loop-passed
decreases-loop-passed l = l.n - l.passed
