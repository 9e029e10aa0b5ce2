use Rattle.std.proofs.Common.{◌≤◌, length}
use Rattle.std.specs.List.{concat}
use Rattle.test_values.proofs.services.single_octets.Given as goal

abbrev pub invariant-loop-i : goal.invariant-loop-i
invariant-loop-i l = length (concat l.parts.items) ≤ l.i
