use Rattle.std.proofs.Common.{◌≡◌, ◌≤◌, ◌-◌, ◌++◌, length, take}
use Rattle.ua_wire.proofs.parts.Parts.take_across.Given as goal

abbrev pub invariant-loop-filled : goal.invariant-loop-filled
invariant-loop-filled l = (l.filled ≤ length l.out) × (length l.out ≡ length l.fn.out) × (l.fn.self ≡ take l.filled l.out ++ l.self)

abbrev pub decreases-loop-filled : goal.decreases-loop-filled
decreases-loop-filled l = length l.initial.out - l.filled
