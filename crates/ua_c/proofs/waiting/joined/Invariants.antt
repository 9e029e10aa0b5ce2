use Rattle.std.proofs.Common.{◌≡◌, take}
use Rattle.std.specs.List.{concat}
use Rattle.ua_c.proofs.waiting.joined.Given as goal

-- the parts so far were added
abbrev pub invariant-loop-part : goal.invariant-loop-part
invariant-loop-part l = l.octets.items ≡ concat (take l.part-index l.part-items)
