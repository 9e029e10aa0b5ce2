use Rattle.std.proofs.Common.{string_bytes, take}
use Rattle.ua_serving.proofs.Storing.{AddedLines}
use Rattle.ua_serving.proofs.stored.push_lines.Given as goal

-- the lines of the items so far
abbrev pub invariant-loop-item : goal.invariant-loop-item
invariant-loop-item l = AddedLines l.plain (take l.item-index l.items) (string_bytes l.fn.out) (string_bytes l.out)
