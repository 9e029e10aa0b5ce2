use Rattle.std.proofs.Common.{◌≡◌, length, map}
use Rattle.ua_node_files.proofs.Changing.{written_to}
use Rattle.ua_node_files.proofs.changed.lines_written.Given as goal

-- the lines so far that write nodes
abbrev pub invariant-loop-line : goal.invariant-loop-line
invariant-loop-line l = map (λ line. line.now) l.lines.items ≡ written_to l.text (length l.yielded)
