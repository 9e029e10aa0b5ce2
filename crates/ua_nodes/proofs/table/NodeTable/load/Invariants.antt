use Rattle.std.proofs.Common.{◌≡◌, length, take}
use Rattle.ua_nodes.specs.NodeFile.{lines_of, WriteNodes}
use Rattle.ua_nodes.proofs.Files.{read_from}
use Rattle.ua_nodes.proofs.table.NodeTable.load.Given as goal

-- the lines so far write the nodes of the table
abbrev pub invariant-loop-line : goal.invariant-loop-line
invariant-loop-line l = (l.number ≡ length l.yielded) × WriteNodes (read_from 1 (take l.number (lines_of l.text))) l.table
