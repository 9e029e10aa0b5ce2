use Rattle.std.proofs.Common.{◌≡◌, length, map, take}
use Rattle.ua_nodes.specs.NodeFile.{lines_of}
use Rattle.ua_node_files.specs.Namespaces.{AreNamed}
use Rattle.ua_node_files.proofs.Naming.{named_from}
use Rattle.ua_node_files.proofs.namespace.namespaces.Given as goal

-- the lines so far name the URIs so far
abbrev pub invariant-loop-line : goal.invariant-loop-line
invariant-loop-line l = (l.number ≡ length l.yielded) × AreNamed (named_from 1 (take l.number (lines_of l.text))) (map (λ uri. uri.now) l.uris.items)
