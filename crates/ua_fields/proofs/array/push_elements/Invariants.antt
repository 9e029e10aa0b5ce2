use Rattle.std.proofs.Common.{map, string_bytes, take}
use Rattle.ua_fields.specs.Tree.{AreElementsBehind, tree_elements}
use Rattle.ua_fields.proofs.array.push_elements.Given as goal

-- the elements so far were added
abbrev pub invariant-loop-index : goal.invariant-loop-index
invariant-loop-index g l =
    AreElementsBehind l.place.style l.place.margin.now l.place.path.now 0 (string_bytes l.fn.out)
    (tree_elements (map g.T.Lines.tree (take l.index l.items))) (string_bytes l.out)
