use Rattle.std.proofs.Common.{◌≡◌, ◌++◌, ◌-◌, ◌≤◌, length, map, take}
use Rattle.ua_variant.specs.Canonical.{row_canonical}
use Rattle.ua_variant.specs.Data.{leaf}
use Rattle.ua_variant.specs.View.{row}
use Rattle.ua_variant.proofs.packed.append_items.Given as goal

abbrev pub invariant-loop-done : goal.invariant-loop-done
invariant-loop-done g l = record {
  so_far : l.out.items ≡ l.fn.out.items ++ row_canonical (row (map leaf (map g.T.Leaf.as_leaf (take l.done l.items))));
  done : l.done ≤ length l.items;
  block : length l.block ≡ 1024;
}

abbrev pub decreases-loop-done : goal.decreases-loop-done
decreases-loop-done g l = length l.items - l.done
