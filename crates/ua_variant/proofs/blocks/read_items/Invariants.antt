use Rattle.std.proofs.Common.{◌≡◌, ◌-◌, ◌≤◌, length, map}
use Rattle.ua_wire.specs.Format.{StaysBehind}
use Rattle.ua_variant.specs.Blocks.{row_behind}
use Rattle.ua_variant.specs.Data.{leaf}
use Rattle.ua_variant.specs.Decoding.{row_at}
use Rattle.ua_variant.proofs.BlocksRead.{leaves_at}
use Rattle.ua_variant.proofs.blocks.read_items.Given as goal

abbrev pub invariant-loop-done : goal.invariant-loop-done
invariant-loop-done g l = record {
  so_far : row_behind (map leaf (map g.T.Leaf.as_leaf l.items.items)) (l.count - l.done) (leaves_at g.T.Leaf.kind) (g.S.Source.octets l.src)
      ≡ row_at l.count (leaves_at g.T.Leaf.kind) (g.S.Source.octets l.fn.src);
  behind : StaysBehind (g.S.Source.octets l.fn.src) (g.S.Source.octets l.src);
  done : l.done ≤ l.count;
  block : length l.block ≡ 1024;
}

abbrev pub decreases-loop-done : goal.decreases-loop-done
decreases-loop-done g l = l.count - l.done
