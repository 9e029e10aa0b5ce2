use Rattle.std.proofs.Common.{◌≡◌, ◌-◌, ◌*◌, length, map, take, drop}
use Rattle.ua_variant.specs.Blocks.{row_behind}
use Rattle.ua_variant.specs.Data.{leaf}
use Rattle.ua_variant.specs.Decoding.{row_at}
use Rattle.ua_variant.specs.Least.{least_octets}
use Rattle.ua_variant.proofs.BlocksRead.{leaves_at}
use Rattle.ua_variant.proofs.fixed_width.read_values.Given as goal

abbrev pub invariant-values : goal.invariant-values
invariant-values g l = record {
  same : length l.values ≡ length l.fn.values;
  so_far : row_behind (map leaf (map g.T.Leaf.as_leaf (take l.i l.values))) (length l.values - l.i) (leaves_at g.T.Leaf.kind)
      (drop (least_octets g.T.Leaf.kind * l.i) l.octets) ≡ row_at (length l.fn.values) (leaves_at g.T.Leaf.kind) l.octets;
}
