use Rattle.std.proofs.Common.{◌≡◌, ◌*◌, length, drop, sym, ap, ◌∙◌, arith}
use Rattle.std.proofs.lemmas.List.{length-set, take_rest}
use Rattle.ua_variant.specs.Leaf.{leaf_at}
use Rattle.ua_variant.specs.Least.{least_octets}
use Rattle.ua_variant.proofs.BlocksRead.{leaves_at}
use Rattle.ua_variant.proofs.ValuesRead.{image_via, value_step, values_end}
use Rattle.ua_variant.specs.Data.{leaf}
use Rattle.ua_variant.proofs.fixed_width.read_values.Goals as goal

pub values-preserved : goal.values-preserved
values-preserved g c =
    let k = g.T.Leaf.kind in
    let w = least_octets k in
    let i = c.values.i in
    let o = c.args.octets.now in
    let one = rw (c.width-width.ensures.octets, take_rest o (w * i)) at c.first.ensures.read in
    record {
      same = length-set c.values.values i c.first.result ∙ c.values.invariant.same;
      so_far = value_step g.T.Leaf.as_leaf (leaves_at k) _ w i o c.values.values c.first.result (omega arith)
          (image_via leaf (leaf_at k) (drop (w * i) o) (drop w (drop (w * i) o)) (g.T.Leaf.as_leaf c.first.result) one) c.values.invariant.so_far;
    }

pub returns-clause-read : goal.returns-clause-read
returns-clause-read g c =
    let count : c.args.count ≡ length c.values.values = sym (c.values.invariant.same ∙ c.requires.room) in
    rw (← c.requires.room) (values_end g.T.Leaf.as_leaf (leaves_at g.T.Leaf.kind) _ (least_octets g.T.Leaf.kind) c.values.i c.args.octets.now
    c.values.values (omega (arith, count))
    (c.requires.whole ∙ ap (λ n. n * least_octets g.T.Leaf.kind) count) c.values.invariant.so_far)
