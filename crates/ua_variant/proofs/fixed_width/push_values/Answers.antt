use Rattle.std.proofs.Common.{◌≡◌, ◌+◌, ◌-◌, length, ◌∙◌, arith, rules}
use Rattle.std.proofs.lemmas.List.{length-replicate}
use Rattle.ua_variant.proofs.BlocksRead.{leaves_at}
use Rattle.ua_variant.proofs.ValuesRead.{refilled, values_behind}
use Rattle.ua_variant.proofs.fixed_width.push_values.Goals as goal

pub returns : goal.returns
returns g c =
    let old : c.len-old.result ≡ length c.args.items.now.items = omega (arith, c.len-old.ensures) in
    record {
      read = values_behind g.T.Leaf.as_leaf (leaves_at g.T.Leaf.kind) c.args.count c.args.octets.now c.args.items.now.items c.read_values.new.values _
          (refilled c.args.items.now.items _ c.read_values.new.values c.deref_mut.result.now c.resize.new.self.items c.len-old.result
          (c.len-old.result + c.args.count - c.len-old.result) c.args.count c.resize.new.self.len old c.deref_mut.ensures.value
          c.in_ok-resize.ensures.items (length-replicate _ _ ∙ omega (arith, c.len-old.ensures, old)) (omega arith) c.in_ok-resize.ensures.len
          (c.read_values.ensures.same ∙ search rules)) c.read_values.ensures.read;
    }
