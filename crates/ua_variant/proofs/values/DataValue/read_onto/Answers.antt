use Rattle.std.proofs.Common.{◌++◌, ◌∷◌, [], List, sym}
use Rattle.ua_builtin.specs.Exact.{image_read}
use Rattle.ua_variant.specs.Decoding.{variant_at}
use Rattle.ua_variant.specs.Formats.{data_value_format}
use Rattle.ua_variant.specs.Onto.{with_last, announced_at}
use Rattle.ua_variant.specs.declared.values.DataValue.{DataValue}
use Rattle.ua_variant.proofs.Heads.{gives_behind}
use Rattle.ua_variant.proofs.OntoRead.{onto_behind}
use Rattle.ua_variant.proofs.values.DataValue.read_onto.Goals as goal

pub returns-clause-exact : goal.returns-clause-exact
returns-clause-exact g c =
    let items = c.args.items.now.items in
    let old = g.S.Source.octets c.args.src.now in
    let mid = g.S.Source.octets c.read_mask.new.src in
    gives_behind (λ _. c.push_announced.new.items.items) (image_read (λ d. items ++ d ∷ []) (data_value_format.decode c.args.depth))
    (image_read (with_last items) (announced_at c.in_ok-inner.mask c.in_ok-inner.set (variant_at c.in_ok-inner.inner))) old mid
    (g.S.Source.octets c.push_announced.new.src) c.push_announced.result
    (onto_behind items c.args.depth old (announced_at c.in_ok-inner.mask c.in_ok-inner.set (variant_at c.in_ok-inner.inner) mid)
    c.in_ok-inner.ensures.ok) (rw (sym {A = List DataValue} c.reserve.ensures.items) c.push_announced.ensures.exact)
