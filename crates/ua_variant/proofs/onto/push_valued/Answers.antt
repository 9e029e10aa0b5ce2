use Rattle.std.proofs.Common.{◌∙◌, arith}
use Rattle.ua_builtin.specs.Exact.{image_read}
use Rattle.ua_variant.specs.Decoding.{variant_at, variant_after, scalars_at}
use Rattle.ua_variant.specs.Onto.{with_last, valued_at, leaf_valued_at}
use Rattle.ua_variant.proofs.Heads.{gives_behind}
use Rattle.ua_variant.proofs.OntoRead.{valued_behind, valued_number}
use Rattle.ua_variant.proofs.onto.push_valued.Goals as goal

pub returns-then-tag-le11-clause-exact : goal.returns-then-tag-le11-clause-exact
returns-then-tag-le11-clause-exact g c =
    let items = c.args.items.now.items in
    let old = g.S.Source.octets c.args.src.now in
    let mid = g.S.Source.octets c.read_tag.new.src in
    gives_behind (λ _. c.push_number.new.items.items) (image_read (with_last items) (valued_at c.args.mask (variant_at c.args.depth)))
    (image_read (with_last items) (leaf_valued_at c.args.mask c.in_ok-inner.tag)) old mid (g.S.Source.octets c.push_number.new.src) c.push_number.result
    (valued_behind items c.args.mask c.args.depth c.in_ok-inner.inner c.in_ok-inner.tag old mid c.in_ok-inner.ensures.ok
    ∙ valued_number items c.args.mask c.in_ok-inner.inner c.in_ok-inner.tag mid (omega arith) (omega arith)) c.push_number.ensures.exact

pub returns-clause-exact : goal.returns-clause-exact
returns-clause-exact g c =
    let items = c.args.items.now.items in
    let old = g.S.Source.octets c.args.src.now in
    let mid = g.S.Source.octets c.read_tag.new.src in
    gives_behind (λ _. c.push_other.new.items.items) (image_read (with_last items) (valued_at c.args.mask (variant_at c.args.depth)))
    (image_read (with_last items) (valued_at c.args.mask (variant_after (scalars_at c.in_ok-inner.inner) c.in_ok-inner.tag))) old mid
    (g.S.Source.octets c.push_other.new.src) c.push_other.result
    (valued_behind items c.args.mask c.args.depth c.in_ok-inner.inner c.in_ok-inner.tag old mid c.in_ok-inner.ensures.ok) c.push_other.ensures.exact
