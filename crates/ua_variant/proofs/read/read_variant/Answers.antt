use Rattle.ua_variant.specs.View.{variant_of}
use Rattle.ua_variant.specs.Decoding.{variant_at, variant_after, scalars_at}
use Rattle.ua_variant.proofs.Heads.{gives_behind}
use Rattle.ua_variant.proofs.read.read_variant.Goals as goal

pub returns-clause-exact : goal.returns-clause-exact
returns-clause-exact g c =
    gives_behind variant_of (variant_at c.args.depth) (variant_after (scalars_at c.in_ok-inner.inner) c.in_ok-inner.tag) (g.S.Source.octets c.args.src.now)
    (g.S.Source.octets c.read_tag.new.src) (g.S.Source.octets c.read_tagged.new.src) c.read_tagged.result c.in_ok-inner.ensures.ok
    c.read_tagged.ensures.exact
