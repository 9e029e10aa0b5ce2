use Rattle.ua_variant.specs.View.{variant_of}
use Rattle.ua_variant.specs.Values.{variant_value}
use Rattle.ua_variant.proofs.Viewed.{variant_value_of}
use Rattle.ua_variant.specs.Decoding.{variant_at}
use Rattle.ua_variant.specs.Formats.{variant_format}
use Rattle.ua_diagnostic.proofs.DiagnosticsLawful.{gives_made}
use Rattle.ua_variant.proofs.wire.VariantWire.read_value.Goals as goal

pub returns-clause-exact : goal.returns-clause-exact
unfolding variant_format
returns-clause-exact g c =
    gives_made variant_of variant_value (variant_at c.args.depth) variant_value_of (g.S.Source.octets c.args.src.now) (g.S.Source.octets c.read_variant.new.src)
    c.read_variant.result c.read_variant.ensures.exact
