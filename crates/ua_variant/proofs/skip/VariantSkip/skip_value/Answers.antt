use Rattle.ua_wire.specs.Exact.{image_read, skipped}
use Rattle.ua_diagnostic.proofs.Skipped.{skipped_image, gives_on}
use Rattle.ua_variant.specs.Decoding.{variant_at}
use Rattle.ua_variant.specs.Formats.{variant_format}
use Rattle.ua_variant.specs.Values.{variant_value}
use Rattle.ua_variant.proofs.skip.VariantSkip.skip_value.Goals as goal

pub returns-clause-exact : goal.returns-clause-exact
unfolding variant_format
returns-clause-exact g c =
    gives_on (skipped (image_read variant_value (variant_at c.args.depth))) (skipped (variant_at c.args.depth)) (g.S.Source.octets c.args.src.now)
    (g.S.Source.octets c.args.src.now) (g.S.Source.octets c.skip_variant.new.src) c.skip_variant.result
    (skipped_image variant_value (variant_at c.args.depth) (g.S.Source.octets c.args.src.now)) c.skip_variant.ensures.exact
