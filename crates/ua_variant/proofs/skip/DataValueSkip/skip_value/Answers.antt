use Rattle.ua_wire.specs.Exact.{image_read, skipped}
use Rattle.ua_diagnostic.proofs.Skipped.{skipped_image, gives_on}
use Rattle.ua_variant.specs.Decoding.{data_value_at}
use Rattle.ua_variant.specs.Formats.{data_value_format}
use Rattle.ua_variant.specs.Values.{data_value_value}
use Rattle.ua_variant.proofs.skip.DataValueSkip.skip_value.Goals as goal

pub returns-clause-exact : goal.returns-clause-exact
unfolding data_value_format
returns-clause-exact g c =
    gives_on (skipped (image_read data_value_value (data_value_at c.args.depth))) (skipped (data_value_at c.args.depth)) (g.S.Source.octets c.args.src.now)
    (g.S.Source.octets c.args.src.now) (g.S.Source.octets c.skip_data_value.new.src) c.skip_data_value.result
    (skipped_image data_value_value (data_value_at c.args.depth) (g.S.Source.octets c.args.src.now)) c.skip_data_value.ensures.exact
