use Rattle.ua_variant.specs.View.{data_value_of}
use Rattle.ua_variant.specs.Values.{data_value_value}
use Rattle.ua_variant.proofs.Viewed.{data_value_value_of}
use Rattle.ua_variant.specs.Decoding.{data_value_at}
use Rattle.ua_variant.specs.Formats.{data_value_format}
use Rattle.ua_diagnostic.proofs.DiagnosticsLawful.{gives_made}
use Rattle.ua_variant.proofs.wire.DataValueWire.read_value.Goals as goal

pub returns-clause-exact : goal.returns-clause-exact
unfolding data_value_format
returns-clause-exact g c =
    gives_made data_value_of data_value_value (data_value_at c.args.depth) data_value_value_of (g.S.Source.octets c.args.src.now)
    (g.S.Source.octets c.read_data_value.new.src) c.read_data_value.result c.read_data_value.ensures.exact
