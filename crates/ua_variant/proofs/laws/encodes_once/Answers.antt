use Rattle.ua_wire.proofs.FormatLaws.{encodes_once_of}
use Rattle.ua_variant.specs.Formats.{variant_format, data_value_format}
use Rattle.ua_diagnostic.specs.Formats.{diagnostic_format}
use Rattle.ua_variant.proofs.VariantsLawful.{lawful_variant, lawful_data_value}
use Rattle.ua_diagnostic.proofs.DiagnosticsLawful.{lawful_diagnostic}
use Rattle.ua_variant.proofs.laws.encodes_once.Goals as goal

pub returns : goal.returns
returns c = record {
  variant = encodes_once_of variant_format lawful_variant;
  data_value = encodes_once_of data_value_format lawful_data_value;
  diagnostic = encodes_once_of diagnostic_format lawful_diagnostic;
}
