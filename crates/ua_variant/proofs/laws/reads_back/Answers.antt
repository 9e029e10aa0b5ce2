use Rattle.ua_wire.proofs.FormatLaws.{reads_back_of}
use Rattle.ua_variant.specs.Formats.{variant_format, data_value_format}
use Rattle.ua_diagnostic.specs.Formats.{diagnostic_format}
use Rattle.ua_variant.proofs.VariantsLawful.{lawful_variant, lawful_data_value}
use Rattle.ua_diagnostic.proofs.DiagnosticsLawful.{lawful_diagnostic}
use Rattle.ua_variant.proofs.laws.reads_back.Goals as goal

pub returns : goal.returns
returns c = record {
  variant = reads_back_of variant_format lawful_variant;
  data_value = reads_back_of data_value_format lawful_data_value;
  diagnostic = reads_back_of diagnostic_format lawful_diagnostic;
}
