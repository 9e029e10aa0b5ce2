use Rattle.ua_variant.proofs.VariantsLawful.{lawful_variant, lawful_data_value}
use Rattle.ua_diagnostic.proofs.DiagnosticsLawful.{lawful_diagnostic}
use Rattle.ua_variant.proofs.laws.canonical_encodes.Goals as goal

pub returns : goal.returns
returns c = record {
  variant = lawful_variant.canonical_encodes;
  data_value = lawful_data_value.canonical_encodes;
  diagnostic = lawful_diagnostic.canonical_encodes;
}
