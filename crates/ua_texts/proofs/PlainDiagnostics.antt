-- DiagnosticInfos without any field.
use Rattle.std.proofs.Common.{◌≡◌, Bool, [], refl}
use Rattle.ua_diagnostic.specs.Diagnostic.{no_fields}
use Rattle.ua_texts.specs.PlainDiagnostic.{diagnostic_parts}

pub no_parts : (names : Bool) → diagnostic_parts names no_fields ≡ []
unfolding diagnostic_parts
no_parts names = refl
