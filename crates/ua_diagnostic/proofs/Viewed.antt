-- A DiagnosticInfo of the code and the data that it stands for give each other back.
use Rattle.std.specs.Prelude.{◌≡◌, Option, Some, None, refl}
use Rattle.ua_diagnostic.specs.Diagnostic.{DiagnosticFields, DiagnosticData, innermost, around, diagnostic_within}
use Rattle.ua_diagnostic.specs.View.{diagnostic_fields_of, diagnostic_of, made_diagnostic, diagnostic_value}
use Rattle.ua_diagnostic.specs.declared.diagnostic_info.DiagnosticInfo.{DiagnosticInfo}

pub diagnostic_forth : (d : DiagnosticData) → diagnostic_of (diagnostic_value d) ≡ d
diagnostic_forth (innermost f) = refl
diagnostic_forth (around f d) = refl

made_back : (i : Option DiagnosticData) (f : DiagnosticFields) → diagnostic_value (diagnostic_within i f) ≡ made_diagnostic i f
made_back None f = refl
made_back (Some d) f = refl

pub diagnostic_value_of : (d : DiagnosticInfo) → diagnostic_value (diagnostic_of d) ≡ d
diagnostic_value_of d = made_back d.inner (diagnostic_fields_of d)
