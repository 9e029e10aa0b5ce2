-- The data that a DiagnosticInfo of the code stands for, and the one that is for data.
use Rattle.std.specs.Prelude.{◌≡◌, Option, Some, None}
use Rattle.ua_diagnostic.specs.Diagnostic.{DiagnosticFields, no_fields, DiagnosticData, innermost, around, diagnostic_within}
use Rattle.ua_diagnostic.specs.declared.diagnostic_info.DiagnosticInfo.{DiagnosticInfo}

-- the fields of a DiagnosticInfo of the code except its inner one
abbrev pub diagnostic_fields_of : DiagnosticInfo → DiagnosticFields
diagnostic_fields_of d = record {
  symbolic_id = d.symbolic_id;
  namespace_uri = d.namespace_uri;
  locale = d.locale;
  localized_text = d.localized_text;
  additional_info = d.additional_info;
  inner_status_code = d.inner_status_code;
}

-- the data that a DiagnosticInfo of the code stands for
abbrev pub diagnostic_of : DiagnosticInfo → DiagnosticData
diagnostic_of d = diagnostic_within d.inner (diagnostic_fields_of d)

-- the DiagnosticInfo of the code with these fields, and with an inner one if there is one
abbrev pub made_diagnostic : Option DiagnosticData → DiagnosticFields → DiagnosticInfo
made_diagnostic i f = record {
  symbolic_id = f.symbolic_id;
  namespace_uri = f.namespace_uri;
  locale = f.locale;
  localized_text = f.localized_text;
  additional_info = f.additional_info;
  inner_status_code = f.inner_status_code;
  inner = i;
}

-- the DiagnosticInfo of the code that is for the data
abbrev pub diagnostic_value : DiagnosticData → DiagnosticInfo
diagnostic_value (innermost f) = made_diagnostic None f
diagnostic_value (around f d) = made_diagnostic (Some d) f

-- the DiagnosticInfo of the code without any field
abbrev pub no_diagnostics : DiagnosticInfo
no_diagnostics = made_diagnostic None no_fields

-- a DiagnosticInfo within another value: one without any field if nothing is kept of it
abbrev pub or_innermost : Option DiagnosticData → DiagnosticData
or_innermost None = innermost no_fields
or_innermost (Some d) = d

-- what is kept of a DiagnosticInfo within another value has a field
abbrev pub KeepsDiagnosticFields : Option DiagnosticData → Type 0
KeepsDiagnosticFields None = Unit {0}
KeepsDiagnosticFields (Some d) = d ≡ innermost no_fields → ⊥
