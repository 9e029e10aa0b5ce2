-- A DiagnosticInfo without any field: it can be written, as one octet.
use Rattle.std.proofs.Common.{◌≡◌, true, [], ◌∷◌, refl}
use Rattle.ua_diagnostic.specs.Diagnostic.{innermost, no_fields, diagnostic_fits, diagnostic_fields_encodable}
use Rattle.ua_diagnostic.specs.Diagnostic.{diagnostic_canonical, diagnostic_fields_canonical, diagnostic_flags}

pub empty_fits : diagnostic_fits (innermost no_fields) ≡ true
unfolding diagnostic_fields_encodable
empty_fits = refl

pub empty_canonical : diagnostic_canonical (innermost no_fields) ≡ 0 ∷ []
unfolding diagnostic_fields_canonical diagnostic_flags
empty_canonical = refl
