-- What is directly in a DiagnosticInfo is smaller than it.
use Rattle.std.specs.Prelude.{Option, Some, None, option_map, ◌+◌, ◌≤◌, max}
use Rattle.std.proofs.Math.Nat.{add_comm, le_of_eq, max-le}
use Rattle.std.proofs.Common.{Box, Global, zero-le}
use Rattle.ua_diagnostic.specs.Diagnostic.{DiagnosticFields, DiagnosticData, diagnostic_within, diagnostic_depth}
use Rattle.ua_diagnostic.specs.View.{diagnostic_fields_of, diagnostic_of, made_diagnostic, or_innermost}
use Rattle.ua_diagnostic.specs.declared.diagnostic_info.DiagnosticInfo.{DiagnosticInfo}
use Rattle.ua_diagnostic.specs.declared.diagnostic_info.BoxedDiagnostic.TheDeep.{deep-DiagnosticInfo, deep-BoxedDiagnostic}

made_falls : (i : Option DiagnosticData) (f : DiagnosticFields) → max (deep-DiagnosticInfo (made_diagnostic i f)) 0
    ≤ diagnostic_depth (diagnostic_within i f)
made_falls None f = zero-le
made_falls (Some d) f = max-le (max-le (max-le (le_of_eq (add_comm (diagnostic_depth d) 1)) zero-le) zero-le) zero-le

pub diagnostic_falls : (d : DiagnosticInfo) → max (deep-DiagnosticInfo d) 0 ≤ diagnostic_depth (diagnostic_of d)
diagnostic_falls d = made_falls d.inner (diagnostic_fields_of d)

pub boxed_diagnostic_falls : (o : Option (Box DiagnosticInfo Global))
    → deep-BoxedDiagnostic (record { inner = o }) ≤ diagnostic_depth (or_innermost (option_map (λ b. diagnostic_of b.value) o))
boxed_diagnostic_falls None = zero-le
boxed_diagnostic_falls (Some b) = max-le (diagnostic_falls b.value) zero-le
