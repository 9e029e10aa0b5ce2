-- What the writer of a DiagnosticInfo knows of its fields.
use Rattle.std.proofs.Common.{◌≡◌, true, IsTrue, ◌&&◌}
use Rattle.std.specs.Prelude.{leb, is_some}
use Rattle.std.specs.Int.{w32}
use Rattle.ua_wire.specs.Format.{most_levels}
use Rattle.ua_wire.specs.Signed.{signed}
use Rattle.ua_wire.proofs.Readers.{both_true}
use Rattle.ua_builtin.specs.Flags.{flagged_text}
use Rattle.ua_builtin.specs.Status.{status_code}
use Rattle.ua_diagnostic.specs.Diagnostic.{DiagnosticFields, DiagnosticData, diagnostic_depth}
use Rattle.ua_diagnostic.specs.Diagnostic.{diagnostic_fields_encodable, diagnostic_fits, diagnostic_encodable}
use Rattle.ua_diagnostic.specs.Parts.{optional_fits}

-- what can be written fits
pub diagnostic_fits_of : (d : DiagnosticData) → IsTrue (diagnostic_encodable d) → diagnostic_fits d ≡ true
diagnostic_fits_of d h = (both_true (leb (diagnostic_depth d) most_levels) (diagnostic_fits d) h).1

-- each of the fields can be written
pub fields_parts : (f : DiagnosticFields) → diagnostic_fields_encodable f ≡ true
    → IsTrue (optional_fits (signed w32).encodable f.symbolic_id) × IsTrue (optional_fits (signed w32).encodable f.namespace_uri)
    × IsTrue (optional_fits (signed w32).encodable f.locale) × IsTrue (optional_fits (signed w32).encodable f.localized_text)
    × IsTrue ((flagged_text (is_some f.additional_info)).encodable f.additional_info) × IsTrue (optional_fits status_code.encodable f.inner_status_code)
unfolding diagnostic_fields_encodable
fields_parts f h =
    let number = optional_fits (signed w32).encodable in
    let text = (flagged_text (is_some f.additional_info)).encodable f.additional_info in
    let status = optional_fits status_code.encodable f.inner_status_code in
    let a = both_true (number f.symbolic_id) (number f.namespace_uri && (number f.locale && (number f.localized_text && (text && status)))) h in
    let b = both_true (number f.namespace_uri) (number f.locale && (number f.localized_text && (text && status))) a.1 in
    let c = both_true (number f.locale) (number f.localized_text && (text && status)) b.1 in
    let d = both_true (number f.localized_text) (text && status) c.1 in
    let e = both_true text status d.1 in
    (a.0, b.0, c.0, d.0, e.0, e.1)
