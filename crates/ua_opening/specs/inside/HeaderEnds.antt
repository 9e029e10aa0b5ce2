-- The fields at the end of headers, which are null in nearly all messages, and how they are
-- decoded.
use Rattle.std.specs.Prelude.{ℕ, List, Option}
use Rattle.ua_builtin.specs.Counted.{text}
use Rattle.ua_builtin.specs.Exact.{pair_read}
use Rattle.ua_builtin.specs.ExtensionObject.{extension_object}
use Rattle.ua_builtin.specs.declared.extension_object.ExtensionObject.{ExtensionObject}
use Rattle.ua_builtin.specs.Number.{number_at}
use Rattle.ua_diagnostic.specs.declared.diagnostic_info.DiagnosticInfo.{DiagnosticInfo}
use Rattle.ua_diagnostic.specs.Formats.{diagnostic_format}
use Rattle.ua_opening.specs.Array.{array}
use Rattle.ua_opening.specs.Field.{string}

-- of a request, after its ReturnDiagnostics: the AuditEntryId, the TimeoutHint and the
-- AdditionalHeader (OPC 10000-4, 7.33)
abbrev pub behind_diagnostics : List ℕ → Option ((Option (List ℕ) × (ℕ × ExtensionObject)) × List ℕ)
behind_diagnostics = pair_read text.decode (pair_read (number_at 4) extension_object.decode)

-- of a response, after its ServiceResult: the ServiceDiagnostics, the StringTable and the
-- AdditionalHeader (OPC 10000-4, 7.34)
abbrev pub behind_result : ℕ → List ℕ → Option ((DiagnosticInfo × (Option (List (Option (List ℕ))) × ExtensionObject)) × List ℕ)
behind_result levels = pair_read (diagnostic_format.decode levels) (pair_read ((array string).decode levels) extension_object.decode)
