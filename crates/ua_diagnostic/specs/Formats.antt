-- The format of DiagnosticInfo, over the values of the code.
use Rattle.ua_builtin.specs.Exact.{image_read}
use Rattle.ua_builtin.specs.Format.{Format}
use Rattle.ua_diagnostic.specs.Diagnostic.{diagnostic_depth, diagnostic_count, EncodesDiagnostic, diagnostic_encodable, diagnostic_canonical, diagnostic_at}
use Rattle.ua_diagnostic.specs.View.{diagnostic_of, diagnostic_value}
use Rattle.ua_diagnostic.specs.declared.diagnostic_info.DiagnosticInfo.{DiagnosticInfo}

-- DiagnosticInfos, encoded as the data that they stand for (OPC 10000-6, 5.2.2.12)
unfoldable pub diagnostic_format : Format DiagnosticInfo
diagnostic_format = record {
  encodes = λ v. EncodesDiagnostic (diagnostic_of v);
  depth = λ v. diagnostic_depth (diagnostic_of v);
  count = λ v. diagnostic_count (diagnostic_of v);
  encodable = λ v. diagnostic_encodable (diagnostic_of v);
  canonical = λ v. diagnostic_canonical (diagnostic_of v);
  decode = λ levels. image_read diagnostic_value (diagnostic_at levels);
}
