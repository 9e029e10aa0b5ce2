-- What the results of a Read append to bytes, and what a ReadResponse around them does.
use Rattle.std.specs.Prelude.{◌≡◌, ◌++◌, ℕ, List, IsTrue, Option}
use Rattle.ua_diagnostic.specs.declared.diagnostic_info.DiagnosticInfo.{DiagnosticInfo}
use Rattle.ua_opening.specs.Array.{array}
use Rattle.ua_opening.specs.Header.{response_header}
use Rattle.ua_opening.specs.declared.header.ResponseHeader.{ResponseHeader}
use Rattle.ua_variant.specs.Formats.{data_value_format, diagnostic_format}
use Rattle.ua_variant.specs.declared.values.DataValue.{DataValue}

-- an array of DataValues that can be encoded
abbrev pub IsWritableArray : Option (List DataValue) → Type 0
IsWritableArray results = IsTrue ((array data_value_format).encodable results)

-- its canonical encoding follows what was there
abbrev pub AddsArray : Option (List DataValue) → List ℕ → List ℕ → Type 0
AddsArray results old new = new ≡ old ++ (array data_value_format).canonical results

-- a header, results and diagnostics follow what was there, in the order of a ReadResponse's fields
-- (OPC 10000-4, 5.11.2)
pub record AddsResponse (adds : List ℕ → List ℕ → Type 0) (header : ResponseHeader) (diagnostics : Option (List DiagnosticInfo))
    (old new : List ℕ) : Type 0 where
  -- what follows the results
  pub behind : List ℕ
  pub results : adds (old ++ response_header.canonical header) behind
  pub rest : new ≡ behind ++ (array diagnostic_format).canonical diagnostics
