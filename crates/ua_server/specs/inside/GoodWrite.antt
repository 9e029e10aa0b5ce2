-- The response to a Write that is granted.
use Rattle.std.specs.Prelude.{ℕ, List, Option, None}
use Rattle.ua_builtin.specs.Status.{of_code}
use Rattle.ua_builtin.specs.declared.date_time.DateTime.{DateTime}
use Rattle.ua_builtin.specs.declared.status_code.StatusCode.{StatusCode}
use Rattle.ua_opening.specs.Plain.{response_header_of}
use Rattle.ua_structures.specs.declared.attribute.WriteResponse.{WriteResponse}

-- the Write response under this RequestHandle with these results, and without diagnostics
abbrev pub good_write : DateTime → ℕ → Option (List StatusCode) → WriteResponse
good_write moment handle results = record { response_header = response_header_of moment handle (of_code 0); results = results; diagnostic_infos = None }
