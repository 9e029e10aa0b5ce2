-- The texts of DiagnosticInfos, for people to read.
use Rattle.std.specs.Prelude.{Bool, List, ℕ, ◌++◌, codes}
use Rattle.ua_diagnostic.specs.Diagnostic.{DiagnosticFields, DiagnosticData, innermost, around}
use Rattle.ua_texts.specs.PlainParts.{number_part, status_part, text_part}

-- the fields of a DiagnosticInfo that are present, each by its name, except its inner one
unfoldable pub diagnostic_parts : Bool → DiagnosticFields → List ℕ
diagnostic_parts names f =
    number_part (codes "symbolic_id") f.symbolic_id ++ (number_part (codes "namespace_uri") f.namespace_uri ++ (number_part (codes "locale") f.locale
    ++ (number_part (codes "localized_text") f.localized_text
    ++ (text_part (codes "additional_info") f.additional_info ++ status_part names (codes "inner_status_code") f.inner_status_code))))

-- a DiagnosticInfo: its fields within curly brackets, with its inner DiagnosticInfo in the same
-- form, if there is one
abbrev pub plain_diagnostic : Bool → DiagnosticData → List ℕ
plain_diagnostic names (innermost f) = codes "{" ++ (diagnostic_parts names f ++ codes " }")
plain_diagnostic names (around f d) = codes "{" ++ (diagnostic_parts names f ++ (codes " inner " ++ (plain_diagnostic names d ++ codes " }")))
