-- The codes of the data, which a model of it needs.
use Rattle.std.specs.Prelude.{◌≡◌, List, [], ◌∷◌, refl}
use Rattle.std.proofs.Common.{ap, ◌∙◌}
use Rattle.std.specs.Coded.{Coded, code_by, coded_list}
use Rattle.ua_diagnostic.specs.Diagnostic.{DiagnosticFields, no_fields, DiagnosticData, innermost, around}

-- the fields of each nesting level, the outermost first
abbrev pub diagnostic_levels : DiagnosticData → List DiagnosticFields
diagnostic_levels (innermost f) = f ∷ []
diagnostic_levels (around f d) = f ∷ diagnostic_levels d

-- the levels with these fields
abbrev pub diagnostic_from : List DiagnosticFields → DiagnosticData
diagnostic_from [] = innermost no_fields
diagnostic_from (f ∷ []) = innermost f
diagnostic_from (f ∷ g ∷ fs) = around f (diagnostic_from (g ∷ fs))

diagnostic_back_around : (f : DiagnosticFields) (d : DiagnosticData) → diagnostic_from (diagnostic_levels (around f d))
    ≡ around f (diagnostic_from (diagnostic_levels d))
diagnostic_back_around f (innermost g) = refl
diagnostic_back_around f (around g d) = refl

pub diagnostic_back : (d : DiagnosticData) → diagnostic_from (diagnostic_levels d) ≡ d
diagnostic_back (innermost f) = refl
diagnostic_back (around f d) = diagnostic_back_around f d ∙ ap (around f) (diagnostic_back d)

-- a DiagnosticInfo is coded as the list of the fields of its levels
abbrev pub coded_diagnostic : Coded DiagnosticFields → Coded DiagnosticData
coded_diagnostic fields = code_by (List DiagnosticFields) (coded_list fields) diagnostic_levels diagnostic_from diagnostic_back
