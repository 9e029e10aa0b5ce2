-- How the texts of fields are written.
use Rattle.std.specs.Prelude.{Bool, false}
use Rattle.ua_fields.specs.declared.style.FieldStyle.{FieldStyle}

-- exact, with or without the names of StatusCodes
abbrev pub exact_field_style : Bool → FieldStyle
exact_field_style names = record { names = names; plain = false }
