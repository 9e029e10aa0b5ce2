-- How the texts of fields are written, as the options of the dissector say.
use Rattle.ua_pair.specs.declared.options.DissectOptions.{DissectOptions}
use Rattle.ua_fields.specs.declared.style.FieldStyle.{FieldStyle}

-- as these options say
abbrev pub style_of : DissectOptions → FieldStyle
style_of options = record { names = options.names; plain = options.plain }
