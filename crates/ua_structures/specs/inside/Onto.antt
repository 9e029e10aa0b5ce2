-- Items that are read to the end of others.
use Rattle.std.specs.Prelude.{List, [], ◌∷◌, ◌++◌, None}
use Rattle.ua_variant.specs.declared.values.DataValue.{DataValue}
use Rattle.ua_structures.specs.declared.attribute.WriteValue.{WriteValue}

-- these items, followed by this one
abbrev pub with_last : List WriteValue → WriteValue → List WriteValue
with_last items item = items ++ item ∷ []

-- a DataValue without a value, a status or timestamps
abbrev pub no_fields : DataValue
no_fields = record {
  value = None;
  status = None;
  source_timestamp = None;
  source_picoseconds = None;
  server_timestamp = None;
  server_picoseconds = None;
}
