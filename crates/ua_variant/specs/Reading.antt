-- The fields of a DataValue as its reader holds them.
use Rattle.ua_variant.specs.Data.{DataFields}
use Rattle.ua_variant.specs.declared.fields.Fields.{Fields}

-- the data that these fields stand for
abbrev pub fields_of : Fields → DataFields
fields_of f = record {
  status = f.status;
  source_timestamp = f.source_timestamp;
  source_picoseconds = f.source_picoseconds;
  server_timestamp = f.server_timestamp;
  server_picoseconds = f.server_picoseconds;
}
