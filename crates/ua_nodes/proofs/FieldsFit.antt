-- The fields of a DataValue but its value, which of them can be written.
use Rattle.std.proofs.Common.{◌≡◌, Bool, true, ◌&&◌, nat_lt, Option, Some, None}
use Rattle.ua_builtin.specs.DateTime.{date_time}
use Rattle.ua_builtin.specs.Status.{status_code}
use Rattle.ua_variant.specs.Data.{DataFields}
use Rattle.ua_variant.specs.Encodable.{data_fields_encodable}
use Rattle.ua_wire.proofs.Readers.{both_true}
use Rattle.ua_nodes.proofs.Fits.{both_are}

-- a field that is there passes the test
abbrev pub field_fits : {A : Type 0} → (A → Bool) → Option A → Bool
field_fits test None = true
field_fits test (Some x) = test x

-- each field that is there can be written
pub record FieldsFit (f : DataFields) : Type 0 where
  pub status : field_fits (status_code).encodable f.status ≡ true
  pub source_time : field_fits (date_time).encodable f.source_timestamp ≡ true
  pub source_picoseconds : field_fits (λ n. nat_lt n 65536) f.source_picoseconds ≡ true
  pub server_time : field_fits (date_time).encodable f.server_timestamp ≡ true
  pub server_picoseconds : field_fits (λ n. nat_lt n 65536) f.server_picoseconds ≡ true

pub parts_of : (f : DataFields) → data_fields_encodable f ≡ true → FieldsFit f
unfolding data_fields_encodable
parts_of f h =
    let status = field_fits (status_code).encodable f.status in
    let time = field_fits (date_time).encodable f.source_timestamp in
    let pico = field_fits (λ n. nat_lt n 65536) f.source_picoseconds in
    let server = field_fits (date_time).encodable f.server_timestamp in
    let last = field_fits (λ n. nat_lt n 65536) f.server_picoseconds in
    let a = both_true status (time && (pico && (server && last))) h in
    let b = both_true time (pico && (server && last)) a.1 in
    let c = both_true pico (server && last) b.1 in
    let d = both_true server last c.1 in
    record { status = a.0; source_time = b.0; source_picoseconds = c.0; server_time = d.0; server_picoseconds = d.1 }

pub fields_from : (f : DataFields) → FieldsFit f → data_fields_encodable f ≡ true
unfolding data_fields_encodable
fields_from f h =
    let status = field_fits (status_code).encodable f.status in
    let time = field_fits (date_time).encodable f.source_timestamp in
    let pico = field_fits (λ n. nat_lt n 65536) f.source_picoseconds in
    let server = field_fits (date_time).encodable f.server_timestamp in
    let last = field_fits (λ n. nat_lt n 65536) f.server_picoseconds in
    both_are status (time && (pico && (server && last))) h.status
    (both_are time (pico && (server && last)) h.source_time
    (both_are pico (server && last) h.source_picoseconds
    (both_are server last h.server_time h.server_picoseconds)))
