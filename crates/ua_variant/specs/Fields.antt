-- The fields of a DataValue that contain no other value, as a mask announces them.
use Rattle.std.specs.Prelude.{ℕ, ◌+◌, is_some}
use Rattle.ua_builtin.specs.Format.{Flat}
use Rattle.ua_builtin.specs.Join.{number, both, made}
use Rattle.ua_builtin.specs.DateTime.{date_time as date_time_format}
use Rattle.ua_builtin.specs.Status.{status_code as status_code_format}
use Rattle.ua_variant.specs.Data.{DataFields}
use Rattle.ua_builtin.specs.Flags.{has, flag_bit}
use Rattle.ua_diagnostic.specs.Parts.{optional}

-- status 0x02, source time 0x04, source picoseconds 0x10, server time 0x08, server picoseconds
-- 0x20, in this order (OPC 10000-6, 5.2.2.17)
unfoldable pub data_fields : ℕ → Flat DataFields
data_fields m =
    made (λ (a, (b, (c, (d, e)))). record { status = a; source_timestamp = b; source_picoseconds = c; server_timestamp = d; server_picoseconds = e })
    (λ f. (f.status, (f.source_timestamp, (f.source_picoseconds, (f.server_timestamp, f.server_picoseconds)))))
    (both (optional (has m 0x02) status_code_format)
    (both (optional (has m 0x04) date_time_format)
    (both (optional (has m 0x10) (number 2))
    (both (optional (has m 0x08) date_time_format)
    (optional (has m 0x20) (number 2))))))

-- the flags of the fields that are present
unfoldable pub data_flags : DataFields → ℕ
data_flags f =
    flag_bit 0x02 (is_some f.status) + flag_bit 0x04 (is_some f.source_timestamp) + flag_bit 0x08 (is_some f.server_timestamp)
    + flag_bit 0x10 (is_some f.source_picoseconds) + flag_bit 0x20 (is_some f.server_picoseconds)
