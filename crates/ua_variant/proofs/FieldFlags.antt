-- The mask that a writer sets announces just the fields that are there, flag by flag.
use Rattle.std.specs.Prelude.{◌≡◌, ℕ, ◌+◌, ◌*◌, ◌/◌, ◌%◌, ◌≤◌, Bool, ◌&&◌, eqb}
use Rattle.std.proofs.Common.{ap, ap₂, ◌∙◌, arith}
use Rattle.ua_builtin.specs.Join.{number}
use Rattle.ua_builtin.specs.DateTime.{date_time as date_time_format}
use Rattle.ua_builtin.specs.Status.{status_code as status_code_format}
use Rattle.ua_variant.specs.Data.{DataFields}
use Rattle.ua_builtin.specs.Flags.{has}
use Rattle.ua_builtin.proofs.FlagBits.{has_bit}
use Rattle.ua_diagnostic.specs.Parts.{there}
use Rattle.ua_variant.specs.Fields.{data_fields, data_flags}
use Rattle.ua_diagnostic.proofs.Masks.{bit_is, there_within, flag_there, optional_at, bits_of}
use Rattle.ua_variant.specs.Encodable.{data_fields_encodable}

-- ---- DataValue: with the flag of the value, v
abbrev pub data_mask : DataFields → ℕ → ℕ
data_mask f v = data_flags f + v

data_sum : (f : DataFields) (v : ℕ) → data_mask f v ≡ v + 2 * there f.status + 4 * there f.source_timestamp + 8 * there f.server_timestamp
    + 16 * there f.source_picoseconds + 32 * there f.server_picoseconds
unfolding data_flags
data_sum f v = omega (
  arith,
  bit_is 2 f.status,
  bit_is 4 f.source_timestamp,
  bit_is 8 f.server_timestamp,
  bit_is 16 f.source_picoseconds,
  bit_is 32 f.server_picoseconds,
)

data_bits : (f : DataFields) (v : ℕ) → v ≤ 1 → let m = data_mask f v in
    (m / 1 % 2 ≡ v) × (m / 2 % 2 ≡ there f.status) × (m / 4 % 2 ≡ there f.source_timestamp) × (m / 8 % 2 ≡ there f.server_timestamp)
    × (m / 16 % 2 ≡ there f.source_picoseconds) × (m / 32 % 2 ≡ there f.server_picoseconds) × (m ≤ 63)
data_bits f v h =
    bits_of (data_mask f v) v (there f.status) (there f.source_timestamp) (there f.server_timestamp) (there f.source_picoseconds) (there f.server_picoseconds)
    (data_sum f v) h (there_within f.status) (there_within f.source_timestamp) (there_within f.server_timestamp) (there_within f.source_picoseconds)
    (there_within f.server_picoseconds)

pub data_mask_low : (f : DataFields) (v : ℕ) → v ≤ 1 → data_mask f v ≤ 63
data_mask_low f v h = (data_bits f v h).6

pub data_mask_value : (f : DataFields) (v : ℕ) → v ≤ 1 → has (data_mask f v) 1 ≡ eqb v 1
data_mask_value f v h = has_bit (data_mask f v) 0 ∙ ap (λ (r : ℕ). eqb r 1) (data_bits f v h).0

pub data_fields_encodable_as : (f : DataFields) (v : ℕ) → v ≤ 1 → (data_fields (data_mask f v)).encodable f ≡ data_fields_encodable f
unfolding data_fields data_fields_encodable
data_fields_encodable_as f v h =
    let m = data_mask f v in
    let b = data_bits f v h in
    ap₂ (λ (x y : Bool). x && y) (optional_at status_code_format.encodable (has m 2) f.status (flag_there 1 m f.status b.1))
    (ap₂ (λ (x y : Bool). x && y) (optional_at (date_time_format).encodable (has m 4) f.source_timestamp (flag_there 2 m f.source_timestamp b.2))
    (ap₂ (λ (x y : Bool). x && y) (optional_at (number 2).encodable (has m 16) f.source_picoseconds (flag_there 4 m f.source_picoseconds b.4))
    (ap₂ (λ (x y : Bool). x && y) (optional_at (date_time_format).encodable (has m 8) f.server_timestamp (flag_there 3 m f.server_timestamp b.3))
    (optional_at (number 2).encodable (has m 32) f.server_picoseconds (flag_there 5 m f.server_picoseconds b.5)))))
