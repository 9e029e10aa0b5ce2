-- Guids (OPC 10000-6, 5.2.2.6): 72962B91-FA75-4AE6-8D28-B404DC7DAF63 is
-- 91 2B 96 72 75 FA E6 4A 8D 28 B4 04 DC 7D AF 63.
use Rattle.std.specs.Prelude.{ℕ, List, Bool, length, nat_eq}
use Rattle.uuid.specs.Parts.{swap_fields}
use Rattle.ua_wire.specs.Format.{Flat}
use Rattle.ua_wire.specs.Join.{image}
use Rattle.ua_wire.specs.Counted.{octets}
use Rattle.ua_builtin.specs.declared.guid.Guid.{Guid}

-- the Guid of these bytes: those of its text, but for the order within the first 4, the next 2 and
-- the next 2
abbrev pub swapped : List ℕ → Guid
swapped b = record { uuid = swap_fields b }

-- the Guid has 16 bytes
abbrev pub has_16 : Guid → Bool
has_16 g = nat_eq (length g.uuid) 16

-- UInt32, UInt16, UInt16, the least significant byte first, and 8 bytes
unfoldable pub guid : Flat Guid
guid = image swapped (λ g. swap_fields g.uuid) has_16 (octets 16)
