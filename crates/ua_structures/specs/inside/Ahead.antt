-- What the first bytes of a DataValue tell about its value.
use Rattle.std.specs.Prelude.{ℕ, Bool, true, cond, not, ◌||◌, ◌%◌, leb, eqb, List, ◌∷◌, Option, Some, None}
use Rattle.ua_builtin.specs.Flags.{has}
use Rattle.ua_structures.specs.Thin.{array_type, is_kept, scalar_type}
use Rattle.ua_structures.specs.declared.thin.ValueType.{ValueType}

-- the type that the first byte of a Variant announces: none is 0; an array has 0x80, and its type
-- id in the lower six bits (OPC 10000-6, 5.2.2.16)
abbrev pub type_at : ℕ → Option ValueType
type_at tag = cond (eqb tag 0) None (cond (leb 0x80 tag) (Some (array_type (tag % 0x40))) (Some (scalar_type tag)))

-- the DataValue at the start of bytes is kept unchanged: its mask announces no value, or the byte
-- after it announces a type that is taken, or none (OPC 10000-6, 5.2.2.17)
abbrev pub is_kept_at : (ValueType → Bool) → List ℕ → Bool
is_kept_at takes (mask ∷ (tag ∷ rest)) = not (has mask 0x01) || is_kept takes (type_at tag)
is_kept_at takes octets = true
