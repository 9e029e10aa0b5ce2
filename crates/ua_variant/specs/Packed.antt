-- Arrays of the types whose values all take the same bytes, each held in a vector of its own type.
use Rattle.std.specs.Prelude.{ℕ, Bool, ◌||◌, ◌&&◌, leb, eqb, List, map}
use Rattle.ua_variant.specs.Data.{LeafData, boolean, sbyte, byte, int16, uint16, int32, uint32, int64, uint64, float, double, date_time, guid, status_code}
use Rattle.ua_variant.specs.declared.packed.Packed.{Packed}

-- the type ids of Boolean, the whole numbers, Float and Double, of DateTime and Guid, and of
-- StatusCode (OPC 10000-6, 5.1.2)
abbrev pub is_packed_kind : ℕ → Bool
is_packed_kind k = (leb 1 k && leb k 11) || (leb 13 k && leb k 14) || eqb k 19

-- the elements that the array of the code stands for
abbrev pub packed_leaves : Packed → List LeafData
packed_leaves (Packed.Booleans v) = map boolean v.items
packed_leaves (Packed.SBytes v) = map sbyte v.items
packed_leaves (Packed.Bytes v) = map byte v.items
packed_leaves (Packed.Int16s v) = map int16 v.items
packed_leaves (Packed.UInt16s v) = map uint16 v.items
packed_leaves (Packed.Int32s v) = map int32 v.items
packed_leaves (Packed.UInt32s v) = map uint32 v.items
packed_leaves (Packed.Int64s v) = map int64 v.items
packed_leaves (Packed.UInt64s v) = map uint64 v.items
packed_leaves (Packed.Floats v) = map float v.items
packed_leaves (Packed.Doubles v) = map double v.items
packed_leaves (Packed.DateTimes v) = map date_time v.items
packed_leaves (Packed.Guids v) = map guid v.items
packed_leaves (Packed.StatusCodes v) = map status_code v.items

-- the type id of the elements, also of none
abbrev pub packed_kind : Packed → ℕ
packed_kind (Packed.Booleans v) = 1
packed_kind (Packed.SBytes v) = 2
packed_kind (Packed.Bytes v) = 3
packed_kind (Packed.Int16s v) = 4
packed_kind (Packed.UInt16s v) = 5
packed_kind (Packed.Int32s v) = 6
packed_kind (Packed.UInt32s v) = 7
packed_kind (Packed.Int64s v) = 8
packed_kind (Packed.UInt64s v) = 9
packed_kind (Packed.Floats v) = 10
packed_kind (Packed.Doubles v) = 11
packed_kind (Packed.DateTimes v) = 13
packed_kind (Packed.Guids v) = 14
packed_kind (Packed.StatusCodes v) = 19
