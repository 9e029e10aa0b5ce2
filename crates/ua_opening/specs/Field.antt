-- The formats of fields that have a plain type, by the standard's names.
use Rattle.std.specs.Prelude.{ℕ, ℤ, List, Option}
use Rattle.std.specs.Int.{w32}
use Rattle.ua_builtin.specs.Format.{Format, flat}
use Rattle.ua_builtin.specs.Join.{number}
use Rattle.ua_builtin.specs.Counted.{text, counted}
use Rattle.ua_builtin.specs.Signed.{signed}

-- a Byte: one byte (OPC 10000-6, 5.2.2.2)
abbrev pub byte : Format ℕ
byte = flat (number 1)

-- a UInt32: four bytes, the least significant first (OPC 10000-6, 5.2.2.2)
abbrev pub uint32 : Format ℕ
uint32 = flat (number 4)

-- an Int32, and an enumeration: every number is kept (OPC 10000-6, 5.2.4)
abbrev pub int32 : Format ℤ
int32 = flat (signed w32)

-- a String: null, or a text in UTF-8 after its count (OPC 10000-6, 5.2.2.4)
abbrev pub string : Format (Option (List ℕ))
string = flat text

-- a ByteString: null, or bytes after their count (OPC 10000-6, 5.2.2.7)
abbrev pub byte_string : Format (Option (List ℕ))
byte_string = flat counted
