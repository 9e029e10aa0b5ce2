-- The minimum encoded size of a scalar in bytes, by its type id.
use Rattle.std.specs.Prelude.{ℕ, Bool, ◌||◌, cond, eqb}
use Rattle.ua_variant.specs.Leaf.{is_reserved}

-- Int16, UInt16, and a NodeId or ExpandedNodeId, whose shortest form is a byte for the form and one
-- for the id
abbrev pub takes_2 : ℕ → Bool
takes_2 k = eqb k 4 || eqb k 5 || eqb k 17 || eqb k 18

-- Int32, UInt32, Float and StatusCode, and String, ByteString and XmlElement, of which null is the
-- count alone
abbrev pub takes_4 : ℕ → Bool
takes_4 k = eqb k 6 || eqb k 7 || eqb k 10 || eqb k 12 || eqb k 15 || eqb k 16 || eqb k 19

-- Int64, UInt64, Double, DateTime
abbrev pub takes_8 : ℕ → Bool
takes_8 k = eqb k 8 || eqb k 9 || eqb k 11 || eqb k 13

-- the least bytes that a scalar of the type id takes in any encoding (OPC 10000-6, 5.2.2)
-- a reserved id is that of a ByteString, 14 a Guid, 20 a QualifiedName, 22 an ExtensionObject
unfoldable pub least_octets : ℕ → ℕ
least_octets k =
    cond (is_reserved k) 4 (
    cond (takes_2 k) 2 (
    cond (takes_4 k) 4 (
    cond (takes_8 k) 8 (
    cond (eqb k 14) 16 (
    cond (eqb k 20) 6 (
    cond (eqb k 22) 3 1))))))
