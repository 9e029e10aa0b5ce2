-- The names of types in a text.
use Rattle.std.specs.Prelude.{◌≡◌, ℕ, List, [], ◌∷◌, ◌++◌, ◌-◌, nat_eq, length, take, Bool, true, false, cond, Option, None, Some, codes}
use Rattle.std.specs.List.{ends_with}
use Rattle.std.specs.Option.{option_map}
use Rattle.std.specs.Str.{bytes_eq}

-- the built-in types whose values have a text form: their ids and names (OPC 10000-6, 5.1.2)
abbrev pub named_types : List (ℕ × List ℕ)
named_types =
    (1, codes "Boolean") ∷ (2, codes "SByte") ∷ (3, codes "Byte") ∷ (4, codes "Int16") ∷ (5, codes "UInt16")
    ∷ (6, codes "Int32") ∷ (7, codes "UInt32") ∷ (8, codes "Int64") ∷ (9, codes "UInt64") ∷ (10, codes "Float")
    ∷ (11, codes "Double") ∷ (12, codes "String") ∷ (13, codes "DateTime") ∷ (14, codes "Guid")
    ∷ (15, codes "ByteString") ∷ (19, codes "StatusCode") ∷ []

-- the id that is beside the name
abbrev pub id_beside_name : List (ℕ × List ℕ) → List ℕ → Option ℕ
id_beside_name [] name = None
id_beside_name (row ∷ rows) name = cond (bytes_eq name row.1) (Some row.0) (id_beside_name rows name)

-- the id of the type that a text names
abbrev pub type_named : List ℕ → Option ℕ
type_named = id_beside_name named_types

-- what follows the name of an array's element type
abbrev pub array_mark : Bool → List ℕ
array_mark true = codes "[]"
array_mark false = []

-- the text without the array mark at its end, if it has one
abbrev pub unmarked : List ℕ → List ℕ
unmarked text = take (length text - 2) text

-- the type, with whether an array of it is meant
abbrev pub type_with_array : Bool → ℕ → ℕ × Bool
type_with_array array kind = (kind, array)

-- the type that a text names, and whether it names an array of it
abbrev pub type_denoted : List ℕ → Option (ℕ × Bool)
type_denoted text = cond (ends_with nat_eq text (codes "[]")) (option_map (type_with_array true) (type_named (unmarked text)))
    (option_map (type_with_array false) (type_named text))

-- a text names the type, or an array of it: the type's name, and for an array `[]` after it
pub record NamesType (text : List ℕ) (kind : ℕ) (array : Bool) : Type 0 where
  pub name : List ℕ
  pub parts : text ≡ name ++ array_mark array
  pub named : type_named name ≡ Some kind
