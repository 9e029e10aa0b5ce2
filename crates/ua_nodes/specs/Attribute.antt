-- The attributes of a node (OPC 10000-3, 5.6.2; OPC 10000-6, A.1).
use Rattle.std.specs.Prelude.{ℕ, pos, Bool, true, false, cond, nat_eq, List, [], ◌∷◌, Option, Some, None}
use Rattle.std.specs.Option.{is_some}
use Rattle.ua_builtin.specs.declared.node_id.NodeId.{NodeId}
use Rattle.ua_builtin.specs.declared.node_id.Identifier.TheVariants.{Numeric}
use Rattle.ua_variant.specs.Data.{LeafData, int32, byte, node_id, qualified_name, localized_text, leaf, VariantData, one}
use Rattle.ua_nodes.specs.declared.attribute.Attribute.{Attribute}
use Rattle.ua_nodes.specs.declared.attribute.Attribute.TheVariants as attribute
use Rattle.ua_nodes.specs.declared.node.Access.{Access}
use Rattle.ua_nodes.specs.declared.node.Variable.{Variable}

-- the attributes that a Variable has here, each after its id
abbrev pub attributes : List (ℕ × Attribute)
attributes =
    (1, attribute.NodeId)
    ∷ (2, attribute.NodeClass)
    ∷ (3, attribute.BrowseName)
    ∷ (4, attribute.DisplayName)
    ∷ (13, attribute.Value)
    ∷ (14, attribute.DataType)
    ∷ (17, attribute.AccessLevel)
    ∷ (18, attribute.UserAccessLevel)
    ∷ []

-- what follows this number in a list
abbrev pub behind_number : {A : Type 0} → ℕ → List (ℕ × A) → Option A
behind_number n [] = None
behind_number n (x ∷ xs) = cond (nat_eq n x.0) (Some x.1) (behind_number n xs)

-- the attribute with this id, if it is in the list
abbrev pub attribute_of : ℕ → Option Attribute
attribute_of n = behind_number n attributes

-- a Variable has an attribute with this id here
abbrev pub is_attribute : ℕ → Bool
is_attribute n = is_some (attribute_of n)

-- 1 if the value may be read and 2 if it may be written, added up (OPC 10000-3, 8.57)
abbrev pub level : Bool → Bool → ℕ
level false false = 0
level true false = 1
level false true = 2
level true true = 3

-- the AccessLevel: 1 for read and 2 for write (OPC 10000-3, 8.57)
abbrev pub access_level : Access → ℕ
access_level a = level a.readable a.writable

-- the Variant of one scalar
abbrev pub scalar_variant : LeafData → VariantData
scalar_variant l = one (leaf l)

-- the NodeId of a built-in type
abbrev pub type_node : ℕ → NodeId
type_node kind = record { namespace = 0; identifier = Numeric kind }

-- the value of an attribute of the node with this NodeId
abbrev pub attribute_value : NodeId → Variable → Attribute → VariantData
attribute_value id v attribute.NodeId = scalar_variant (node_id id)
attribute_value id v attribute.NodeClass = scalar_variant (int32 (pos 2))
attribute_value id v attribute.BrowseName = scalar_variant (qualified_name (record { namespace = id.namespace; name = v.name }))
attribute_value id v attribute.DisplayName = scalar_variant (localized_text (record { locale = None; text = v.name }))
attribute_value id v attribute.Value = v.value
attribute_value id v attribute.DataType = scalar_variant (node_id (type_node v.kind))
attribute_value id v attribute.AccessLevel = scalar_variant (byte (access_level v.access))
attribute_value id v attribute.UserAccessLevel = scalar_variant (byte (access_level v.access))
