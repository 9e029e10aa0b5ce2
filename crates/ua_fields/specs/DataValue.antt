-- The fields of a DataValue.
use Rattle.std.specs.Prelude.{[], ◌∷◌, codes}
use Rattle.ua_variant.specs.declared.values.DataValue.{DataValue}
use Rattle.ua_fields.specs.Tree.{Fields, named, moment_of, value_of}
use Rattle.ua_fields.specs.Leaves.{optional_tree, code_leaf, number_leaf}

-- DataValue (OPC 10000-6, 5.2.2.17)
unfoldable pub data_value_entries : DataValue → Fields
data_value_entries d = named (
    (codes "value", optional_tree value_of d.value)
    ∷ (codes "status", optional_tree code_leaf d.status)
    ∷ (codes "source_timestamp", optional_tree moment_of d.source_timestamp)
    ∷ (codes "source_picoseconds", optional_tree number_leaf d.source_picoseconds)
    ∷ (codes "server_timestamp", optional_tree moment_of d.server_timestamp)
    ∷ (codes "server_picoseconds", optional_tree number_leaf d.server_picoseconds)
    ∷ [])
