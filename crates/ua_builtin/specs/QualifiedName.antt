-- QualifiedNames (OPC 10000-6, 5.2.2.13): "Hot" in the namespace 1 is 01 00 03 00 00 00 48 6F 74.
use Rattle.std.specs.Prelude.{ℕ, List, Option}
use Rattle.ua_wire.specs.Format.{Flat}
use Rattle.ua_wire.specs.Join.{number, both, made}
use Rattle.ua_wire.specs.Counted.{text}
use Rattle.ua_builtin.specs.declared.qualified_name.QualifiedName.{QualifiedName}

-- the QualifiedName of a namespace and a name
abbrev pub qualified : ℕ × Option (List ℕ) → QualifiedName
qualified p = record { namespace = p.0; name = p.1 }

-- the namespace as UInt16, then the name as String
unfoldable pub qualified_name : Flat QualifiedName
qualified_name = made qualified (λ v. (v.namespace, v.name)) (both (number 2) text)
