-- The encoding of the object that holds nothing.
use Rattle.std.proofs.Common.{◌≡◌, [], ◌∷◌, refl, ◌∙◌, ap}
use Rattle.ua_wire.specs.Number.{number_octets}
use Rattle.ua_builtin.specs.NodeId.{node_id}
use Rattle.ua_builtin.specs.ExtensionObject.{extension_object, null_object}
use Rattle.ua_builtin.specs.declared.extension_object.ExtensionObject.{ExtensionObject}

null_octets : extension_object.canonical null_object ≡ 0 ∷ 0 ∷ 0 ∷ []
unfolding extension_object node_id number_octets
null_octets = refl

pub null_written : (v : ExtensionObject) → v ≡ null_object → extension_object.canonical v ≡ 0 ∷ 0 ∷ 0 ∷ []
null_written v e = ap (λ (o : ExtensionObject). extension_object.canonical o) e ∙ null_octets
