-- The structures that hold a DataValue are lawful, and are written back where no type id in them is reserved.
use Rattle.std.proofs.Common.{refl}
use Rattle.ua_builtin.specs.Format.{IsLawful}
use Rattle.ua_structures.specs.Attribute.{read_response, write_value, write_request}
use Rattle.ua_builtin.proofs.NodeIdLawful.{lawful_node_id}
use Rattle.ua_wire.proofs.CountedLawful.{lawful_text}
use Rattle.ua_wire.proofs.Lawfulness.{lawful_32, lawful_pair, lawful_struct}
use Rattle.ua_diagnostic.proofs.DiagnosticsLawful.{lawful_diagnostic}
use Rattle.ua_variant.proofs.VariantsLawful.{lawful_data_value}
use Rattle.ua_opening.proofs.ArrayLawful.{lawful_array}
use Rattle.ua_opening.proofs.HeaderSound.{sound_request_header, sound_response_header}

pub lawful_read_response : IsLawful read_response
unfolding read_response
lawful_read_response =
    lawful_struct _ _ (λ v. refl) (λ p. refl)
    (lawful_pair sound_response_header.lawful (lawful_pair (lawful_array lawful_data_value) (lawful_array lawful_diagnostic)))

pub lawful_write_value : IsLawful write_value
unfolding write_value
lawful_write_value = lawful_struct _ _ (λ v. refl) (λ p. refl) (lawful_pair lawful_node_id (lawful_pair lawful_32 (lawful_pair lawful_text lawful_data_value)))

pub lawful_write_request : IsLawful write_request
unfolding write_request
lawful_write_request = lawful_struct _ _ (λ v. refl) (λ p. refl) (lawful_pair sound_request_header.lawful (lawful_array lawful_write_value))
