-- Sound formats: they are lawful, and what was read in them can be written back.
use Rattle.std.specs.Prelude.{◌≡◌}
use Rattle.ua_builtin.specs.Boolean.{boolean}
use Rattle.ua_builtin.specs.DateTime.{date_time}
use Rattle.ua_builtin.specs.DoubleBits.{double_bits}
use Rattle.ua_builtin.specs.ExtensionObject.{extension_object}
use Rattle.ua_builtin.specs.Format.{Format, flat, IsLawful}
use Rattle.ua_builtin.specs.Join.{pair, struct}
use Rattle.ua_builtin.specs.LocalizedText.{localized_text}
use Rattle.ua_builtin.specs.NodeId.{node_id}
use Rattle.ua_builtin.specs.QualifiedName.{qualified_name}
use Rattle.ua_builtin.specs.Status.{status_code}
use Rattle.ua_diagnostic.specs.Formats.{diagnostic_format}
use Rattle.ua_builtin.proofs.ExtensionObjectLawful.{lawful_extension_object}
use Rattle.ua_builtin.proofs.LocalizedTextLawful.{lawful_localized_text}
use Rattle.ua_builtin.proofs.NodeIdLawful.{lawful_node_id}
use Rattle.ua_builtin.proofs.PlainLawful.{lawful_date_time, lawful_qualified_name, lawful_status_code}
use Rattle.ua_wire.proofs.CountedLawful.{lawful_counted, lawful_text}
use Rattle.ua_wire.proofs.Lawfulness.{lawful_8, lawful_32, lawful_pair, lawful_struct}
use Rattle.ua_wire.proofs.ScalarsLawful.{lawful_boolean, lawful_double_bits, lawful_signed_32}
use Rattle.ua_diagnostic.proofs.DiagnosticsLawful.{lawful_diagnostic}
use Rattle.ua_opening.specs.Array.{array}
use Rattle.ua_opening.specs.Field.{byte, byte_string, int32, string, uint32}
use Rattle.ua_opening.proofs.ArrayLawful.{lawful_array}
use Rattle.ua_opening.proofs.FlatsBack.{back_boolean, back_date_time, back_double_bits, back_extension_object}
use Rattle.ua_opening.proofs.FlatsBack.{back_localized_text, back_node_id, back_qualified_name, back_status_code}
use Rattle.ua_opening.proofs.FormatsBack.{AllWriteBack, back_array, back_byte, back_byte_string, back_diagnostic}
use Rattle.ua_opening.proofs.FormatsBack.{back_flat, back_int32, back_pair, back_string, back_struct, back_uint32}

pub record Sound {A : Type 0} (f : Format A) : Type 0 where
  pub lawful : IsLawful f
  pub back : AllWriteBack f

-- ---- formats made of formats

pub sound_pair : {A B : Type 0} {f : Format A} {g : Format B} → Sound f → Sound g → Sound (pair f g)
sound_pair first second = record { lawful = lawful_pair first.lawful second.lawful; back = back_pair first.back second.back }

-- whole: a structure is made of its parts, which tells them to the checker; forth: they are what it is made of
pub sound_struct : {A B : Type 0} {f : Format A} (make : A → B) (parts : B → A) (whole : (v : B) → v ≡ make (parts v)) (forth : (x : A) → parts (make x) ≡ x)
    → Sound f → Sound (struct make parts f)
sound_struct make parts whole forth fields =
    record { lawful = lawful_struct make parts whole forth fields.lawful; back = back_struct make parts whole forth fields.back }

pub sound_array : {A : Type 0} {f : Format A} → Sound f → Sound (array f)
sound_array items = record { lawful = lawful_array items.lawful; back = back_array items.back }

-- ---- fields

pub sound_boolean : Sound (flat boolean)
sound_boolean = record { lawful = lawful_boolean; back = back_flat back_boolean }

pub sound_byte : Sound byte
sound_byte = record { lawful = lawful_8; back = back_byte }

pub sound_uint32 : Sound uint32
sound_uint32 = record { lawful = lawful_32; back = back_uint32 }

pub sound_int32 : Sound int32
sound_int32 = record { lawful = lawful_signed_32; back = back_int32 }

pub sound_double_bits : Sound (flat double_bits)
sound_double_bits = record { lawful = lawful_double_bits; back = back_flat back_double_bits }

pub sound_date_time : Sound (flat date_time)
sound_date_time = record { lawful = lawful_date_time; back = back_flat back_date_time }

pub sound_string : Sound string
sound_string = record { lawful = lawful_text; back = back_string }

pub sound_byte_string : Sound byte_string
sound_byte_string = record { lawful = lawful_counted; back = back_byte_string }

pub sound_node_id : Sound (flat node_id)
sound_node_id = record { lawful = lawful_node_id; back = back_flat back_node_id }

pub sound_status_code : Sound (flat status_code)
sound_status_code = record { lawful = lawful_status_code; back = back_flat back_status_code }

pub sound_qualified_name : Sound (flat qualified_name)
sound_qualified_name = record { lawful = lawful_qualified_name; back = back_flat back_qualified_name }

pub sound_localized_text : Sound (flat localized_text)
sound_localized_text = record { lawful = lawful_localized_text; back = back_flat back_localized_text }

pub sound_extension_object : Sound (flat extension_object)
sound_extension_object = record { lawful = lawful_extension_object; back = back_flat back_extension_object }

pub sound_diagnostic : Sound diagnostic_format
sound_diagnostic = record { lawful = lawful_diagnostic; back = back_diagnostic }
