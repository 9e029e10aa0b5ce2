-- The formats of DateTimes, Guids, StatusCodes, XmlElements and QualifiedNames are sound and lawful.
use Rattle.std.specs.Prelude.{◌≡◌, ℕ, List, IsTrue, length}
use Rattle.std.proofs.Common.{refl, sym, ap}
use Rattle.std.proofs.lemmas.Bool.{eqb-true}
use Rattle.std.specs.Int.{w64}
use Rattle.uuid.specs.Parts.{swap_fields}
use Rattle.uuid.proofs.RoundTrips.{swap_twice}
use Rattle.ua_wire.specs.Format.{flat, IsSound, IsLawful}
use Rattle.ua_wire.proofs.Lawfulness.{sound_number, sound_both, sound_image, sound_made, lawful_flat}
use Rattle.ua_wire.proofs.ScalarsLawful.{sound_signed}
use Rattle.ua_wire.proofs.CountedLawful.{sound_octets, sound_counted, sound_text}
use Rattle.ua_wire.proofs.Leasts.{least_starts}
use Rattle.ua_builtin.specs.DateTime.{date_time}
use Rattle.ua_builtin.specs.Guid.{guid, swapped, has_16}
use Rattle.ua_builtin.specs.Status.{status_code}
use Rattle.ua_builtin.specs.XmlElement.{xml_element}
use Rattle.ua_builtin.specs.QualifiedName.{qualified_name}
use Rattle.ua_builtin.specs.declared.guid.Guid.{Guid}
use Rattle.ua_builtin.proofs.Leasts.{date_time_least, guid_least, status_code_least, xml_element_least, qualified_name_least}

pub sound_date_time : IsSound date_time
unfolding date_time
sound_date_time = sound_made _ _ (λ v. refl) (sound_signed w64)

pub lawful_date_time : IsLawful (flat date_time)
lawful_date_time = lawful_flat sound_date_time (least_starts 7 date_time.encodes date_time_least)

swapped_back : (g : Guid) → IsTrue (has_16 g) → g ≡ swapped (swap_fields g.uuid)
swapped_back g h = ap (λ (b : List ℕ). let made : Guid = record { uuid = b } in made) (sym (swap_twice g.uuid (eqb-true (length g.uuid) 16 h)))

pub sound_guid : IsSound guid
unfolding guid
sound_guid = sound_image _ _ _ swapped_back (sound_octets 16)

pub lawful_guid : IsLawful (flat guid)
lawful_guid = lawful_flat sound_guid (least_starts 15 guid.encodes guid_least)

pub sound_status_code : IsSound status_code
unfolding status_code
sound_status_code = sound_made _ _ (λ v. refl) (sound_number 4)

pub lawful_status_code : IsLawful (flat status_code)
lawful_status_code = lawful_flat sound_status_code (least_starts 3 status_code.encodes status_code_least)

pub sound_xml_element : IsSound xml_element
unfolding xml_element
sound_xml_element = sound_made _ _ (λ v. refl) sound_counted

pub lawful_xml_element : IsLawful (flat xml_element)
lawful_xml_element = lawful_flat sound_xml_element (least_starts 3 xml_element.encodes xml_element_least)

pub sound_qualified_name : IsSound qualified_name
unfolding qualified_name
sound_qualified_name = sound_made _ _ (λ v. refl) (sound_both (sound_number 2) sound_text)

pub lawful_qualified_name : IsLawful (flat qualified_name)
lawful_qualified_name = lawful_flat sound_qualified_name (least_starts 5 qualified_name.encodes qualified_name_least)
