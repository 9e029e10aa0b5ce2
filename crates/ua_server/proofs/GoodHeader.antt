-- Good responses that are written field by field, without being made.
use Rattle.std.specs.Prelude.{◌≡◌, ◌≤◌, ◌<◌, ◌^◌, ℕ, List, [], ◌∷◌, ◌++◌, length, Bool, true, false, ◌&&◌, Option, Some, IsTrue}
use Rattle.std.specs.List.{list_all}
use Rattle.std.proofs.Common.{refl, ◌∙◌, ap, append_assoc, arith}
use Rattle.ua_builtin.specs.DateTime.{date_time}
use Rattle.ua_builtin.specs.ExtensionObject.{extension_object}
use Rattle.ua_builtin.specs.Format.{flat}
use Rattle.ua_builtin.specs.NodeId.{node_id}
use Rattle.ua_builtin.specs.Number.{number_octets}
use Rattle.ua_builtin.specs.Status.{of_code, status_code}
use Rattle.ua_builtin.specs.declared.date_time.DateTime.{DateTime}
use Rattle.ua_builtin.specs.declared.status_code.StatusCode.{StatusCode}
use Rattle.ua_diagnostic.specs.Diagnostic.{diagnostic_fields_canonical, diagnostic_flags}
use Rattle.ua_diagnostic.specs.Formats.{diagnostic_format}
use Rattle.ua_opening.specs.Array.{array}
use Rattle.ua_opening.specs.Header.{response_header}
use Rattle.ua_opening.specs.Message.{standard}
use Rattle.ua_opening.specs.Plain.{response_header_of}
use Rattle.ua_structures.specs.Attribute.{write_response}
use Rattle.ua_server.specs.Attributes.{most_items}
use Rattle.ua_server.specs.inside.GoodWrite.{good_write}
use Rattle.ua_opening.proofs.PlainFits.{response_header_fits}
use Rattle.ua_structures.proofs.PlainFits.{write_response_fits}

-- ---- the NodeId in front

pub read_front : (old : List ℕ) → old ++ (0x01 ∷ 0x00 ∷ 0x7A ∷ 0x02 ∷ []) ≡ old ++ node_id.canonical (standard 634)
unfolding node_id number_octets
read_front old = refl

pub write_front : (old : List ℕ) → old ++ (0x01 ∷ 0x00 ∷ 0xA4 ∷ 0x02 ∷ []) ≡ old ++ node_id.canonical (standard 676)
unfolding node_id number_octets
write_front old = refl

-- ---- the header

-- field by field: after the RequestHandle stand the StatusCode Good, a DiagnosticInfo without fields, a null array of texts and a null object
header_is : (moment : DateTime) (handle : ℕ)
    → date_time.canonical moment ++ (number_octets 4 handle ++ (0 ∷ 0 ∷ 0 ∷ 0 ∷ 0 ∷ 255 ∷ 255 ∷ 255 ∷ 255 ∷ 0 ∷ 0 ∷ 0 ∷ []))
    ≡ response_header.canonical (response_header_of moment handle (of_code 0))
unfolding response_header status_code number_octets diagnostic_format diagnostic_flags diagnostic_fields_canonical array extension_object node_id
header_is moment handle = refl

-- its fields, written one behind the other
pub good_octets : (old : List ℕ) (moment : DateTime) (handle : ℕ)
    → ((old ++ date_time.canonical moment) ++ number_octets 4 handle) ++ (0 ∷ 0 ∷ 0 ∷ 0 ∷ 0 ∷ 255 ∷ 255 ∷ 255 ∷ 255 ∷ 0 ∷ 0 ∷ 0 ∷ [])
    ≡ old ++ response_header.canonical (response_header_of moment handle (of_code 0))
good_octets old moment handle =
    append_assoc (old ++ date_time.canonical moment) (number_octets 4 handle) _
    ∙ append_assoc old (date_time.canonical moment) _
    ∙ ap (λ (t : List ℕ). old ++ t) (header_is moment handle)

-- ---- the response to a Write

write_is : (moment : DateTime) (handle : ℕ) (results : Option (List StatusCode))
    → response_header.canonical (response_header_of moment handle (of_code 0)) ++ ((array (flat status_code)).canonical results ++ number_octets 4 0xFFFF_FFFF)
    ≡ write_response.canonical (good_write moment handle results)
unfolding write_response array
write_is moment handle results = refl

-- its fields, written one behind the other
pub write_octets : (old : List ℕ) (moment : DateTime) (handle : ℕ) (results : Option (List StatusCode))
    → ((old ++ response_header.canonical (response_header_of moment handle (of_code 0))) ++ (array (flat status_code)).canonical results)
    ++ number_octets 4 0xFFFF_FFFF
    ≡ old ++ write_response.canonical (good_write moment handle results)
write_octets old moment handle results =
    append_assoc (old ++ response_header.canonical (response_header_of moment handle (of_code 0))) ((array (flat status_code)).canonical results) _
    ∙ append_assoc old (response_header.canonical (response_header_of moment handle (of_code 0))) _
    ∙ ap (λ (t : List ℕ). old ++ t) (write_is moment handle results)

-- it can be written
pub good_write_fits : (moment : DateTime) (handle : ℕ) (codes : List StatusCode) → IsTrue (date_time.encodable moment) → handle < 2 ^ 32
    → length codes ≤ most_items → IsTrue (list_all status_code.encodable codes) → IsTrue (write_response.encodable (good_write moment handle (Some codes)))
unfolding status_code
good_write_fits moment handle codes time number few each =
    write_response_fits (response_header_of moment handle (of_code 0)) codes (response_header_fits moment handle (of_code 0) time number refl)
    (omega (arith, few)) each

second : (a b : Bool) → IsTrue (a && b) → IsTrue b
second true b h = h
second false b h = absurd cc

first : (a b : Bool) → IsTrue (a && b) → IsTrue a
first true b h = refl
first false b h = absurd cc

-- where it can be written, its results can
pub statuses_fit_alone : (moment : DateTime) (handle : ℕ) (results : Option (List StatusCode))
    → IsTrue (write_response.encodable (good_write moment handle results)) → IsTrue ((array (flat status_code)).encodable results)
unfolding write_response
statuses_fit_alone moment handle results h =
    first ((array (flat status_code)).encodable results) _ (second (response_header.encodable (response_header_of moment handle (of_code 0))) _ h)
