-- The turns that begin a session are accepted.
use Rattle.std.proofs.Common.{[], ◌∷◌, refl}
use Rattle.std.specs.Char.{encode_utf8}
use Rattle.std.specs.Fmt.{digits}
use Rattle.std.specs.Str.{chars, is_utf8}
use Rattle.ua_builtin.specs.Counted.{counted, text}
use Rattle.ua_builtin.specs.DateTime.{date_time}
use Rattle.ua_builtin.specs.ExtensionObject.{extension_object}
use Rattle.ua_builtin.specs.LocalizedText.{localized_text}
use Rattle.ua_builtin.specs.NodeId.{node_id}
use Rattle.ua_chunk.specs.Cutting.{pieces}
use Rattle.ua_wire.specs.Boolean.{boolean}
use Rattle.ua_wire.specs.DoubleBits.{double_bits}
use Rattle.ua_wire.specs.Number.{number_octets}
use Rattle.ua_services.specs.SessionRequests.{activate_session, local_url}
use Rattle.ua_services.specs.Request.{request}
use Rattle.ua_opening.specs.Array.{array}
use Rattle.ua_structures.specs.Discovery.{application_description}
use Rattle.ua_opening.specs.Header.{request_header}
use Rattle.ua_structures.specs.Session.{activate_session_request, anonymous_identity_token, create_session_request, signature_data, signed_software_certificate}
use Rattle.ua_exchange.specs.Accepted.{IsAccepted}
use Rattle.ua_exchange.specs.declared.turn.Turn.TheVariants.{Ask}
use Rattle.ua_program.specs.Script.{creating, script_moment, token}

pub creating-accepted : IsAccepted [] (Ask creating)
unfolding array application_description boolean chars counted create_session_request date_time digits double_bits encode_utf8 extension_object is_utf8 local_url
    localized_text node_id number_octets pieces request request_header text
creating-accepted = refl

pub activating-accepted : IsAccepted (Ask creating ∷ []) (Ask (activate_session token script_moment 3))
unfolding activate_session_request anonymous_identity_token array boolean chars counted date_time encode_utf8 extension_object is_utf8 localized_text node_id
    number_octets pieces request request_header signature_data signed_software_certificate text
activating-accepted = refl
