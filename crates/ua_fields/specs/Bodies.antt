-- The fields of a body: those of the message that it encodes.
use Rattle.std.specs.Prelude.{◌≡◌, ℕ, Bool, List, [], Option, Some, None}
use Rattle.ua_builtin.specs.Exact.{◌>>=◌}
use Rattle.ua_builtin.specs.Format.{Format, most_levels}
use Rattle.ua_builtin.specs.NodeId.{node_id}
use Rattle.ua_opening.specs.Header.{service_fault}
use Rattle.ua_opening.specs.SecureChannel.{open_request, close_request}
use Rattle.ua_opening.specs.Message.{IsBody, message, body_of}
use Rattle.ua_opening.specs.Open.{IsOpenAnswer, answer_read}
use Rattle.ua_services.specs.Request.{request}
use Rattle.ua_services.specs.Response.{response}
use Rattle.ua_fields.specs.declared.style.FieldStyle.{FieldStyle}
use Rattle.ua_fields.specs.Messages.{AreMessageLines, request_tree, response_tree, open_request_tree, open_answer_tree, close_request_tree, service_fault_tree}
use Rattle.ua_fields.specs.Messages.{request_fields, response_fields, open_request_fields, open_answer_fields, close_request_fields, service_fault_fields}
use Rattle.ua_fields.specs.declared.body.BodyKind.{BodyKind}
use Rattle.ua_fields.specs.declared.body.BodyKind.TheVariants.{Request, Response, OpenRequest, OpenResponse, CloseRequest}
use Rattle.ua_fields.specs.declared.side.Side.{Side}
use Rattle.ua_fields.specs.declared.side.Side.TheVariants.{Client, Server}

-- ---- by what reading gives

-- the lines of the message that was found, none if none was
abbrev pub fields_found : {A : Type 0} → (A → List ℕ) → Option A → List ℕ
fields_found fields None = []
fields_found fields (Some m) = fields m

-- the lines of the message whose body the bytes are; the response to OpenSecureChannel may be a
-- ServiceFault
unfoldable pub body_fields : Bool → BodyKind → List ℕ → List ℕ
body_fields names Request octets = fields_found (request_fields names) (body_of request octets)
body_fields names Response octets = fields_found (response_fields names) (body_of response octets)
body_fields names OpenRequest octets = fields_found (open_request_fields names) (body_of (message 446 open_request) octets)
body_fields names OpenResponse octets = fields_found (open_answer_fields names) (answer_read octets)
body_fields names CloseRequest octets = fields_found (close_request_fields names) (body_of (message 452 close_request) octets)

-- ---- in any style

-- this holds of the text of the message that was found; the text is empty if none was
abbrev pub IsFound : {A : Type 0} → (A → List ℕ → Type 0) → Option A → List ℕ → Type 0
IsFound Is None text = text ≡ []
IsFound Is (Some m) text = Is m text

-- a text has the lines of the message whose body the bytes are, in this style
abbrev pub IsBodyText : FieldStyle → BodyKind → List ℕ → List ℕ → Type 0
IsBodyText style Request octets text = IsFound (λ m. AreMessageLines style (request_tree m)) (body_of request octets) text
IsBodyText style Response octets text = IsFound (λ m. AreMessageLines style (response_tree m)) (body_of response octets) text
IsBodyText style OpenRequest octets text = IsFound (λ m. AreMessageLines style (open_request_tree m)) (body_of (message 446 open_request) octets) text
IsBodyText style OpenResponse octets text = IsFound (λ m. AreMessageLines style (open_answer_tree m)) (answer_read octets) text
IsBodyText style CloseRequest octets text = IsFound (λ m. AreMessageLines style (close_request_tree m)) (body_of (message 452 close_request) octets) text

-- ---- by the side that sent it

-- how the body of a MSG is decoded
abbrev pub message_kind : Side → BodyKind
message_kind Client = Request
message_kind Server = Response

-- how the body of an OPN is decoded
abbrev pub opening_kind : Side → BodyKind
opening_kind Client = OpenRequest
opening_kind Server = OpenResponse

-- ---- the header alone

-- the value after the NodeId at the start of the bytes, whatever follows it
abbrev pub behind_id : {A : Type 0} → Format A → List ℕ → Option A
behind_id format octets = node_id.decode octets >>= λ id. format.decode most_levels id.1 >>= λ value. Some value.0

-- a text has the lines of the header of a message that this side sent, if it is decoded
-- completely: a CloseSecureChannelRequest is a RequestHeader and no more, a ServiceFault a
-- ResponseHeader (OPC 10000-4, 5.6.3 and 7.35)
abbrev pub IsHeaderText : FieldStyle → Side → List ℕ → List ℕ → Type 0
IsHeaderText style Client octets text = IsFound (λ m. AreMessageLines style (close_request_tree m)) (behind_id close_request octets) text
IsHeaderText style Server octets text = IsFound (λ m. AreMessageLines style (service_fault_tree m)) (behind_id service_fault octets) text

-- the same lines, exact
abbrev pub header_fields : Bool → Side → List ℕ → List ℕ
header_fields names Client octets = fields_found (close_request_fields names) (behind_id close_request octets)
header_fields names Server octets = fields_found (service_fault_fields names) (behind_id service_fault octets)

-- ---- by what the bytes encode

-- the text is that of each value whose body the bytes are, and empty if they are the body of none
pub record AreFields {A : Type 0} (IsBodyOf : A → List ℕ → Type 0) (fields : A → List ℕ) (octets text : List ℕ) : Type 0 where
  pub some : (m : A) → IsBodyOf m octets → text ≡ fields m
  pub none : ((m : A) → IsBodyOf m octets → ⊥) → text ≡ []

-- the text has the lines of each message of this kind whose body the bytes are, and is empty if
-- they are the body of none
abbrev pub AreBodyFields : Bool → BodyKind → List ℕ → List ℕ → Type 0
AreBodyFields names Request octets text = AreFields (IsBody request) (request_fields names) octets text
AreBodyFields names Response octets text = AreFields (IsBody response) (response_fields names) octets text
AreBodyFields names OpenRequest octets text = AreFields (IsBody (message 446 open_request)) (open_request_fields names) octets text
AreBodyFields names OpenResponse octets text = AreFields IsOpenAnswer (open_answer_fields names) octets text
AreBodyFields names CloseRequest octets text = AreFields (IsBody (message 452 close_request)) (close_request_fields names) octets text
