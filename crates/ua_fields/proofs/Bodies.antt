-- What the lines of a body are.
use Rattle.std.specs.Prelude.{◌≡◌, ℕ, Bool, List, ◌++◌, Option, Some, None, Result, Ok, Err, OnOk, ◌↔◌}
use Rattle.std.proofs.Common.{refl, ap, ◌∙◌}
use Rattle.ua_opening.specs.Header.{service_fault}
use Rattle.ua_opening.specs.SecureChannel.{open_request, close_request}
use Rattle.ua_opening.proofs.SecureChannelLawful.{lawful_open_request, lawful_close_request}
use Rattle.ua_opening.specs.Message.{body_of, message}
use Rattle.ua_opening.specs.Open.{answer_read}
use Rattle.ua_opening.proofs.MessageRead.{body_of-found, answer_read-is}
use Rattle.ua_opening.proofs.MessagesLawful.{lawful_message}
use Rattle.ua_services.proofs.RequestLawful.{lawful_request}
use Rattle.ua_services.proofs.ResponseLawful.{lawful_response}
use Rattle.ua_services.specs.Request.{request}
use Rattle.ua_services.specs.Response.{response}
use Rattle.ua_texts.specs.PlainLeaf.{Adds}
use Rattle.ua_fields.proofs.Behind.{exact_message}
use Rattle.ua_fields.specs.Styles.{exact_field_style}
use Rattle.ua_fields.specs.Tree.{Tree}
use Rattle.ua_fields.specs.Messages.{AreMessageLines, message_lines, request_tree, response_tree}
use Rattle.ua_fields.specs.Messages.{open_request_tree, open_answer_tree, close_request_tree, service_fault_tree}
use Rattle.ua_fields.specs.Bodies.{AreBodyFields, AreFields, IsBodyText, IsFound, IsHeaderText, behind_id, body_fields, fields_found, header_fields}
use Rattle.ua_fields.specs.declared.body.BodyKind.{BodyKind}
use Rattle.ua_fields.specs.declared.body.BodyKind.TheVariants.{Request, Response, OpenRequest, OpenResponse, CloseRequest}
use Rattle.ua_fields.specs.declared.side.Side.{Side}
use Rattle.ua_fields.specs.declared.side.Side.TheVariants.{Client, Server}

-- ---- what reading gives is what the octets encode

are_fields : {A : Type 0} (Is : A → List ℕ → Type 0) (fields : A → List ℕ) (octets : List ℕ) (o : Option A) → ((m : A) → (o ≡ Some m) ↔ Is m octets)
    → AreFields Is fields octets (fields_found fields o)
are_fields Is fields octets None found = record { some = λ m h. absurd (let none : None ≡ Some m = (found m).1 h in cc); none = λ h. refl }
are_fields Is fields octets (Some w) found = record { some = λ m h. ap (fields_found fields) ((found m).1 h); none = λ h. absurd (h w ((found w).0 refl)) }

pub body_told : (names : Bool) (kind : BodyKind) (octets : List ℕ) → AreBodyFields names kind octets (body_fields names kind octets)
unfolding body_fields
body_told names Request octets = are_fields _ _ octets _ (λ m. body_of-found request lawful_request octets m)
body_told names Response octets = are_fields _ _ octets _ (λ m. body_of-found response lawful_response octets m)
body_told names OpenRequest octets = are_fields _ _ octets _ (λ m. body_of-found (message 446 open_request) (lawful_message 446 lawful_open_request) octets m)
body_told names OpenResponse octets = are_fields _ _ octets _ (λ m. answer_read-is octets m)
body_told names CloseRequest octets =
    are_fields _ _ octets _ (λ m. body_of-found (message 452 close_request) (lawful_message 452 lawful_close_request) octets m)

-- ---- exact texts

exact_found : {A : Type 0} (names : Bool) (tree : A → Tree) (found : Option A) (text : List ℕ)
    → IsFound (λ m. AreMessageLines (exact_field_style names) (tree m)) found text → text ≡ fields_found (λ m. message_lines names (tree m)) found
exact_found names tree None text h = h
exact_found names tree (Some m) text h = exact_message names (tree m) text h

pub exact_text_of : (names : Bool) (kind : BodyKind) (octets text : List ℕ) → IsBodyText (exact_field_style names) kind octets text
    → text ≡ body_fields names kind octets
unfolding body_fields
exact_text_of names Request octets text h = exact_found names request_tree (body_of request octets) text h
exact_text_of names Response octets text h = exact_found names response_tree (body_of response octets) text h
exact_text_of names OpenRequest octets text h = exact_found names open_request_tree (body_of (message 446 open_request) octets) text h
exact_text_of names OpenResponse octets text h = exact_found names open_answer_tree (answer_read octets) text h
exact_text_of names CloseRequest octets text h = exact_found names close_request_tree (body_of (message 452 close_request) octets) text h

pub exact_header : (names : Bool) (side : Side) (octets text : List ℕ) → IsHeaderText (exact_field_style names) side octets text
    → text ≡ header_fields names side octets
exact_header names Client octets text h = exact_found names close_request_tree (behind_id close_request octets) text h
exact_header names Server octets text h = exact_found names service_fault_tree (behind_id service_fault octets) text h

pub exact_body : {E : Type 0} (r : Result (Unit {0}) E) (names : Bool) (kind : BodyKind) (octets old new : List ℕ)
    → Adds r old new (IsBodyText (exact_field_style names) kind octets) → OnOk r (new ≡ old ++ body_fields names kind octets)
exact_body (Ok u) names kind octets old new h = h.1 ∙ ap (λ (t : List ℕ). old ++ t) (exact_text_of names kind octets h.0 h.2)
exact_body (Err x) names kind octets old new h = tt
