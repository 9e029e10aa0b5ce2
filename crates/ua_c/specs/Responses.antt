-- Responses as texts.
use Rattle.std.specs.Prelude.{string_bytes, ◌≡◌, ◌≢◌, ◌⊎◌, ℕ, List, [], length, Option, Some, None, Result, Ok, Err, false}
use Rattle.std.specs.declared.alloc.Global.{Global}
use Rattle.std_alloc.specs.declared.string.String.{String}
use Rattle.ua_builtin.specs.NodeText.{NamesNode, with_empty_identifier, node_text}
use Rattle.ua_builtin.specs.declared.node_id.NodeId.{NodeId}
use Rattle.ua_opening.specs.Message.{IsBody, IsNoBody}
use Rattle.ua_services.specs.Response.{header_of_response, kind_of_response, response, responses}
use Rattle.ua_services.specs.declared.response.Response.{Response}
use Rattle.ua_services.specs.declared.response.Response.TheVariants.{CreateSession}
use Rattle.ua_answers.specs.Answers.{read_lines, write_lines}
use Rattle.ua_answers.specs.Replies.{AreAnswers, AreEndpoints, endpoints_in, fault_in, statuses_in, values_in}
use Rattle.ua_answers.specs.Styles.{plain, plain_endpoints}
use Rattle.ua_answers.specs.declared.fault.AnswerFault.{AnswerFault}
use Rattle.ua_answers.specs.declared.fault.AnswerFault.TheVariants.{Service, Unknown, OutOfMemory}
use Rattle.ua_c.specs.Requests.{AreNoNodes, AreNodeTexts}
use Rattle.ua_c.specs.Status.{ok, no_memory, bad_octets, service, unknown}
use Rattle.ua_c.specs.declared.bad_text.BadText.{BadText}
use Rattle.ua_c.specs.Texts.{IsBufferKept, Puts}

-- ---- texts

-- the bytes of a text, if there is one
abbrev pub octets_in_text : Result (String Global) ℕ → Result (List ℕ) ℕ
octets_in_text (Ok text) = Ok (string_bytes text)
octets_in_text (Err status) = Err status

-- ---- responses

-- bytes are the body of a response
abbrev pub IsResponse : List ℕ → Response → Type 0
IsResponse body r = IsBody response r body

-- an allocation failed, or bytes are the body of no response
abbrev pub IsNoResponse : List ℕ → ℕ → Type 0
IsNoResponse body status = (status ≡ no_memory) ⊎ ((status ≡ bad_octets) × IsNoBody response body)

-- a property of the response that bytes are the body of
pub record OfResponse (body : List ℕ) (P : Response → Type 0) : Type 0 where
  pub r : Response
  pub is : IsResponse body r
  pub holds : P r

-- what C is told of a response of which nothing is printed: that an allocation failed; that the
-- service failed, and the code; or that it is `IsOther`
abbrev pub TellsNone : (Response → Type 0) → Response → ℕ → ℕ → Type 0
TellsNone IsOther r code status = ((status ≡ no_memory) × (code ≡ 0))
    ⊎ ((status ≡ service) × (fault_in r ≡ Some (record { code = code })))
    ⊎ ((status ≡ unknown) × (code ≡ 0) × (fault_in r ≡ None) × IsOther r)

-- ---- kinds

-- the number of the binary encoding of a response (OPC 10000-6, A.3), and the ServiceResult in its
-- header
abbrev pub IsKindOf : Response → ℕ → ℕ → Type 0
IsKindOf r kind service_result = (kind ≡ responses.number (kind_of_response r)) × (service_result ≡ (header_of_response r).service_result.code)

-- those of the response that bytes are the body of, or why there are none
abbrev pub KindBy : List ℕ → ℕ → ℕ → ℕ → Type 0
KindBy body kind service_result status = ((status ≡ ok) × OfResponse body (λ r. IsKindOf r kind service_result))
    ⊎ (IsNoResponse body status × (kind ≡ 0) × (service_result ≡ 0))

-- ---- tokens

-- the AuthenticationToken in a response to CreateSession
abbrev pub token_in_response : Response → Option NodeId
token_in_response (CreateSession m) = Some m.authentication_token
token_in_response r = None

-- a text is that of the token in a response, and names it, if an identifier that is null counts as
-- empty
pub record IsToken (r : Response) (text : List ℕ) : Type 0 where
  pub id : NodeId
  pub given : token_in_response r ≡ Some id
  pub is : text ≡ node_text id
  pub names : NamesNode (with_empty_identifier id) text

-- a response has no token
abbrev pub BringsNoToken : Response → Type 0
BringsNoToken r = token_in_response r ≡ None

-- the text of the token in the response that bytes are, or why there is none
abbrev pub TokenBy : List ℕ → ℕ → Result (List ℕ) ℕ → Type 0
TokenBy body code (Ok text) = (code ≡ 0) × OfResponse body (λ r. IsToken r text)
TokenBy body code (Err status) = (IsNoResponse body status × (code ≡ 0)) ⊎ OfResponse body (λ r. TellsNone BringsNoToken r code status)

-- ---- lines

-- the lines of the answers in a response to a Read or a Write of nodes, one each, or the lines of
-- the endpoints in one to GetEndpoints, were appended
abbrev pub AddsFor : List NodeId → Response → List ℕ → List ℕ → Type 0
AddsFor nodes r old new = AreAnswers (values_in r) (length nodes) (read_lines (plain false) nodes) old new
    ⊎ AreAnswers (statuses_in r) (length nodes) (write_lines (plain false) nodes) old new
    ⊎ AreEndpoints plain_endpoints (endpoints_in r) old new

-- the same, alone, of the nodes that lines name
pub record AreLinesFor (nodes : List ℕ) (r : Response) (text : List ℕ) : Type 0 where
  pub each : List NodeId
  pub are_nodes : AreNodeTexts nodes each
  pub adds : AddsFor each r [] text

-- there is not this number of answers
abbrev pub HasNot : {A : Type 0} → ℕ → Option (List A) → Type 0
HasNot {A = A} asked answers = (each : List A) → answers ≡ Some each → length each ≢ asked

-- a response does not have this number of answers to a Read or a Write, and is not one to
-- GetEndpoints
pub record HasNoLines (asked : ℕ) (r : Response) : Type 0 where
  pub values : HasNot asked (values_in r)
  pub statuses : HasNot asked (statuses_in r)
  pub endpoints : endpoints_in r ≡ None

-- the same, of the nodes that lines name
pub record HasNoLinesFor (nodes : List ℕ) (r : Response) : Type 0 where
  pub each : List NodeId
  pub are_nodes : AreNodeTexts nodes each
  pub none : HasNoLines (length each) r

-- why no lines were appended
abbrev pub AddsNoLinesFor : ℕ → Response → AnswerFault → Type 0
AddsNoLinesFor asked r (Service code) = fault_in r ≡ Some code
AddsNoLinesFor asked r Unknown = (fault_in r ≡ None) × HasNoLines asked r
AddsNoLinesFor asked r OutOfMemory = Unit {0}

-- the status of that, and the code
abbrev pub IsFaultStatus : AnswerFault → ℕ → ℕ → Type 0
IsFaultStatus (Service code) told status = (status ≡ service) × (told ≡ code.code)
IsFaultStatus Unknown told status = (status ≡ unknown) × (told ≡ 0)
IsFaultStatus OutOfMemory told status = (status ≡ no_memory) × (told ≡ 0)

-- an allocation failed, or the lines of bytes are not the texts of NodeIds
abbrev pub HasNoNodes : List ℕ → ℕ → Type 0
HasNoNodes nodes status = (bad : BadText) × AreNoNodes nodes bad × (bad.status ≡ status)

-- the lines of the response that bytes are, to a request for the nodes that lines name, or why
-- there are none
abbrev pub LinesBy : List ℕ → List ℕ → ℕ → Result (List ℕ) ℕ → Type 0
LinesBy nodes body code (Ok text) = (code ≡ 0) × OfResponse body (λ r. AreLinesFor nodes r text)
LinesBy nodes body code (Err status) = ((HasNoNodes nodes status ⊎ IsNoResponse body status) × (code ≡ 0))
    ⊎ OfResponse body (λ r. TellsNone (HasNoLinesFor nodes) r code status)

-- ---- buffers

-- a text is put into a buffer, if there is one
abbrev pub PutsReply : Result (List ℕ) ℕ → List ℕ → List ℕ → ℕ → ℕ → Type 0
PutsReply (Ok text) before after needed status = Puts text before after needed status
PutsReply (Err why) before after needed status = IsBufferKept before after needed × (status ≡ why)

-- a text is `P`, or there is none for a reason that is `P`; it is put into a buffer
pub record MakesReply (P : Result (List ℕ) ℕ → Type 0) (before after : List ℕ) (needed status : ℕ) : Type 0 where
  pub made : Result (List ℕ) ℕ
  pub is : P made
  pub puts : PutsReply made before after needed status
