-- Requests from texts.
use Rattle.std.specs.Prelude.{◌≡◌, ◌⊎◌, ◌<◌, false, ℕ, nat_eq, List, [], ◌∷◌, length, get_or, take, map, Option, Some, Result, Ok, Err, IsTrue, IsFalse}
use Rattle.std.specs.List.{AllZip, slice_split}
use Rattle.std.specs.Str.{IsUtf8}
use Rattle.ua_builtin.specs.NodeText.{NamesNode}
use Rattle.ua_builtin.specs.declared.date_time.DateTime.{DateTime}
use Rattle.ua_builtin.specs.declared.node_id.NodeId.{NodeId}
use Rattle.ua_services.specs.SessionRequests.{activate_session_as, part_of_node, read, value_alone, write}
use Rattle.ua_services.specs.Request.{request}
use Rattle.ua_services.specs.declared.request.Request.{Request}
use Rattle.ua_structures.specs.Plain.{value_for_node}
use Rattle.ua_structures.specs.declared.attribute.ReadValueId.{ReadValueId}
use Rattle.ua_answers.specs.Script.{range_of}
use Rattle.ua_variant.specs.View.{variant_of}
use Rattle.ua_variant.specs.declared.values.Variant.{Variant}
use Rattle.ua_c.specs.BadText.{IsBad}
use Rattle.ua_c.specs.Status.{no_memory, bad_text, text_node, text_nodes, text_policy, text_range, text_token}
use Rattle.ua_c.specs.declared.bad_text.BadText.{BadText}
use Rattle.ua_c.specs.Texts.{HasNoValueBy, IsBufferKept, IsNoString, IsString, IsValueOf, Puts}

-- ---- the texts of NodeIds

-- a text names a NodeId
abbrev pub Names : List ℕ → NodeId → Type 0
Names text node = NamesNode node text

-- a text names none
abbrev pub NamesNone : List ℕ → Type 0
NamesNone text = (node : NodeId) → ¬ (Names text node)

-- an allocation failed, or a text names no NodeId
abbrev pub IsUnnamed : List ℕ → ℕ → Type 0
IsUnnamed text status = (status ≡ no_memory) ⊎ ((status ≡ bad_text) × NamesNone text)

-- bytes are UTF-8, and the text of a NodeId
pub record IsNodeText (octets : List ℕ) (node : NodeId) : Type 0 where
  pub utf8 : IsUtf8 octets
  pub names : Names octets node

-- an allocation failed, or bytes are not UTF-8, or the text of no NodeId
abbrev pub IsNoNode : List ℕ → ℕ → Type 0
IsNoNode octets status = (status ≡ no_memory) ⊎ ((status ≡ bad_text) × (¬ (IsUtf8 octets) ⊎ NamesNone octets))

-- the lines of a text: what comes before, between and after its LFs
abbrev pub lines : List ℕ → List (List ℕ)
lines text = slice_split (λ b. nat_eq b 10) text

-- the lines of a text name these NodeIds, each its own
abbrev pub LinesNameNodes : List ℕ → List NodeId → Type 0
LinesNameNodes text nodes = AllZip Names (lines text) nodes

-- the line at an index is the first that names no NodeId
pub record IsFirstNone (text : List ℕ) (index : ℕ) : Type 0 where
  pub before : List NodeId
  pub are : AllZip Names (take index (lines text)) before
  pub line : List ℕ
  pub here : index < length (lines text)
  pub is : get_or (lines text) index line ≡ line
  pub none : NamesNone line

-- an allocation failed at the line at an index, or it is the first that names no NodeId
abbrev pub IsUnnamedAt : List ℕ → ℕ → ℕ → Type 0
IsUnnamedAt text index status = (status ≡ no_memory) ⊎ ((status ≡ bad_text) × IsFirstNone text index)

-- the same for a text that is bad; or an allocation failed for the list
abbrev pub AreUnnamed : List ℕ → BadText → Type 0
AreUnnamed text bad = IsBad text_nodes (λ status. status ≡ no_memory) bad ⊎ ((bad.text ≡ text_node) × IsUnnamedAt text bad.index bad.status)

-- bytes are UTF-8, and their lines the texts of NodeIds
pub record AreNodeTexts (octets : List ℕ) (nodes : List NodeId) : Type 0 where
  pub utf8 : IsUtf8 octets
  pub named : LinesNameNodes octets nodes

-- an allocation failed, or bytes are not UTF-8
abbrev pub IsNoText : List ℕ → ℕ → Type 0
IsNoText octets status = (status ≡ no_memory) ⊎ ((status ≡ bad_text) × ¬ (IsUtf8 octets))

-- the whole is bad, as text_nodes, or the line at the index, as text_node: it is the first that is
-- the text of no NodeId
abbrev pub AreNoNodes : List ℕ → BadText → Type 0
AreNoNodes octets bad = IsBad text_nodes (IsNoText octets) bad ⊎ ((bad.text ≡ text_node) × IsUnnamedAt octets bad.index bad.status)

-- ---- index ranges

-- bytes are UTF-8, and an index range, which is null if there are none
pub record IsRangeText (octets : List ℕ) (range : Option (List ℕ)) : Type 0 where
  pub utf8 : IsUtf8 octets
  pub is : range ≡ range_of octets

-- ---- requests

-- the request of a URL, or why there is none
abbrev pub MakesOfUrl : (Option (List ℕ) → Request) → List ℕ → Result Request ℕ → Type 0
MakesOfUrl request_of url (Ok r) = IsString url × (r ≡ request_of (Some url))
MakesOfUrl request_of url (Err status) = IsNoString url status

-- the request under the token of a text
pub record IsUnder (request_of : NodeId → Request) (token : List ℕ) (r : Request) : Type 0 where
  pub id : NodeId
  pub is_text : IsNodeText token id
  pub is : r ≡ request_of id

-- the same, or why there is none
abbrev pub MakesUnder : (NodeId → Request) → List ℕ → Result Request ℕ → Type 0
MakesUnder request_of token (Ok r) = IsUnder request_of token r
MakesUnder request_of token (Err status) = IsNoNode token status

-- an ActivateSession under the token of a text, by the token policy that has another one as its
-- PolicyId
pub record IsActivation (token policy : List ℕ) (moment : DateTime) (handle : ℕ) (r : Request) : Type 0 where
  pub id : NodeId
  pub is_token : IsNodeText token id
  pub is_policy : IsString policy
  pub is : r ≡ activate_session_as (Some policy) id moment handle

-- the same, or why there is none, and which text is bad
abbrev pub MakesActivation : List ℕ → List ℕ → DateTime → ℕ → Result Request BadText → Type 0
MakesActivation token policy moment handle (Ok r) = IsActivation token policy moment handle r
MakesActivation token policy moment handle (Err bad) = IsBad text_token (IsNoNode token) bad ⊎ IsBad text_policy (IsNoString policy) bad

-- the items of a Read of the Values of nodes, or of the parts of them that an index range names
abbrev pub items_of_read : Option (List ℕ) → List NodeId → List ReadValueId
items_of_read part nodes = map (λ node. part_of_node node part) nodes

-- a Read of the Values of the nodes that lines name, or of the parts of them that an index range
-- names
pub record IsReadOf (token : List ℕ) (moment : DateTime) (handle : ℕ) (nodes range : List ℕ) (r : Request) : Type 0 where
  pub id : NodeId
  pub is_token : IsNodeText token id
  pub each : List NodeId
  pub are_nodes : AreNodeTexts nodes each
  pub part : Option (List ℕ)
  pub is_range : IsRangeText range part
  pub is : r ≡ read id moment handle (items_of_read part each)

-- the same, or why there is none, and which text is bad
abbrev pub MakesRead : List ℕ → DateTime → ℕ → List ℕ → List ℕ → Result Request BadText → Type 0
MakesRead token moment handle nodes range (Ok r) = IsReadOf token moment handle nodes range r
MakesRead token moment handle nodes range (Err bad) = IsBad text_token (IsNoNode token) bad ⊎ AreNoNodes nodes bad ⊎ IsBad text_range (IsNoText range) bad

-- a Write that sets the Value of one node to that of a type and a text, without status and
-- timestamps
pub record IsWriteOf (token : List ℕ) (moment : DateTime) (handle : ℕ) (node kind text : List ℕ) (r : Request) : Type 0 where
  pub id : NodeId
  pub is_token : IsNodeText token id
  pub item : NodeId
  pub is_node : IsNodeText node item
  pub value : Variant
  pub is_value : IsValueOf kind text value
  pub is : r ≡ write id moment handle (value_for_node item (value_alone (variant_of value)) ∷ [])

-- the same, or why there is none, and which text is bad
abbrev pub MakesWrite : List ℕ → DateTime → ℕ → List ℕ → List ℕ → List ℕ → Result Request BadText → Type 0
MakesWrite token moment handle node kind text (Ok r) = IsWriteOf token moment handle node kind text r
MakesWrite token moment handle node kind text (Err bad) = IsBad text_token (IsNoNode token) bad ⊎ IsBad text_node (IsNoNode node) bad
    ⊎ HasNoValueBy false kind text bad

-- ---- bodies

-- a request can be encoded, and its body is put into a buffer; else nothing was written: an
-- allocation failed, or it cannot be
abbrev pub PutsBody : Request → List ℕ → List ℕ → ℕ → ℕ → Type 0
PutsBody r before after needed status = (IsTrue (request.encodable r) × Puts (request.canonical r) before after needed status)
    ⊎ (IsBufferKept before after needed × ((status ≡ no_memory) ⊎ ((status ≡ bad_text) × IsFalse (request.encodable r))))

-- the same, or there is no request
abbrev pub PutsMade : Result Request ℕ → List ℕ → List ℕ → ℕ → ℕ → Type 0
PutsMade (Ok r) before after needed status = PutsBody r before after needed status
PutsMade (Err why) before after needed status = IsBufferKept before after needed × (status ≡ why)

-- the same, and which text is bad is told; 0 if there is a request
abbrev pub PutsTold : Result Request BadText → List ℕ → List ℕ → ℕ → ℕ → ℕ → Type 0
PutsTold (Ok r) before after needed reason status = PutsBody r before after needed status × (reason ≡ 0)
PutsTold (Err bad) before after needed reason status = IsBufferKept before after needed × (status ≡ bad.status) × (reason ≡ bad.text)

-- a request is `P`, or there is none for a text that is `P`; its body is put into a buffer, and the
-- text told
pub record MakesRequestBodyTelling (P : Result Request BadText → Type 0) (before after : List ℕ) (needed reason status : ℕ) : Type 0 where
  pub made : Result Request BadText
  pub is : P made
  pub puts : PutsTold made before after needed reason status

-- a request is `P`, or there is none for a reason that is `P`; its body is put into a buffer
pub record MakesRequestBody (P : Result Request ℕ → Type 0) (before after : List ℕ) (needed status : ℕ) : Type 0 where
  pub made : Result Request ℕ
  pub is : P made
  pub puts : PutsMade made before after needed status
