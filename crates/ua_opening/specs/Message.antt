-- Messages: the NodeId of an encoding, and after it the structure that it announces.
use Rattle.std.specs.Prelude.{ℕ, List, [], ◌∷◌, ◌++◌, Bool, ◌&&◌, cond, nat_eq, Option, Some, None, Result, Ok, Err}
use Rattle.ua_builtin.specs.Exact.{◌>>=◌, Follows, then_read, Image, image_read}
use Rattle.ua_builtin.specs.Format.{Format, Within, most_levels}
use Rattle.ua_builtin.specs.NodeId.{node_id}
use Rattle.ua_builtin.specs.declared.node_id.NodeId.{NodeId}
use Rattle.ua_builtin.specs.declared.node_id.Identifier.{Identifier}
use Rattle.ua_builtin.specs.declared.node_id.Identifier.TheVariants.{Numeric, Text, Guid as Global, Opaque}
use Rattle.ua_opening.specs.Header.{request_header}
use Rattle.ua_opening.specs.declared.header.RequestHeader.{RequestHeader}

-- ---- the NodeIds of encodings

-- the number that an identifier is, if it is a numeric one
abbrev pub number_in_identifier : Identifier → Option ℕ
number_in_identifier (Numeric n) = Some n
number_in_identifier (Text t) = None
number_in_identifier (Global g) = None
number_in_identifier (Opaque b) = None

-- the number of a NodeId of the standard's namespace
abbrev pub standard_number : NodeId → Option ℕ
standard_number id = cond (nat_eq id.namespace 0) (number_in_identifier id.identifier) None

-- the NodeId of the standard's namespace with this number
abbrev pub standard : ℕ → NodeId
standard n = record { namespace = 0; identifier = Numeric n }

-- ---- messages of several kinds

-- a kind of message: the name and the number of its binary encoding (OPC 10000-6, A.3), its
-- structure, how bytes encode that, and the message that is made of it
pub record Kind (V : Type 0) : Type 1 where
  pub name : List ℕ
  pub number : ℕ
  pub structure : Type 0
  pub format : Format structure
  pub make : structure → V

-- the first of these kinds that has this number
abbrev pub with_number : {K : Type 0} → (K → ℕ) → ℕ → List K → Option K
with_number number n [] = None
with_number number n (k ∷ ks) = cond (nat_eq n (number k)) (Some k) (with_number number n ks)

-- the kinds of a message: the structure of each, and how bytes encode it; the number of its
-- encoding; how a message is made of its kind and structure
pub record Kinds (K V : Type 0) : Type 1 where
  pub structure : K → Type 0
  pub format : (k : K) → Format (structure k)
  pub number : K → ℕ
  pub numbered : ℕ → Option K
  pub make : (k : K) → structure k → V
  pub parts : V → (k : K) × structure k

-- the kind that a NodeId announces
abbrev pub announced : {K V : Type 0} → Kinds K V → NodeId → Option K
announced kinds id = standard_number id >>= kinds.numbered

-- the bytes encode the structure of this kind, and the message is made of it; if no kind was
-- announced there is no message
abbrev pub OfKind : {K V : Type 0} → Kinds K V → Option K → V → List ℕ → Type 0
OfKind kinds None v b = ⊥
OfKind kinds (Some k) v b = Image (kinds.make k) (kinds.format k).encodes v b

-- the message of this kind at the start of bytes, and the bytes after it
abbrev pub kind_at : {K V : Type 0} → Kinds K V → ℕ → Option K → List ℕ → Option (V × List ℕ)
kind_at kinds levels None octets = None
kind_at kinds levels (Some k) octets = image_read (kinds.make k) ((kinds.format k).decode levels) octets

-- the nesting depth of a message: that of its structure
abbrev pub message_depth : {K V : Type 0} → Kinds K V → V → ℕ
message_depth kinds v = (kinds.format (kinds.parts v).0).depth (kinds.parts v).1

-- the count of values of a message: that of its structure
abbrev pub message_count : {K V : Type 0} → Kinds K V → V → ℕ
message_count kinds v = (kinds.format (kinds.parts v).0).count (kinds.parts v).1

-- the NodeId that precedes the encoding of the structure
abbrev pub message_id : {K V : Type 0} → Kinds K V → V → NodeId
message_id kinds v = standard (kinds.number (kinds.parts v).0)

abbrev pub message_encodable : {K V : Type 0} → Kinds K V → V → Bool
message_encodable kinds v = node_id.encodable (message_id kinds v) && (kinds.format (kinds.parts v).0).encodable (kinds.parts v).1

abbrev pub message_canonical : {K V : Type 0} → Kinds K V → V → List ℕ
message_canonical kinds v = node_id.canonical (message_id kinds v) ++ (kinds.format (kinds.parts v).0).canonical (kinds.parts v).1

-- the bytes encode the NodeId of a kind, and after it the structure of that kind (OPC 10000-6,
-- 5.2.9)
abbrev pub IsMessage : {K V : Type 0} → Kinds K V → V → List ℕ → Type 0
IsMessage kinds = Follows node_id.encodes (λ id. OfKind kinds (announced kinds id))

-- the message at the start of bytes, and the bytes after it
abbrev pub message_at : {K V : Type 0} → Kinds K V → ℕ → List ℕ → Option (V × List ℕ)
message_at kinds levels = then_read node_id.decode (λ id. kind_at kinds levels (announced kinds id))

-- the NodeId of the encoding, and after it the structure that it announces (OPC 10000-6, 5.2.9)
abbrev pub message_of : {K V : Type 0} → Kinds K V → Format V
message_of kinds = record {
  encodes = IsMessage kinds;
  depth = message_depth kinds;
  count = message_count kinds;
  encodable = message_encodable kinds;
  canonical = message_canonical kinds;
  decode = message_at kinds;
}

-- ---- a message of one kind alone

-- the one kind, whose encoding has this number and whose structure this format
abbrev pub alone : {A : Type 0} → ℕ → Format A → Kinds (Unit {0}) A
alone {A = A} number f = record {
  structure = λ k. A;
  format = λ k. f;
  number = λ k. number;
  numbered = λ n. cond (nat_eq n number) (Some tt) None;
  make = λ k s. s;
  parts = λ v. (tt, v);
}

-- the NodeId of the encoding, and after it the structure
abbrev pub message : {A : Type 0} → ℕ → Format A → Format A
message number f = message_of (alone number f)

-- ---- bodies

-- the bytes are an encoding of the message, of nesting depth at most 100, and nothing follows it
-- (OPC 10000-6, 6.7.2)
abbrev pub IsBody : {A : Type 0} → Format A → A → List ℕ → Type 0
IsBody format m octets = Within format.encodes format.depth most_levels m octets

-- no message has these bytes as its body
abbrev pub IsNoBody : {A : Type 0} → Format A → List ℕ → Type 0
IsNoBody {A = A} format octets = (m : A) → IsBody format m octets → ⊥

-- what was decoded, if no bytes follow it
abbrev pub if_last : {A : Type 0} → A → List ℕ → Option A
if_last v [] = Some v
if_last v (x ∷ rest) = None

-- the message whose body the bytes are
abbrev pub body_of : {A : Type 0} → Format A → List ℕ → Option A
body_of format octets = format.decode most_levels octets >>= λ x. if_last x.0 x.1

-- the NodeId at the start of a body
abbrev pub id_of_body : List ℕ → Option NodeId
id_of_body octets = node_id.decode octets >>= λ x. Some x.0

-- the RequestHandle of the RequestHeader that was decoded, or 0 if none was (OPC 10000-4, 7.33)
abbrev pub header_handle : Option (RequestHeader × List ℕ) → ℕ
header_handle None = 0
header_handle (Some x) = x.0.request_handle

-- the RequestHandle of the RequestHeader at the start of bytes, or 0 if no header is decoded
-- completely
abbrev pub handle_behind : List ℕ → ℕ
handle_behind octets = header_handle (request_header.decode most_levels octets)

-- the RequestHandle in the bytes after the NodeId that was decoded, or 0 if none was
abbrev pub id_handle : Option (NodeId × List ℕ) → ℕ
id_handle None = 0
id_handle (Some x) = handle_behind x.1

-- the RequestHandle of a body, whose header follows the NodeId; 0 if the header is not decoded
-- completely
abbrev pub handle_of : List ℕ → ℕ
handle_of octets = id_handle (node_id.decode octets)

-- ---- what a reader answers

-- the message that was found, otherwise the error
abbrev pub found_or : {A E : Type 0} → Option A → E → Result A E
found_or None fault = Err fault
found_or (Some m) fault = Ok m
