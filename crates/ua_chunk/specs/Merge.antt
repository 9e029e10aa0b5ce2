-- Messages that are sent at the same time, so that their chunks come merged: what is to be
-- delivered of them. Messages of RequestIds 3 and 5 may come as C (3), C (5), F (3), F (5), or in
-- any other order that keeps the order of the chunks of each RequestId.
use Rattle.std.specs.Prelude.{◌≡◌, ℕ, ◌==◌, Bool, true, false, if◌then◌else◌, length, map, Option, Some, None, List, [], ◌∷◌, ◌++◌}
use Rattle.std.specs.List.{filter, flat_map}
use Rattle.ua_chunk.specs.declared.chunk.Chunk.{Chunk}
use Rattle.ua_chunk.specs.declared.flag.Flag.{Flag}
use Rattle.ua_chunk.specs.declared.flag.Flag.TheVariants.{F, C, A}
use Rattle.ua_chunk.specs.Abort.{abort_of, is_readable_abort}
use Rattle.ua_chunk.specs.Delivered.{aborted}
use Rattle.ua_chunk.specs.Flag.{is_more_flag}
use Rattle.ua_chunk.specs.Gathered.{is_of, ends}
use Rattle.ua_chunk.specs.Item.{Item}
use Rattle.ua_chunk.specs.Item.Item.{Whole, Aborted}
use Rattle.ua_chunk.specs.Refusal.{passes}

-- what a chunk brings of its message
pub record Part : Type 0 where
  pub flag : Flag
  pub request : ℕ
  pub body : List ℕ

-- the part of its message that a chunk brings
abbrev pub part_of : Chunk → Part
part_of c = record { flag = c.flag; request = c.request; body = c.body }

-- a message as it is sent: the bodies of its C chunks, and its last chunk, an F or an A
pub record Sent : Type 0 where
  pub request : ℕ
  pub pieces : List (List ℕ)
  pub end : Flag
  pub last : List ℕ

-- the part that a C chunk of this RequestId brings
abbrev pub more_part : ℕ → List ℕ → Part
more_part id b = record { flag = C; request = id; body = b }

-- the part that the last chunk of a message brings
abbrev pub last_part : Sent → Part
last_part m = record { flag = m.end; request = m.request; body = m.last }

-- the parts of a message, in order
abbrev pub parts_of : Sent → List Part
parts_of m = map (more_part m.request) m.pieces ++ last_part m ∷ []

-- what a message is to deliver, by the flag of its last chunk: F the whole of it, A the code and
-- the reason
abbrev pub outcome_by : Flag → Sent → List Item
outcome_by F m = Whole m.request (flat_map (λ p. p) m.pieces ++ m.last) ∷ []
outcome_by C m = []
outcome_by A m = aborted m.request (abort_of m.last)

-- what a message is to deliver: all its bytes, or the code and the reason of its abort
abbrev pub outcome : Sent → List Item
outcome m = outcome_by m.end m

-- the message under a RequestId
abbrev pub sent_under : ℕ → List Sent → Option Sent
sent_under id [] = None
sent_under id (m ∷ ms) = if m.request == id then Some m else sent_under id ms

-- the parts of the message that was found under a RequestId; none if none was found
abbrev pub parts_under : Option Sent → List Part
parts_under None = []
parts_under (Some m) = parts_of m

-- the outcome of the message that was found under a RequestId; nothing if none was found
abbrev pub outcome_under : Option Sent → List Item
outcome_under None = []
outcome_under (Some m) = outcome m

-- the outcomes of messages, each at the place of its last chunk
abbrev pub outcomes : List Sent → List Chunk → List Item
outcomes ms cs = flat_map (λ c. if ends c then outcome_under (sent_under c.request ms) else []) cs

-- the bodies of a message that count: those of its C chunks and of its F
abbrev pub bodies_by : Flag → Sent → List (List ℕ)
bodies_by F m = m.pieces ++ m.last ∷ []
bodies_by C m = m.pieces
bodies_by A m = m.pieces

-- a message within the limits that ends in an F, or in an A that can be decoded
pub record IsMessageWithin (octets chunks : ℕ) (m : Sent) : Type 0 where
  pub ending : is_more_flag m.end ≡ false
  pub readable : m.end ≡ A → is_readable_abort m.last ≡ true
  pub octets_fit : passes octets (length (flat_map (λ p. p) (bodies_by m.end m))) ≡ false
  pub chunks_fit : passes chunks (length (bodies_by m.end m)) ≡ false

-- each message that is under a RequestId is within the limits of bytes and of chunks
abbrev pub AllWithin : ℕ → ℕ → List Sent → Type 0
AllWithin octets chunks ms = (id : ℕ) (m : Sent) → sent_under id ms ≡ Some m → IsMessageWithin octets chunks m

-- ---- lists that are merged

-- the last list has the elements of the first and of the second, each in its order
pub data Interleaves {X : Type 0} : List X → List X → List X → Type 0 where
  none : Interleaves [] [] []
  left : {x : X} {xs ys zs : List X} → Interleaves xs ys zs → Interleaves (x ∷ xs) ys (x ∷ zs)
  right : {y : X} {xs ys zs : List X} → Interleaves xs ys zs → Interleaves xs (y ∷ ys) (y ∷ zs)

-- the list has the elements of all these lists, each in its order
abbrev pub Merges : {X : Type 0} → List (List X) → List X → Type 0
Merges [] zs = zs ≡ []
Merges {X} (xs ∷ xss) zs = (ys : List X) × Merges xss ys × Interleaves xs ys zs

-- no two of the messages have one RequestId
abbrev pub HaveOwnIds : List Sent → Type 0
HaveOwnIds [] = Unit {0}
HaveOwnIds (m ∷ ms) = (sent_under m.request ms ≡ None) × HaveOwnIds ms

-- the chunks of each RequestId, in order, are those of the message under it, and there are no
-- others
abbrev pub IsMerge : List Sent → List Chunk → Type 0
IsMerge ms cs = (id : ℕ) → map part_of (filter (is_of id) cs) ≡ parts_under (sent_under id ms)

-- ---- under one RequestId

-- the RequestId of an item
abbrev pub id_of_item : Item → ℕ
id_of_item (Whole id octets) = id
id_of_item (Aborted id code reason) = id

-- the item has this RequestId
abbrev pub is_item_of : ℕ → Item → Bool
is_item_of id d = id_of_item d == id
