-- The client operations, each with its place among the received bytes, and which of them are
-- pending.
use Rattle.std.specs.Prelude.{ℕ, ◌+◌, ◌==◌, nat_lt, Bool, ◌&&◌, not, length, map, List, [], ◌∷◌, ◌++◌}
use Rattle.std.specs.List.{filter, flat_map, list_any}
use Rattle.ua_frame.specs.declared.frame.Frame.{Frame}
use Rattle.ua_frame.specs.Frames.{frames_octets}
use Rattle.ua_chunk.specs.declared.chunk.Chunk.{Chunk}
use Rattle.ua_chunk.specs.Gathered.{is_of, ends}

-- a client operation under its RequestId: a call, or a renewal of the token
pub data Asking : Type 0 where
  Call : (id : ℕ) → Asking
  Renewal : (id : ℕ) → Asking

-- an operation at a place: after this many bytes were received
abbrev pub Placed : Type 0
Placed = ℕ × Asking

-- the RequestId
abbrev pub id_of : Asking → ℕ
id_of (Call id) = id
id_of (Renewal id) = id

-- the id of a call
abbrev pub call_in : Asking → List ℕ
call_in (Call id) = id ∷ []
call_in (Renewal id) = []

-- the id of a renewal
abbrev pub renewal_in : Asking → List ℕ
renewal_in (Call id) = []
renewal_in (Renewal id) = id ∷ []

-- the ids of the calls, in order
unfoldable pub calls : List Asking → List ℕ
calls asked = flat_map call_in asked

-- the ids of the renewals, in order
unfoldable pub renewals : List Asking → List ℕ
renewals asked = flat_map renewal_in asked

-- the RequestId of the next operation: they are counted on from the OPN's, which is 1
abbrev pub next_id : List Asking → ℕ
next_id asked = length asked + 2

-- ---- places

-- the operations before a place
unfoldable pub asked_before : ℕ → List Placed → List Asking
asked_before place asks = map (λ (a : Placed). a.1) (filter (λ (a : Placed). nat_lt a.0 place) asks)

-- all operations, at any place
unfoldable pub asked_in : List Placed → List Asking
asked_in asks = map (λ (a : Placed). a.1) asks

-- the place where a frame after these ends
abbrev pub end_of : List Frame → Frame → ℕ
end_of before f = length (frames_octets (before ++ f ∷ []))

-- ---- what is pending

-- the number is among these
abbrev pub is_in : ℕ → List ℕ → Bool
is_in n ns = list_any (λ (m : ℕ). m == n) ns

-- the message of a RequestId was received completely or was aborted: there is an F or an A of it
-- among these chunks
abbrev pub is_finished : List Chunk → ℕ → Bool
is_finished cs id = list_any (λ (c : Chunk). is_of id c && ends c) cs

-- the calls that are unanswered after these chunks
unfoldable pub pending_calls : List Chunk → List Asking → List ℕ
pending_calls cs asked = filter (λ (id : ℕ). not (is_finished cs id)) (calls asked)

-- the renewals that are unanswered after OPNs with these RequestIds
unfoldable pub pending_renewals : List ℕ → List Asking → List ℕ
pending_renewals opened asked = filter (λ (id : ℕ). not (is_in id opened)) (renewals asked)
