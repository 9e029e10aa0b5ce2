-- No message changes what a server says of itself, its limit of memory, nor which nodes it has, in
-- which order.
use Rattle.std.specs.Prelude.{◌≡◌, ◌⊎◌, ℕ, map, List, [], ◌∷◌, Option, Some, None, Result, Ok, Err}
use Rattle.std.specs.Map.{keys_of}
use Rattle.std.proofs.Common.{refl, inl, inr}
use Rattle.ua_builtin.specs.Reasons.{first_reason}
use Rattle.ua_builtin.specs.declared.date_time.DateTime.{DateTime}
use Rattle.ua_builtin.specs.declared.node_id.NodeId.{NodeId}
use Rattle.ua_nodes.specs.Limit.{roomy_items}
use Rattle.ua_nodes.specs.Table.{Nodes}
use Rattle.ua_nodes.specs.Write.{after_write}
use Rattle.ua_nodes.specs.declared.node.Variable.{Variable}
use Rattle.ua_services.specs.Request.{request_read}
use Rattle.ua_services.specs.declared.fault.RequestFault.{RequestFault}
use Rattle.ua_services.specs.declared.request.Request.{Request}
use Rattle.ua_services.specs.declared.request.Request.TheVariants.{GetEndpoints, CreateSession, ActivateSession, CloseSession, Read, Write}
use Rattle.ua_services.specs.declared.response.Response.{Response}
use Rattle.ua_opening.specs.declared.header.RequestHeader.{RequestHeader}
use Rattle.ua_server.specs.Answer.{answer, unless}
use Rattle.ua_structures.specs.declared.attribute.WriteValue.{WriteValue}
use Rattle.ua_server.specs.Attributes.{items_of, read_reasons, values_given, write_reasons, with_written, statuses_given}
use Rattle.ua_server.specs.Reply.{answered, answered_by}
use Rattle.ua_server.specs.Sessions.{create_reasons, session_given, activate_reasons, with_activated, activation_given, close_reasons, close_given}
use Rattle.ua_server.specs.State.{State, begun, with_next_session}

-- the second state has the description, the NodeIds and the limit of the first
abbrev Stays : State → State → Type 0
Stays s t = (t.endpoint ≡ s.endpoint) × (keys_of t.nodes ≡ keys_of s.nodes) × (t.memory_limit ≡ s.memory_limit)

-- other nodes under the same NodeIds
keys-mapped : (f : NodeId × Variable → Variable) (nodes : Nodes) → keys_of (map (λ node. (node.0, f node)) nodes) ≡ keys_of nodes
keys-mapped f [] = refl
keys-mapped f (node ∷ nodes) = rw (keys-mapped f nodes)

keys-written : (items : List WriteValue) (moment : DateTime) (nodes : Nodes) → keys_of (after_write items moment nodes) ≡ keys_of nodes
unfolding after_write
keys-written items moment nodes = keys-mapped _ nodes

unless-stays : (o : Option ℕ) (s : State) (moment : DateTime) (h : RequestHeader) (given : State × Response) → Stays s given.0
    → Stays s (unless o s moment h given).0
unless-stays None s moment h given e = e
unless-stays (Some code) s moment h given e = (refl, refl, refl)

answer-stays : (s : State) (moment : DateTime) (m : Request) → Stays s (answer s moment m).0
answer-stays s moment (GetEndpoints m) = (refl, refl, refl)
answer-stays s moment (CreateSession m) = unless-stays (first_reason (create_reasons s)) s moment m.request_header
    (with_next_session s, session_given s moment m) (refl, refl, refl)
answer-stays s moment (ActivateSession m) = unless-stays (first_reason (activate_reasons s m)) s moment m.request_header
    (with_activated s, activation_given moment m) (refl, refl, refl)
answer-stays s moment (CloseSession m) = unless-stays (first_reason (close_reasons s m)) s moment m.request_header (begun s, close_given moment m)
    (refl, refl, refl)
answer-stays s moment (Read m) = unless-stays (first_reason (read_reasons s m)) s moment m.request_header (s, values_given s moment m) (refl, refl, refl)
answer-stays s moment (Write m) =
    unless-stays (first_reason (write_reasons s m)) s moment m.request_header (with_written s moment m, statuses_given s moment m)
    (refl, keys-written (roomy_items s.memory_limit s.nodes (items_of m.nodes_to_write)) moment s.nodes, refl)

all-stays : (s : State) (moment : DateTime) (octets : List ℕ) → Stays s (answered s moment octets).0
all-stays s moment octets = by (request_read octets)
  where
    by : (r : Result Request RequestFault) → Stays s (answered_by r s moment).0
    by (Ok m) = answer-stays s moment m
    by (Err f) = (refl, refl, refl)

pub answered-stays : (s : State) (moment : DateTime) (octets : List ℕ) → (answered s moment octets).0.endpoint ≡ s.endpoint
answered-stays s moment octets = (all-stays s moment octets).0

pub left_stays : (s now : State) (moment : DateTime) (octets : List ℕ) → now ≡ (answered s moment octets).0 → now.endpoint ≡ s.endpoint
left_stays s now moment octets e = rw e ((all-stays s moment octets).0)

pub broken_stays : (s now : State) (moment : DateTime) (octets : List ℕ) → (now ≡ s) ⊎ (now ≡ (answered s moment octets).0) → now.endpoint ≡ s.endpoint
broken_stays s now moment octets (inl e) = rw e
broken_stays s now moment octets (inr e) = left_stays s now moment octets e

-- the same of the NodeIds
pub left_ids : (s now : State) (moment : DateTime) (octets : List ℕ) → now ≡ (answered s moment octets).0 → keys_of now.nodes ≡ keys_of s.nodes
left_ids s now moment octets e = rw e ((all-stays s moment octets).1)

pub broken_ids : (s now : State) (moment : DateTime) (octets : List ℕ) → (now ≡ s) ⊎ (now ≡ (answered s moment octets).0) → keys_of now.nodes ≡ keys_of s.nodes
broken_ids s now moment octets (inl e) = rw e
broken_ids s now moment octets (inr e) = left_ids s now moment octets e

-- the same of the limit
pub answered-limit : (s : State) (moment : DateTime) (octets : List ℕ) → (answered s moment octets).0.memory_limit ≡ s.memory_limit
answered-limit s moment octets = (all-stays s moment octets).2

pub left_limit : (s now : State) (moment : DateTime) (octets : List ℕ) → now ≡ (answered s moment octets).0 → now.memory_limit ≡ s.memory_limit
left_limit s now moment octets e = rw e (answered-limit s moment octets)

pub broken_limit : (s now : State) (moment : DateTime) (octets : List ℕ) → (now ≡ s) ⊎ (now ≡ (answered s moment octets).0) → now.memory_limit ≡ s.memory_limit
broken_limit s now moment octets (inl e) = rw e
broken_limit s now moment octets (inr e) = left_limit s now moment octets e
