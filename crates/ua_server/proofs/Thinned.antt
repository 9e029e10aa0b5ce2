-- What a server answers to what is kept of a request is what it answers to the request itself.
use Rattle.std.proofs.Common.{◌≡◌, ℕ, Bool, true, false, not, ◌&&◌, map, length, List, ◌∷◌, Option, None, Some, Result, Ok, Err, refl, sym, ◌∙◌, ap, inl, inr}
use Rattle.std.proofs.lemmas.List.{length-map}
use Rattle.std.specs.Prelude.{option_map, ◌⊎◌}
use Rattle.ua_builtin.specs.Reasons.{first_reason}
use Rattle.ua_builtin.specs.declared.date_time.DateTime.{DateTime}
use Rattle.ua_builtin.specs.declared.node_id.NodeId.{NodeId}
use Rattle.ua_builtin.specs.declared.status_code.StatusCode.{StatusCode}
use Rattle.ua_nodes.specs.Table.{Nodes}
use Rattle.ua_nodes.specs.Limit.{after_limited, limited_answers}
use Rattle.ua_nodes.specs.Write.{nodes_take}
use Rattle.ua_services.specs.Request.{kind_of_request, thin_read, thin_request}
use Rattle.ua_services.specs.declared.fault.RequestFault.{RequestFault}
use Rattle.ua_services.specs.declared.fault.RequestFault.TheVariants.{OutOfMemory}
use Rattle.ua_services.specs.declared.request.Request.{Request}
use Rattle.ua_services.specs.declared.request.Request.TheVariants.{Write}
use Rattle.ua_services.specs.declared.request.RequestKind.TheVariants.{Write as WriteKind}
use Rattle.ua_services.specs.declared.response.Response.{Response}
use Rattle.ua_services.specs.declared.response.Response.TheVariants.{Write as WriteAnswer}
use Rattle.ua_structures.specs.Plain.{write_response_of}
use Rattle.ua_structures.specs.Thin.{thinned, thinned_request}
use Rattle.ua_structures.specs.declared.attribute.WriteRequest.{WriteRequest}
use Rattle.ua_structures.specs.declared.attribute.WriteValue.{WriteValue}
use Rattle.ua_opening.specs.declared.header.RequestHeader.{RequestHeader}
use Rattle.ua_structures.specs.declared.thin.ValueType.{ValueType}
use Rattle.ua_server.specs.Answer.{answer, unless, write_items}
use Rattle.ua_server.specs.Attributes.{count_reasons, items_of, takes_now}
use Rattle.ua_server.specs.Reply.{answered_by}
use Rattle.ua_server.specs.Requests.{items_asked}
use Rattle.ua_server.specs.Sessions.{good_header}
use Rattle.ua_server.specs.State.{State, is_activated, is_own, with_nodes}
use Rattle.ua_server.specs.Status.{bad_session_id_invalid, bad_session_not_activated}
use Rattle.ua_server.proofs.Replying.{IsAnswered}

-- ---- the items

items_kept : (f : WriteValue → WriteValue) (items : Option (List WriteValue)) → items_of (option_map (map f) items) ≡ map f (items_of items)
items_kept f None = refl
items_kept f (Some items) = refl

count_kept : (f : WriteValue → WriteValue) (items : Option (List WriteValue)) → length (items_of (option_map (map f) items)) ≡ length (items_of items)
count_kept f items = ap length (items_kept f items) ∙ length-map (items_of items) f

pub items_asked-kept : (takes : NodeId → ValueType → Bool) (m : Request) → items_asked (thin_request takes m) ≡ items_asked m
items_asked-kept takes (Write m) = count_kept (thinned takes) m.nodes_to_write
items_asked-kept takes m = refl

pub kind_of-kept : (takes : NodeId → ValueType → Bool) (m : Request) → kind_of_request (thin_request takes m) ≡ kind_of_request m
kind_of-kept takes (Write m) = refl
kind_of-kept takes m = refl

-- ---- a Write

-- what is kept of items is answered as they are, and leaves what they leave
pub record ChangesNothing (nodes : Nodes) : Type 0 where
  pub answers : (most : Option ℕ) (items : List WriteValue) → limited_answers most nodes (map (thinned (nodes_take nodes)) items)
      ≡ limited_answers most nodes items
  pub left : (most : Option ℕ) (items : List WriteValue) (moment : DateTime) → after_limited most (map (thinned (nodes_take nodes)) items) moment nodes
      ≡ after_limited most items moment nodes

-- why a Write with so many items is refused, by whether its session is its own, and is activated
abbrev reasons : Bool → Bool → ℕ → List (ℕ × Bool)
reasons own active count = (bad_session_id_invalid, not own) ∷ (bad_session_not_activated, not active) ∷ count_reasons count

refused_alike : (own : Bool) (m n : ℕ) (s : State) (moment : DateTime) (asking : RequestHeader) (one other : State × Response)
    → unless (first_reason (reasons own false m)) s moment asking one ≡ unless (first_reason (reasons own false n)) s moment asking other
refused_alike true m n s moment asking one other = refl
refused_alike false m n s moment asking one other = refl

-- what is answered to so many items, whose nodes are left so, and whose answers are these
abbrev answer_with : State → DateTime → RequestHeader → Bool → ℕ → Nodes → List StatusCode → State × Response
answer_with s moment asking active count nodes codes =
    unless (first_reason (reasons (is_own asking.authentication_token s.session) active count)) s moment asking
    (with_nodes s nodes, WriteAnswer (write_response_of (good_header moment asking) codes))

answered_alike : (s : State) (moment : DateTime) (m : WriteRequest) (active : Bool) → ChangesNothing s.nodes → is_activated s.session ≡ active
    → write_items s moment (thinned_request (λ id t. active && nodes_take s.nodes id t) m) ≡ write_items s moment m
answered_alike s moment m true same is =
    let items = items_of m.nodes_to_write in
    let most = s.memory_limit in
    let f = thinned (nodes_take s.nodes) in
    let kept = items_of (option_map (map f) m.nodes_to_write) in
    let each : kept ≡ map f items = items_kept f m.nodes_to_write in
    ap (λ (n : ℕ). answer_with s moment m.request_header (is_activated s.session) n (after_limited most kept moment s.nodes)
    (limited_answers most s.nodes kept)) (count_kept f m.nodes_to_write)
    ∙ ap (λ (k : List WriteValue). answer_with s moment m.request_header (is_activated s.session) (length items) (after_limited most k moment s.nodes)
    (limited_answers most s.nodes k)) each
    ∙ ap (λ (nodes : Nodes). answer_with s moment m.request_header (is_activated s.session) (length items) nodes (limited_answers most s.nodes (map f items)))
    (same.left most items moment)
    ∙ ap (λ (codes : List StatusCode). answer_with s moment m.request_header (is_activated s.session) (length items) (after_limited most items moment s.nodes)
    codes) (same.answers most items)
answered_alike s moment m false same is =
    let items = items_of m.nodes_to_write in
    let most = s.memory_limit in
    let kept = items_of (option_map (map (thinned (λ (id : NodeId) (t : ValueType). false))) m.nodes_to_write) in
    ap (λ (active : Bool). answer_with s moment m.request_header active (length kept) (after_limited most kept moment s.nodes)
    (limited_answers most s.nodes kept)) is
    ∙ refused_alike (is_own m.request_header.authentication_token s.session) (length kept) (length items) s moment m.request_header (
      with_nodes s (after_limited most kept moment s.nodes),
      WriteAnswer (write_response_of (good_header moment m.request_header) (limited_answers most s.nodes kept)),
    ) (
      with_nodes s (after_limited most items moment s.nodes),
      WriteAnswer (write_response_of (good_header moment m.request_header) (limited_answers most s.nodes items)),
    )
    ∙ sym (ap (λ (active : Bool). answer_with s moment m.request_header active (length items) (after_limited most items moment s.nodes)
    (limited_answers most s.nodes items)) is)

write_kept : (s : State) (moment : DateTime) (m : WriteRequest) → ChangesNothing s.nodes → write_items s moment (thinned_request (takes_now s) m)
    ≡ write_items s moment m
write_kept s moment m same = answered_alike s moment m (is_activated s.session) same refl

pub answer-kept : (s : State) (moment : DateTime) (m : Request) → ChangesNothing s.nodes → answer s moment (thin_request (takes_now s) m) ≡ answer s moment m
answer-kept s moment (Write m) same = write_kept s moment m same
answer-kept s moment m same = refl

-- ---- what was read

-- the request of which this is kept
pub record KeptOf (takes : NodeId → ValueType → Bool) (kept : Request) (read : Result Request RequestFault) : Type 0 where
  pub whole : Request
  pub read_is : read ≡ Ok whole
  pub kept_is : kept ≡ thin_request takes whole

kept_ok : (takes : NodeId → ValueType → Bool) (kept : Request) (read : Result Request RequestFault) → Ok kept ≡ thin_read takes read → KeptOf takes kept read
kept_ok takes kept (Ok m) e = record { whole = m; read_is = refl; kept_is = ok_is e }
  where
    ok_is : {x y : Request} → ◌≡◌ {A = Result Request RequestFault} (Ok x) (Ok y) → x ≡ y
    ok_is e = cc
kept_ok takes kept (Err fault) e = absurd cc

-- what is kept of a Write that was read asks for as many items, and is answered as the Write is
pub kept_answered : (s : State) (read : Result Request RequestFault) (m : WriteRequest) (items : ℕ) (moment : DateTime) → ChangesNothing s.nodes
    → thin_read (takes_now s) read ≡ Ok (Write m) → items ≡ length (items_of m.nodes_to_write)
    → IsAnswered read s moment WriteKind items (write_items s moment m)
kept_answered s read m items moment same h count =
    let of = kept_ok (takes_now s) (Write m) read (sym h) in
    record {
      request = of.whole;
      read_is = of.read_is;
      kind_is = sym (ap kind_of_request of.kept_is ∙ kind_of-kept (takes_now s) of.whole);
      items_are = sym (count ∙ ap items_asked of.kept_is ∙ items_asked-kept (takes_now s) of.whole);
      answer_is = sym (ap (answer s moment) of.kept_is ∙ answer-kept s moment of.whole same);
    }

-- and leaves what the Write leaves
pub kept_left : (s new : State) (read : Result Request RequestFault) (m : WriteRequest) (moment : DateTime) → ChangesNothing s.nodes
    → thin_read (takes_now s) read ≡ Ok (Write m) → (new ≡ s) ⊎ (new ≡ (write_items s moment m).0)
    → (new ≡ s) ⊎ (new ≡ (answered_by read s moment).0)
kept_left s new read m moment same h left =
    let of = kept_ok (takes_now s) (Write m) read (sym h) in
    let is : answered_by read s moment ≡ write_items s moment m =
    ap (λ (r : Result Request RequestFault). answered_by r s moment) of.read_is ∙ sym (ap (answer s moment) of.kept_is ∙ answer-kept s moment of.whole same) in
    rw is left

fault_is : (takes : NodeId → ValueType → Bool) (read : Result Request RequestFault) (fault : RequestFault) → thin_read takes read ≡ Err fault → read ≡ Err fault
fault_is takes (Ok m) fault e = absurd cc
fault_is takes (Err other) fault e = e

-- nothing is kept of what is no request
pub refused_by : (takes : NodeId → ValueType → Bool) (read : Result Request RequestFault) (fault : RequestFault)
    → (thin_read takes read ≡ Err fault) ⊎ (fault ≡ OutOfMemory) → (read ≡ Err fault) ⊎ (fault ≡ OutOfMemory)
refused_by takes read fault (inl h) = inl (fault_is takes read fault h)
refused_by takes read fault (inr h) = inr h
