-- What a step tells of a Write is what the Write stored.
use Rattle.std.specs.Prelude.{◌≡◌, ℕ, Bool, true, false, cond, List, [], ◌∷◌, ◌++◌, take, Option, None, Some, Result, Ok, Err}
use Rattle.std.specs.List.{concat}
use Rattle.std.proofs.Common.{Vec, Global, refl, ◌∙◌, append_assoc, append-nil}
use Rattle.ua_builtin.specs.declared.date_time.DateTime.{DateTime}
use Rattle.ua_builtin.specs.declared.status_code.StatusCode.{StatusCode}
use Rattle.ua_builtin.specs.Reasons.{first_reason}
use Rattle.ua_channel.specs.ServerSends.{AreSent}
use Rattle.ua_channel.specs.ServerStands.{channel_of, next_of, GoesTelling}
use Rattle.ua_channel.specs.ServerTold.{Told, Agreed, Opened, Asked, GaveUp, Closed}
use Rattle.ua_channel.specs.declared.server.ServerChannel.{ServerChannel}
use Rattle.ua_channel.specs.declared.server_event.ServerEvent.TheVariants as event
use Rattle.ua_nodes.specs.Table.{Nodes, node_at}
use Rattle.ua_nodes.specs.Limit.{answers_within, items_within, limited_answers, outgrows, room_after, room_left}
use Rattle.ua_nodes.specs.Status.{bad_out_of_memory}
use Rattle.ua_nodes.specs.Write.{write_answer, write_answers}
use Rattle.ua_services.specs.Request.{request_read}
use Rattle.ua_services.specs.declared.fault.RequestFault.{RequestFault}
use Rattle.ua_services.specs.declared.request.Request.{Request}
use Rattle.ua_services.specs.declared.request.Request.TheVariants.{GetEndpoints, CreateSession, ActivateSession, CloseSession, Read, Write}
use Rattle.ua_structures.specs.declared.attribute.ReadRequest.{ReadRequest}
use Rattle.ua_structures.specs.declared.attribute.WriteRequest.{WriteRequest}
use Rattle.ua_structures.specs.declared.attribute.WriteValue.{WriteValue}
use Rattle.ua_opening.specs.declared.header.RequestHeader.{RequestHeader}
use Rattle.ua_services.specs.Request.{kind_of_request}
use Rattle.ua_services.specs.declared.request.RequestKind.TheVariants.{Write as WriteKind}
use Rattle.ua_services.specs.declared.response.Response.{Response}
use Rattle.ua_server.specs.Sessions.{activate_reasons, activation_given, close_given, close_reasons, create_reasons, session_given, with_activated}
use Rattle.ua_server.specs.State.{begun, with_next_session}
use Rattle.ua_server.specs.Answer.{answer, read_items, unless}
use Rattle.ua_server.specs.Attributes.{items_of, read_reasons, statuses_given, values_given, with_written, write_reasons}
use Rattle.ua_server.specs.Reply.{answered, answered_by}
use Rattle.ua_server.specs.State.{State}
use Rattle.ua_server.specs.Stepping.{AnswersBehind, given_up}
use Rattle.ua_server.specs.Stored.{begins_good, behind_code, good_items, is_good, items_written}
use Rattle.ua_server.specs.Stored.{results_of, stored_as, stored_items, stored_of, stored_unless_refused}
use Rattle.ua_server.specs.Storing.{StoresBy, stored_at}
use Rattle.ua_server.specs.declared.step.End.{End as Ending}
use Rattle.ua_server.specs.declared.step.Step.{Step}
use Rattle.ua_server.proofs.Standing.{stands-quiet, stands-sent, stands-replied}

-- ---- the items whose results are Good are those that are stored

pub good_nothing : (items : List WriteValue) → good_items items [] ≡ []
good_nothing [] = refl
good_nothing (item ∷ items) = good_nothing items

good-all : (nodes : Nodes) (items : List WriteValue) → good_items items (write_answers nodes items) ≡ stored_items None nodes items
good-all nodes [] = refl
good-all nodes (item ∷ items) = rw (good-all nodes items)

-- under a limit
good-within : (room : ℕ) (nodes : Nodes) (items : List WriteValue) → good_items items (answers_within room nodes items) ≡ stored_items None nodes
    (items_within room nodes items)
good-within room nodes [] = refl
good-within room nodes (item ∷ items) =
    by (outgrows room (node_at nodes item.node_id) item) _ (items_within (room_after room (node_at nodes item.node_id) item) nodes items)
    (good-within (room_after room (node_at nodes item.node_id) item) nodes items)
  where
    by : (t : Bool) (were are : List WriteValue) → were ≡ stored_items None nodes are
        → cond (is_good (cond t bad_out_of_memory (write_answer (node_at nodes item.node_id) item))) (item ∷ were) were ≡ stored_items None nodes
        (cond t are (item ∷ are))
    by true were are same = same
    by false were are same = rw same

good-stored : (most : Option ℕ) (nodes : Nodes) (items : List WriteValue) → good_items items (limited_answers most nodes items) ≡ stored_items most nodes items
good-stored None nodes items = good-all nodes items
good-stored (Some most) nodes items = good-within (room_left most nodes) nodes items

good-unless : (o : Option ℕ) (s : State) (moment : DateTime) (m : WriteRequest)
    → good_items (items_of m.nodes_to_write) (items_of (results_of (unless o s moment m.request_header (with_written s moment m, statuses_given s moment m)).1))
    ≡ stored_unless_refused o (stored_items s.memory_limit s.nodes (items_of m.nodes_to_write))
good-unless None s moment m = good-stored s.memory_limit s.nodes (items_of m.nodes_to_write)
good-unless (Some code) s moment m = good_nothing (items_of m.nodes_to_write)

good-by : (r : Result Request RequestFault) (s : State) (moment : DateTime) → good_items (items_written r) (items_of (results_of (answered_by r s moment).1))
    ≡ stored_as s r
good-by (Ok (Write m)) s moment = good-unless (first_reason (write_reasons s m)) s moment m
good-by (Ok (GetEndpoints m)) s moment = refl
good-by (Ok (CreateSession m)) s moment = refl
good-by (Ok (ActivateSession m)) s moment = refl
good-by (Ok (CloseSession m)) s moment = refl
good-by (Ok (Read m)) s moment = refl
good-by (Err fault) s moment = refl

read-unless : (o : Option ℕ) (s : State) (moment : DateTime) (m : ReadRequest) → results_of (unless o s moment m.request_header (s, values_given s moment m)).1
    ≡ None
read-unless None s moment m = refl
read-unless (Some code) s moment m = refl

-- a Read has no results of a Write
pub read_results : (s : State) (moment : DateTime) (m : ReadRequest) → results_of (read_items s moment m).1 ≡ None
read_results s moment m = read-unless (first_reason (read_reasons s m)) s moment m

unless_none : (o : Option ℕ) (s : State) (moment : DateTime) (asking : RequestHeader) (given : State × Response) → results_of given.1 ≡ None
    → results_of (unless o s moment asking given).1 ≡ None
unless_none None s moment asking given e = e
unless_none (Some code) s moment asking given e = refl

-- nor has another request that is no Write
pub other_results : (s : State) (moment : DateTime) (m : Request) → (kind_of_request m ≡ WriteKind → ⊥) → results_of (answer s moment m).1 ≡ None
other_results s moment (GetEndpoints m) other = refl
other_results s moment (CreateSession m) other =
    unless_none (first_reason (create_reasons s)) s moment m.request_header (with_next_session s, session_given s moment m) refl
other_results s moment (ActivateSession m) other =
    unless_none (first_reason (activate_reasons s m)) s moment m.request_header (with_activated s, activation_given moment m) refl
other_results s moment (CloseSession m) other =
    unless_none (first_reason (close_reasons s m)) s moment m.request_header (begun s, close_given moment m) refl
other_results s moment (Read m) other = read_results s moment m
other_results s moment (Write m) other = absurd (other refl)

-- what is kept of a message, and of the results of its answer
pub kept-stored : (s : State) (moment : DateTime) (octets : List ℕ) (kept : List WriteValue) (results : Option (List StatusCode))
    → kept ≡ good_items (items_written (request_read octets)) (items_of results) → results ≡ results_of (answered s moment octets).1 → kept ≡ stored_of s octets
kept-stored s moment octets kept results is answers =
    is ∙ (rw answers (good-by (request_read octets) s moment))

-- ---- a loop over the items and their results

kept-by : (b : Bool) (done rest : List WriteValue) (item : WriteValue) → (done ++ cond b (item ∷ []) []) ++ rest ≡ done ++ cond b (item ∷ rest) rest
kept-by true done rest item = append_assoc done (item ∷ []) rest
kept-by false done rest item = rw (append-nil done)

-- one item more
pub kept-on : (done now rest : List WriteValue) (item : WriteValue) (codes behind : List StatusCode) (b : Bool) → now ≡ done ++ cond b (item ∷ []) []
    → b ≡ begins_good codes → behind ≡ behind_code codes
    → now ++ good_items rest behind ≡ done ++ good_items (item ∷ rest) codes
kept-on done now rest item codes behind b is good left =
    rw is (kept-by b done (good_items rest behind) item
    ∙ (rw (left, good)))

-- ---- a step

sent-stores : (channel number : ℕ) (moment : DateTime) (s : State) (t : Told) (octets : List ℕ) → AreSent channel number moment t octets → [] ≡ stored_at s t
sent-stores channel number moment s (Agreed a) octets sent = refl
sent-stores channel number moment s (Opened id handle token lifetime) octets sent = refl
sent-stores channel number moment s (Asked id token message) octets sent = absurd sent
sent-stores channel number moment s (GaveUp id) octets sent = absurd sent
sent-stores channel number moment s Closed octets sent = absurd sent

-- where a connection ended nothing is stored
pub stores-ended : (piece : List ℕ) (end : Option Ending) (n : ℕ) (out : List ℕ) (written : List WriteValue) (new : ServerChannel) (octets : List ℕ)
    (told : List Told) (before : State)
    → (end ≡ None → ⊥) → written ≡ [] → StoresBy piece end n out written new octets told before
stores-ended piece None n out written new octets told before some none = absurd (some refl)
stores-ended piece (Some end) n out written new octets told before some none = none

module _ (old mid : ServerChannel) (moment : DateTime) (piece : List ℕ) (n : ℕ) (octets : List ℕ) (told : List Told) (before : State) where
  -- a step that says nothing, and one that says something
  pub silent-stores : (s : Step) (end : Option Ending) (written : List WriteValue) → s.taken ≡ n → s.out.items ≡ [] → s.end ≡ end → written ≡ []
      → ((out : List ℕ) → out ≡ [] → (written : List WriteValue) → written ≡ [] → StoresBy piece end n out written mid octets told before)
      → StoresBy piece s.end s.taken s.out.items written mid octets told before
  silent-stores s end written taken out is none by =
      rw (taken, is) (by s.out.items out written none)

  pub saying-stores : (s t : Step) (written : List WriteValue) (new : ServerChannel) → s ≡ t
      → StoresBy piece t.end t.taken t.out.items written new octets told before
      → StoresBy piece s.end s.taken s.out.items written new octets told before
  saying-stores s t written new is a = rw is a

  -- nothing came
  pub stores-quiet : AnswersBehind old moment piece n (Ok event.NeedMore) mid octets told → (out : List ℕ) → out ≡ [] → (written : List WriteValue)
      → written ≡ []
      → StoresBy piece None n out written mid octets told before
  stores-quiet b out none written nothing = (stands-quiet old mid moment piece n octets told b out none, nothing)

  -- an ACK or an OPN response
  pub stores-sent : (sent : Vec ℕ Global) (b : AnswersBehind old moment piece n (Ok (event.Send sent)) mid octets told) (written : List WriteValue)
      → written ≡ []
      → StoresBy piece None n sent.items written mid octets told before
  stores-sent sent b written nothing =
      let s = b.answers.1 in
      (stands-sent old mid moment piece n octets told sent b, nothing ∙ sent-stores (channel_of old) (next_of old) moment before s.said sent.items s.are_sent)

  -- a message, and its reply
  pub stores-replied : (id : ℕ) (message : List (List ℕ)) (new : ServerChannel) (out : List ℕ)
      (b : AnswersBehind old moment piece n (Ok (event.Asked id message)) mid octets told) (written : List WriteValue)
      → GoesTelling new (octets ++ take n piece) (told ++ given_up b.quiet) (Asked id b.answers.1.0.token (concat message))
      → written ≡ stored_of before (concat message)
      → StoresBy piece None n out written new octets told before
  stores-replied id message new out b written goes is = (stands-replied old mid moment piece n octets told id message new out b goes, is)
