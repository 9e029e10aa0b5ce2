-- Sound services answer each request by a response of its kind that can be encoded, and stay sound.
use Rattle.std.specs.Prelude.{◌≡◌, ℕ, ◌+◌, ◌<◌, ◌≤◌, ◌^◌, Bool, true, false, ◌||◌, not, nat_eq, nat_lt}
use Rattle.std.specs.Prelude.{if◌then◌else◌, is_none, List, [], ◌∷◌, length, IsTrue, Option, Some, None}
use Rattle.std.specs.List.{AllByRecursion, list_all}
use Rattle.std.proofs.Common.{refl, sym, ◌∙◌, arith, lit<, inl, inr}
use Rattle.std.proofs.lemmas.Bool.{eqb-false, lt-ltb, ltb-true, ltb-false}
use Rattle.ua_wire.proofs.Readers.{both_true}
use Rattle.ua_builtin.specs.DateTime.{date_time}
use Rattle.ua_builtin.specs.DoubleBits.{double_bits}
use Rattle.ua_builtin.specs.NodeId.{node_id}
use Rattle.ua_builtin.specs.Reasons.{first_reason}
use Rattle.ua_builtin.specs.Status.{of_code, status_code}
use Rattle.ua_builtin.specs.declared.date_time.DateTime.{DateTime}
use Rattle.ua_variant.specs.Data.{DataValueData, bare, valued}
use Rattle.ua_variant.specs.Encodable.{data_value_encodable}
use Rattle.ua_variant.specs.Formats.{data_value_format}
use Rattle.ua_structures.specs.Attribute.{read_request, write_request}
use Rattle.ua_structures.specs.Discovery.{application_description, get_endpoints_request}
use Rattle.ua_opening.specs.Field.{byte_string, string, uint32}
use Rattle.ua_opening.specs.Header.{request_header, response_header, service_fault}
use Rattle.ua_opening.specs.Plain.{service_fault_of}
use Rattle.ua_structures.specs.Plain.{write_response_of, read_response_of}
use Rattle.ua_structures.specs.Session.{activate_session_request, close_session_request, close_session_response, create_session_request}
use Rattle.ua_structures.specs.declared.attribute.ReadRequest.{ReadRequest}
use Rattle.ua_structures.specs.declared.attribute.ReadValueId.{ReadValueId}
use Rattle.ua_structures.specs.declared.attribute.WriteRequest.{WriteRequest}
use Rattle.ua_structures.specs.declared.discovery.GetEndpointsRequest.{GetEndpointsRequest}
use Rattle.ua_opening.specs.declared.header.RequestHeader.{RequestHeader}
use Rattle.ua_structures.specs.declared.session.ActivateSessionRequest.{ActivateSessionRequest}
use Rattle.ua_structures.specs.declared.session.CloseSessionRequest.{CloseSessionRequest}
use Rattle.ua_structures.specs.declared.session.CreateSessionRequest.{CreateSessionRequest}
use Rattle.ua_opening.proofs.PlainFits.{response_header_fits}
use Rattle.ua_structures.proofs.PlainFits.{read_response_fits, write_response_fits}
use Rattle.ua_services.specs.Request.{request, kind_of_request}
use Rattle.ua_services.specs.Response.{Answers, own_answer, response, kind_of_response}
use Rattle.ua_services.specs.declared.request.Request.{Request}
use Rattle.ua_services.specs.declared.request.Request.TheVariants.{GetEndpoints, CreateSession, ActivateSession, CloseSession, Read, Write}
use Rattle.ua_services.specs.declared.request.RequestKind.{RequestKind}
use Rattle.ua_services.specs.declared.request.RequestKind.TheVariants as kind
use Rattle.ua_services.specs.declared.response.Response.{Response}
use Rattle.ua_services.specs.declared.response.ResponseKind.TheVariants as answer_kind
use Rattle.ua_services.proofs.ByKind.{request-encodable, response-encodable}
use Rattle.ua_nodes.specs.Read.{read_answer, stamps_numbered}
use Rattle.ua_nodes.specs.Sound.{AreNodesSound}
use Rattle.ua_nodes.specs.Table.{Nodes, node_at}
use Rattle.ua_nodes.specs.declared.stamps.Stamps.{Stamps}
use Rattle.ua_nodes.specs.Limit.{limited_answers, roomy_items}
use Rattle.ua_nodes.proofs.Fits.{both_are}
use Rattle.ua_nodes.proofs.SoundRead.{read_sound}
use Rattle.ua_nodes.proofs.SoundWrite.{write_sound}
use Rattle.ua_server.specs.Answer.{answer, fault_of, unless}
use Rattle.ua_server.specs.Attributes.{items_of, most_age, most_items, read_answers, read_reasons, stamps_or}
use Rattle.ua_server.specs.Attributes.{statuses_given, value_from, values_given, with_written, write_reasons}
use Rattle.ua_server.specs.Endpoint.{are_served}
use Rattle.ua_server.specs.Sessions.{activate_reasons, activation_given, close_given, close_reasons}
use Rattle.ua_server.specs.Sessions.{create_reasons, good_header, most_sessions, session_given, with_activated}
use Rattle.ua_server.specs.Sound.{IsSoundState}
use Rattle.ua_server.specs.State.{State, begun, is_activated, is_own, with_next_session}
use Rattle.ua_server.specs.Status.{bad_max_age_invalid, bad_nothing_to_do, bad_session_id_invalid, bad_session_not_activated}
use Rattle.ua_server.specs.Status.{bad_timestamps_to_return_invalid, bad_too_many_operations, bad_too_many_sessions}
use Rattle.ua_server.proofs.Answered.{activation_fits, endpoints_fit, fault_fits, session_fits, statuses_fit, values_fit}
use Rattle.ua_server.proofs.ReadBody.{results_count}
use Rattle.ua_server.proofs.Statuses.{answers_count, answers_fit}

-- ---- kinds

unless_answers : (k : RequestKind) (reason : Option ℕ) (s : State) (moment : DateTime) (asking : RequestHeader) (given : State × Response)
    → kind_of_response given.1 ≡ own_answer k → Answers (kind_of_response (unless reason s moment asking given).1) k
unless_answers k None s moment asking given own = inl own
unless_answers k (Some code) s moment asking given own = inr refl

pub answer_kind_is : (s : State) (moment : DateTime) (m : Request) → Answers (kind_of_response (answer s moment m).1) (kind_of_request m)
answer_kind_is s moment (GetEndpoints m) = inl refl
answer_kind_is s moment (CreateSession m) = unless_answers kind.CreateSession (first_reason (create_reasons s)) s moment m.request_header
    (with_next_session s, session_given s moment m) refl
answer_kind_is s moment (ActivateSession m) = unless_answers kind.ActivateSession (first_reason (activate_reasons s m)) s moment m.request_header
    (with_activated s, activation_given moment m) refl
answer_kind_is s moment (CloseSession m) = unless_answers kind.CloseSession (first_reason (close_reasons s m)) s moment m.request_header
    (begun s, close_given moment m) refl
answer_kind_is s moment (Read m) = unless_answers kind.Read (first_reason (read_reasons s m)) s moment m.request_header (s, values_given s moment m) refl
answer_kind_is s moment (Write m) = unless_answers kind.Write (first_reason (write_reasons s m)) s moment m.request_header
    (with_written s moment m, statuses_given s moment m) refl

-- ---- what is left is sound

unless_sound : (reason : Option ℕ) (s : State) (moment : DateTime) (asking : RequestHeader) (given : State × Response) → IsSoundState s
    → (reason ≡ None → IsSoundState given.0) → IsSoundState (unless reason s moment asking given).0
unless_sound None s moment asking given h more = more refl
unless_sound (Some code) s moment asking given h more = h

-- there is no first reason: the first does not hold, and no other
none_holds : (b : Bool) (x : ℕ) (o : Option ℕ) → (if b then Some x else o) ≡ None → (b ≡ false) × (o ≡ None)
none_holds true x o e = absurd cc
none_holds false x o e = (refl, e)

second_false : (a b : Bool) → (a || b) ≡ false → b ≡ false
second_false true b e = absurd cc
second_false false b e = e

next_made : (s : State) → s.made < 2 ^ 32 → first_reason (create_reasons s) ≡ None → s.made + 1 < 2 ^ 32
next_made s small free =
    let most =
    eqb-false s.made most_sessions
    (second_false (not (is_none s.session)) (nat_eq s.made most_sessions)
    (none_holds (not (is_none s.session) || nat_eq s.made most_sessions) bad_too_many_sessions None free).0) in
    less s.made small most
  where
    less : (n : ℕ) → n < 2 ^ 32 → (n ≡ most_sessions → ⊥) → n + 1 < 2 ^ 32
    less n few not_most = by (nat_eq n most_sessions) refl
      where
        by : (b : Bool) → nat_eq n most_sessions ≡ b → n + 1 < 2 ^ 32
        by b e = omega (arith, few, not_most)

pub answer_sound : (s : State) (moment : DateTime) (m : Request) → IsSoundState s → IsTrue (date_time.encodable moment) → IsSoundState (answer s moment m).0
answer_sound s moment (GetEndpoints m) h dated = h
answer_sound s moment (CreateSession m) h dated =
    unless_sound (first_reason (create_reasons s)) s moment m.request_header (with_next_session s, session_given s moment m) h
    (λ free. record { nodes = h.nodes; endpoint = h.endpoint; limit = h.limit; made = next_made s h.made free })
answer_sound s moment (ActivateSession m) h dated =
    unless_sound (first_reason (activate_reasons s m)) s moment m.request_header (with_activated s, activation_given moment m) h
    (λ free. record { nodes = h.nodes; endpoint = h.endpoint; limit = h.limit; made = h.made })
answer_sound s moment (CloseSession m) h dated =
    unless_sound (first_reason (close_reasons s m)) s moment m.request_header (begun s, close_given moment m) h
    (λ free. record { nodes = h.nodes; endpoint = h.endpoint; limit = h.limit; made = h.made })
answer_sound s moment (Read m) h dated = unless_sound (first_reason (read_reasons s m)) s moment m.request_header (s, values_given s moment m) h (λ free. h)
answer_sound s moment (Write m) h dated =
    unless_sound (first_reason (write_reasons s m)) s moment m.request_header (with_written s moment m, statuses_given s moment m) h
    (λ free. record {
      nodes = write_sound (roomy_items s.memory_limit s.nodes (items_of m.nodes_to_write)) moment s.nodes dated h.nodes;
      endpoint = h.endpoint;
      limit = h.limit;
      made = h.made;
    })

-- ---- faults

-- each code is a number of 32 bits
abbrev AreCodes : List (ℕ × Bool) → Type 0
AreCodes reasons = AllByRecursion (λ (r : ℕ × Bool). r.0 < 4294967296) reasons

code_fits : (reasons : List (ℕ × Bool)) (code : ℕ) → AreCodes reasons → first_reason reasons ≡ Some code → code < 4294967296
code_fits [] code h e = absurd cc
code_fits (r ∷ rs) code h e = by r.1 e (code_fits rs code h.1)
  where
    by : (b : Bool) → (if b then Some r.0 else first_reason rs) ≡ Some code → (first_reason rs ≡ Some code → code < 4294967296) → code < 4294967296
    by true here later = let same : r.0 ≡ code = cc in rw (← same) h.0
    by false here later = later here

status_fits : (code : ℕ) → code < 4294967296 → IsTrue (status_code.encodable (of_code code))
unfolding status_code
status_fits code h = lt-ltb code (256 ^ 4) (omega (arith, h))

fault_is : (handle code : ℕ) (moment : DateTime) → IsTrue (date_time.encodable moment) → handle < 2 ^ 32 → code < 4294967296
    → IsTrue (response.encodable (fault_of handle code moment))
unfolding service_fault
fault_is handle code moment dated small is = fault_fits (service_fault_of moment handle (of_code code))
    (response_header_fits moment handle (of_code code) dated small (status_fits code is))

unless_fits : (reasons : List (ℕ × Bool)) (s : State) (moment : DateTime) (asking : RequestHeader) (given : State × Response) → AreCodes reasons
    → IsTrue (date_time.encodable moment) → asking.request_handle < 2 ^ 32
    → (first_reason reasons ≡ None → IsTrue (response.encodable given.1)) → IsTrue (response.encodable (unless (first_reason reasons) s moment asking given).1)
unless_fits reasons s moment asking given codes dated small good = by (first_reason reasons) refl
  where
    by : (o : Option ℕ) → first_reason reasons ≡ o → IsTrue (response.encodable (unless o s moment asking given).1)
    by None e = good e
    by (Some code) e = fault_is asking.request_handle code moment dated small (code_fits reasons code codes e)

-- ---- what a request says of its answer

handle_fits : (h : RequestHeader) → IsTrue (request_header.encodable h) → h.request_handle < 2 ^ 32
unfolding request_header
handle_fits h e =
    let a = both_true (node_id.encodable h.authentication_token) _ e in
    let b = both_true (date_time.encodable h.timestamp) _ a.1 in
    let c = both_true (uint32.encodable h.request_handle) _ b.1 in
    let small = ltb-true h.request_handle (256 ^ 4) c.0 in
    omega (arith, small)

-- the header of a request that can be encoded
asked_endpoints : (m : GetEndpointsRequest) → IsTrue (request.encodable (GetEndpoints m)) → IsTrue (request_header.encodable m.request_header)
unfolding get_endpoints_request
asked_endpoints m h = (both_true (request_header.encodable m.request_header) _ (sym (request-encodable kind.GetEndpoints m) ∙ h)).0

asked_session : (m : CreateSessionRequest) → IsTrue (request.encodable (CreateSession m)) → IsTrue (request_header.encodable m.request_header)
unfolding create_session_request
asked_session m h = (both_true (request_header.encodable m.request_header) _ (sym (request-encodable kind.CreateSession m) ∙ h)).0

asked_activation : (m : ActivateSessionRequest) → IsTrue (request.encodable (ActivateSession m)) → IsTrue (request_header.encodable m.request_header)
unfolding activate_session_request
asked_activation m h = (both_true (request_header.encodable m.request_header) _ (sym (request-encodable kind.ActivateSession m) ∙ h)).0

asked_closing : (m : CloseSessionRequest) → IsTrue (request.encodable (CloseSession m)) → IsTrue (request_header.encodable m.request_header)
unfolding close_session_request
asked_closing m h = (both_true (request_header.encodable m.request_header) _ (sym (request-encodable kind.CloseSession m) ∙ h)).0

asked_read : (m : ReadRequest) → IsTrue (request.encodable (Read m)) → IsTrue (request_header.encodable m.request_header)
unfolding read_request
asked_read m h = (both_true (request_header.encodable m.request_header) _ (sym (request-encodable kind.Read m) ∙ h)).0

asked_write : (m : WriteRequest) → IsTrue (request.encodable (Write m)) → IsTrue (request_header.encodable m.request_header)
unfolding write_request
asked_write m h = (both_true (request_header.encodable m.request_header) _ (sym (request-encodable kind.Write m) ∙ h)).0

timeout_fits : (m : CreateSessionRequest) → IsTrue (request.encodable (CreateSession m)) → m.requested_session_timeout.bits < 2 ^ 64
unfolding create_session_request double_bits
timeout_fits m h =
    let a = both_true (request_header.encodable m.request_header) _ (sym (request-encodable kind.CreateSession m) ∙ h) in
    let b = both_true (application_description.encodable m.client_description) _ a.1 in
    let c = both_true (string.encodable m.server_uri) _ b.1 in
    let d = both_true (string.encodable m.endpoint_url) _ c.1 in
    let e = both_true (string.encodable m.session_name) _ d.1 in
    let f = both_true (byte_string.encodable m.client_nonce) _ e.1 in
    let g = both_true (byte_string.encodable m.client_certificate) _ f.1 in
    let i = both_true (double_bits.encodable m.requested_session_timeout) _ g.1 in
    let small = ltb-true m.requested_session_timeout.bits (256 ^ 8) i.0 in
    omega (arith, small)

-- ---- items

few_items : (n : ℕ) → (if nat_eq n 0 then Some bad_nothing_to_do else if nat_lt most_items n then Some bad_too_many_operations else None) ≡ None
    → n ≤ most_items
few_items n free =
    let some = none_holds (nat_eq n 0) bad_nothing_to_do _ free in
    let few = none_holds (nat_lt most_items n) bad_too_many_operations _ some.1 in
    ltb-false most_items n few.0

few_read : (s : State) (m : ReadRequest) → first_reason (read_reasons s m) ≡ None → length (items_of m.nodes_to_read) ≤ most_items
few_read s m free =
    let a = none_holds (not (is_own m.request_header.authentication_token s.session)) bad_session_id_invalid _ free in
    let b = none_holds (not (is_activated s.session)) bad_session_not_activated _ a.1 in
    let c = none_holds (is_none (stamps_numbered m.timestamps_to_return)) bad_timestamps_to_return_invalid _ b.1 in
    let d = none_holds (nat_lt most_age m.max_age.bits) bad_max_age_invalid _ c.1 in
    few_items (length (items_of m.nodes_to_read)) d.1

few_written : (s : State) (m : WriteRequest) → first_reason (write_reasons s m) ≡ None → length (items_of m.nodes_to_write) ≤ most_items
few_written s m free =
    let a = none_holds (not (is_own m.request_header.authentication_token s.session)) bad_session_id_invalid _ free in
    let b = none_holds (not (is_activated s.session)) bad_session_not_activated _ a.1 in
    few_items (length (items_of m.nodes_to_write)) b.1

value_fits : (x : DataValueData) → IsTrue (data_value_encodable x) → IsTrue (data_value_format.encodable (value_from x))
unfolding data_value_format
value_fits (bare f) h = h
value_fits (valued v f) h = h

answers_read : (nodes : Nodes) (items : List ReadValueId) (stamps : Stamps) (moment : DateTime) → IsTrue (date_time.encodable moment) → AreNodesSound nodes
    → IsTrue (list_all data_value_format.encodable (read_answers nodes items stamps moment))
answers_read nodes [] stamps moment dated sound = refl
answers_read nodes (item ∷ items) stamps moment dated sound =
    both_are (data_value_format.encodable (value_from (read_answer (node_at nodes item.node_id) item stamps moment))) _
    (value_fits (read_answer (node_at nodes item.node_id) item stamps moment) (read_sound nodes item stamps moment dated sound))
    (answers_read nodes items stamps moment dated sound)

-- ---- answers

good_fits : (moment : DateTime) (asking : RequestHeader) → IsTrue (date_time.encodable moment) → asking.request_handle < 2 ^ 32
    → IsTrue (response_header.encodable (good_header moment asking))
good_fits moment asking dated small = response_header_fits moment asking.request_handle (of_code 0) dated small (status_fits 0 (lit< tt))

closed_fits : (moment : DateTime) (m : CloseSessionRequest) → IsTrue (response_header.encodable (good_header moment m.request_header))
    → IsTrue (response.encodable (close_given moment m))
unfolding close_session_response
closed_fits moment m h = response-encodable answer_kind.CloseSession _ ∙ h

pub answer_fits : (s : State) (moment : DateTime) (m : Request) → IsSoundState s → IsTrue (date_time.encodable moment) → IsTrue (request.encodable m)
    → IsTrue (response.encodable (answer s moment m).1)
answer_fits s moment (GetEndpoints m) h dated fits =
    endpoints_fit (are_served m.profile_uris) s.endpoint (good_header moment m.request_header) h.endpoint
    (good_fits moment m.request_header dated (handle_fits m.request_header (asked_endpoints m fits)))
answer_fits s moment (CreateSession m) h dated fits =
    let small = handle_fits m.request_header (asked_session m fits) in
    unless_fits (create_reasons s) s moment m.request_header (with_next_session s, session_given s moment m) (lit< tt, tt) dated small
    (λ free. session_fits (s.made + 1) s.endpoint.message_limit m.requested_session_timeout s.endpoint (good_header moment m.request_header)
    (next_made s h.made free) h.limit (timeout_fits m fits) h.endpoint (good_fits moment m.request_header dated small))
answer_fits s moment (ActivateSession m) h dated fits =
    let small = handle_fits m.request_header (asked_activation m fits) in
    unless_fits (activate_reasons s m) s moment m.request_header (with_activated s, activation_given moment m) (lit< tt, (lit< tt, tt)) dated small
    (λ free. activation_fits (good_header moment m.request_header) (good_fits moment m.request_header dated small))
answer_fits s moment (CloseSession m) h dated fits =
    let small = handle_fits m.request_header (asked_closing m fits) in
    unless_fits (close_reasons s m) s moment m.request_header (begun s, close_given moment m) (lit< tt, tt) dated small
    (λ free. closed_fits moment m (good_fits moment m.request_header dated small))
answer_fits s moment (Read m) h dated fits =
    let small = handle_fits m.request_header (asked_read m fits) in
    let items = items_of m.nodes_to_read in
    let stamps = stamps_or (stamps_numbered m.timestamps_to_return) in
    unless_fits (read_reasons s m) s moment m.request_header (s, values_given s moment m) (lit< tt, (lit< tt, (lit< tt, (lit< tt, (lit< tt, (lit< tt, tt))))))
    dated small
    (λ free.
    let few = few_read s m free in
    let count = results_count s.nodes items stamps moment in
    values_fit (read_response_of (good_header moment m.request_header) (read_answers s.nodes items stamps moment))
    (read_response_fits (good_header moment m.request_header) (read_answers s.nodes items stamps moment) (good_fits moment m.request_header dated small)
    (omega (arith, few, count))
    (answers_read s.nodes items stamps moment dated h.nodes)))
answer_fits s moment (Write m) h dated fits =
    let small = handle_fits m.request_header (asked_write m fits) in
    let items = items_of m.nodes_to_write in
    unless_fits (write_reasons s m) s moment m.request_header (with_written s moment m, statuses_given s moment m)
    (lit< tt, (lit< tt, (lit< tt, (lit< tt, tt)))) dated small
    (λ free.
    let few = few_written s m free in
    let limit = s.memory_limit in
    let count = answers_count limit s.nodes items in
    statuses_fit (write_response_of (good_header moment m.request_header) (limited_answers limit s.nodes items))
    (write_response_fits (good_header moment m.request_header) (limited_answers limit s.nodes items) (good_fits moment m.request_header dated small)
    (omega (arith, few, count)) (answers_fit limit s.nodes items)))
