-- What is written of the answers to a question at a server: the lines of what its nodes give.
use Rattle.std.proofs.Common.{◌≡◌, ◌⊎◌, inl, inr, ℕ, ℤ, List, [], ◌∷◌, Option, Some, None, refl, sym, ◌∙◌, ap, subst}
use Rattle.std.specs.Prelude.{◌+◌, IsTrue, map, MatchResult, Result, Ok, Err, IfOk, OnOk}
use Rattle.ua_wire.specs.Counted.{text}
use Rattle.ua_builtin.specs.DateTime.{date_time}
use Rattle.ua_builtin.specs.Reasons.{first_reason}
use Rattle.ua_builtin.specs.declared.date_time.DateTime.{DateTime}
use Rattle.ua_builtin.specs.declared.node_id.NodeId.{NodeId}
use Rattle.ua_builtin.specs.declared.status_code.StatusCode.{StatusCode}
use Rattle.ua_chunk.specs.Cutting.{cut_refusal}
use Rattle.ua_chunk.specs.declared.fault.CutFault.{CutFault}
use Rattle.ua_chunk.specs.declared.lane.Lane.{Lane}
use Rattle.ua_frame.specs.declared.limits.Limits.{Limits}
use Rattle.ua_opening.specs.Plain.{request_header_of}
use Rattle.ua_opening.specs.declared.header.RequestHeader.{RequestHeader}
use Rattle.ua_channel.specs.Line.{Traffic}
use Rattle.ua_variant.specs.declared.values.DataValue.{DataValue}
use Rattle.ua_structures.specs.Plain.{read_of, write_of}
use Rattle.ua_structures.specs.declared.attribute.ReadRequest.{ReadRequest}
use Rattle.ua_structures.specs.declared.attribute.WriteRequest.{WriteRequest}
use Rattle.ua_nodes.specs.Limit.{limited_answers}
use Rattle.ua_nodes.specs.Read.{stamps_numbered}
use Rattle.ua_nodes.specs.Table.{Nodes}
use Rattle.ua_nodes.specs.declared.stamps.Stamps.TheVariants.{Both}
use Rattle.ua_services.specs.Response.{response}
use Rattle.ua_services.specs.SessionRequests.{activate_session_as, create_session, get_endpoints}
use Rattle.ua_services.specs.declared.request.Request.{Request}
use Rattle.ua_services.specs.declared.request.Request.TheVariants as asks
use Rattle.ua_services.specs.declared.response.Response.{Response}
use Rattle.ua_client.specs.Calls.{CallsAll}
use Rattle.ua_client.specs.Client.{IsLeft, OpensClient, OpensNothing, connection_of}
use Rattle.ua_client.specs.Session.{BeginsSessionAs, TriesSession, session_alone}
use Rattle.ua_client.specs.declared.client.Client.{Client}
use Rattle.ua_client.specs.declared.fault.ClientFault.{ClientFault}
use Rattle.ua_client.specs.declared.fault.SessionFault.{SessionFault}
use Rattle.ua_client.specs.declared.reply.Reply.{Reply}
use Rattle.ua_server.specs.Answer.{answer, unless}
use Rattle.ua_server.specs.Attributes.{items_of, read_answers, read_reasons, stamps_or, statuses_given, values_given, with_written, write_reasons}
use Rattle.ua_server.specs.Sessions.{activate_reasons, activation_given, close_given, close_reasons, create_reasons, session_given, with_activated}
use Rattle.ua_server.specs.Sound.{IsSoundState}
use Rattle.ua_server.specs.State.{State, begun, with_next_session}
use Rattle.ua_loopback.specs.Beginning.{Beginning}
use Rattle.ua_loopback.specs.Replies.{lane_back_by_token}
use Rattle.ua_loopback.specs.Talking.{CanBegin, IsLineTo, IsTalking, SoFar, answers_in, newest_in, opening, session_requests, state_in, with_turn}
use Rattle.ua_answers.specs.Answers.{write_lines}
use Rattle.ua_answers.specs.PlainAnswers.{AreReads}
use Rattle.ua_answers.specs.Replies.{statuses_in, values_in}
use Rattle.ua_answers.specs.declared.style.AnswerStyle.{AnswerStyle}
use Rattle.ua_session.specs.Line.{LineState}
use Rattle.ua_session.specs.Policy.{ChoosesBy}
use Rattle.ua_session.specs.Printed.{HasAdded}
use Rattle.ua_session.specs.Question.{AnswersQuestion, PrintsAnswers, item_for, items_of_question, request_of_question, statuses_of, values_of}
use Rattle.ua_session.specs.Session.{AsksByPolicy, AsksInSession, AsksPolicy, AsksUnder, RunsQuestion, first_call}
use Rattle.ua_session.specs.Steps.{AsksRequest, BeginsSessionBy, OpensServer, first_fault_of, told, told_session}
use Rattle.ua_session.specs.Told.{of_client}
use Rattle.ua_session.specs.declared.fault.NotBegun.{NotBegun}
use Rattle.ua_session.specs.declared.fault.QuestionFault.{QuestionFault}
use Rattle.ua_session.specs.declared.fault.QuestionFault.TheVariants.{NoMemory, Output}
use Rattle.ua_session.specs.declared.policy.TokenPolicy.{TokenPolicy}
use Rattle.ua_session.specs.declared.policy.TokenPolicy.TheVariants.{Auto, Named}
use Rattle.ua_session.specs.declared.question.Question.{Question}
use Rattle.ua_session.specs.declared.question.Question.TheVariants.{Read, Write}
use Rattle.ua_session.specs.declared.verdict.Verdict.{Verdict}
use Rattle.ua_headline.specs.AsAnswered.{replies_of_services, reply_over, reply_unless_cut}
use Rattle.ua_headline.specs.Questions.{AreLinesGiven, attribute_given, time_of_answer}

-- ---- outcomes

ok_err : {P A E : Type 0} (r : Result A E) (v : A) (f : E) → r ≡ Ok v → r ≡ Err f → P
ok_err r v f d e = cc

none_some : {P A : Type 0} (o : Option A) (v : A) → o ≡ None → o ≡ Some v → P
none_some o v d e = cc

same_ok : {A E : Type 0} (r : Result A E) (v w : A) → r ≡ Ok v → r ≡ Ok w → v ≡ w
same_ok r v w d e = cc

same_some : {A : Type 0} (o : Option A) (v w : A) → o ≡ Some v → o ≡ Some w → v ≡ w
same_some o v w d e = cc

same_one : {A : Type 0} (xs : List A) (v w : A) → xs ≡ v ∷ [] → xs ≡ w ∷ [] → v ≡ w
same_one xs v w d e = cc

-- a client's call succeeded whose success is told
told_ok : {A : Type 0} (result : Result A ClientFault) (v : A) → Ok v ≡ told result → result ≡ Ok v
told_ok (Ok w) v e = ap Ok (sym (same_ok (Ok v) v w refl e))
told_ok (Err f) v e = ok_err (Ok v) v (of_client f) refl e

session_ok : (result : Result NodeId SessionFault) (token : NodeId) → Ok token ≡ told_session result → result ≡ Ok token
session_ok (Ok w) token e = ap Ok (sym (same_ok (Ok token) token w refl e))
session_ok (Err f) token e = let n : NotBegun = record { token = f.token; fault = of_client f.fault } in ok_err (Ok token) token n refl e

-- the first of two results is what both come to, where that is no fault
first_ok : {A : Type 0} (printed : Result A QuestionFault) (ended : Result (Unit {0}) QuestionFault) (v : A) → Ok v ≡ first_fault_of printed ended
    → printed ≡ Ok v
first_ok (Ok w) (Ok u) v e = sym e
first_ok (Ok w) (Err f) v e = ok_err (Ok v) v f refl e
first_ok (Err (Output x)) ended v e = ok_err (Ok v) v (Output x) refl e
first_ok (Err f) (Ok u) v e = ok_err (Ok v) v f refl e
first_ok (Err f) (Err NoMemory) v e = ok_err (Ok v) v NoMemory refl e
first_ok (Err f) (Err g) v e = ok_err (Ok v) v f refl e

-- ---- what stays while a session is begun

-- two states have the same nodes under the same limit of memory
abbrev Kept : State → State → Type 0
Kept s u = (u.nodes ≡ s.nodes) × (u.memory_limit ≡ s.memory_limit)

unless_kept : (reason : Option ℕ) (s u : State) (moment : DateTime) (asking : RequestHeader) (r : Response) → Kept s u
    → Kept s (unless reason s moment asking (u, r)).0
unless_kept None s u moment asking r k = k
unless_kept (Some code) s u moment asking r k = (refl, refl)

abbrev IsNoWrite : Request → Type 0
IsNoWrite (asks.Write m) = ⊥
IsNoWrite other = Unit {0}

-- a request that is no Write keeps them
answer_keeps : (s : State) (moment : DateTime) (m : Request) → IsNoWrite m → Kept s (answer s moment m).0
answer_keeps s moment (asks.GetEndpoints m) n = (refl, refl)
answer_keeps s moment (asks.CreateSession m) n =
    unless_kept (first_reason (create_reasons s)) s (with_next_session s) moment m.request_header (session_given s moment m) (refl, refl)
answer_keeps s moment (asks.ActivateSession m) n =
    unless_kept (first_reason (activate_reasons s m)) s (with_activated s) moment m.request_header (activation_given moment m) (refl, refl)
answer_keeps s moment (asks.CloseSession m) n =
    unless_kept (first_reason (close_reasons s m)) s (begun s) moment m.request_header (close_given moment m) (refl, refl)
answer_keeps s moment (asks.Read m) n = unless_kept (first_reason (read_reasons s m)) s s moment m.request_header (values_given s moment m) (refl, refl)
answer_keeps s moment (asks.Write m) n = absurd n

kept_on : (s t u : State) → Kept s t → Kept t u → Kept s u
kept_on s t u k l = (l.0 ∙ k.0, l.1 ∙ k.1)

-- ---- the results in a reply

reply_values : (refusal : Option CutFault) (r : Response) (each : List DataValue) → values_of (reply_unless_cut refusal r) ≡ Some each
    → values_in r ≡ Some each
reply_values None r each e = e
reply_values (Some fault) r each e = none_some None each refl e

reply_statuses : (refusal : Option CutFault) (r : Response) (each : List StatusCode) → statuses_of (reply_unless_cut refusal r) ≡ Some each
    → statuses_in r ≡ Some each
reply_statuses None r each e = e
reply_statuses (Some fault) r each e = none_some None each refl e

read_values : (reason : Option ℕ) (s : State) (moment : DateTime) (m : ReadRequest) (each : List DataValue)
    → values_in (unless reason s moment m.request_header (s, values_given s moment m)).1 ≡ Some each
    → each ≡ read_answers s.nodes (items_of m.nodes_to_read) (stamps_or (stamps_numbered m.timestamps_to_return)) moment
read_values None s moment m each e =
    sym (same_some (Some (read_answers s.nodes (items_of m.nodes_to_read) (stamps_or (stamps_numbered m.timestamps_to_return)) moment)) _ each refl e)
read_values (Some code) s moment m each e = none_some None each refl e

written_statuses : (reason : Option ℕ) (s u : State) (moment : DateTime) (m : WriteRequest) (each : List StatusCode)
    → statuses_in (unless reason s moment m.request_header (u, statuses_given s moment m)).1 ≡ Some each
    → each ≡ limited_answers s.memory_limit s.nodes (items_of m.nodes_to_write)
written_statuses None s u moment m each e =
    sym (same_some (Some (limited_answers s.memory_limit s.nodes (items_of m.nodes_to_write))) _ each refl e)
written_statuses (Some code) s u moment m each e = none_some None each refl e

-- the values of nodes, one after another
each_given : (nodes : Nodes) (attribute : ℕ) (part : Option (List ℕ)) (moment : DateTime) (ids : List NodeId)
    → read_answers nodes (items_of_question attribute part ids) Both moment ≡ map (attribute_given nodes attribute part moment) ids
each_given nodes attribute part moment [] = refl
each_given nodes attribute part moment (id ∷ ids) =
    ap (λ (vs : List DataValue). attribute_given nodes attribute part moment id ∷ vs) (each_given nodes attribute part moment ids)

-- the lines of a reply to a question are those of what the services give to it
lines_given : (style : AnswerStyle) (question : Question) (first s : State) (moment asked_at : DateTime) (token : NodeId) (handle : ℕ) (back : Lane)
    (reply : Reply) (lines : List ℕ) → Kept first s
    → reply ≡ reply_over back (answer s moment (request_of_question question token asked_at handle)).1
    → AnswersQuestion style question reply [] lines → AreLinesGiven style question first moment lines
lines_given style (Read ids attribute part) first s moment asked_at token handle back reply lines kept is h =
    let m : ReadRequest = read_of (request_header_of token asked_at handle) (items_of_question attribute part ids.items) in
    let r : Response = (answer s moment (asks.Read m)).1 in
    let given : h.each ≡ read_answers s.nodes (items_of_question attribute part ids.items) Both moment =
    read_values (first_reason (read_reasons s m)) s moment m h.each
    (reply_values (cut_refusal back (response.canonical r)) r h.each (ap values_of (sym is) ∙ h.given)) in
    let all : h.each ≡ map (attribute_given first.nodes attribute part moment) ids.items =
    given ∙ (ap (λ (nodes : Nodes). read_answers nodes (items_of_question attribute part ids.items) Both moment) kept.0
    ∙ each_given first.nodes attribute part moment ids.items) in
    subst (λ (vs : List DataValue). AreReads style ids.items vs lines) all (subst (λ (t : List ℕ). AreReads style ids.items h.each t) (sym h.added) h.are)
lines_given style (Write id value) first s moment asked_at token handle back reply lines kept is h =
    let m : WriteRequest = write_of (request_header_of token asked_at handle) (item_for id value ∷ []) in
    let r : Response = (answer s moment (asks.Write m)).1 in
    let given : h.each ≡ limited_answers s.memory_limit s.nodes (item_for id value ∷ []) =
    written_statuses (first_reason (write_reasons s m)) s (with_written s moment m) moment m h.each
    (reply_statuses (cut_refusal back (response.canonical r)) r h.each (ap statuses_of (sym is) ∙ h.given)) in
    h.added
    ∙ ap (write_lines style.lines (id ∷ []))
    (given ∙ (ap (λ (most : Option ℕ). limited_answers most s.nodes (item_for id value ∷ [])) kept.1
    ∙ ap (λ (nodes : Nodes). limited_answers first.memory_limit nodes (item_for id value ∷ [])) kept.0))

-- ---- the laws below

abbrev pub OpeningsBegin : Limits → Type 0
OpeningsBegin limits = (b : Beginning) (url : Option (List ℕ)) (moment : DateTime) (before after : Option Traffic) (result : Result Client ClientFault)
    → IsTrue (date_time.encodable moment) → IsTrue (text.encodable url) → CanBegin b → IsLineTo b [] [] before
    → (OpensNothing before after result ⊎ OpensClient limits url moment before after result)
    → IfOk result (λ client. IsTalking (opening b limits url moment) client after)

abbrev pub CallsStay : Type 0
CallsStay = (replies : Reply → List Reply) (t : SoFar) (requests : List Request) (moment : DateTime) (x y : Client) (before after : Option Traffic)
    (result : Result Reply ClientFault) → IsTalking t x before
    → CallsAll replies requests (connection_of x) (connection_of y) before after result → IsLeft result y
    → OnOk result (IsTalking (with_turn t moment (Some requests)) y after)

abbrev pub SessionsStay : Type 0
SessionsStay = (t : SoFar) (policy_id : Option (List ℕ)) (moment : DateTime) (x y : Client) (before after : Option Traffic)
    (result : Result NodeId ClientFault) → IsTalking t x before
    → BeginsSessionAs policy_id moment (connection_of x) (connection_of y) before after result → IsLeft result y
    → IfOk result (λ token. IsTalking (with_turn t moment (Some (session_requests t policy_id token moment))) y after)

abbrev pub RepliesAre : Type 0
RepliesAre = (replies : Reply → List Reply) (t : SoFar) (requests : List Request) (x y : Client) (before after : Option Traffic) (found : Reply)
    → IsTalking t x before → CallsAll replies requests (connection_of x) (connection_of y) before after (Ok found)
    → IsSoundState t.server.first → replies found
    ≡ replies_of_services (lane_back_by_token t.server t.limits t.url (newest_in t)) (state_in t) t.server.moments (answers_in t) requests

-- ---- where a question is asked

-- whatever a result is, this holds
by_result : {A E R : Type 0} (r : Result A E) (P : A → Type 0) (Q : E → Type 0) → MatchResult r P Q → ((x : A) → r ≡ Ok x → P x → R) → ((f : E) → Q f → R)
    → R
by_result (Ok x) P Q h p q = p x refl h
by_result (Err f) P Q h p q = q f h

-- a PolicyId is chosen by a reply
chosen : (called : Result Reply QuestionFault) (id : Option (List ℕ)) → ChoosesBy called (Ok id) → (reply : Reply) × (called ≡ Ok reply)
chosen (Ok reply) id h = (reply, refl)
chosen (Err f) id h = ok_err (Ok id) id f refl h

-- after a talk the services have the nodes of the first state, and answer next at this time
record IsAsking (first : State) (moment : DateTime) (t : SoFar) : Type 0 where
  pub sound : IsSoundState t.server.first
  pub kept : Kept first (state_in t)
  pub time_is : t.server.moments (answers_in t) ≡ moment

-- the same after a session that is begun by a token policy after a talk
abbrev AreAsking : State → DateTime → Option (List ℕ) → TokenPolicy → SoFar → Type 0
AreAsking first moment url (Named id) t = (policy_id : Option (List ℕ)) (token : NodeId) (at : DateTime)
    → IsAsking first moment (with_turn t at (Some (session_requests t policy_id token at)))
AreAsking first moment url Auto t = (asked_at : DateTime) (policy_id : Option (List ℕ)) (token : NodeId) (at : DateTime)
    → IsAsking first moment (with_turn (with_turn t asked_at (Some (get_endpoints url asked_at 2 ∷ []))) at
    (Some (session_requests (with_turn t asked_at (Some (get_endpoints url asked_at 2 ∷ []))) policy_id token at)))

-- ---- a talk

module _ (stays : CallsStay) (begins : SessionsStay) (are : RepliesAre) where
  called_talk : (t : SoFar) (request : Request) (moment : DateTime) (old new : Client) (before after : LineState) (reply : Reply)
      → IsTalking t old before.traffic → AsksRequest request old new before after (Ok reply)
      → IsTalking (with_turn t moment (Some (request ∷ []))) new after.traffic
  called_talk t request moment old new before after reply talks (inl nothing) = ok_err (Ok reply) reply NoMemory refl nothing.0
  called_talk t request moment old new before after reply talks (inr k) =
      let d = k.does talks.ready in
      subst (λ (r : Result Reply ClientFault). OnOk r (IsTalking (with_turn t moment (Some (request ∷ []))) new after.traffic))
      (told_ok k.answer reply k.told_is)
      (stays (λ (r : Reply). r ∷ []) t (request ∷ []) moment old new before.traffic after.traffic k.answer talks d.0 d.1)

  reply_is : (t : SoFar) (request : Request) (old new : Client) (before after : LineState) (reply : Reply) → IsSoundState t.server.first
      → IsTalking t old before.traffic → AsksRequest request old new before after (Ok reply)
      → reply ≡ reply_over (lane_back_by_token t.server t.limits t.url (newest_in t)) (answer (state_in t) (t.server.moments (answers_in t)) request).1
  reply_is t request old new before after reply sound talks (inl nothing) = ok_err (Ok reply) reply NoMemory refl nothing.0
  reply_is t request old new before after reply sound talks (inr k) =
      same_one (reply ∷ []) reply _ refl
      (are (λ (r : Reply). r ∷ []) t (request ∷ []) old new before.traffic after.traffic reply talks
      (subst (λ (r : Result Reply ClientFault). CallsAll (λ (x : Reply). x ∷ []) (request ∷ []) (connection_of old) (connection_of new) before.traffic
      after.traffic r) (told_ok k.answer reply k.told_is) (k.does talks.ready).0) sound)

  begun_talk : (t : SoFar) (policy_id : Option (List ℕ)) (moment : DateTime) (old new : Client) (before after : LineState) (token : NodeId)
      → IsTalking t old before.traffic → BeginsSessionBy policy_id moment old new before after (Ok token)
      → IsTalking (with_turn t moment (Some (session_requests t policy_id token moment))) new after.traffic
  begun_talk t policy_id moment old new before after token talks k =
      let d = subst (λ (r : Result NodeId SessionFault). TriesSession policy_id moment (connection_of old) (connection_of new) before.traffic after.traffic r
      × IsLeft (session_alone r) new) (session_ok k.answer token k.told_is) (k.does talks.ready) in
      begins t policy_id moment old new before.traffic after.traffic (Ok token) talks d.0 d.1

  module _ {M O : Type 0} (gives : M → ℤ → M → Type 0) (contents : O → Option (List ℕ)) (style : AnswerStyle) (question : Question) (first : State)
      (moment : DateTime) (had have : O) (verdict : Verdict) (printed : Result Verdict QuestionFault) (is : printed ≡ Ok verdict) where
    abbrev Written : Type 0
    Written = HasAdded (AreLinesGiven style question first moment) (contents had) (contents have)

    called : (t : SoFar) (token : NodeId) (handle : ℕ) (asked_at : DateTime) (old new : Client) (before after : LineState) → IsAsking first moment t
        → IsTalking t old before.traffic → (reply : Result Reply QuestionFault) (shown : Result Verdict QuestionFault) → shown ≡ Ok verdict
        → AsksRequest (request_of_question question token asked_at handle) old new before after reply
        → PrintsAnswers contents style question had have reply shown → Written
    called t token handle asked_at old new before after k talks (Ok reply) (Ok v) e asked prints = record {
      text = prints.0.text;
      is = subst (λ (m : DateTime). AreLinesGiven style question first m prints.0.text) k.time_is
          (lines_given style question first (state_in t) (t.server.moments (answers_in t)) asked_at token handle
          (lane_back_by_token t.server t.limits t.url (newest_in t)) reply prints.0.text k.kept
          (reply_is t (request_of_question question token asked_at handle) old new before after reply k.sound talks asked) prints.0.is);
      added = prints.0.added;
    }
    called t token handle asked_at old new before after k talks (Ok reply) (Err f) e asked prints = ok_err (Err f) verdict f e refl
    called t token handle asked_at old new before after k talks (Err f) shown e asked prints = ok_err shown verdict f e prints.1

    under : (t : SoFar) (token : NodeId) (handle : ℕ) (start last : M) (old new : Client) (before after : LineState) → IsAsking first moment t
        → IsTalking t old before.traffic
        → AsksUnder gives contents style question token handle start last old new before after had have printed → Written
    under t token handle start last old new before after k talks a =
        called t token handle a.asked_at old a.asked before a.answered k talks a.called a.printed (first_ok a.printed a.ended verdict (sym is ∙ a.result_is))
        a.asks a.prints

    in_session : (t : SoFar) (policy_id : Option (List ℕ)) (handle : ℕ) (start last : M) (old new : Client) (before after : LineState)
        → ((token : NodeId) (at : DateTime) → IsAsking first moment (with_turn t at (Some (session_requests t policy_id token at))))
        → IsTalking t old before.traffic
        → AsksInSession gives contents style question policy_id handle start last old new before after had have printed → Written
    in_session t policy_id handle start last old new before after asking talks a =
        by_result a.begun _ _ a.further
        (λ token e asked. under (with_turn t a.begun_at (Some (session_requests t policy_id token a.begun_at))) token handle a.behind last a.client new
        a.once_begun after (asking token a.begun_at)
        (begun_talk t policy_id a.begun_at old a.client before a.once_begun token talks
        (subst (λ (r : Result NodeId NotBegun). BeginsSessionBy policy_id a.begun_at old a.client before a.once_begun r) e a.begins)) asked)
        (λ refused h. ok_err printed verdict refused.fault is h.0)

    by_policy : (policy : TokenPolicy) (t : SoFar) (url : Option (List ℕ)) (start last : M) (old new : Client) (before after : LineState)
        → AreAsking first moment url policy t → IsTalking t old before.traffic
        → AsksByPolicy gives contents url policy style question start last old new before after had have printed → Written
    by_policy (Named id) t url start last old new before after asking talks a =
        by_result a.found _ _ a.further
        (λ policy_id e within. in_session t policy_id (first_call (Named id)) a.behind last a.client new a.once_found after (asking policy_id)
        (subst (λ (x : Client). IsTalking t x a.once_found.traffic) (sym a.finds.2)
        (subst (λ (l : LineState). IsTalking t old l.traffic) (sym a.finds.3) talks)) within)
        (λ f h. ok_err printed verdict f is h.0)
    by_policy Auto t url start last old new before after asking talks a =
        let finds : AsksPolicy gives url start a.behind old a.client before a.once_found a.found = a.finds in
        by_result a.found _ _ a.further
        (λ policy_id e within.
        let c = chosen finds.called policy_id (subst (ChoosesBy finds.called) e finds.chooses) in
        in_session (with_turn t finds.moment (Some (get_endpoints url finds.moment 2 ∷ []))) policy_id (first_call Auto) a.behind last a.client new a.once_found
        after (asking finds.moment policy_id)
        (called_talk t (get_endpoints url finds.moment 2) finds.moment old a.client before a.once_found c.0 talks
        (subst (AsksRequest (get_endpoints url finds.moment 2) old a.client before a.once_found) c.1 finds.asks)) within)
        (λ f h. ok_err printed verdict f is h.0)

  -- ---- from the opening on

  module _ (b : Beginning) (limits : Limits) (url : Option (List ℕ)) (opens : OpeningsBegin limits) (can : CanBegin b) (sound : IsSoundState b.first)
      (fits : IsTrue (text.encodable url)) where
    opened_talk : (moment : DateTime) (before after : LineState) (client : Client) → IsLineTo b [] [] before.traffic
        → OpensServer limits url moment before after (Ok client) → IsTalking (opening b limits url moment) client after.traffic
    opened_talk moment before after client line (inl nothing) = ok_err (Ok client) client NoMemory refl nothing.0
    opened_talk moment before after client line (inr o) =
        subst (λ (r : Result Client ClientFault). IfOk r (λ x. IsTalking (opening b limits url moment) x after.traffic)) (told_ok o.answer client o.told_is)
        (opens b url moment before.traffic after.traffic o.answer o.dated fits can line o.opens)

    -- a session is two requests that keep the nodes
    session_keeps : (s : State) (x y : DateTime) (policy_id : Option (List ℕ)) (token : NodeId) (at : DateTime) (id : ℕ)
        → Kept s (answer (answer s x (create_session url at id)).0 y (activate_session_as policy_id token at (id + 1))).0
    session_keeps s x y policy_id token at id =
        let m : Request = create_session url at id in
        kept_on s (answer s x m).0 (answer (answer s x m).0 y (activate_session_as policy_id token at (id + 1))).0 (answer_keeps s x m tt)
        (answer_keeps (answer s x m).0 y (activate_session_as policy_id token at (id + 1)) tt)

    are_asking : (policy : TokenPolicy) (opened_at : DateTime) → AreAsking b.first (time_of_answer b policy) url policy (opening b limits url opened_at)
    are_asking (Named id) opened_at = λ policy_id token at. record {
      sound = sound;
      kept = session_keeps b.first (b.moments 1) (b.moments 2) policy_id token at 2;
      time_is = refl;
    }
    are_asking Auto opened_at = λ asked_at policy_id token at. record {
      sound = sound;
      kept = session_keeps b.first (b.moments 2) (b.moments 3) policy_id token at 3;
      time_is = refl;
    }

    pub answered_lines : {M O : Type 0} (gives : M → ℤ → M → Type 0) (contents : O → Option (List ℕ)) (policy : TokenPolicy) (style : AnswerStyle)
        (question : Question) (start last : M) (before after : LineState) (had have : O) (verdict : Verdict) → IsLineTo b [] [] before.traffic
        → RunsQuestion gives contents limits url policy style question start last before after had have (Ok verdict)
        → HasAdded (AreLinesGiven style question b.first (time_of_answer b policy)) (contents had) (contents have)
    answered_lines gives contents policy style question start last before after had have verdict line r =
        by_result r.opened _ _ r.further
        (λ client e used. by_policy gives contents style question b.first (time_of_answer b policy) had have verdict used.1.printed
        (first_ok used.1.printed used.1.closed verdict used.1.result_is) policy (opening b limits url r.opened_at) url r.behind used.1.behind client
        used.1.asked
        r.once_open used.1.answered (are_asking policy r.opened_at)
        (opened_talk r.opened_at before r.once_open client line (subst (OpensServer limits url r.opened_at
        before r.once_open) e r.opens)) used.1.asks)
        (λ f h. ok_err (Ok verdict) verdict f refl h.0)
