-- What a client is told of each of its calls.
use Rattle.std.proofs.Common.{◌≡◌, ◌⊎◌, inl, inr, ℕ, ◌+◌, ◌<◌, Bool, true, IsTrue, List, [], ◌∷◌, ◌++◌}
use Rattle.std.proofs.Common.{length, refl, sym, ◌∙◌, ap, subst, arith, append_assoc, append-nil, length-append}
use Rattle.std.specs.Prelude.{Result, cond}
use Rattle.std.proofs.lemmas.List.{append_cancel_left}
use Rattle.ua_builtin.specs.declared.date_time.DateTime.{DateTime}
use Rattle.ua_frame.specs.After.{each_from}
use Rattle.ua_frame.specs.Run.{End, Going, Over, Rules, Run, Stopped, events}
use Rattle.ua_frame.specs.declared.frame.Frame.{Frame}
use Rattle.ua_frame.specs.declared.hello.Hello.{Hello}
use Rattle.ua_frame.proofs.Ends.{ends_stay}
use Rattle.ua_frame.proofs.Readings.{reading}
use Rattle.ua_frame.proofs.Unique.{unique}
use Rattle.ua_chunk.specs.Cutting.{cut_refusal}
use Rattle.ua_chunk.specs.declared.lane.Lane.{Lane}
use Rattle.ua_chunk.proofs.Lists.{filter_append}
use Rattle.ua_channel.specs.Agreement.{agreement_of, lane_of}
use Rattle.ua_channel.specs.ClientSends.{hello_to}
use Rattle.ua_channel.specs.ClientTable.{client_rules}
use Rattle.ua_channel.specs.ClientTold.{ClientTold, Why}
use Rattle.ua_channel.specs.ServerRules.{server_rules}
use Rattle.ua_channel.specs.ServerTold.{Told}
use Rattle.ua_channel_laws.specs.Answers.{answers_told}
use Rattle.ua_channel_laws.specs.ClientReads.{lane_from, told_reply}
use Rattle.ua_channel_laws.specs.Outgoing.Outgoing.{CallWith, RenewalAt}
use Rattle.ua_channel_laws.specs.Outgoing.{Outgoing}
use Rattle.ua_channel_laws.specs.Rounds.{AreConnected, BothEnds, answers_lane, round_behind, rounds_behind, rounds_down, rounds_heard}
use Rattle.ua_channel_laws.proofs.ReadOn.{begins_run, events_on}
use Rattle.ua_opening.proofs.BodyLaws.{body_reads_back}
use Rattle.ua_services.proofs.RequestLawful.{lawful_request}
use Rattle.ua_services.proofs.RequestRead.{request_read-found}
use Rattle.ua_services.specs.Request.{request}
use Rattle.ua_services.specs.declared.fault.RequestFault.{RequestFault}
use Rattle.ua_services.specs.declared.request.Request.{Request}
use Rattle.ua_server.specs.Answer.{answer}
use Rattle.ua_server.specs.Reply.{answered, answered_by}
use Rattle.ua_server.specs.Said.{behind_first, first_time, output_of, said_of, state_after}
use Rattle.ua_server.specs.State.{State}
use Rattle.ua_server.proofs.SaidInParts.{said-append}
use Rattle.ua_client.specs.Told.{is_told_of, told_of}
use Rattle.ua_headline.specs.EachCall.{body_answered, client_events, id_after, operations_of, reply_to_call, server_bytes}
use Rattle.ua_headline.specs.Talk.{AreRoundsAccepted, CanOpen, Ends, IsPrefix, answers_to, asks_in, both_opened, heard_in, left_by, rounds_from, rounds_in}
use Rattle.ua_headline.specs.Talk.{opening_answer_of_ends, sent_in, told_by_turns}
use Rattle.ua_headline.proofs.Fronts.{prefix_of_prefix}
use Rattle.ua_headline.proofs.HeardIds.{later_none, skip}
use Rattle.ua_channel_laws.proofs.Lists.{meets, same_next}
use Rattle.ua_headline.proofs.Served.{hello_stays}
use Rattle.ua_headline.proofs.Talking.{EndsConnect, RoundsReach, connected, said}
use Rattle.ua_headline.proofs.Turning.{turn}
use Rattle.ua_loopback.proofs.Replying.{of_itself, of_no_other}

-- ---- of the answers to a turn

-- none of a call before it
earlier_none : (lane : Lane) (s : State) (times : List DateTime) (issued id : ℕ) (os : List Outgoing) (k : ℕ) → k < id
    → told_of k (answers_told lane (answers_to s times issued id os)) ≡ []
earlier_none lane s times issued id [] k less = refl
earlier_none lane s times issued id (CallWith body ∷ os) k less =
    let reply : List ℕ = body_answered (s, times) body in
    let now : State = (answered s (first_time times) body).0 in
    skip k (told_reply (cut_refusal lane reply) id reply) (answers_told lane (answers_to now (behind_first times) issued (id + 1) os))
    (of_no_other (cut_refusal lane reply) id k reply (λ e. omega (arith, less, e)))
    ∙ earlier_none lane now (behind_first times) issued (id + 1) os k (omega (arith, less))
earlier_none lane s times issued id (RenewalAt time ∷ os) k less =
    earlier_none lane s (behind_first times) (issued + 1) (id + 1) os k (omega (arith, less))

take : (k : ℕ) (x : ClientTold) (xs : List ClientTold) → is_told_of k x ≡ true → told_of k (x ∷ xs) ≡ x ∷ told_of k xs
take k x xs is = ap (λ (b : Bool). cond b (x ∷ told_of k xs) (told_of k xs)) is

-- one of each call: the response to its body where those before it leave the services
its_own : (lane : Lane) (s : State) (times : List DateTime) (issued id : ℕ) (before after : List Outgoing) (body : List ℕ) (k : ℕ) → k ≡ id + length before
    → told_of k (answers_told lane (answers_to s times issued id (before ++ CallWith body ∷ after)))
    ≡ told_reply (cut_refusal lane (body_answered (left_by s times before) body)) k (body_answered (left_by s times before) body) ∷ []
its_own lane s times issued id [] after body k e =
    let reply : List ℕ = body_answered (s, times) body in
    let now : State = (answered s (first_time times) body).0 in
    let rest : List ClientTold = answers_told lane (answers_to now (behind_first times) issued (id + 1) after) in
    take k (told_reply (cut_refusal lane reply) id reply) rest (of_itself (cut_refusal lane reply) id k reply (omega (arith, e)))
    ∙ (ap (λ (ts : List ClientTold). told_reply (cut_refusal lane reply) id reply ∷ ts)
    (earlier_none lane now (behind_first times) issued (id + 1) after k (omega (arith, e)))
    ∙ ap (λ (n : ℕ). told_reply (cut_refusal lane reply) n reply ∷ []) (omega (arith, e)))
its_own lane s times issued id (CallWith first ∷ before) after body k e =
    let reply : List ℕ = body_answered (s, times) first in
    let now : State = (answered s (first_time times) first).0 in
    skip k (told_reply (cut_refusal lane reply) id reply)
    (answers_told lane (answers_to now (behind_first times) issued (id + 1) (before ++ CallWith body ∷ after)))
    (of_no_other (cut_refusal lane reply) id k reply (λ same. omega (arith, e, same)))
    ∙ its_own lane now (behind_first times) issued (id + 1) before after body k (omega (arith, e))
its_own lane s times issued id (RenewalAt time ∷ before) after body k e =
    its_own lane s (behind_first times) (issued + 1) (id + 1) before after body k (omega (arith, e))

pub left_parts : (s : State) (times : List DateTime) (before more : List Outgoing)
    → left_by s times (before ++ more) ≡ left_by (left_by s times before).0 (left_by s times before).1 more
left_parts s times [] more = refl
left_parts s times (CallWith body ∷ before) more = left_parts (answered s (first_time times) body).0 (behind_first times) before more
left_parts s times (RenewalAt time ∷ before) more = left_parts s (behind_first times) before more

-- ---- of the answers to all turns

module _ (e : Ends) where
  abbrev heard_from : BothEnds → State → List DateTime → List (List Outgoing) → List ClientTold
  heard_from at s times turns = rounds_heard e.server e.channel at (rounds_from e at s times turns)

  abbrev then : BothEnds → State → List DateTime → List Outgoing → BothEnds
  then at s times os = round_behind e.server e.channel at (turn e at s times os)

  abbrev heard_at : BothEnds → State → List DateTime → List Outgoing → List ClientTold
  heard_at at s times os = answers_told (answers_lane e.server e.channel at os) (answers_to s times at.server.issued at.id os)

  -- what is told of a call in a turn, and behind it
  in_parts : (at : BothEnds) (s : State) (times : List DateTime) (os : List Outgoing) (turns : List (List Outgoing)) (k : ℕ)
      → told_of k (heard_from at s times (os ∷ turns))
      ≡ told_of k (heard_at at s times os) ++ told_of k (heard_from (then at s times os) (left_by s times os).0 (left_by s times os).1 turns)
  in_parts at s times os turns k = filter_append (is_told_of k) (heard_at at s times os)
      (heard_from (then at s times os) (left_by s times os).0 (left_by s times os).1 turns)

  none_before : (at : BothEnds) (s : State) (times : List DateTime) (turns : List (List Outgoing)) (k : ℕ) → k < at.id
      → told_of k (heard_from at s times turns) ≡ []
  none_before at s times [] k less = refl
  none_before at s times (os ∷ turns) k less =
      in_parts at s times os turns k
      ∙ (ap (λ (ts : List ClientTold). ts ++ told_of k (heard_from (then at s times os) (left_by s times os).0 (left_by s times os).1 turns))
      (earlier_none (answers_lane e.server e.channel at os) s times at.server.issued at.id os k less)
      ∙ none_before (then at s times os) (left_by s times os).0 (left_by s times os).1 turns k (omega (arith, less)))

  -- a reply is cut by the client's limits alone
  abbrev told_there : Hello → ℕ → List ℕ → ClientTold
  told_there hello k reply = told_reply (cut_refusal (lane_of e.channel 1 (agreement_of e.server hello)) reply) k reply

  -- the call with this body is told of once, whatever is before it
  abbrev IsToldOnce : Hello → BothEnds → State → List DateTime → List (List Outgoing) → List Outgoing → List ℕ → ℕ → Type 0
  IsToldOnce hello at s times turns after body k =
      (before : List Outgoing) → at.server.hello ≡ hello → k ≡ at.id + length before → operations_of turns ≡ before ++ CallWith body ∷ after
      → told_of k (heard_from at s times turns) ≡ told_there hello k (body_answered (left_by s times before) body) ∷ []

  one_of_each : (hello : Hello) (at : BothEnds) (s : State) (times : List DateTime) (turns : List (List Outgoing)) (after : List Outgoing) (body : List ℕ)
      (k : ℕ) (before : List Outgoing) → at.server.hello ≡ hello → k ≡ at.id + length before → operations_of turns ≡ before ++ CallWith body ∷ after
      → told_of k (heard_from at s times turns) ≡ told_there hello k (body_answered (left_by s times before) body) ∷ []
  one_of_each hello at s times [] after body k before is id parts =
      absurd (omega (arith, ap length parts, length-append before (CallWith body ∷ after)))
  one_of_each hello at s times (os ∷ turns) after body k before is id parts =
      by (one_of_each hello (then at s times os) (left_by s times os).0 (left_by s times os).1 turns after body k)
      (meets os before (operations_of turns) (CallWith body ∷ after) parts)
    where
      same_hello : (then at s times os).server.hello ≡ hello
      same_hello = hello_stays (lane_from at.client) at.server os ∙ is

      -- it is made behind this turn
      later : IsToldOnce hello (then at s times os) (left_by s times os).0 (left_by s times os).1 turns after body k → (more : List Outgoing)
          → before ≡ os ++ more
          → told_of k (heard_from at s times (os ∷ turns)) ≡ told_there hello k (body_answered (left_by s times before) body) ∷ []
      later behind more same =
          let rest : operations_of turns ≡ more ++ CallWith body ∷ after =
          append_cancel_left os _ _ (parts ∙ (ap (λ (xs : List Outgoing). xs ++ CallWith body ∷ after) same ∙ append_assoc os more (CallWith body ∷ after))) in
          let size = ap length same in
          in_parts at s times os turns k
          ∙ (ap (λ (ts : List ClientTold). ts ++ told_of k (heard_from (then at s times os) (left_by s times os).0 (left_by s times os).1 turns))
          (later_none (answers_lane e.server e.channel at os) s times at.server.issued at.id os k (omega (arith, id, size, length-append os more)))
          ∙ (behind more same_hello (omega (arith, id, size, length-append os more)) rest
          ∙ ap (λ (p : State × List DateTime). told_there hello k (body_answered p body) ∷ [])
          (sym (ap (left_by s times) same ∙ left_parts s times os more))))

      -- it is made in this turn
      here : (more : List Outgoing) → os ≡ before ++ CallWith body ∷ more
          → told_of k (heard_from at s times (os ∷ turns)) ≡ told_there hello k (body_answered (left_by s times before) body) ∷ []
      here more same =
          let size = ap length same in
          in_parts at s times os turns k
          ∙ (ap (λ (ts : List ClientTold). told_of k (heard_at at s times os) ++ ts)
          (none_before (then at s times os) (left_by s times os).0 (left_by s times os).1 turns k
          (omega (arith, id, size, length-append before (CallWith body ∷ more))))
          ∙ (append-nil (told_of k (heard_at at s times os))
          ∙ (ap (λ (xs : List Outgoing). told_of k (answers_told (answers_lane e.server e.channel at os) (answers_to s times at.server.issued at.id xs))) same
          ∙ (its_own (answers_lane e.server e.channel at os) s times at.server.issued at.id before more body k id
          ∙ ap (λ (h : Hello). told_there h k (body_answered (left_by s times before) body) ∷ []) same_hello))))

      within : IsToldOnce hello (then at s times os) (left_by s times os).0 (left_by s times os).1 turns after body k → (more : List Outgoing)
          → os ≡ before ++ more → more ++ operations_of turns ≡ CallWith body ∷ after
          → told_of k (heard_from at s times (os ∷ turns)) ≡ told_there hello k (body_answered (left_by s times before) body) ∷ []
      within behind [] same rest = later behind [] (sym (append-nil before) ∙ (sym same ∙ sym (append-nil os)))
      within behind (o ∷ more) same rest =
          here more (same ∙ ap (λ (x : Outgoing). before ++ x ∷ more) (same_next o (CallWith body) (more ++ operations_of turns) after rest).0)

      by : IsToldOnce hello (then at s times os) (left_by s times os).0 (left_by s times os).1 turns after body k
          → (((more : List Outgoing) × (before ≡ os ++ more)) ⊎ ((more : List Outgoing) × (os ≡ before ++ more)))
          → told_of k (heard_from at s times (os ∷ turns)) ≡ told_there hello k (body_answered (left_by s times before) body) ∷ []
      by behind (inl (more, same)) = later behind more same
      by behind (inr (more, same)) =
          within behind more same
          (append_cancel_left before _ _
          (sym (append_assoc before more (operations_of turns)) ∙ (ap (λ (xs : List Outgoing). xs ++ operations_of turns) (sym same) ∙ parts)))

-- what a client is told behind the opening and all turns
pub told_once : (e : Ends) (turns : List (List Outgoing)) (before after : List Outgoing) (body : List ℕ) → operations_of turns ≡ before ++ CallWith body ∷ after
    → told_of (id_after before) (heard_in e turns) ≡ reply_to_call e before body ∷ []
told_once e turns before after body parts =
    one_of_each e (hello_to e.client e.url) (both_opened e) e.first (behind_first e.times) turns after body (id_after before) before refl (omega arith) parts

-- ---- octets of which the first came

-- the first of octets that go on go on, and tell the first of what these tell
front_goes : {E X : Type 0} (R : Rules E X) (octets more : List ℕ) (gs : List Frame) → Run R (octets ++ more) gs [] Going
    → ((reading R octets).end ≡ Going) × ((later : List E) × (events R gs ≡ events R (reading R octets).frames ++ later))
front_goes {E} {X} R octets more gs whole = by (reading R octets).end refl
  where
    never : (end : End X) → (reading R octets).end ≡ end → (end ≡ Going → ⊥) → ⊥
    never end is not =
        not
        (sym is
        ∙ (unique R (octets ++ more) (reading R octets).frames gs ((reading R octets).rest ++ more) [] (reading R octets).end Going
        (ends_stay R octets more (reading R octets).frames (reading R octets).rest (reading R octets).end (λ e. not (sym is ∙ e)) (reading R octets).run)
        whole).ends)

    goes : (reading R octets).end ≡ Going → (later : List E) × (events R gs ≡ events R (reading R octets).frames ++ later)
    goes is =
        let p = begins_run R octets more (reading R octets).frames gs (reading R octets).rest Going
        (subst (λ (end : End X). Run R octets (reading R octets).frames (reading R octets).rest end) is (reading R octets).run) whole in
        (each_from R.tells (reading R octets).frames p.0, ap (events R) p.1 ∙ events_on R (reading R octets).frames p.0)

    by : (end : End X) → (reading R octets).end ≡ end
        → ((reading R octets).end ≡ Going) × ((later : List E) × (events R gs ≡ events R (reading R octets).frames ++ later))
    by Going is = (is, goes is)
    by (Stopped why) is = absurd (never (Stopped why) is (λ c. cc))
    by Over is = absurd (never Over is (λ c. cc))

pub told_prefix : (k : ℕ) (xs ys : List ClientTold) → IsPrefix xs ys → IsPrefix (told_of k xs) (told_of k ys)
told_prefix k xs ys p = (told_of k p.0, ap (told_of k) p.1 ∙ filter_append (is_told_of k) xs p.0)

module _ (connect : EndsConnect) (reach : RoundsReach) (e : Ends) (turns : List (List Outgoing)) (can : CanOpen e)
    (accepted : AreRoundsAccepted e (both_opened e) (rounds_in e turns)) where
  abbrev c : AreConnected e.server e.client e.url e.channel (sent_in e turns) (told_by_turns e turns) (asks_in e turns)
      (opening_answer_of_ends e ++ rounds_down e.server e.channel (both_opened e) (rounds_in e turns)) (heard_in e turns)
      (rounds_behind e.server e.channel (both_opened e) (rounds_in e turns))
  c = connected connect reach e turns can accepted

  -- what the server sends for a prefix of what the client sends is a prefix of what it sends for all
  bytes_first : (took : List ℕ) → IsPrefix took (sent_in e turns)
      → IsPrefix (server_bytes e took) (output_of e.channel e.first (told_by_turns e turns) Going e.times)
  bytes_first took p =
      let R : Rules Told ℕ = server_rules e.server e.channel in
      let f = front_goes R took p.0 c.server_reads.frames (subst (λ (o : List ℕ). Run R o c.server_reads.frames [] Going) p.1 c.server_reads.run) in
      let told : List Told = events R (reading R took).frames in
      let more : List ℕ = said_of e.channel (state_after e.channel e.first told e.times) f.1.0 ++ [] in (
        more,
        ap (λ (ts : List Told). output_of e.channel e.first ts Going e.times) (sym c.server_reads.told_is ∙ f.1.1)
            ∙ (said-append e.channel e.first told f.1.0 Going e.times
            ∙ ap (λ (end : End ℕ). output_of e.channel e.first told end e.times ++ more) (sym f.0)),
      )

  pub part : (before after : List Outgoing) (body : List ℕ) → operations_of turns ≡ before ++ CallWith body ∷ after → (took got : List ℕ)
      → IsPrefix took (sent_in e turns) → IsPrefix got (server_bytes e took)
      → IsPrefix (told_of (id_after before) (client_events e (asks_in e turns) got)) (reply_to_call e before body ∷ [])
  part before after body parts took got p q =
      let R : Rules ClientTold Why = client_rules e.client (asks_in e turns) in
      let all : IsPrefix got (output_of e.channel e.first (told_by_turns e turns) Going e.times) = prefix_of_prefix got _ _ q (bytes_first took p) in
      let whole : got ++ all.0 ≡ _ = sym all.1 ∙ (said connect reach e turns can accepted).said in
      let f = front_goes R got all.0 c.client_reads.frames (subst (λ (o : List ℕ). Run R o c.client_reads.frames [] Going) (sym whole) c.client_reads.run) in
      subst (IsPrefix (told_of (id_after before) (client_events e (asks_in e turns) got))) (told_once e turns before after body parts)
      (told_prefix (id_after before) (client_events e (asks_in e turns) got) (heard_in e turns) (f.1.0, sym c.client_reads.told_is ∙ f.1.1))

  -- all that it is told
  pub all_told : client_events e (asks_in e turns) (server_bytes e (sent_in e turns)) ≡ heard_in e turns
  all_told =
      let R : Rules Told ℕ = server_rules e.server e.channel in
      let S : Rules ClientTold Why = client_rules e.client (asks_in e turns) in
      let r = reading R (sent_in e turns) in
      let same = unique R (sent_in e turns) r.frames c.server_reads.frames r.rest [] r.end Going r.run c.server_reads.run in
      let bytes : server_bytes e (sent_in e turns) ≡ _ =
      ap (λ (fs : List Frame). output_of e.channel e.first (events R fs) r.end e.times) same.frames
      ∙ (ap (λ (ts : List Told). output_of e.channel e.first ts r.end e.times) c.server_reads.told_is
      ∙ (ap (λ (end : End ℕ). output_of e.channel e.first (told_by_turns e turns) end e.times) same.ends
      ∙ (said connect reach e turns can accepted).said)) in
      let t = reading S (server_bytes e (sent_in e turns)) in
      let read = unique S (server_bytes e (sent_in e turns)) t.frames c.client_reads.frames t.rest [] t.end Going t.run
      (subst (λ (o : List ℕ). Run S o c.client_reads.frames [] Going) (sym bytes) c.client_reads.run) in
      ap (events S) read.frames ∙ c.client_reads.told_is

  pub whole : (before after : List Outgoing) (body : List ℕ) → operations_of turns ≡ before ++ CallWith body ∷ after
      → told_of (id_after before) (client_events e (asks_in e turns) (server_bytes e (sent_in e turns))) ≡ reply_to_call e before body ∷ []
  whole before after body parts = ap (told_of (id_after before)) all_told ∙ told_once e turns before after body parts

-- ---- requests

-- a request that can be encoded is answered as that request
pub answered_as : (s : State) (moment : DateTime) (m : Request) → IsTrue (request.encodable m) → answered s moment (request.canonical m) ≡ answer s moment m
answered_as s moment m fits =
    ap (λ (r : Result Request RequestFault). answered_by r s moment)
    ((request_read-found (request.canonical m) m).1 (body_reads_back request lawful_request m fits).0)
