-- That both ends in one process stay in step.
use Rattle.std.proofs.Common.{◌≡◌, ◌⊎◌, inl, inr, ℕ, ◌+◌, ◌<◌, ◌≤◌, ◌^◌, List, [], ◌∷◌, ◌++◌, Option, Some, None}
use Rattle.std.proofs.Common.{length, refl, sym, ◌∙◌, ap, subst, arith, append_assoc, length-append}
use Rattle.std.specs.List.{AllByRecursion}
use Rattle.std.proofs.lemmas.List.{length-map}
use Rattle.ua_wire.specs.Format.{Extends}
use Rattle.ua_builtin.specs.declared.date_time.DateTime.{DateTime}
use Rattle.ua_frame.specs.Run.{Going}
use Rattle.ua_frame.specs.declared.limits.Limits.{Limits}
use Rattle.ua_frame.specs.declared.hello.Hello.{Hello}
use Rattle.ua_chunk.specs.declared.lane.Lane.{Lane}
use Rattle.ua_chunk.proofs.Lists.{filter_append}
use Rattle.ua_channel.specs.Agreement.{Agreement, agreement_of, lane_of}
use Rattle.ua_channel.specs.Asks.{Placed, asked_in, next_id}
use Rattle.ua_channel.specs.Client.{ClientEnded, ClientGoes, client_limits}
use Rattle.ua_channel_laws.specs.ClientReads.{AtClient, ClientReads, lane_from}
use Rattle.ua_channel.specs.ClientTold.{ClientTold as Heard, Why}
use Rattle.ua_channel_laws.specs.InStep.{AreInStep}
use Rattle.ua_channel_laws.specs.ServerReads.{AtServer, ServerReads}
use Rattle.ua_channel.specs.ServerTold.{Told}
use Rattle.ua_channel.specs.declared.client.channel.ClientChannel.{ClientChannel}
use Rattle.ua_channel_laws.proofs.Following.{client_begins, client_not_failed, client_told}
use Rattle.ua_services.specs.Request.{request}
use Rattle.ua_services.specs.declared.request.Request.{Request}
use Rattle.ua_server.specs.Said.{Course, state_after, course_after, output_of, said_of, used_in, with_more}
use Rattle.ua_server.proofs.SaidInParts.{course}
use Rattle.ua_client.specs.Calls.{Answered, ClientGoesOn, LastCame, asked_at, refusal_at, sent_at}
use Rattle.ua_client.specs.Renewing.{IsSettled}
use Rattle.ua_client.specs.Replies.{AreAwaited, IsMisanswered}
use Rattle.ua_client.specs.Sent.{bodies_of}
use Rattle.ua_client.specs.ClientPlace.{ClientPlace, StandsAt, id_at}
use Rattle.ua_client.specs.Told.{is_told_of, told_of}
use Rattle.ua_client.specs.declared.reply.Reply.{Reply}
use Rattle.ua_client.proofs.Askings.{next-calls}
use Rattle.ua_client.proofs.Settled.{NonePending}
use Rattle.ua_loopback.specs.Accepted.{held_behind_calls}
use Rattle.ua_loopback.specs.Beginning.{Beginning}
use Rattle.ua_loopback.specs.Replies.{HaveMisanswer}
use Rattle.ua_loopback.specs.Says.{server_output, answer_times, times_from}
use Rattle.ua_loopback.specs.Together.{AreServing, behind_calls}
use Rattle.ua_loopback.specs.Turns.{calls_told}
use Rattle.ua_loopback.proofs.Answering.{AreHeard, answers_told, calls_asked, calls_in_step, hello_stays, issued_stays}
use Rattle.ua_loopback.proofs.Answering.{newest_stays, replies_read, told_each, tokens_stay, used_last, waits, with_calls}
use Rattle.ua_loopback.proofs.Ending.{LastChunk}
use Rattle.ua_channel_laws.proofs.Lists.{meets}
use Rattle.ua_loopback.proofs.Reaching.{few_ids, numbers_read, requests_asked, requests_read}
use Rattle.ua_loopback.proofs.Replying.{AreWritable, misanswered_at, moments_there}
use Rattle.ua_loopback.proofs.Saying.{later_times, left_on, said_by_run, said_on}
use Rattle.ua_loopback.proofs.Untaken.{never_missing, took_all, took_no_more}

-- that nothing is told of a call before it is asked
abbrev pub ToldBehind : Type 0
ToldBehind = (x : ClientChannel) (asks : List Placed) (octets : List ℕ) (told : List Heard) (n : ℕ) → ClientGoes x asks octets told
    → told_of (next_id (asked_in asks) + n) told ≡ []

-- ---- what a server says of more

module _ (b : Beginning) (octets : List ℕ) (told : List Told) (s : AtServer) (r : ServerReads b.limits b.channel octets told s) where
  pub said_there : server_output b octets ≡ output_of b.channel b.first told Going (answer_times told b.moments)
  said_there = said_by_run b octets r.frames [] Going r.run
      ∙ ap (λ (t : List Told). output_of b.channel b.first t Going (answer_times t b.moments)) r.told_is

  -- how far the server is behind these
  abbrev pub behind_told : List Told → Course
  behind_told more = with_more (state_after b.channel b.first told (answer_times told b.moments)) (later_times told more b.moments)

  pub said_more : (later : List ℕ) (more : List Told) (t : AtServer) → ServerReads b.limits b.channel later (told ++ more) t
      → server_output b later ≡ server_output b octets ++ said_of b.channel (behind_told more) more
  said_more later more t q =
      said_by_run b later q.frames [] Going q.run
      ∙ (ap (λ (k : List Told). output_of b.channel b.first k Going (answer_times k b.moments)) q.told_is
      ∙ (said_on b told more ∙ ap (λ (o : List ℕ). o ++ said_of b.channel (behind_told more) more) (sym said_there)))

some_bodies : (requests : List Request) → 0 < length requests → 0 < length (bodies_of requests)
some_bodies requests some = omega (arith, some, length-map requests request.canonical)

-- ---- a turn

-- requests are asked, against which there is nothing
module _ (b : Beginning) (url : Option (List ℕ)) (octets : List ℕ) (told : List Told) (s : AtServer) (x : ClientChannel) (site : ClientPlace) (c : AtClient)
    (requests : List Request)
    (on : b.channel < 2 ^ 32) (t : AreServing b url octets told s x site c) (some : 0 < length requests) (judged : refusal_at site requests ≡ None) where
  abbrev lane : Lane
  lane = lane_from c

  abbrev bodies : List (List ℕ)
  bodies = bodies_of requests

  abbrev calls : List Told
  calls = calls_told lane.token (id_at site) bodies

  abbrev then_at : AtServer
  then_at = behind_calls s lane bodies

  abbrev g : Agreement
  g = agreement_of b.limits then_at.hello

  abbrev before : Course
  before = state_after b.channel b.first told (answer_times told b.moments)

  abbrev moments : List DateTime
  moments = before.moments ++ later_times told calls b.moments

  server_then : ServerReads b.limits b.channel (octets ++ sent_at site requests) (told ++ calls) then_at
  server_then = requests_read b.limits url b.channel octets told s x site c on t.together requests judged

  pub step_then : AreInStep b.limits (client_limits x) url b.channel then_at (with_calls c (id_at site) bodies)
  step_then = calls_in_step b.limits (client_limits x) url b.channel s c (id_at site) t.together.in_step t.together.client_reads.newest_is bodies

  pub few_used : then_at.used < 2 ^ 32
  few_used = omega (arith, step_then.taken.not_before, step_then.taken.issued, server_then.few_issued)

  agreed_before : before.agreement ≡ Some g
  agreed_before = t.agreed ∙ ap (λ (h : Hello). Some (agreement_of b.limits h)) (sym (hello_stays s lane bodies))

  course_is : behind_told b octets told s t.together.server_reads calls ≡ course before.state before.number moments (Some g)
  course_is = ap (λ (o : Option Agreement). course before.state before.number moments o) agreed_before

  tokens_then : AllByRecursion (λ (token : ℕ). token ≤ then_at.issued) (with_calls c (id_at site) bodies).tokens
  tokens_then =
      subst (λ (n : ℕ). AllByRecursion (λ (token : ℕ). token ≤ n) (with_calls c (id_at site) bodies).tokens) (sym (issued_stays s lane bodies))
      (subst (λ (ns : List ℕ). AllByRecursion (λ (token : ℕ). token ≤ s.issued) ns) (sym (tokens_stay c (id_at site) bodies)) t.issued)

  abbrev told_then : List Heard
  told_then = site.told ++ answers_told (lane_of b.channel lane.token g) before.state moments (id_at site) bodies

  heard_then : AreHeard b.limits (client_limits x) url b.channel then_at (length bodies) (length (with_calls c (id_at site) bodies).tokens)
      (with_calls c (id_at site) bodies).newest (asked_at site requests)
      (site.octets ++ said_of b.channel (course before.state before.number moments (Some g)) calls) told_then
      (course_after b.channel (course before.state before.number moments (Some g)) calls).number
      (course_after b.channel (course before.state before.number moments (Some g)) calls).agreement
  heard_then =
      replies_read b.limits (client_limits x) url b.channel on then_at few_used lane (used_last s lane bodies (some_bodies requests some))
      (asked_at site requests) site.octets site.told (with_calls c (id_at site) bodies) before.state before.number moments (id_at site) bodies
      (calls_asked (client_limits x) site.asks site.octets site.told c t.together.client_reads bodies) step_then
      (t.says_next ∙ sym (next_stays c (id_at site) bodies))
      (waits c (id_at site) bodies)
      (few_ids c.ack (id_at site) requests (requests_asked b.limits url b.channel octets told s x site c on t.together requests judged) some) tokens_then
      (newest_stays c (id_at site) bodies)
    where
      next_stays : (d : AtClient) (id : ℕ) (bs : List (List ℕ)) → (with_calls d id bs).next ≡ d.next
      next_stays d id [] = refl
      next_stays d id (body ∷ bs) = next_stays (record d { pending = d.pending ++ id ∷ [] }) (id + 1) bs

  pub said_then : server_output b (octets ++ sent_at site requests) ≡ site.octets ++ said_of b.channel (course before.state before.number moments (Some g))
      calls
  said_then =
      said_more b octets told s t.together.server_reads (octets ++ sent_at site requests) calls then_at server_then
      ∙ (ap (λ (o : List ℕ). o ++ said_of b.channel (behind_told b octets told s t.together.server_reads calls) calls) (sym t.taken)
      ∙ ap (λ (k : Course). site.octets ++ said_of b.channel k calls) course_is)

  left_then_is : state_after b.channel b.first (told ++ calls) (answer_times (told ++ calls) b.moments)
      ≡ course_after b.channel (course before.state before.number moments (Some g)) calls
  left_then_is = left_on b told calls ∙ ap (λ (k : Course). course_after b.channel k calls) course_is

  newest_then : heard_then.at.newest ≡ c.newest
  newest_then = heard_then.newest ∙ newest_stays c (id_at site) bodies

  held_then : length heard_then.at.tokens ≡ held_behind_calls (length c.tokens) (length requests)
  held_then =
      heard_then.held
      ∙ (ap (λ (ks : List ℕ). held_behind_calls (length ks) (length bodies)) (tokens_stay c (id_at site) bodies)
      ∙ ap (λ (n : ℕ). held_behind_calls (length c.tokens) n) (length-map requests request.canonical))

  -- the client reads what the server says of them
  reads_asked : (limits : Limits) → limits ≡ client_limits x
      → ClientReads limits (asked_at site requests) (server_output b (octets ++ sent_at site requests)) told_then heard_then.at
  reads_asked limits same =
      subst (λ (l : Limits). ClientReads l (asked_at site requests) (server_output b (octets ++ sent_at site requests)) told_then heard_then.at) (sym same)
      (subst (λ (o : List ℕ). ClientReads (client_limits x) (asked_at site requests) o told_then heard_then.at) (sym said_then) heard_then.reads)

  -- something was told of each call there
  each_told : (k : ℕ) → id_at site ≤ k → k < id_at site + length requests → 0 < length (told_of k told_then)
  each_told k from to =
      let some_told = told_each (lane_of b.channel lane.token g) before.state moments (id_at site) bodies k from
      (omega (arith, to, length-map requests request.canonical)) in
      let answers : List Heard = answers_told (lane_of b.channel lane.token g) before.state moments (id_at site) bodies in
      omega (arith, some_told, ap length (filter_append (is_told_of k) site.told answers), length-append (told_of k site.told) (told_of k answers))

  -- what becomes of a channel of the client that took a front of what the server says, or all of it
  module _ (y : ClientChannel) (same : client_limits y ≡ client_limits x) (taken : List ℕ) where
    -- it does not fail
    pub asked_fails_not : (heard : List Heard) (why : Why) → ClientEnded y (asked_at site requests) taken heard why
        → Extends taken (server_output b (octets ++ sent_at site requests)) → ⊥
    asked_fails_not heard why ended front =
        client_not_failed y (asked_at site requests) taken front.more heard told_then heard_then.at why ended
        (subst (λ (o : List ℕ). ClientReads (client_limits y) (asked_at site requests) o told_then heard_then.at) front.parts
        (reads_asked (client_limits y) same))

    -- behind all of it no reply is missing
    pub asked_misses_not : ClientGoesOn y (asked_at site requests) taken site.told (AreAwaited requests (id_at site))
        → taken ≡ server_output b (octets ++ sent_at site requests) → ⊥
    asked_misses_not h all =
        let told_is : site.told ++ h.0 ≡ told_then =
        client_told y (asked_at site requests) taken (site.told ++ h.0) told_then heard_then.at h.1
        (subst (λ (o : List ℕ). ClientReads (client_limits y) (asked_at site requests) o told_then heard_then.at) (sym all)
        (reads_asked (client_limits y) same)) in
        never_missing requests (id_at site) (site.told ++ h.0) h.2.slots h.2.slots_are
        (λ k from to. subst (λ (ts : List Heard). 0 < length (told_of k ts)) (sym told_is) (each_told k from to)) h.2.missing

    -- a message that is no answer to its request is one with which the server answered it
    pub asked_misanswered : ToldBehind → StandsAt x site → ClientGoesOn y (asked_at site requests) taken site.told (IsMisanswered requests (id_at site))
        → Extends taken (server_output b (octets ++ sent_at site requests)) → AreWritable requests
        → HaveMisanswer before.state b.moments (used_in told) requests
    asked_misanswered law at h front fits =
        let begins = client_begins y (asked_at site requests) taken front.more (site.told ++ h.0) told_then heard_then.at h.1
        (subst (λ (o : List ℕ). ClientReads (client_limits y) (asked_at site requests) o told_then heard_then.at) front.parts
        (reads_asked (client_limits y) same)) in
        let moments_are = moments_there b told lane.token (id_at site) bodies
        ∙ ap (λ (n : ℕ). times_from b.moments (used_in told) n ++ []) (length-map requests request.canonical) in
        let all_is : told_then ≡ h.2.before ++ h.2.last ∷ begins.0 = begins.1
        ∙ (ap (λ (ts : List Heard). ts ++ begins.0) h.2.told_is ∙ append_assoc h.2.before (h.2.last ∷ []) begins.0) in
        misanswered_at (lane_of b.channel lane.token g) before.state moments (id_at site) (id_at site + h.2.place) requests b.moments
        (used_in told) [] site.told told_then
        h.2.place h.2.request h.2.before h.2.last begins.0 fits moments_are refl refl
        (law x site.asks site.octets site.told h.2.place at.goes) h.2.request_is all_is h.2.untold h.2.misanswers

  -- they are answered
  module _ (behind : ClientPlace) (taken : List ℕ) (replies : List Reply) (a : Answered requests site behind taken replies) where
    spare_then : then_at.issued < id_at behind
    spare_then =
        let ids : id_at behind ≡ id_at site + length bodies = ap (λ (p : List Placed). next_id (asked_in p)) a.asks
        ∙ next-calls site.asks (length site.octets) (id_at site) bodies in
        omega (arith, ids, issued_stays s lane bodies, t.spare)

    module _ (y : ClientChannel) (stands : StandsAt y behind) (same : client_limits y ≡ client_limits x) where
      -- the client reads what the server says of it
      reads_then : ClientReads (client_limits y) behind.asks (server_output b (octets ++ sent_at site requests)) told_then heard_then.at
      reads_then =
          subst (λ (l : Limits). ClientReads l behind.asks (server_output b (octets ++ sent_at site requests)) told_then heard_then.at) (sym same)
          (subst (λ (p : List Placed). ClientReads (client_limits x) p (server_output b (octets ++ sent_at site requests)) told_then heard_then.at) (sym a.asks)
          (subst (λ (o : List ℕ). ClientReads (client_limits x) (asked_at site requests) o told_then heard_then.at) (sym said_then) heard_then.reads))

      -- which ends with the chunk of a reply
      ends_then : LastChunk (client_limits y) behind.asks (server_output b (octets ++ sent_at site requests))
      ends_then =
          subst (λ (l : Limits). LastChunk l behind.asks (server_output b (octets ++ sent_at site requests))) (sym same)
          (subst (λ (p : List Placed). LastChunk (client_limits x) p (server_output b (octets ++ sent_at site requests))) (sym a.asks)
          (subst (LastChunk (client_limits x) (asked_at site requests)) (sym said_then) (heard_then.ends (some_bodies requests some))))

      -- where it took a front of that, it took all of it
      pub answered_took : NonePending → IsSettled behind → Extends behind.octets (server_output b (octets ++ sent_at site requests))
          → behind.octets ≡ server_output b (octets ++ sent_at site requests)
      answered_took law settled front =
          took_all law y behind stands settled (server_output b (octets ++ sent_at site requests)) reads_then.frames reads_then.run
          (ends_then reads_then.frames reads_then.run) front

      -- where octets begin with what it took, and with what the server says, it took just that
      pub answered_taken : NonePending → IsSettled behind → LastCame y requests (id_at site) behind.asks behind.octets behind.told → (down : List ℕ)
          → Extends behind.octets down → Extends (server_output b (octets ++ sent_at site requests)) down
          → behind.octets ≡ server_output b (octets ++ sent_at site requests)
      answered_taken law settled came down got output_of =
          by (meets behind.octets (server_output b (octets ++ sent_at site requests)) got.more output_of.more (sym got.parts ∙ output_of.parts))
        where
          by : (((more : List ℕ) × (server_output b (octets ++ sent_at site requests) ≡ behind.octets ++ more))
              ⊎ ((more : List ℕ) × (behind.octets ≡ server_output b (octets ++ sent_at site requests) ++ more)))
              → behind.octets ≡ server_output b (octets ++ sent_at site requests)
          by (inl p) = answered_took law settled (record { more = p.0; parts = p.1 })
          by (inr p) = took_no_more y requests (id_at site) behind came (server_output b (octets ++ sent_at site requests)) told_then heard_then.at reads_then
              each_told p.0 p.1

      module _ (took : behind.octets ≡ server_output b (octets ++ sent_at site requests)) where
        here : ClientReads (client_limits y) behind.asks behind.octets told_then heard_then.at
        here = subst (λ (o : List ℕ). ClientReads (client_limits y) behind.asks o told_then heard_then.at) (sym took) reads_then

        -- what the client was told by then
        pub told_together : behind.told ≡ site.told ++ answers_told (lane_of b.channel c.newest (agreement_of b.limits s.hello)) before.state moments
            (id_at site) bodies
        told_together =
            client_told y behind.asks behind.octets behind.told told_then heard_then.at stands.goes here
            ∙ ap (λ (h : Hello). site.told ++ answers_told (lane_of b.channel c.newest (agreement_of b.limits h)) before.state moments (id_at site) bodies)
            (hello_stays s lane bodies)

        serving_then : AreServing b url (octets ++ sent_at site requests) (told ++ calls) then_at y behind heard_then.at
        serving_then = record {
          together = record {
            server_reads = server_then;
            stands = stands;
            client_reads = subst (λ (h : List Heard). ClientReads (client_limits y) behind.asks behind.octets h heard_then.at)
                (sym (client_told y behind.asks behind.octets behind.told told_then heard_then.at stands.goes here)) here;
            in_step = subst (λ (l : Limits). AreInStep b.limits l url b.channel then_at heard_then.at) (sym same) heard_then.in_step;
            number_is = a.number ∙ numbers_read b.limits url b.channel octets told s x site c on t.together requests;
          };
          taken = took;
          agreed = ap (λ (k : Course). k.agreement) left_then_is ∙ heard_then.agreed;
          says_next = ap (λ (k : Course). k.number) left_then_is ∙ heard_then.number_is;
          issued = heard_then.issued;
          spare = spare_then;
        }

        -- both are in step behind requests that are answered, and the client's calls go under the token that they went under
        pub stay_together : (d : AtClient) × AreServing b url (octets ++ sent_at site requests) (told ++ calls) then_at y behind d × (d.newest ≡ c.newest)
            × (length d.tokens ≡ held_behind_calls (length c.tokens) (length requests))
        stay_together = (heard_then.at, serving_then, newest_then, held_then)
