-- That both ends stay in step behind groups of calls that are answered, one behind another, and behind a renewal.
use Rattle.std.proofs.Common.{◌≡◌, ℕ, ◌+◌, ◌<◌, Bool, IsTrue, List, [], ◌∷◌, ◌++◌, Option, Some, None, length, map}
use Rattle.std.proofs.Common.{zero, suc, refl, sym, ◌∙◌, ap, subst, arith, append-nil, append_assoc, length-append, add-zero}
use Rattle.std.specs.List.{AllByRecursion}
use Rattle.std.proofs.lemmas.List.{length-map}
use Rattle.ua_wire.specs.Format.{Extends}
use Rattle.ua_builtin.specs.DateTime.{date_time}
use Rattle.ua_builtin.specs.Reasons.{first_reason}
use Rattle.ua_builtin.proofs.FirstReasons.{first_among, first_behind}
use Rattle.ua_builtin.specs.declared.date_time.DateTime.{DateTime}
use Rattle.ua_frame.specs.declared.ack.Ack.{Ack}
use Rattle.ua_frame.specs.declared.hello.Hello.{Hello}
use Rattle.ua_frame.specs.declared.limits.Limits.{Limits}
use Rattle.ua_chunk.specs.Sequence.{next_number}
use Rattle.ua_chunk.specs.declared.lane.Lane.{Lane}
use Rattle.ua_channel.specs.ClientAsks.{call_lane}
use Rattle.ua_channel.specs.Asks.{Placed, asked_in, next_id}
use Rattle.ua_channel.specs.Asks.Asking.{Renewal}
use Rattle.ua_channel.specs.Client.{client_limits}
use Rattle.ua_channel_laws.specs.ClientReads.{AtClient, ClientReads, lane_from, with_answer, with_renewal}
use Rattle.ua_channel.specs.ClientTokens.{held_tokens}
use Rattle.ua_channel.specs.ClientSends.{hello_to}
use Rattle.ua_channel.specs.Agreement.{agreement_of, lane_of}
use Rattle.ua_channel_laws.specs.InStep.{AreInStep}
use Rattle.ua_channel_laws.specs.Outgoing.{call_octets, number_behind}
use Rattle.ua_channel_laws.specs.ServerReads.{AtServer, with_token}
use Rattle.ua_channel.specs.ServerTold.{Told, Asked, Opened}
use Rattle.ua_channel.specs.declared.client.channel.ClientChannel.{ClientChannel}
use Rattle.ua_channel.proofs.Askings.{asked_in-push}
use Rattle.ua_services.specs.Request.{request}
use Rattle.ua_server.specs.Said.{state_after, used_in}
use Rattle.ua_server.specs.State.{State}
use Rattle.ua_services.specs.declared.request.Request.{Request}
use Rattle.ua_client.specs.Calls.{Answered, AreGroups, LastCame, Rounds, all_of, refusal_at, sent_at}
use Rattle.ua_client.specs.Calls.Rounds.{NoRound, OneRound}
use Rattle.ua_client.specs.Client.{closing_at, closing_by}
use Rattle.ua_client.specs.Renewing.{IsRenewed, IsSettled, asks_renewed, renewal_at, renewal_refusal}
use Rattle.ua_client.specs.Sent.{bodies_of, calls_octets, group_reasons, numbers_behind, request_reasons}
use Rattle.ua_client.specs.ClientPlace.{ClientPlace, StandsAt, id_at, lane_behind}
use Rattle.ua_client.specs.declared.fault.ClientFault.{ClientFault}
use Rattle.ua_client.specs.declared.reply.Reply.{Reply}
use Rattle.ua_client.proofs.Askings.{next-calls}
use Rattle.ua_client.proofs.Grouping.{concat-push}
use Rattle.ua_client.proofs.Settled.{NonePending, answered-settled}
use Rattle.ua_loopback.specs.Accepted.{acknowledged, held_behind_calls, turn_reasons_under}
use Rattle.ua_loopback.specs.Beginning.{Beginning}
use Rattle.ua_loopback.specs.Replies.{lane_back_by_token, requests_replies, state_behind_requests}
use Rattle.ua_loopback.specs.Says.{server_output, answer_times, state_told, times_from}
use Rattle.ua_loopback.specs.Together.{AreServing, behind_calls}
use Rattle.ua_loopback.specs.Turns.{calls_told}
use Rattle.ua_loopback.specs.Talking.{IsServed}
use Rattle.ua_loopback.proofs.Answering.{issued_stays}
use Rattle.ua_channel_laws.proofs.Sized.{all_last}
use Rattle.ua_loopback.proofs.Reaching.{acked_here, few_ids, lane_here, not_exhausted, requests_asked, tokens_here, writable}
use Rattle.ua_loopback.proofs.Renewed.{renewal_taken, renewed_together}
use Rattle.ua_loopback.proofs.Saying.{later_times, said_further}
use Rattle.ua_loopback.proofs.Replying.{AreWritable, moments_there, replies-append, replies_are, some-append, state_calls, used_behind}
use Rattle.ua_loopback.proofs.Staying.{answered_taken, stay_together, told_together}

-- ---- lists

-- what more requests tell
told_push : (token id : ℕ) (ms ns : List Request) → calls_told token id (bodies_of (ms ++ ns)) ≡ calls_told token id (bodies_of ms)
    ++ calls_told token (id + length ms) (bodies_of ns)
told_push token id [] ns = ap (λ (n : ℕ). calls_told token n (bodies_of ns)) (sym (add-zero id))
told_push token id (m ∷ ms) ns =
    ap (λ (ts : List Told). Asked id token (request.canonical m) ∷ ts)
    (told_push token (id + 1) ms ns ∙ ap (λ (n : ℕ). calls_told token (id + 1) (bodies_of ms) ++ calls_told token n (bodies_of ns)) (on id (length ms)))
  where
    on : (a b : ℕ) → (a + 1) + b ≡ a + suc b
    on a b = omega arith

pub all_front : {A : Type 0} (P : A → Type 0) (xs : List A) (y : A) → AllByRecursion P (xs ++ y ∷ []) → AllByRecursion P xs
all_front P [] y h = tt
all_front P (x ∷ xs) y h = (h.0, all_front P xs y h.1)

-- each group has a call
abbrev pub AreSome : List (List Request) → Type 0
AreSome groups = AllByRecursion (λ (g : List Request). 0 < length g) groups

pub some_in : (groups : List (List Request)) → AreGroups groups → AreSome groups
some_in [] h = tt
some_in (g ∷ groups) h = (h.0, some_in groups h.3)

-- ---- the same, by other names

module _ (b : Beginning) (limits : Limits) (url : Option (List ℕ)) where
  pub served_as : (octets others : List ℕ) (told more : List Told) (token id n held h : ℕ) (site : ClientPlace) (x : ClientChannel) → octets ≡ others
      → told ≡ more → id ≡ n → held ≡ h → IsServed b limits url octets told token id held site x
      → IsServed b limits url others more token n h site x
  served_as octets others told more token id n held h site x p q r e t =
      subst (λ (o : List ℕ). IsServed b limits url o more token n h site x) p
      (subst (λ (ts : List Told). IsServed b limits url octets ts token n h site x) q
      (subst (λ (m : ℕ). IsServed b limits url octets told token m h site x) r (subst (λ (k : ℕ). IsServed b limits url octets told token id k site x) e t)))

  -- by another channel that stands there
  pub served_by : (octets : List ℕ) (told : List Told) (token id held : ℕ) (site : ClientPlace) (x y : ClientChannel) → StandsAt y site
      → client_limits y ≡ limits → IsServed b limits url octets told token id held site x
      → IsServed b limits url octets told token id held site y
  served_by octets told token id held site x y at same t =
      let s = t.serving in
      let limits_same : client_limits x ≡ client_limits y = t.limits_are ∙ sym same in
      record {
        limits_are = same;
        on = t.on;
        settled = t.settled;
        at_server = t.at_server;
        at_client = t.at_client;
        serving = record {
          together = record {
            server_reads = s.together.server_reads;
            stands = at;
            client_reads = subst (λ (l : Limits). ClientReads l site.asks site.octets site.told t.at_client) limits_same s.together.client_reads;
            in_step = subst (λ (l : Limits). AreInStep b.limits l url b.channel t.at_server t.at_client) limits_same s.together.in_step;
            number_is = s.together.number_is;
          };
          taken = s.taken;
          agreed = s.agreed;
          says_next = s.says_next;
          issued = s.issued;
          spare = s.spare;
        };
        tokens_are = t.tokens_are;
        newest_is = t.newest_is;
        id_is = t.id_is;
        few = t.few;
        held_is = t.held_is;
      }

  -- ---- what is refused there

  pub refused_there : (octets : List ℕ) (told : List Told) (token id held : ℕ) (site : ClientPlace) (x : ClientChannel)
      → IsServed b limits url octets told token id held site x
      → (requests : List Request) → refusal_at site requests ≡ first_reason (group_reasons (Some (acknowledged b.limits limits url)) id requests)
  refused_there octets told token id held site x t requests =
      let together = t.serving.together in
      let acked : site.before.ack ≡ Some (acknowledged b.limits limits url) =
      acked_here x site t.at_client together.stands together.client_reads
      ∙ (ap (λ (a : Ack). Some a) together.in_step.ack_is ∙ ap (λ (l : Limits). Some (acknowledged b.limits l url)) t.limits_are) in
      ap (λ (a : Option Ack). first_reason (group_reasons a (id_at site) requests)) acked
      ∙ ap (λ (n : ℕ). first_reason (group_reasons (Some (acknowledged b.limits limits url)) n requests)) t.id_is

  -- ---- where its calls go from there

  pub lane_there : (octets : List ℕ) (told : List Told) (token id held : ℕ) (site : ClientPlace) (x : ClientChannel)
      → IsServed b limits url octets told token id held site x
      → lane_behind site.before ≡ Some (call_lane (acknowledged b.limits limits url) b.channel token)
  lane_there octets told token id held site x t =
      let together = t.serving.together in
      let c : AtClient = t.at_client in
      lane_here x site c together.stands together.client_reads
      ∙ (ap (λ (a : Ack). Some (call_lane a c.channel c.newest)) (together.in_step.ack_is ∙ ap (λ (l : Limits). acknowledged b.limits l url) t.limits_are)
      ∙ (ap (λ (n : ℕ). Some (call_lane (acknowledged b.limits limits url) n c.newest)) together.in_step.channel_is
      ∙ ap (λ (k : ℕ). Some (call_lane (acknowledged b.limits limits url) b.channel k)) t.newest_is))

  -- the CLO of a client there
  pub closing_there : (octets : List ℕ) (told : List Told) (token id held : ℕ) (site : ClientPlace) (x : ClientChannel)
      → IsServed b limits url octets told token id held site x → (moment : DateTime)
      → closing_at site moment ≡ closing_by (Some (call_lane (acknowledged b.limits limits url) b.channel token)) site.number id moment
  closing_there octets told token id held site x t moment =
      let lane : Lane = call_lane (acknowledged b.limits limits url) b.channel token in
      ap (λ (l : Option Lane). closing_by l site.number (id_at site) moment) (lane_there octets told token id held site x t)
      ∙ ap (λ (n : ℕ). closing_by (Some lane) site.number n moment) t.id_is

  pub renewal_refused_there : (octets : List ℕ) (told : List Told) (token id held : ℕ) (site : ClientPlace) (x : ClientChannel)
      → IsServed b limits url octets told token id held site x
      → renewal_refusal site ≡ first_reason (turn_reasons_under (acknowledged b.limits limits url) held id None)
  renewal_refused_there octets told token id held site x t =
      let a : Ack = acknowledged b.limits limits url in
      let tokens : length (held_tokens site.before) ≡ held =
      ap length (tokens_here x site t.at_client t.serving.together.stands t.serving.together.client_reads) ∙ t.held_is in
      ap (λ (k : ℕ). first_reason (turn_reasons_under a k (id_at site) None)) tokens ∙ ap (λ (n : ℕ). first_reason (turn_reasons_under a held n None)) t.id_is

-- ---- one turn

module _ (b : Beginning) (limits : Limits) (url : Option (List ℕ)) (octets : List ℕ) (told : List Told) (token id held : ℕ) (site : ClientPlace)
    (x : ClientChannel) (t : IsServed b limits url octets told token id held site x)
    (y : ClientChannel) (behind : ClientPlace) (taken : List ℕ) (same : client_limits y ≡ limits) (down : List ℕ) (front : Extends behind.octets down) where
  abbrev s : AtServer
  s = t.at_server

  abbrev c : AtClient
  c = t.at_client

  same_limits : client_limits y ≡ client_limits x
  same_limits = same ∙ sym t.limits_are

  -- a group of calls is answered
  module _ (law : NonePending) (requests : List Request) (replies : List Reply) (some : 0 < length requests) (at : StandsAt y behind)
      (came : LastCame y requests (id_at site) behind.asks behind.octets behind.told)
      (a : Answered requests site behind taken replies) (said : Extends (server_output b (octets ++ sent_at site requests)) down) where
    settled_then : IsSettled behind
    settled_then = answered-settled requests site behind taken replies t.settled a

    took_group : behind.octets ≡ server_output b (octets ++ sent_at site requests)
    took_group = answered_taken b url octets told s x site c requests t.on t.serving some a.judged behind taken replies a y at same_limits law settled_then came
        down front said

    ids_then : id_at behind ≡ id + length requests
    ids_then =
        let ids : id_at behind ≡ id_at site + length (bodies_of requests) = ap (λ (p : List Placed). next_id (asked_in p)) a.asks
        ∙ next-calls site.asks (length site.octets) (id_at site) (bodies_of requests) in
        omega (arith, ids, length-map requests request.canonical, t.id_is)

    told_is : calls_told c.newest (id_at site) (bodies_of requests) ≡ calls_told token id (bodies_of requests)
    told_is = ap (λ (k : ℕ). calls_told k (id_at site) (bodies_of requests)) t.newest_is ∙ ap (λ (n : ℕ). calls_told token n (bodies_of requests)) t.id_is

    pub group_served : IsServed b limits url (octets ++ sent_at site requests) (told ++ calls_told token id (bodies_of requests)) token (id + length requests)
        (held_behind_calls held (length requests)) behind y
    group_served =
        let d = stay_together b url octets told s x site c requests t.on t.serving some a.judged behind taken replies a y at same_limits took_group in
        let most = few_ids c.ack (id_at site) requests (requests_asked b.limits url b.channel octets told s x site c t.on t.serving.together requests a.judged)
        some in
        record {
          limits_are = same;
          on = t.on;
          settled = settled_then;
          at_server = behind_calls s (lane_from c) (bodies_of requests);
          at_client = d.0;
          serving =
              subst (λ (ts : List Told). AreServing b url (octets ++ sent_at site requests) (told ++ ts) (behind_calls s (lane_from c) (bodies_of requests)) y
              behind d.0) told_is d.1;
          tokens_are = issued_stays s (lane_from c) (bodies_of requests) ∙ t.tokens_are;
          newest_is = d.2 ∙ t.newest_is;
          id_is = ids_then;
          few = omega (arith, most, length-map requests request.canonical, t.id_is);
          held_is = d.3 ∙ ap (λ (k : ℕ). held_behind_calls k (length requests)) t.held_is;
        }

    -- the replies
    pub group_replied : AreWritable requests → map (λ (r : Reply). Some r) replies ≡ requests_replies (lane_back_by_token b limits url token)
        (state_told b told) b.moments (used_in told) requests
    group_replied fits =
        let hello_is : s.hello ≡ hello_to limits url = t.serving.together.in_step.hello_is ∙ ap (λ (l : Limits). hello_to l url) t.limits_are in
        let all = told_together b url octets told s x site c requests t.on t.serving some a.judged behind taken replies a y at same_limits took_group in
        let moments = moments_there b told c.newest (id_at site) (bodies_of requests)
        ∙ ap (λ (n : ℕ). times_from b.moments (used_in told) n ++ []) (length-map requests request.canonical) in
        replies_are (lane_of b.channel c.newest (agreement_of b.limits s.hello)) (state_told b told)
        ((state_after b.channel b.first told (answer_times told b.moments)).moments
        ++ later_times told (calls_told c.newest (id_at site) (bodies_of requests)) b.moments) (id_at site) requests b.moments (used_in told) [] site.told
        behind.told replies
        fits moments all a.replies_are
        ∙ (ap (λ (k : ℕ). requests_replies (lane_of b.channel k (agreement_of b.limits s.hello)) (state_told b told) b.moments (used_in told) requests)
        t.newest_is
        ∙ ap (λ (h : Hello). requests_replies (lane_of b.channel token (agreement_of b.limits h)) (state_told b told) b.moments (used_in told) requests)
        hello_is)

  -- the token is renewed
  module _ (moment : DateTime) (dated : IsTrue (date_time.encodable moment)) (answered : (n : ℕ) → IsTrue (date_time.encodable (b.moments n)))
      (judged : renewal_refusal site ≡ None) (r : IsRenewed y site behind taken)
      (said : Extends (server_output b (octets ++ renewal_at site moment)) down) where
    took_renewal : behind.octets ≡ server_output b (octets ++ renewal_at site moment)
    took_renewal = renewal_taken b url octets told s x site c moment t.on t.serving judged dated t.settled answered y behind taken r same_limits down front said

    id_then : id_at behind ≡ id + 1
    id_then =
        let ids : id_at behind ≡ next_id (asked_in (asks_renewed site)) = ap (λ (p : List Placed). next_id (asked_in p)) r.asks in
        omega (
          arith,
          ids,
          ap length (asked_in-push site.asks (length site.octets, Renewal (id_at site))),
          length-append (asked_in site.asks) (Renewal (id_at site) ∷ []),
          t.id_is,
        )

    abbrev now : AtClient
    now = with_answer (with_renewal c (id_at site)) (s.issued + 1) (next_number c.next)

    opened_is : Opened (id_at site) 0 (s.issued + 1) 3600000 ≡ Opened id 0 (token + 1) 3600000
    opened_is = ap (λ (n : ℕ). Opened n 0 (s.issued + 1) 3600000) t.id_is ∙ ap (λ (k : ℕ). Opened id 0 (k + 1) 3600000) t.tokens_are

    pub renewal_served : IsServed b limits url (octets ++ renewal_at site moment) (told ++ Opened id 0 (token + 1) 3600000 ∷ []) (token + 1) (id + 1)
        (held + 1) behind y
    renewal_served =
        let serving = renewed_together b url octets told s x site c moment t.on t.serving judged dated t.settled answered y behind taken r same_limits
        took_renewal in
        let more : s.issued + 1 ≡ token + 1 = ap (λ (k : ℕ). k + 1) t.tokens_are in
        let used = not_exhausted site judged in
        record {
          limits_are = same;
          on = t.on;
          settled = r.settled t.settled;
          at_server = with_token s;
          at_client = now;
          serving = subst (λ (e : Told). AreServing b url (octets ++ renewal_at site moment) (told ++ e ∷ []) (with_token s) y behind now) opened_is serving;
          tokens_are = more;
          newest_is = more;
          id_is = id_then;
          few = omega (arith, used, t.id_is);
          held_is = length-append c.tokens ((s.issued + 1) ∷ []) ∙ ap (λ (k : ℕ). k + 1) t.held_is;
        }

-- ---- groups, one behind another

group_reasons-append : (a : Option Ack) (id : ℕ) (ms ns : List Request) → group_reasons a id (ms ++ ns) ≡ group_reasons a id ms
    ++ group_reasons a (id + length ms) ns
group_reasons-append a id [] ns = ap (λ (n : ℕ). group_reasons a n ns) (sym (add-zero id))
group_reasons-append a id (m ∷ ms) ns =
    ap (λ (rs : List (ClientFault × Bool)). request_reasons a id m ++ rs) (group_reasons-append a (id + 1) ms ns
    ∙ ap (λ (n : ℕ). group_reasons a (id + 1) ms ++ group_reasons a n ns) (on id (length ms)))
    ∙ sym (append_assoc (request_reasons a id m) (group_reasons a (id + 1) ms) (group_reasons a (id + length (m ∷ ms)) ns))
  where
    on : (c d : ℕ) → (c + 1) + d ≡ c + suc d
    on c d = omega arith

-- why requests behind others are refused, of which none was
pub refused_behind : (a : Option Ack) (id : ℕ) (ms ns : List Request) → first_reason (group_reasons a id ms) ≡ None
    → first_reason (group_reasons a id (ms ++ ns)) ≡ first_reason (group_reasons a (id + length ms) ns)
refused_behind a id ms ns none = ap first_reason (group_reasons-append a id ms ns)
    ∙ first_behind (group_reasons a id ms) (group_reasons a (id + length ms) ns) none

-- and why those are of which the first are refused
pub refused_among : (a : Option Ack) (id : ℕ) (ms ns : List Request) (f : ClientFault) → first_reason (group_reasons a id ms) ≡ Some f
    → first_reason (group_reasons a id (ms ++ ns)) ≡ Some f
refused_among a id ms ns f some = ap first_reason (group_reasons-append a id ms ns)
    ∙ first_among (group_reasons a id ms) (group_reasons a (id + length ms) ns) f some

calls_octets-append : (lane : Option Lane) (number id : ℕ) (bs cs : List (List ℕ)) → calls_octets lane number id (bs ++ cs) ≡ calls_octets lane number id bs
    ++ calls_octets lane (numbers_behind lane number bs) (id + length bs) cs
calls_octets-append lane number id [] cs = ap (λ (n : ℕ). calls_octets lane number n cs) (sym (add-zero id))
calls_octets-append lane number id (body ∷ bs) cs =
    let next : ℕ = number_behind lane number body in
    ap (λ (o : List ℕ). call_octets lane number id body ++ o)
    (calls_octets-append lane next (id + 1) bs cs ∙ ap (λ (n : ℕ). calls_octets lane next (id + 1) bs ++ calls_octets lane (numbers_behind lane next bs) n cs)
    (on id (length bs)))
    ∙ sym (append_assoc (call_octets lane number id body) (calls_octets lane next (id + 1) bs)
    (calls_octets lane (numbers_behind lane next bs) (id + length (body ∷ bs)) cs))
  where
    on : (c d : ℕ) → (c + 1) + d ≡ c + suc d
    on c d = omega arith

numbers_behind-append : (lane : Option Lane) (number : ℕ) (bs cs : List (List ℕ))
    → numbers_behind lane number (bs ++ cs) ≡ numbers_behind lane (numbers_behind lane number bs) cs
numbers_behind-append lane number [] cs = refl
numbers_behind-append lane number (body ∷ bs) cs = numbers_behind-append lane (number_behind lane number body) bs cs

bodies_of-append : (ms ns : List Request) → bodies_of (ms ++ ns) ≡ bodies_of ms ++ bodies_of ns
bodies_of-append [] ns = refl
bodies_of-append (m ∷ ms) ns = ap (λ (bs : List (List ℕ)). request.canonical m ∷ bs) (bodies_of-append ms ns)

held_some : (held n : ℕ) → 0 < n → held_behind_calls held n ≡ 1
held_some held zero some = absurd (omega (arith, some))
held_some held (suc n) some = refl

held_twice : (held m n : ℕ) → 0 < n → held_behind_calls (held_behind_calls held m) n ≡ held_behind_calls held (m + n)
held_twice held m n some = held_some (held_behind_calls held m) n some ∙ sym (held_some held (m + n) (omega (arith, some)))

-- where a channel of the client stands behind requests of which none was refused, and both are in step; this was sent of them, from this number on, and these
-- are the replies
pub record Behind (b : Beginning) (limits : Limits) (url : Option (List ℕ)) (octets : List ℕ) (told : List Told) (token id held number : ℕ) (sent : List ℕ)
    (replies : List Reply) (requests : List Request) (site : ClientPlace) : Type 0 where
  pub channel : ClientChannel
  pub replies_are : map (λ (r : Reply). Some r) replies ≡ requests_replies (lane_back_by_token b limits url token) (state_told b told) b.moments
      (used_in told) requests
  pub sent_is : sent ≡ calls_octets (Some (call_lane (acknowledged b.limits limits url) b.channel token)) number id (bodies_of requests)
  pub number_is : site.number ≡ numbers_behind (Some (call_lane (acknowledged b.limits limits url) b.channel token)) number (bodies_of requests)
  pub judged : first_reason (group_reasons (Some (acknowledged b.limits limits url)) id requests) ≡ None
  pub served : IsServed b limits url (octets ++ sent) (told ++ calls_told token id (bodies_of requests)) token (id + length requests)
      (held_behind_calls held (length requests)) site channel

module _ (b : Beginning) (limits : Limits) (url : Option (List ℕ)) (octets : List ℕ) (told : List Told) (token id held : ℕ) (law : NonePending) where
  abbrev a : Option Ack
  a = Some (acknowledged b.limits limits url)

  pub rounds_served : {c : ClientChannel} {s t : ClientPlace} {groups : List (List Request)} {sent taken : List ℕ} {replies : List Reply} (x : ClientChannel)
      → IsServed b limits url octets told token id held s x → client_limits c ≡ limits
      → Rounds c s groups t sent taken replies → AreSome groups → (down : List ℕ) → Extends t.octets down → Extends (server_output b (octets ++ sent)) down
      → Behind b limits url octets told token id held s.number sent replies (all_of groups) t
  rounds_served {s = s} x served same NoRound some down front said = record {
    channel = x;
    replies_are = refl;
    sent_is = refl;
    number_is = refl;
    judged = refl;
    served = served_as b limits url octets (octets ++ []) told (told ++ []) token id (id + 0) held held s x (sym (append-nil octets)) (sym (append-nil told))
        (sym (add-zero id)) refl served;
  }
  rounds_served {c = c} {s = s} {t = t} x served same
      (OneRound {groups = groups} {m = m} {sent = sent} {taken = taken} {part = part} {replies = replies} {added = added} group z r stands answered) some down
      front said =
      let all : List Request = all_of groups in
      let more : List ℕ = sent_at m group in
      let further = said_further b (octets ++ sent) more in
      let whole : (octets ++ sent) ++ more ≡ octets ++ (sent ++ more) = append_assoc octets sent more in
      let said_here : Extends (server_output b ((octets ++ sent) ++ more)) down = subst (λ (o : List ℕ). Extends (server_output b o) down) (sym whole) said in
      let before : Behind b limits url octets told token id held s.number sent replies all m =
      rounds_served x served same r (all_front (λ (g : List Request). 0 < length g) groups group some) down
      (record {
        more = part ++ front.more;
        parts = front.parts
            ∙ (ap (λ (o : List ℕ). o ++ front.more) answered.octets ∙ append_assoc m.octets part front.more);
      })
      (record {
        more = further.further ++ said_here.more;
        parts = said_here.parts
            ∙ (ap (λ (o : List ℕ). o ++ said_here.more) further.parts ∙ append_assoc (server_output b (octets ++ sent)) further.further said_here.more);
      }) in
      let told_before : List Told = told ++ calls_told token id (bodies_of all) in
      let some_here : 0 < length group = all_last (λ (g : List Request). 0 < length g) groups group some in
      let one =
      group_served b limits url (octets ++ sent) told_before token (id + length all) (held_behind_calls held (length all)) m before.channel before.served z t
      part (stands.same.limits ∙ same) down front law group added
      some_here stands.at stands.came answered said_here in
      let judged : first_reason (group_reasons a (id + length all) group) ≡ None =
      sym (refused_there b limits url (octets ++ sent) told_before token (id + length all) (held_behind_calls held (length all)) m before.channel before.served
      group) ∙ answered.judged in
      let acked : Ack = acknowledged b.limits limits url in
      let back : Lane = lane_back_by_token b limits url token in
      let replied =
      group_replied b limits url (octets ++ sent) told_before token (id + length all) (held_behind_calls held (length all)) m before.channel before.served z t
      part (stands.same.limits ∙ same) down front law group added
      some_here stands.at stands.came answered said_here (writable acked (id + length all) group judged) in
      let pushed : all ++ group ≡ all_of (groups ++ group ∷ []) = sym (concat-push groups group) in
      let there = before.served in
      let lane : Option Lane = Some (call_lane (acknowledged b.limits limits url) b.channel token) in
      let lane_is : lane_behind m.before ≡ lane = lane_there b limits url (octets ++ sent) told_before token (id + length all)
      (held_behind_calls held (length all)) m before.channel there in
      let numbers : List (List ℕ) → ℕ = λ (bs : List (List ℕ)). numbers_behind lane s.number bs in
      let more_is : more ≡ calls_octets lane (numbers (bodies_of all)) (id + length (bodies_of all)) (bodies_of group) =
      ap (λ (l : Option Lane). calls_octets l m.number (id_at m) (bodies_of group)) lane_is
      ∙ (ap (λ (n : ℕ). calls_octets lane n (id_at m) (bodies_of group)) before.number_is
      ∙ ap (λ (n : ℕ). calls_octets lane (numbers (bodies_of all)) n (bodies_of group))
      (there.id_is ∙ ap (λ (n : ℕ). id + n) (sym (length-map all request.canonical)))) in
      subst (λ (ms : List Request). Behind b limits url octets told token id held s.number (sent ++ more) (replies ++ added) ms t) pushed (record {
        channel = z;
        replies_are =
            some-append replies added
            ∙ (ap (λ (os : List (Option Reply)). os ++ map (λ (r : Reply). Some r) added) before.replies_are
            ∙ (ap (λ (os : List (Option Reply)). requests_replies back (state_told b told) b.moments (used_in told) all ++ os)
            (replied
            ∙ (ap (λ (st : State). requests_replies back st b.moments (used_in told_before) group)
            (state_calls b told token id all (writable acked id all before.judged))
            ∙ ap (λ (n : ℕ). requests_replies back (state_behind_requests (state_told b told) b.moments (used_in told) all) b.moments n group)
            (used_behind told token id all)))
            ∙ sym (replies-append back (state_told b told) b.moments (used_in told) all group)));
        sent_is =
            ap (λ (o : List ℕ). o ++ more) before.sent_is
            ∙ (ap (λ (o : List ℕ). calls_octets lane s.number id (bodies_of all) ++ o) more_is
            ∙ (sym (calls_octets-append lane s.number id (bodies_of all) (bodies_of group))
            ∙ ap (λ (bs : List (List ℕ)). calls_octets lane s.number id bs) (sym (bodies_of-append all group))));
        number_is =
            answered.number
            ∙ (ap (λ (l : Option Lane). numbers_behind l m.number (bodies_of group)) lane_is
            ∙ (ap (λ (n : ℕ). numbers_behind lane n (bodies_of group)) before.number_is
            ∙ (sym (numbers_behind-append lane s.number (bodies_of all) (bodies_of group)) ∙ ap numbers (sym (bodies_of-append all group)))));
        judged = refused_behind a id all group before.judged ∙ judged;
        served =
            served_as b limits url ((octets ++ sent) ++ more) (octets ++ (sent ++ more)) (told_before ++ calls_told token (id + length all) (bodies_of group))
            (told ++ calls_told token id (bodies_of (all ++ group))) token
            ((id + length all) + length group) (id + length (all ++ group)) (held_behind_calls (held_behind_calls held (length all)) (length group))
            (held_behind_calls held (length (all ++ group))) t z whole
            (append_assoc told (calls_told token id (bodies_of all)) (calls_told token (id + length all) (bodies_of group))
            ∙ ap (λ (ts : List Told). told ++ ts) (sym (told_push token id all group)))
            (counted id (length all) (length group) (length (all ++ group)) (length-append all group))
            (held_twice held (length all) (length group) some_here ∙ ap (λ (n : ℕ). held_behind_calls held n) (sym (length-append all group))) one;
      })
    where
      counted : (i m n k : ℕ) → k ≡ m + n → (i + m) + n ≡ i + k
      counted i m n k e = omega (arith, e)
