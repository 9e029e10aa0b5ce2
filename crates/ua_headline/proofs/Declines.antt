-- That a client refuses a call only where it has to.
use Rattle.std.proofs.Common.{◌≡◌, ◌⊎◌, inl, inr, ℕ, ◌+◌, ◌<◌, ◌≤◌, Bool, true, false, not, ◌&&◌, ◌||◌, eqb, leb, List}
use Rattle.std.proofs.Common.{[], ◌∷◌, ◌++◌, map, length, Option, Some, None, Result, refl, sym, ◌∙◌, ap, subst, arith}
use Rattle.std.specs.Prelude.{if◌then◌else◌, is_none, min, ◌-◌}
use Rattle.std.specs.List.{filter}
use Rattle.std.proofs.lemmas.Bool.{eq-eqb, leb-true, or_left, or_right}
use Rattle.std.proofs.lemmas.List.Folds.{list_any-append}
use Rattle.ua_wire.proofs.Readers.{some_is}
use Rattle.ua_builtin.specs.Reasons.{first_reason}
use Rattle.ua_builtin.specs.declared.date_time.DateTime.{DateTime}
use Rattle.ua_builtin.specs.declared.status_code.StatusCode.{StatusCode}
use Rattle.ua_frame.specs.After.{each_after, each_from}
use Rattle.ua_frame.specs.Agreement.{ack_to}
use Rattle.ua_frame.specs.Run.{events}
use Rattle.ua_frame.specs.declared.ack.Ack.{Ack}
use Rattle.ua_frame.specs.declared.frame.Frame.{Frame}
use Rattle.ua_frame.specs.declared.limits.Limits.{Limits}
use Rattle.ua_chunk.specs.Abort.{abort_of}
use Rattle.ua_chunk.specs.Delivered.{aborted, given_by}
use Rattle.ua_chunk.specs.Flag.{is_more_flag}
use Rattle.ua_chunk.specs.Gathered.{ends, is_of}
use Rattle.ua_chunk.specs.Refusal.{passes}
use Rattle.ua_chunk.specs.declared.chunk.Chunk.{Chunk}
use Rattle.ua_chunk.specs.declared.flag.Flag.{Flag}
use Rattle.ua_chunk.specs.declared.flag.Flag.TheVariants.{F, C, A}
use Rattle.ua_opening.specs.declared.secure_channel.OpenResponse.{OpenResponse}
use Rattle.ua_channel.specs.Asks.{Asking, Placed, asked_in, calls, is_finished, is_in, next_id, pending_calls}
use Rattle.ua_channel.specs.Client.{call_refused, client_limits, client_rules_of, phase_of}
use Rattle.ua_channel.specs.ClientAsks.{has_no_channel, is_too_large, most_pending, no_id}
use Rattle.ua_channel.specs.ClientSends.{hello_to}
use Rattle.ua_channel.specs.ClientTable.{client_rules, of_ack}
use Rattle.ua_channel.specs.ClientTokens.{answer_in, first_channel, open_responses, response_listed, tokens_of}
use Rattle.ua_channel.specs.ClientTold.{ClientTold, ClientTold as heard, client_tells, told_item, told_response}
use Rattle.ua_channel.specs.Content.{Content, content}
use Rattle.ua_channel.specs.Content.Content.{Greets, Acks, Fails, Opens, Sends, Closes, Nothing}
use Rattle.ua_channel.specs.Received.{Received, chunks_in, messages, received}
use Rattle.ua_channel.specs.declared.client.channel.ClientChannel.{ClientChannel}
use Rattle.ua_channel.specs.declared.client.fault.AskFault.{AskFault}
use Rattle.ua_channel.specs.declared.client.fault.AskFault.TheVariants.{NotOpen, TooManyPending, Exhausted, RequestTooLarge}
use Rattle.ua_channel_laws.specs.Outgoing.Outgoing.{CallWith, RenewalAt}
use Rattle.ua_channel_laws.specs.Outgoing.{Outgoing}
use Rattle.ua_channel.proofs.ClientSending.{call_judged}
use Rattle.ua_channel.proofs.ClientTalks.{no_tokens}
use Rattle.ua_server.specs.Reply.{answered}
use Rattle.ua_server.specs.Said.{behind_first, first_time}
use Rattle.ua_server.specs.State.{State}
use Rattle.ua_headline.specs.Headline.{Did, History, MayRefuse, asked_from, is_too_long, replies_due, replies_in, tokens_in}
use Rattle.ua_headline.specs.Talk.{CanOpen, Ends, IsPrefix, heard_in}
use Rattle.ua_headline.proofs.Answered.{call_ids}
use Rattle.ua_headline.proofs.Brought.{tokens_are_told}
use Rattle.ua_headline.proofs.Larger.{chunks_pass}
use Rattle.ua_headline.proofs.Pipelining.{IsPlain, own_ids, plain, the_ack}
use Rattle.ua_headline.proofs.ShortHeard.{answered_short, heard_first}
use Rattle.ua_headline.proofs.ShortTold.{heads, tails}
use Rattle.ua_headline.proofs.Singly.{singly}
use Rattle.ua_headline.proofs.Talking.{AsksEarlier, EndsConnect, RoundsReach}

-- ---- of which calls a client was told

abbrev ids_told : List ClientTold → List ℕ
ids_told [] = []
ids_told (heard.Answered id octets ∷ told) = id ∷ ids_told told
ids_told (heard.GaveUp id code ∷ told) = id ∷ ids_told told
ids_told (other ∷ told) = ids_told told

abbrev Reply : Type 0
Reply = ℕ × Result (List ℕ) StatusCode

ids_append : (us vs : List ClientTold) → ids_told (us ++ vs) ≡ ids_told us ++ ids_told vs
ids_append [] vs = refl
ids_append (heard.Agreed ack ∷ us) vs = ids_append us vs
ids_append (heard.Opened channel token ∷ us) vs = ids_append us vs
ids_append (heard.Answered id octets ∷ us) vs = ap (λ (ids : List ℕ). id ∷ ids) (ids_append us vs)
ids_append (heard.GaveUp id code ∷ us) vs = ap (λ (ids : List ℕ). id ∷ ids) (ids_append us vs)
ids_append (heard.Renewed token ∷ us) vs = ids_append us vs

ids_of_replies : (told : List ClientTold) → ids_told told ≡ map (λ (r : Reply). r.0) (replies_in told)
ids_of_replies [] = refl
ids_of_replies (heard.Agreed ack ∷ told) = ids_of_replies told
ids_of_replies (heard.Opened channel token ∷ told) = ids_of_replies told
ids_of_replies (heard.Answered id octets ∷ told) = ap (λ (ids : List ℕ). id ∷ ids) (ids_of_replies told)
ids_of_replies (heard.GaveUp id code ∷ told) = ap (λ (ids : List ℕ). id ∷ ids) (ids_of_replies told)
ids_of_replies (heard.Renewed token ∷ told) = ids_of_replies told

ids_due : (e : Ends) (s : State) (times : List DateTime) (id : ℕ) (bodies : List Outgoing)
    → map (λ (r : Reply). r.0) (replies_due e s times id bodies) ≡ call_ids id bodies
ids_due e s times id [] = refl
ids_due e s times id (CallWith b ∷ bodies) =
    ap (λ (ids : List ℕ). id ∷ ids) (ids_due e (answered s (first_time times) b).0 (behind_first times) (id + 1) bodies)
ids_due e s times id (RenewalAt time ∷ bodies) = ids_due e s (behind_first times) (id + 1) bodies

-- ---- they are finished

by_flag : (b m : Bool) → (b || false) ≡ true → m ≡ false → ((b && not m) || false) ≡ true
by_flag true false e f = refl
by_flag true true e f = absurd cc
by_flag false m e f = absurd cc

abort_finishes : (o : Option (StatusCode × Option (List ℕ))) (c : Chunk) (id : ℕ) → c.flag ≡ A
    → is_in id (ids_told (map told_item (aborted c.request o))) ≡ true → is_finished (c ∷ []) id ≡ true
abort_finishes None c id is e = absurd cc
abort_finishes (Some a) c id is e = by_flag (eqb c.request id) (is_more_flag c.flag) e (ap is_more_flag is)

one_finishes : (f : Flag) (before : List Chunk) (c : Chunk) (id : ℕ) → c.flag ≡ f
    → is_in id (ids_told (map told_item (given_by f before c))) ≡ true → is_finished (c ∷ []) id ≡ true
one_finishes F before c id is e = by_flag (eqb c.request id) (is_more_flag c.flag) e (ap is_more_flag is)
one_finishes C before c id is e = absurd cc
one_finishes A before c id is e = abort_finishes (abort_of c.body) c id is e

ids_responses : (before rs : List OpenResponse) → ids_told (map (told_response before) rs) ≡ []
ids_responses before [] = refl
ids_responses [] (r ∷ rs) = ids_responses [] rs
ids_responses (q ∷ qs) (r ∷ rs) = ids_responses (q ∷ qs) rs

frame_finishes : (before : Received) (c : Content) (id : ℕ) → is_in id (ids_told (client_tells before c)) ≡ true → is_finished (chunks_in c) id ≡ true
frame_finishes before (Greets hello) id e = absurd cc
frame_finishes before (Acks None) id e = absurd cc
frame_finishes before (Acks (Some a)) id e = absurd cc
frame_finishes before (Fails error) id e = absurd cc
frame_finishes before (Opens o) id e =
    let no : false ≡ true = sym (ap (is_in id) (ids_responses (open_responses before.openings) (response_listed (answer_in o)))) ∙ e in
    absurd cc
frame_finishes before (Sends c) id e = one_finishes c.flag before.messages c id refl e
frame_finishes before (Closes c) id e = absurd cc
frame_finishes before Nothing id e = absurd cc

module _ (limits : Limits) (asks : List Placed) where
  all_finish : (start fs : List Frame) (id : ℕ) → is_in id (ids_told (each_from (client_rules limits asks).tells start fs)) ≡ true
      → is_finished (messages fs) id ≡ true
  unfolding messages
  all_finish start [] id e = absurd cc
  all_finish start (f ∷ fs) id e =
      let here : List ℕ = ids_told (client_tells (received start) (content f)) in
      let rest : List ℕ = ids_told (each_from (client_rules limits asks).tells (start ++ f ∷ []) fs) in
      let parts : (is_in id here || is_in id rest) ≡ true =
      sym (list_any-append (λ (n : ℕ). eqb n id) here rest)
      ∙ (sym (ap (is_in id) (ids_append (client_tells (received start) (content f)) (each_from (client_rules limits asks).tells (start ++ f ∷ []) fs))) ∙ e) in
      list_any-append (λ (c : Chunk). is_of id c && ends c) (chunks_in (content f)) (messages fs)
      ∙ by (is_in id here) (frame_finishes (received start) (content f) id) parts (all_finish (start ++ f ∷ []) fs id)
    where
      by : (b : Bool) {p q r : Bool} → (b ≡ true → p ≡ true) → (b || q) ≡ true → (q ≡ true → r ≡ true) → (p || r) ≡ true
      by true {p = p} {r = r} one e further = or_left p r (one refl)
      by false {p = p} {r = r} one e further = or_right p r (further e)

  finished_told : (fs : List Frame) (id : ℕ) → is_in id (ids_told (events (client_rules limits asks) fs)) ≡ true → is_finished (received fs).messages id ≡ true
  unfolding received each_after
  finished_told fs id e = all_finish [] fs id e

-- ---- how many are not

gone : (b : Bool) (id : ℕ) (ids : List ℕ) → b ≡ true → (if not b then id ∷ ids else ids) ≡ ids
gone true id ids e = refl
gone false id ids e = absurd cc

fewer : (b : Bool) (id n : ℕ) (ids : List ℕ) → length ids ≤ n → length (if b then id ∷ ids else ids) ≤ n + 1
fewer true id n ids e = omega (arith, e)
fewer false id n ids e = omega (arith, e)

few_kept : (test : ℕ → Bool) (id : ℕ) (bodies : List Outgoing) → length (filter test (call_ids id bodies)) ≤ length bodies
few_kept test id [] = omega arith
few_kept test id (CallWith b ∷ bodies) =
    let rest = fewer (test id) id (length bodies) (filter test (call_ids (id + 1) bodies)) (few_kept test (id + 1) bodies) in
    omega (arith, rest)
few_kept test id (RenewalAt time ∷ bodies) = let rest = few_kept test (id + 1) bodies in omega (arith, rest)

one_left : (test : ℕ → Bool) (id : ℕ) (b : Outgoing) (done bodies : List Outgoing) → ((k : ℕ) → is_in k (call_ids id (b ∷ done)) ≡ true → test k ≡ true)
    → (((k : ℕ) → is_in k (call_ids (id + 1) done) ≡ true → test k ≡ true)
    → length (filter (λ (k : ℕ). not (test k)) (call_ids (id + 1) bodies)) + length done ≤ length bodies)
    → length (filter (λ (k : ℕ). not (test k)) (call_ids id (b ∷ bodies))) + length (b ∷ done) ≤ length (b ∷ bodies)
one_left test id (CallWith b) done bodies h further =
    let rest = further (λ k e. h k (or_right (eqb id k) (is_in k (call_ids (id + 1) done)) e)) in
    let drop : length (filter (λ (k : ℕ). not (test k)) (call_ids id (CallWith b ∷ bodies)))
    ≡ length (filter (λ (k : ℕ). not (test k)) (call_ids (id + 1) bodies)) =
    ap length (gone (test id) id (filter (λ (k : ℕ). not (test k)) (call_ids (id + 1) bodies))
    (h id (or_left (eqb id id) (is_in id (call_ids (id + 1) done)) (eq-eqb id id refl)))) in
    omega (arith, rest, drop)
one_left test id (RenewalAt time) done bodies h further = let rest = further h in omega (arith, rest)

few_left : (test : ℕ → Bool) (id : ℕ) (done bodies : List Outgoing) → IsPrefix done bodies
    → ((k : ℕ) → is_in k (call_ids id done) ≡ true → test k ≡ true)
    → length (filter (λ (k : ℕ). not (test k)) (call_ids id bodies)) + length done ≤ length bodies
few_left test id [] bodies p h = let few = few_kept (λ (k : ℕ). not (test k)) id bodies in omega (arith, few)
few_left test id (d ∷ done) [] (more, is) h = absurd (omega (arith, ap length is))
few_left test id (d ∷ done) (b ∷ bodies) (more, is) h =
    one_left test id b done bodies (subst (λ (o : Outgoing). (k : ℕ) → is_in k (call_ids id (o ∷ done)) ≡ true → test k ≡ true)
    (sym (heads b d bodies (done ++ more) is)) h)
    (λ further. few_left test (id + 1) done bodies (more, tails b d bodies (done ++ more) is) further)

calls_are : (id : ℕ) (bodies : List Outgoing) → calls (asked_from id bodies) ≡ call_ids id bodies
unfolding calls
calls_are id [] = refl
calls_are id (CallWith b ∷ bodies) = ap (λ (ids : List ℕ). id ∷ ids) (calls_are (id + 1) bodies)
calls_are id (RenewalAt time ∷ bodies) = calls_are (id + 1) bodies

pending_are : (cs : List Chunk) (asked : List Asking) (bodies : List Outgoing) → asked ≡ asked_from 2 bodies
    → pending_calls cs asked ≡ filter (λ (k : ℕ). not (is_finished cs k)) (call_ids 2 bodies)
unfolding pending_calls
pending_are cs asked bodies is = ap (filter (λ (k : ℕ). not (is_finished cs k))) (ap calls is ∙ calls_are 2 bodies)

length_asked : (id : ℕ) (bodies : List Outgoing) → length (asked_from id bodies) ≡ length bodies
length_asked id [] = refl
length_asked id (b ∷ bodies) = let rest = length_asked (id + 1) bodies in omega (arith, rest)

-- ---- reasons

reason_of : {A : Type 0} (a b c d why : A) (p q r s : Bool) → first_reason ((a, p) ∷ ((b, q) ∷ ((c, r) ∷ ((d, s) ∷ [])))) ≡ Some why
    → ((why ≡ a) × (p ≡ true)) ⊎ (((why ≡ b) × (q ≡ true)) ⊎ (((why ≡ c) × (r ≡ true)) ⊎ ((why ≡ d) × (s ≡ true))))
reason_of a b c d why true q r s e = inl (sym (some_is a why e), refl)
reason_of a b c d why false true r s e = inr (inl (sym (some_is b why e), refl))
reason_of a b c d why false false true s e = inr (inr (inl (sym (some_is c why e), refl)))
reason_of a b c d why false false false true e = inr (inr (inr (sym (some_is d why e), refl)))
reason_of a b c d why false false false false e = absurd cc

none_first : (rs : List OpenResponse) → is_none (first_channel rs) ≡ true → rs ≡ []
none_first [] e = refl
none_first (r ∷ rs) e = absurd cc

module _ (connect : EndsConnect) (reach : RoundsReach) (earlier : AsksEarlier) (e : Ends) (can : CanOpen e) (y : ClientChannel) (h : History)
    (d : Did e y h) where
  i : IsPlain connect reach earlier e can y h
  i = plain connect reach earlier e can y h d

  abbrev before : Received
  before = received i.goes.frames

  own : asked_in h.asks ≡ asked_from 2 h.ops
  own = own_ids connect reach earlier e can y h d

  -- ---- no channel

  some_token : (told : List ClientTold) → IsPrefix told (heard_in e (singly h.ops)) → tokens_in told ≡ [] → length told < 2
  some_token [] p none = omega arith
  some_token (u ∷ []) p none = omega arith
  some_token (u ∷ (v ∷ told)) (more, is) none =
      let one : heard.Agreed (ack_to (hello_to e.client e.url) e.server) ≡ u = heads _ u _ (v ∷ (told ++ more)) is in
      let two : heard.Opened e.channel 1 ≡ v = heads (heard.Opened e.channel 1) v _ (told ++ more) (tails _ u _ (v ∷ (told ++ more)) is) in
      let some : 1 ∷ tokens_in told ≡ [] =
      ap (λ (w : ClientTold). tokens_in (heard.Agreed (ack_to (hello_to e.client e.url) e.server) ∷ (w ∷ told))) two
      ∙ (ap (λ (w : ClientTold). tokens_in (w ∷ (v ∷ told))) one ∙ none) in
      absurd cc

  not_open : has_no_channel (received i.goes.frames) ≡ true → length h.heard < 2
  not_open shut =
      some_token h.heard (heard_first connect reach earlier e can y h d)
      (ap tokens_in (sym i.goes.told_is)
      ∙ (sym (tokens_are_told (client_limits y) h.asks i.goes.frames)
      ∙ (ap tokens_of (none_first (open_responses before.openings) shut) ∙ no_tokens)))

  -- ---- too many calls

  pending : leb most_pending (length (pending_calls (received i.goes.frames).messages (asked_in h.asks)) + 0) ≡ true → length h.heard + 62 ≤ length h.ops
  pending many =
      let a = answered_short connect reach earlier e can y h d in
      let ids : ids_told (events (client_rules_of y h.asks) i.goes.frames) ≡ call_ids 2 a.0 =
      ap ids_told i.goes.told_is
      ∙ (ids_of_replies h.heard
      ∙ (ap (λ (rs : List Reply). map (λ (r : Reply). r.0) rs) a.1.replies ∙ ids_due e e.first (behind_first e.times) 2 a.0)) in
      let left = few_left (is_finished before.messages) 2 a.0 h.ops a.1.first
      (λ k there. finished_told (client_limits y) h.asks i.goes.frames k (ap (is_in k) ids ∙ there)) in
      let size : length (pending_calls before.messages (asked_in h.asks))
      ≡ length (filter (λ (k : ℕ). not (is_finished before.messages k)) (call_ids 2 h.ops)) =
      ap length (pending_are before.messages (asked_in h.asks) h.ops own) in
      let least = leb-true most_pending (length (pending_calls before.messages (asked_in h.asks)) + 0) many in
      omega (arith, least, size, left, a.1.alone)

  -- ---- no RequestId

  used : leb no_id (next_id (asked_in h.asks) + 0) ≡ true → 4294967293 ≤ length h.ops
  used all =
      let least = leb-true no_id (next_id (asked_in h.asks) + 0) all in
      let size = ap length own in
      omega (arith, least, size, length_asked 2 h.ops)

  -- ---- too large

  large_by : (body : List ℕ) (o : Option Ack) → (received i.goes.frames).ack ≡ o → of_ack (λ (a : Ack). is_too_large a body) o ≡ true
      → is_too_long e (length body) ≡ true
  large_by body None is large = absurd cc
  large_by body (Some a) is large =
      let room : ℕ = min e.server.receive_buffer_size e.client.send_buffer_size - 24 in
      let there : is_too_large (ack_to (hello_to e.client e.url) e.server) body ≡ true =
      ap (λ (k : Ack). is_too_large k body) (sym (the_ack connect reach earlier e can y h i a is)) ∙ large in
      sym (ap (λ (b : Bool). passes e.server.max_message_size (length body) || b)
      (chunks_pass e.server.max_chunk_count room body (omega (arith, e.server.takes_chunks)) (omega (arith, e.server.receives, e.client.sends)))) ∙ there

  -- ---- any

  pub refuses_few : (body : List ℕ) (why : AskFault) → call_refused y 0 body ≡ Some why → MayRefuse e h body why
  refuses_few body why is =
      by (reason_of NotOpen TooManyPending Exhausted RequestTooLarge why (has_no_channel before)
      (leb most_pending (length (pending_calls before.messages (asked_in h.asks)) + 0)) (leb no_id (next_id (asked_in h.asks) + 0))
      (of_ack (λ (a : Ack). is_too_large a body) before.ack)
      (sym (call_judged (client_limits y) before (asked_in h.asks) (phase_of y) 0 body i.goes.stands.phase_is) ∙ is))
    where
      by : ((why ≡ NotOpen) × (has_no_channel (received i.goes.frames) ≡ true))
          ⊎ (((why ≡ TooManyPending) × (leb most_pending (length (pending_calls (received i.goes.frames).messages (asked_in h.asks)) + 0) ≡ true))
          ⊎ (((why ≡ Exhausted) × (leb no_id (next_id (asked_in h.asks) + 0) ≡ true))
          ⊎ ((why ≡ RequestTooLarge) × (of_ack (λ (a : Ack). is_too_large a body) (received i.goes.frames).ack ≡ true)))) → MayRefuse e h body why
      by (inl f) = subst (MayRefuse e h body) (sym f.0) (not_open f.1)
      by (inr (inl f)) = subst (MayRefuse e h body) (sym f.0) (pending f.1)
      by (inr (inr (inl f))) = subst (MayRefuse e h body) (sym f.0) (used f.1)
      by (inr (inr (inr f))) = subst (MayRefuse e h body) (sym f.0) (large_by body (received i.goes.frames).ack refl f.1)
