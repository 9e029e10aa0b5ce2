-- That what a client over a line sends is what a server reads.
use Rattle.std.proofs.Common.{◌≡◌, ℕ, ◌+◌, ◌<◌, ◌≤◌, ◌^◌, not, leb, IsTrue, List, []}
use Rattle.std.proofs.Common.{◌∷◌, ◌++◌, Option, Some, None, length, map, refl, sym, ◌∙◌, ap, subst, arith}
use Rattle.std.specs.List.{AllByRecursion}
use Rattle.std.proofs.lemmas.Bool.{leb-false, not-false}
use Rattle.ua_builtin.specs.DateTime.{date_time}
use Rattle.ua_builtin.specs.Reasons.{first_reason}
use Rattle.ua_builtin.specs.declared.date_time.DateTime.{DateTime}
use Rattle.ua_frame.specs.Agreement.{url_length}
use Rattle.ua_frame.specs.Frames.{frame_octets}
use Rattle.ua_frame.specs.Messages.{hello}
use Rattle.ua_frame.specs.Run.{Going}
use Rattle.ua_frame.specs.declared.ack.Ack.{Ack}
use Rattle.ua_frame.specs.declared.limits.Limits.{Limits}
use Rattle.ua_frame.proofs.Unique.{unique}
use Rattle.ua_chunk.specs.declared.lane.Lane.{Lane}
use Rattle.ua_channel.specs.Agreement.{agreement_of}
use Rattle.ua_channel.specs.Client.{client_limits, client_rules_of}
use Rattle.ua_channel.specs.ClientAsks.{is_too_large, most_tokens, no_id}
use Rattle.ua_channel_laws.specs.ClientReads.{AtClient, ClientReads, lane_from}
use Rattle.ua_channel.specs.ClientSends.{close_frame, hello_frame, hello_to, renewal_frame}
use Rattle.ua_channel.specs.ClientTokens.{first_channel, held_tokens, open_responses}
use Rattle.ua_channel_laws.specs.InStep.{AreInStep}
use Rattle.ua_channel_laws.specs.Outgoing.{renewal_by}
use Rattle.ua_channel_laws.specs.Outgoing.Outgoing.{CallWith}
use Rattle.ua_channel.specs.Received.{Received, latest, received}
use Rattle.ua_channel_laws.specs.ServerReads.{AtServer, ServerCloses, ServerReads, greeted_at, with_message, with_token}
use Rattle.ua_channel.specs.ServerTold.{Told, Agreed, Opened, Closed}
use Rattle.ua_channel.specs.declared.client.channel.ClientChannel.{ClientChannel}
use Rattle.ua_channel_laws.proofs.Groups.{AreSendable, none_issued, none_parts, none_told, reads_sendable}
use Rattle.ua_channel_laws.proofs.ServerReadsMessages.{reads_close, reads_first, reads_hello, reads_renewal}
use Rattle.ua_services.proofs.RequestLawful.{lawful_request}
use Rattle.ua_services.specs.Request.{request}
use Rattle.ua_services.specs.declared.request.Request.{Request}
use Rattle.ua_client.specs.Calls.{refusal_at, sent_at}
use Rattle.ua_client.specs.Client.{closing_at, closing_by}
use Rattle.ua_client.specs.Renewing.{renewal_at, renewal_refusal}
use Rattle.ua_client.specs.Sent.{bodies_of, calls_octets, group_reasons, numbers_behind}
use Rattle.ua_client.specs.ClientPlace.{ClientPlace, StandsAt, id_at, lane_behind, lane_by}
use Rattle.ua_loopback.specs.Course.{opening_octets}
use Rattle.ua_loopback.specs.Together.{AreTogether, behind_calls}
use Rattle.ua_loopback.specs.Turns.{calls_told}

-- ---- where a client stands

module _ (x : ClientChannel) (s : ClientPlace) (c : AtClient) (at : StandsAt x s) (r : ClientReads (client_limits x) s.asks s.octets s.told c) where
  pub before_is : s.before ≡ received r.frames
  before_is = sym at.before_is
      ∙ ap received (unique (client_rules_of x s.asks) s.octets at.goes.frames r.frames at.goes.rest [] Going Going at.goes.stands.run r.run).frames

  -- it has what the server acknowledged
  pub acked_here : s.before.ack ≡ Some c.ack
  acked_here = ap (λ (b : Received). b.ack) before_is ∙ r.ack_is

  -- it holds these tokens
  pub tokens_here : held_tokens s.before ≡ c.tokens
  tokens_here = ap held_tokens before_is ∙ r.tokens_are

  -- and its calls go out in this lane
  pub lane_here : lane_behind s.before ≡ Some (lane_from c)
  lane_here =
      ap lane_behind before_is
      ∙ (ap (λ (a : Option Ack). lane_by a (first_channel (open_responses (received r.frames).openings)) (latest (held_tokens (received r.frames)))) r.ack_is
      ∙ (ap (λ (n : Option ℕ). lane_by (Some c.ack) n (latest (held_tokens (received r.frames)))) r.channel_is
      ∙ ap (λ (k : Option ℕ). lane_by (Some c.ack) (Some c.channel) k) (ap latest r.tokens_are ∙ r.newest_is)))

-- ---- what is not refused

some_octets : (m : Request) (b : List ℕ) → request.encodes m b → 0 < length b
some_octets m [] h = absurd (lawful_request.starts m h)
some_octets m (x ∷ b) h = omega arith

-- requests that are asked under request ids from this one on, of a server that sent this ACK
abbrev pub AreAsked : Ack → ℕ → List Request → Type 0
AreAsked a id ms = AreSendable a id (map CallWith (bodies_of ms))

pub not_refused : (a : Ack) (id : ℕ) (ms : List Request) → first_reason (group_reasons (Some a) id ms) ≡ None → AreAsked a id ms
not_refused a id [] h = tt
not_refused a id (m ∷ ms) h =
    let one = none_parts (not (request.encodable m)) _ _ h in
    let two = none_parts (leb no_id id) _ _ one.1 in
    let three = none_parts (is_too_large a (request.canonical m)) _ _ two.1 in (
      leb-false no_id id two.0,
      (some_octets m (request.canonical m) (lawful_request.canonical_encodes m (not-false (request.encodable m) one.0)), three.0),
      not_refused a (id + 1) ms three.1,
    )

-- each can be encoded
pub writable : (a : Ack) (id : ℕ) (ms : List Request) → first_reason (group_reasons (Some a) id ms) ≡ None
    → AllByRecursion (λ (m : Request). IsTrue (request.encodable m)) ms
writable a id [] h = tt
writable a id (m ∷ ms) h =
    let one = none_parts (not (request.encodable m)) _ _ h in
    let two = none_parts (leb no_id id) _ _ one.1 in
    let three = none_parts (is_too_large a (request.canonical m)) _ _ two.1 in
    (not-false (request.encodable m) one.0, writable a (id + 1) ms three.1)

-- no request id is past the last
pub few_ids : (a : Ack) (id : ℕ) (ms : List Request) → AreAsked a id ms → 0 < length ms → id + length (bodies_of ms) ≤ no_id
few_ids a id [] h some = absurd (omega (arith, some))
few_ids a id (m ∷ []) h some = omega (arith, h.0)
few_ids a id (m ∷ (n ∷ ms)) h some = let rest = few_ids a (id + 1) (n ∷ ms) h.2 (omega arith) in omega (arith, rest)

pub not_exhausted : (s : ClientPlace) → renewal_refusal s ≡ None → id_at s < no_id
not_exhausted s h =
    let one = none_parts (leb most_tokens (length (held_tokens s.before))) _ _ h in
    let two = none_parts (leb no_id (id_at s)) _ _ one.1 in
    leb-false no_id (id_at s) two.0

-- ---- calls, one behind the other

module _ (limits client : Limits) (url : Option (List ℕ)) (channel : ℕ) (on : channel < 2 ^ 32) (c : AtClient) where
  pub calls_read : (octets : List ℕ) (told : List Told) (s : AtServer) (id : ℕ) (ms : List Request) → AreInStep limits client url channel s c
      → latest c.tokens ≡ Some c.newest
      → ServerReads limits channel octets told s → AreAsked c.ack id ms
      → ServerReads limits channel (octets ++ calls_octets (Some (lane_from c)) s.next id (bodies_of ms)) (told ++ calls_told c.newest id (bodies_of ms))
      (behind_calls s (lane_from c) (bodies_of ms))
  calls_read octets told s id ms t newest r asked =
      subst (λ (ts : List Told). ServerReads limits channel (octets ++ calls_octets (Some (lane_from c)) s.next id (bodies_of ms)) (told ++ ts)
      (behind_calls s (lane_from c) (bodies_of ms))) (none_told c.newest s.issued c.newest id (bodies_of ms))
      (reads_sendable limits client url channel on octets told s c id (map CallWith (bodies_of ms)) r t newest asked
      (omega (arith, none_issued s.issued (bodies_of ms), r.few_issued))).0

-- the number behind them
pub calls_counted : (s : AtServer) (lane : Lane) (bodies : List (List ℕ)) → numbers_behind (Some lane) s.next bodies ≡ (behind_calls s lane bodies).next
calls_counted s lane [] = refl
calls_counted s lane (body ∷ bodies) = calls_counted (with_message s lane body) lane bodies

-- ---- turns

-- the HEL and the OPN
pub opening_read : (limits : Limits) (channel : ℕ) (client : Limits) (url : Option (List ℕ)) (moment : DateTime)
    → IsTrue (hello.encodable (hello_to client url)) → url_length url ≤ 4095 → IsTrue (date_time.encodable moment)
    → ServerReads limits channel (opening_octets client url moment) (Agreed (agreement_of limits (hello_to client url)) ∷ (Opened 1 0 1 3600000 ∷ []))
    (with_token (greeted_at (hello_to client url)))
opening_read limits channel client url moment fits short dated =
    reads_first limits channel (frame_octets (hello_frame (hello_to client url))) (Agreed (agreement_of limits (hello_to client url)) ∷ [])
    (greeted_at (hello_to client url)) moment
    (reads_hello limits channel client url fits short) refl refl dated

module _ (limits : Limits) (url : Option (List ℕ)) (channel : ℕ) (octets : List ℕ) (told : List Told) (s : AtServer) (x : ClientChannel) (site : ClientPlace)
    (c : AtClient) (on : channel < 2 ^ 32) (t : AreTogether limits url channel octets told s x site c) where
  -- requests
  pub requests_asked : (requests : List Request) → refusal_at site requests ≡ None → AreAsked c.ack (id_at site) requests
  requests_asked requests judged =
      not_refused c.ack (id_at site) requests
      (ap (λ (a : Option Ack). first_reason (group_reasons a (id_at site) requests)) (sym (acked_here x site c t.stands t.client_reads)) ∙ judged)

  pub requests_read : (requests : List Request) → refusal_at site requests ≡ None
      → ServerReads limits channel (octets ++ sent_at site requests) (told ++ calls_told c.newest (id_at site) (bodies_of requests))
      (behind_calls s (lane_from c) (bodies_of requests))
  requests_read requests judged =
      subst (λ (o : List ℕ). ServerReads limits channel (octets ++ o) (told ++ calls_told c.newest (id_at site) (bodies_of requests))
      (behind_calls s (lane_from c) (bodies_of requests)))
      (ap (λ (n : ℕ). calls_octets (Some (lane_from c)) n (id_at site) (bodies_of requests)) (sym t.number_is)
      ∙ ap (λ (l : Option Lane). calls_octets l site.number (id_at site) (bodies_of requests)) (sym (lane_here x site c t.stands t.client_reads)))
      (calls_read limits (client_limits x) url channel on c octets told s (id_at site) requests t.in_step t.client_reads.newest_is t.server_reads
      (requests_asked requests judged))

  -- and the number behind them
  pub numbers_read : (requests : List Request) → numbers_behind (lane_behind site.before) site.number (bodies_of requests)
      ≡ (behind_calls s (lane_from c) (bodies_of requests)).next
  numbers_read requests =
      ap (λ (l : Option Lane). numbers_behind l site.number (bodies_of requests)) (lane_here x site c t.stands t.client_reads)
      ∙ (ap (λ (n : ℕ). numbers_behind (Some (lane_from c)) n (bodies_of requests)) t.number_is ∙ calls_counted s (lane_from c) (bodies_of requests))

  -- a renewal
  pub renewal_read : (moment : DateTime) → renewal_refusal site ≡ None → s.issued < 4294967295 → IsTrue (date_time.encodable moment)
      → ServerReads limits channel (octets ++ renewal_at site moment) (told ++ Opened (id_at site) 0 (s.issued + 1) 3600000 ∷ []) (with_token s)
  renewal_read moment judged few dated =
      let used : id_at site < no_id = not_exhausted site judged in
      let some : 0 < s.issued = omega (arith, t.server_reads.some_used, t.in_step.taken.not_before, t.in_step.taken.issued) in
      subst (λ (o : List ℕ). ServerReads limits channel (octets ++ o) (told ++ Opened (id_at site) 0 (s.issued + 1) 3600000 ∷ []) (with_token s))
      (ap (λ (k : ℕ). frame_octets (renewal_frame k s.next (id_at site) moment)) (sym t.in_step.channel_is)
      ∙ (ap (λ (n : ℕ). renewal_by (Some (lane_from c)) n (id_at site) moment) (sym t.number_is)
      ∙ ap (λ (l : Option Lane). renewal_by l site.number (id_at site) moment) (sym (lane_here x site c t.stands t.client_reads))))
      (reads_renewal limits channel octets told s (id_at site) moment t.server_reads some few on (omega (arith, used)) dated)

  -- the CLO
  pub closing_read : (moment : DateTime) → id_at site < 2 ^ 32 → ServerCloses limits channel (octets ++ closing_at site moment) (told ++ Closed ∷ [])
  closing_read moment used =
      subst (λ (o : List ℕ). ServerCloses limits channel (octets ++ o) (told ++ Closed ∷ []))
      (ap (λ (k : ℕ). frame_octets (close_frame k c.newest s.next (id_at site) moment)) (sym t.in_step.channel_is)
      ∙ (ap (λ (n : ℕ). closing_by (Some (lane_from c)) n (id_at site) moment) (sym t.number_is)
      ∙ ap (λ (l : Option Lane). closing_by l site.number (id_at site) moment) (sym (lane_here x site c t.stands t.client_reads))))
      (reads_close limits channel octets told s c.newest (id_at site) moment t.server_reads t.in_step.taken on used)
