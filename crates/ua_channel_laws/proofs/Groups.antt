-- What a client sends at once, and what a server answers to it, one message after the other.
use Rattle.std.proofs.Common.{◌≡◌, ℕ, ◌+◌, ◌<◌, ◌≤◌, ◌^◌, Bool, true, false, leb, IsTrue, List, [], ◌∷◌, ◌++◌, Option}
use Rattle.std.proofs.Common.{Some, None, length, map, refl, sym, ◌∙◌, arith, append-nil, append_assoc}
use Rattle.std.specs.Prelude.{if◌then◌else◌}
use Rattle.std.specs.List.{AllByRecursion}
use Rattle.std.proofs.lemmas.Bool.{leb-false}
use Rattle.ua_builtin.specs.DateTime.{date_time}
use Rattle.ua_builtin.specs.Reasons.{first_reason, or_else}
use Rattle.ua_builtin.specs.declared.date_time.DateTime.{DateTime}
use Rattle.ua_frame.specs.Frames.{frame_octets}
use Rattle.ua_frame.specs.declared.ack.Ack.{Ack}
use Rattle.ua_frame.specs.declared.frame.Frame.{Frame}
use Rattle.ua_frame.specs.declared.limits.Limits.{Limits}
use Rattle.ua_chunk.specs.Cutting.{chunks_of, chunks_octets, cut_refusal}
use Rattle.ua_chunk.specs.Sequence.{next_number}
use Rattle.ua_chunk.specs.declared.lane.Lane.{Lane}
use Rattle.ua_channel_laws.specs.Answers.{Answer, BringsToken, AreAnswersTo, answers_octets, answers_told, client_answered_all}
use Rattle.ua_channel_laws.specs.Answers.Answer.{ReplyTo, TokenFor}
use Rattle.ua_channel.specs.Asks.{Placed, asked_in, next_id}
use Rattle.ua_channel.specs.Asks.Asking.{Call, Renewal}
use Rattle.ua_channel.specs.Client.{ClientStands, client_limits, renewal_refused}
use Rattle.ua_channel.specs.ClientAsks.{is_too_large, most_pending, most_tokens, no_id, reasons_of_renewal}
use Rattle.ua_channel_laws.specs.ClientReads.{AtClient, ClientReads, IsLaneBack, lane_from, told_reply, with_answer, with_call, with_renewal, with_reply}
use Rattle.ua_channel.specs.ClientSends.{renewal_frame}
use Rattle.ua_channel.specs.ClientTold.{ClientTold, Renewed}
use Rattle.ua_channel_laws.specs.InStep.{AreInStep, lane_back}
use Rattle.ua_channel_laws.specs.Outgoing.{AreWritable, Outgoing, asks_at, asking_of, client_behind, issued_behind, one_reasons}
use Rattle.ua_channel_laws.specs.Outgoing.{outgoing_number, outgoing_octets, outgoing_refusal, outgoing_told, server_behind}
use Rattle.ua_channel_laws.specs.Outgoing.Outgoing.{CallWith, RenewalAt}
use Rattle.ua_channel.specs.Received.{has_some, latest}
use Rattle.ua_channel_laws.specs.ServerReads.{AtServer, ServerReads, with_message, with_token}
use Rattle.ua_channel.specs.ServerSends.{opened_frame, replied}
use Rattle.ua_channel.specs.ServerTold.{Told, Asked, Opened}
use Rattle.ua_channel.specs.declared.client.channel.ClientChannel.{ClientChannel}
use Rattle.ua_channel_laws.proofs.ClientReadsMessages.{reads_call, reads_renewed, reads_replied}
use Rattle.ua_channel_laws.proofs.ClientReadsMessages as client
use Rattle.ua_channel_laws.proofs.ClientSending.{refuses_renewal}
use Rattle.ua_channel.proofs.HeldTokens.{stays_in}
use Rattle.ua_channel_laws.proofs.InStep.{body_for, in_more, in_step_answer, in_step_call, in_step_renewal, in_step_reply, lane_to}
use Rattle.ua_channel_laws.proofs.ServerReadsMessages.{reads_message, reads_renewal}
use Rattle.ua_channel.proofs.Askings.{next-append}

-- ---- reasons

pub none_parts : {A : Type 0} (b : Bool) (x : A) (o : Option A) → (if b then Some x else o) ≡ None → (b ≡ false) × (o ≡ None)
none_parts true x o e = absurd cc
none_parts false x o e = (refl, e)

pub or_none : {A : Type 0} (o p : Option A) → or_else o p ≡ None → (o ≡ None) × (p ≡ None)
or_none None p e = (refl, e)
or_none (Some x) p e = absurd cc

-- ---- lists, one element behind the others

-- what holds of what stands there and one more, and then of the others, holds of all
behind_one : {A B : Type 0} (P : List A → List B → Type 0) (xs one others : List A) (bs : List B) (b : B) (cs : List B)
    → P ((xs ++ one) ++ others) ((bs ++ b ∷ []) ++ cs) → P (xs ++ (one ++ others)) (bs ++ (b ∷ cs))
behind_one P xs one others bs b cs h =
    rw (← append_assoc xs one others, ← append_assoc bs (b ∷ []) cs) h

behind_none : {A B : Type 0} (P : List A → List B → Type 0) (xs : List A) (bs : List B) → P xs bs → P (xs ++ []) (bs ++ [])
behind_none P xs bs h = rw (append-nil xs, append-nil bs) h

-- ---- what a client sends, at the server

-- one can be sent under this request id to a server that sent this ACK
abbrev pub IsSendable : Ack → ℕ → Outgoing → Type 0
IsSendable a id (CallWith body) = (0 < length body) × (is_too_large a body ≡ false)
IsSendable a id (RenewalAt moment) = IsTrue (date_time.encodable moment)

-- each can, from this request id on
abbrev pub AreSendable : Ack → ℕ → List Outgoing → Type 0
AreSendable a id [] = Unit {0}
AreSendable a id (o ∷ os) = (id < no_id) × IsSendable a id o × AreSendable a (id + 1) os

-- those that a client does not refuse can be sent
pub sendable : (c : AtClient) (id : ℕ) (os : List Outgoing) → AreWritable os → outgoing_refusal c id os ≡ None → AreSendable c.ack id os
sendable c id [] w judged = tt
sendable c id (CallWith body ∷ os) w judged =
    let parts = or_none (first_reason (one_reasons c id (CallWith body))) (outgoing_refusal (with_call c id) (id + 1) os) judged in
    let one = none_parts (leb most_pending (length c.pending)) _ _ parts.0 in
    let two = none_parts (leb no_id id) _ _ one.1 in
    let three = none_parts (is_too_large c.ack body) _ _ two.1 in
    (leb-false no_id id two.0, (w.0, three.0), sendable (with_call c id) (id + 1) os w.1 parts.1)
sendable c id (RenewalAt moment ∷ os) w judged =
    let parts = or_none (first_reason (one_reasons c id (RenewalAt moment))) (outgoing_refusal (with_renewal c id) (id + 1) os) judged in
    let one = none_parts (has_some c.renewals) _ _ parts.0 in
    let two = none_parts (leb most_tokens (length c.tokens)) _ _ one.1 in
    let three = none_parts (leb no_id id) _ _ two.1 in
    (leb-false no_id id three.0, w.0, sendable (with_renewal c id) (id + 1) os w.1 parts.1)

-- tokens are only issued
pub no_fewer : (issued : ℕ) (os : List Outgoing) → issued ≤ issued_behind issued os
no_fewer issued [] = omega arith
no_fewer issued (CallWith body ∷ os) = no_fewer issued os
no_fewer issued (RenewalAt moment ∷ os) = let more = no_fewer (issued + 1) os in omega (arith, more)

-- what calls tell does not go by how many were issued
pub none_told : (token issued other id : ℕ) (bodies : List (List ℕ)) → outgoing_told token issued id (map CallWith bodies) ≡ outgoing_told token other id
    (map CallWith bodies)
none_told token issued other id [] = refl
none_told token issued other id (body ∷ bodies) = rw (none_told token issued other (id + 1) bodies)

-- by calls none is
pub none_issued : (issued : ℕ) (bodies : List (List ℕ)) → issued_behind issued (map CallWith bodies) ≡ issued
none_issued issued [] = refl
none_issued issued (body ∷ bodies) = none_issued issued bodies

-- the number that the client sends next is the one that the server waits for
pub numbers_agree : (lane : Lane) (s : AtServer) (os : List Outgoing) → outgoing_number (Some lane) s.next os ≡ (server_behind lane s os).next
numbers_agree lane s [] = refl
numbers_agree lane s (CallWith body ∷ os) = numbers_agree lane (with_message s lane body) os
numbers_agree lane s (RenewalAt moment ∷ os) = numbers_agree lane (with_token s) os

module _ (server client : Limits) (url : Option (List ℕ)) (channel : ℕ) (on : channel < 2 ^ 32) where
  abbrev Reads : AtServer → List ℕ → List Told → Type 0
  Reads s octets told = ServerReads server channel octets told s

  abbrev InStepAt : AtServer → AtClient → Type 0
  InStepAt s c = AreInStep server client url channel s c

  pub reads_sendable : (octets : List ℕ) (told : List Told) (s : AtServer) (c : AtClient) (id : ℕ) (os : List Outgoing)
      → Reads s octets told → InStepAt s c → latest c.tokens ≡ Some c.newest → AreSendable c.ack id os → issued_behind s.issued os < 2 ^ 32
      → Reads (server_behind (lane_from c) s os) (octets ++ outgoing_octets (Some (lane_from c)) s.next id os) (told ++ outgoing_told c.newest s.issued id os)
      × InStepAt (server_behind (lane_from c) s os) (client_behind c id os)
  reads_sendable octets told s c id [] r t newest can few = (behind_none (Reads s) octets told r, t)
  reads_sendable octets told s c id (CallWith body ∷ os) r t newest can few =
      let lane : Lane = lane_from c in
      let now : AtServer = with_message s lane body in
      let chunks : List ℕ = chunks_octets (chunks_of lane body s.next id) in
      let read : Reads now (octets ++ chunks) (told ++ Asked id lane.token body ∷ []) =
      reads_message server channel octets told s lane body id on (omega (arith, can.0)) r (lane_to server client url channel s c t)
      (body_for server client url channel s c t body can.1.0 can.1.1) in
      let rest = reads_sendable (octets ++ chunks) (told ++ Asked id lane.token body ∷ []) now (with_call c id) (id + 1) os read
      (in_step_call server client url channel s c t body id newest) newest can.2 few in (
        behind_one (Reads (server_behind lane now os)) octets chunks (outgoing_octets (Some lane) now.next (id + 1) os) told (Asked id lane.token body)
            (outgoing_told c.newest s.issued (id + 1) os) rest.0,
        rest.1,
      )
  reads_sendable octets told s c id (RenewalAt moment ∷ os) r t newest can few =
      let one_more : s.issued + 1 ≤ issued_behind (s.issued + 1) os = no_fewer (s.issued + 1) os in
      let some : 0 < s.issued = omega (arith, r.some_used, t.taken.not_before, t.taken.issued) in
      let now : AtServer = with_token s in
      let opn : List ℕ = frame_octets (renewal_frame c.channel s.next id moment) in
      let read : Reads now (octets ++ opn) (told ++ Opened id 0 (s.issued + 1) 3600000 ∷ []) =
      rw t.channel_is (reads_renewal server channel octets told s id moment r some (omega (arith, few, one_more)) on (omega (arith, can.0)) can.1) in
      let rest = reads_sendable (octets ++ opn) (told ++ Opened id 0 (s.issued + 1) 3600000 ∷ []) now (with_renewal c id) (id + 1) os read
      (in_step_renewal server client url channel s c t id) newest can.2 few in (
        behind_one (Reads (server_behind (lane_from c) now os)) octets opn (outgoing_octets (Some (lane_from c)) now.next (id + 1) os) told
            (Opened id 0 (s.issued + 1) 3600000) (outgoing_told c.newest now.issued (id + 1) os) rest.0,
        rest.1,
      )

  pub reads_outgoing : (octets : List ℕ) (told : List Told) (s : AtServer) (c : AtClient) (id : ℕ) (os : List Outgoing)
      → Reads s octets told → InStepAt s c → latest c.tokens ≡ Some c.newest → AreWritable os → outgoing_refusal c id os ≡ None
      → issued_behind s.issued os < 2 ^ 32
      → Reads (server_behind (lane_from c) s os) (octets ++ outgoing_octets (Some (lane_from c)) s.next id os) (told ++ outgoing_told c.newest s.issued id os)
      × InStepAt (server_behind (lane_from c) s os) (client_behind c id os)
  reads_outgoing octets told s c id os r t newest w judged few = reads_sendable octets told s c id os r t newest (sendable c id os w judged) few

-- ---- and at the client, which asks them

module _ (limits : Limits) (octets : List ℕ) (told : List ClientTold) where
  -- one was asked, and then the others
  asks_more : (asks : List Placed) (c : AtClient) (o : Outgoing) (os : List Outgoing)
      → (let more : List Placed = asks ++ (length octets, asking_of (next_id (asked_in asks)) o) ∷ [] in
      ClientReads limits (more ++ asks_at (length octets) (next_id (asked_in more)) os) octets told (client_behind c (next_id (asked_in more)) os))
      → ClientReads limits (asks ++ asks_at (length octets) (next_id (asked_in asks)) (o ∷ os)) octets told (client_behind c (next_id (asked_in asks) + 1) os)
  asks_more asks c o os h =
      let ask : Placed = (length octets, asking_of (next_id (asked_in asks)) o) in
      rw (← append_assoc asks (ask ∷ []) (asks_at (length octets) (next_id (asked_in asks) + 1) os), ← next-append asks (ask ∷ [])) h

  pub asks_outgoing : (asks : List Placed) (c : AtClient) (os : List Outgoing) → ClientReads limits asks octets told c
      → ClientReads limits (asks ++ asks_at (length octets) (next_id (asked_in asks)) os) octets told (client_behind c (next_id (asked_in asks)) os)
  asks_outgoing asks c [] r = rw (append-nil asks) r
  asks_outgoing asks c (CallWith body ∷ os) r =
      let id : ℕ = next_id (asked_in asks) in
      asks_more asks (with_call c id) (CallWith body) os
      (asks_outgoing (asks ++ (length octets, Call id) ∷ []) (with_call c id) os (reads_call limits asks octets told c r))
  asks_outgoing asks c (RenewalAt moment ∷ os) r =
      let id : ℕ = next_id (asked_in asks) in
      asks_more asks (with_renewal c id) (RenewalAt moment) os
      (asks_outgoing (asks ++ (length octets, Renewal id) ∷ []) (with_renewal c id) os (client.reads_renewal limits asks octets told c r))

-- ---- what a server answers

-- a lane to a client stays one
pub lane_replied : (limits : Limits) (c : AtClient) (lane : Lane) (id next : ℕ) → IsLaneBack limits c lane
    → IsLaneBack limits (with_reply c lane.token id next) lane
lane_replied limits c lane id next back = record {
  on = back.on;
  held = stays_in lane.token c.tokens back.held;
  on_small = back.on_small;
  token_small = back.token_small;
  some = back.some;
  fits = back.fits;
  octets = back.octets;
  chunks = back.chunks;
}

pub lane_answered : (limits : Limits) (c : AtClient) (lane : Lane) (token next : ℕ) → IsLaneBack limits c lane
    → IsLaneBack limits (with_answer c token next) lane
lane_answered limits c lane token next back = record {
  on = back.on;
  held = in_more lane.token token c.tokens back.held;
  on_small = back.on_small;
  token_small = back.token_small;
  some = back.some;
  fits = back.fits;
  octets = back.octets;
  chunks = back.chunks;
}

module _ (limits : Limits) (asks : List Placed) (lane : Lane) where
  abbrev Hears : AtClient → List ℕ → List ClientTold → Type 0
  Hears c octets told = ClientReads limits asks octets told c

  pub reads_answers : (octets : List ℕ) (told : List ClientTold) (c : AtClient) (answers : List Answer) → Hears c octets told → IsLaneBack limits c lane
      → AreAnswersTo lane c answers
      → Hears (client_answered_all lane c answers) (octets ++ answers_octets lane c.next answers) (told ++ answers_told lane answers)
  reads_answers octets told c [] r back may = behind_none (Hears c) octets told r
  reads_answers octets told c (ReplyTo id body ∷ answers) r back may =
      let out : List ℕ × ℕ = replied lane body c.next id in
      let now : AtClient = with_reply c lane.token id out.1 in
      let read : Hears now (octets ++ out.0) (told ++ told_reply (cut_refusal lane body) id body ∷ []) =
      reads_replied limits asks octets told c lane id r back may.0.0 may.0.1 body may.0.2 in
      behind_one (Hears (client_answered_all lane now answers)) octets out.0 (answers_octets lane now.next answers) told
      (told_reply (cut_refusal lane body) id body) (answers_told lane answers)
      (reads_answers (octets ++ out.0) (told ++ told_reply (cut_refusal lane body) id body ∷ []) now answers read (lane_replied limits c lane id out.1 back)
      may.1)
  reads_answers octets told c (TokenFor id handle token lifetime moment ∷ answers) r back may =
      let opn : List ℕ = frame_octets (opened_frame lane.channel c.next id handle token lifetime moment) in
      let now : AtClient = with_answer c token (next_number c.next) in
      let read : Hears now (octets ++ opn) (told ++ Renewed token ∷ []) =
      rw back.on (reads_renewed limits asks octets told c id handle token lifetime moment r
      (record {
        channel_small = omega (arith, back.on, back.on_small);
        number_small = r.next_small;
        id_small = may.0.2.id_small;
        handle_small = may.0.2.handle_small;
        token_small = may.0.2.token_small;
        lifetime_small = may.0.2.lifetime_small;
        moment_fits = may.0.2.moment_fits;
      }) may.0.0 may.0.1) in
      behind_one (Hears (client_answered_all lane now answers)) octets opn (answers_octets lane now.next answers) told (Renewed token)
      (answers_told lane answers)
      (reads_answers (octets ++ opn) (told ++ Renewed token ∷ []) now answers read (lane_answered limits c lane token (next_number c.next) back) may.1)

-- both stay in step
pub in_step_answers : (server client : Limits) (url : Option (List ℕ)) (channel : ℕ) (s : AtServer) (c : AtClient) (answers : List Answer)
    → AreInStep server client url channel s c → AllByRecursion (BringsToken s.issued) answers
    → AreInStep server client url channel s (client_answered_all (lane_back server channel s) c answers)
in_step_answers server client url channel s c [] t brings = t
in_step_answers server client url channel s c (ReplyTo id body ∷ answers) t brings =
    let next : ℕ = (replied (lane_back server channel s) body c.next id).1 in
    in_step_answers server client url channel s (with_reply c s.used id next) answers (in_step_reply server client url channel s c t id next) brings.1
in_step_answers server client url channel s c (TokenFor id handle token lifetime moment ∷ answers) t brings =
    in_step_answers server client url channel s (with_answer c token (next_number c.next)) answers
    (rw brings.0 (in_step_answer server client url channel s c t (next_number c.next))) brings.1

-- ---- why a channel does not send the next one

or_none_behind : {A : Type 0} (o : Option A) → or_else o None ≡ o
or_none_behind None = refl
or_none_behind (Some x) = refl

module _ (x : ClientChannel) (asks : List Placed) (octets : List ℕ) (frames : List Frame) (rest : List ℕ) (told : List ClientTold) (at : AtClient)
    (stands : ClientStands x asks octets frames rest) (r : ClientReads (client_limits x) asks octets told at) where
  abbrev next : ℕ
  next = next_id (asked_in asks)

  pub renewal_is_refused : (moment : DateTime) → renewal_refused x ≡ outgoing_refusal at next (RenewalAt moment ∷ [])
  renewal_is_refused moment =
      refuses_renewal x asks octets frames rest told at stands r
      ∙ sym (or_none_behind (first_reason (reasons_of_renewal (has_some at.renewals) (length at.tokens) next)))
