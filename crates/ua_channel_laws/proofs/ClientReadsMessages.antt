-- That a client takes what a server writes, one message after the other.
use Rattle.std.proofs.Common.{◌≡◌, ℕ, ◌+◌, ◌<◌, ◌≤◌, ◌^◌, min, Bool, true, false, IsTrue, ◌||◌, eqb, ltb, List, [], ◌∷◌, ◌++◌}
use Rattle.std.proofs.Common.{Option, Some, None, length, map, refl, sym, ◌∙◌, ap, subst, arith, append-nil, length-append, not}
use Rattle.std.specs.List.{AllByRecursion, filter}
use Rattle.std.proofs.lemmas.Bool.{and_from, eq-eqb, le-ltb, or_left}
use Rattle.ua_builtin.specs.NodeId.{node_id}
use Rattle.ua_builtin.specs.Reasons.{first_reason}
use Rattle.ua_builtin.specs.Status.{of_code, status_code}
use Rattle.ua_builtin.specs.declared.status_code.StatusCode.{StatusCode}
use Rattle.ua_wire.specs.Counted.{counted, text}
use Rattle.ua_builtin.specs.declared.date_time.DateTime.{DateTime}
use Rattle.ua_frame.specs.declared.ack.Ack.{Ack}
use Rattle.ua_frame.specs.declared.frame.Frame.{Frame}
use Rattle.ua_frame.specs.declared.limits.Limits.{Limits}
use Rattle.ua_frame.specs.declared.kind.Kind.TheVariants as kind
use Rattle.ua_frame.specs.Agreement.{ack_to}
use Rattle.ua_frame.specs.After.{AllFrom}
use Rattle.ua_frame.specs.Frames.{LetsIn, frame_octets, frame_size, frames_octets}
use Rattle.ua_frame.specs.Messages.{ack, ack_frame}
use Rattle.ua_frame.specs.Run.{Going, Run}
use Rattle.ua_frame.proofs.MessagesLawful.{sound_ack}
use Rattle.ua_frame.proofs.Streams.{events-push, run_nil}
use Rattle.ua_frame.proofs.Wholes.{whole_encodes}
use Rattle.ua_wire.specs.Number.{number_octets}
use Rattle.ua_wire.proofs.NumbersRead.{length-number_octets}
use Rattle.ua_opening.specs.Message.{message, standard}
use Rattle.ua_opening.specs.Open.{answer_read}
use Rattle.ua_opening.specs.declared.open.OpenAnswer.TheVariants.{Open}
use Rattle.ua_opening.proofs.BodyLaws.{body_reads_back}
use Rattle.ua_opening.proofs.Lengths.{open_response_length}
use Rattle.ua_opening.proofs.MessageRead.{answer_read-is}
use Rattle.ua_opening.proofs.MessagesLawful.{lawful_message}
use Rattle.ua_opening.specs.Plain.{open_response_of}
use Rattle.ua_opening.specs.SecureChannel.{open_response}
use Rattle.ua_opening.specs.declared.secure_channel.OpenResponse.{OpenResponse}
use Rattle.ua_opening.proofs.PlainFits.{open_response_fits}
use Rattle.ua_opening.proofs.SecureChannelLawful.{lawful_open_response}
use Rattle.ua_chunk.specs.declared.chunk.Chunk.{Chunk}
use Rattle.ua_chunk.specs.declared.fault.CutFault.{CutFault}
use Rattle.ua_chunk.specs.declared.fault.CutFault.TheVariants.{TooManyOctets, TooManyChunks}
use Rattle.ua_chunk.specs.declared.flag.Flag.TheVariants.{A}
use Rattle.ua_chunk.specs.declared.lane.Lane.{Lane}
use Rattle.ua_chunk.specs.Abort.{abort_body}
use Rattle.ua_chunk.specs.Cutting.{abort_chunk, chunk_of, chunks_octets, chunks_of, cut_refusal, numbered, number_after, pieces, flag_before}
use Rattle.ua_chunk.specs.Delivered.{delivered}
use Rattle.ua_chunk.specs.Item.{Item}
use Rattle.ua_chunk.specs.Item.Item.{Whole, Aborted}
use Rattle.ua_chunk.specs.Layout.{frame_of}
use Rattle.ua_chunk.specs.Merge.{Sent, outcomes, part_of, IsMessageWithin}
use Rattle.ua_chunk.proofs.Bounds.{none_within}
use Rattle.ua_chunk.specs.Open.{open_ids}
use Rattle.std.specs.Prelude.{is_some}
use Rattle.std.proofs.lemmas.List.{map-append}
use Rattle.std.proofs.lemmas.List.Folds.{list_any-append}
use Rattle.ua_chunk.specs.Refusal.{passes}
use Rattle.ua_chunk.specs.Sequence.{may_follow, next_number}
use Rattle.ua_chunk.proofs.CutLaws.{follows_next, cut_delivered}
use Rattle.ua_chunk.proofs.OneMore.{delivered_from}
use Rattle.ua_chunk.proofs.Fresh.{some_pieces}
use Rattle.ua_chunk.proofs.Pieces.{next_small}
use Rattle.ua_chunk.proofs.ReaderLaws.{abort_written}
use Rattle.ua_channel.specs.Asks.{Asking, Placed, asked_before, asked_in, end_of, id_of, is_in, next_id}
use Rattle.ua_channel.specs.Asks.{pending_calls, pending_renewals, calls, is_finished, renewals}
use Rattle.ua_channel.specs.Asks.Asking.{Call, Renewal}
use Rattle.ua_channel_laws.specs.ClientReads.{AtClient, ClientAgrees, ClientReads, IsAnswered, IsLaneBack, told_reply}
use Rattle.ua_channel_laws.specs.ClientReads.{with_answer, with_call, with_renewal, with_reply, without_id}
use Rattle.ua_channel.specs.ClientSends.{hello_to}
use Rattle.ua_channel.specs.ClientTable.{answer_gate, client_gate, client_reasons, client_rules, gate_agreed, is_outside, reply_gate}
use Rattle.ua_channel.specs.ClientTokens.{answer_in, from_last, held_by, held_tokens, opened_ids, open_responses, tokens_of, response_listed}
use Rattle.ua_channel.specs.ClientTold.{ClientTold, ClientTold as event, client_tells, told_item}
use Rattle.ua_channel.specs.Content.{Content, Opening, content}
use Rattle.ua_channel.specs.Content.Content.{Acks, Opens}
use Rattle.ua_channel.specs.Received.{Received, after, latest, nothing_received, number_or, received, messages, openings}
use Rattle.ua_channel.specs.Received.{used_tokens, numbers, numbers_in, number_listed}
use Rattle.ua_channel_laws.specs.ServerReads.{IsBodyFor}
use Rattle.ua_channel.specs.ServerSends.{opened_frame, replied, replied_by}
use Rattle.ua_channel.proofs.AskedLater.{asked_later}
use Rattle.ua_channel.proofs.Askings.{all-push, all-weaken, asked_in-push, pending_calls-call, pending_calls-renewal}
use Rattle.ua_channel.proofs.Askings.{pending_renewals-call, pending_renewals-renewal, no_asks, next-append, filter_same}
use Rattle.ua_channel.proofs.ClientAsking.{first_unset}
use Rattle.ua_channel.proofs.ClientTalks.{first_tail, responses-push, opened_ids-push, tokens_of-push}
use Rattle.ua_channel.proofs.ClientTalks.{no_ids, no_responses, no_tokens, nothing_pending, nothing_renewed}
use Rattle.ua_channel.proofs.Carried.{content_ack, content_opn}
use Rattle.ua_channel.proofs.HeldTokens.{latest-push, stays_in, held_by-used}
use Rattle.ua_channel.proofs.OneFrameMore.{received-nil, received-push}
use Rattle.ua_channel_laws.proofs.ReadOn.{no_events, one_octets, run_one}
use Rattle.ua_channel_laws.proofs.ClientConversing.{response_as}
use Rattle.ua_channel_laws.specs.ClientConversation.{IsGoodResponse}
use Rattle.ua_opening.specs.declared.open.OpenAnswer.{OpenAnswer}
use Rattle.std.specs.Prelude.{if◌then◌else◌}
use Rattle.ua_channel_laws.proofs.CutChunks.{AreSentIn, IsSentIn, cut_alone, cut_finished, cut_goes, ends_own, frames_fit, frames_framed, frames_messages}
use Rattle.ua_channel_laws.proofs.CutChunks.{frames_numbers, frames_openings, frames_tokens, latest_token, one_merge, sent_in, all_under}
use Rattle.ua_channel_laws.proofs.ClientMerges.{nothing_opened, reads_merged}
use Rattle.ua_channel_laws.proofs.ClientRuns.{all_known, reads_at}
use Rattle.ua_channel_laws.proofs.MergedChunks.{comes}
use Rattle.ua_channel_laws.proofs.MergedFrames.{nothing_yet, openings-more, tokens-more}
use Rattle.ua_channel_laws.specs.Merges.{AreMerged, ClientMerge, MayComeDown, NumbersGoOn, ended_by, latest_or}
use Rattle.ua_channel_laws.specs.Merges.{told_back, told_merged_back, with_merged_back, told_renewed}
use Rattle.ua_channel_laws.proofs.Written.{IsOf, chunks_are, opening_carried, lets_opn, chunk_carried, none_is}
use Rattle.ua_channel.proofs.OpeningFrames.{none_header, opening_size}

-- ---- ACK

outside_none : (a b c d : Bool) → a ≡ false → b ≡ false → c ≡ false → d ≡ false → (((a || b) || c) || d) ≡ false
outside_none a b c d e f g h = rw (e, f, g, h) refl

ack_length : (a : Ack) → length (ack.canonical a) ≡ 20
unfolding ack
ack_length a =
    let p = number_octets 4 a.protocol_version in
    let q = number_octets 4 a.receive_buffer_size in
    let r = number_octets 4 a.send_buffer_size in
    let s = number_octets 4 a.max_message_size in
    let t = number_octets 4 a.max_chunk_count in
    omega (
      arith,
      length-append p (q ++ (r ++ (s ++ t))),
      length-append q (r ++ (s ++ t)),
      length-append r (s ++ t),
      length-append s t,
      length-number_octets 4 a.protocol_version,
      length-number_octets 4 a.receive_buffer_size,
      length-number_octets 4 a.send_buffer_size,
      length-number_octets 4 a.max_message_size,
      length-number_octets 4 a.max_chunk_count,
    )

-- where nothing was asked
none_below : AllByRecursion (λ (x : Asking). id_of x < next_id (asked_in [])) (asked_in [])
none_below = rw no_asks tt

module _ (limits : Limits) (a : Ack) (fits : IsTrue (ack.encodable a)) (inside : is_outside limits a ≡ false) where
  ack_carried : content (ack_frame a) ≡ Acks (Some a)
  ack_carried = content_ack (ack_frame a) refl ∙ ap Acks (whole_encodes ack sound_ack (ack.canonical a) a (sound_ack.canonical_encodes a fits))

  ack_good : (b : Received) (asked : List Asking) → first_reason (client_reasons limits b asked (Acks (Some a))) ≡ None
  ack_good b asked = rw inside refl

  ack_received : received (ack_frame a ∷ []) ≡ record nothing_received { ack = Some a }
  ack_received = received-push [] (ack_frame a)
      ∙ (rw received-nil (ap (after nothing_received) ack_carried))

  ack_size : frame_size (ack_frame a) ≡ 28
  ack_size = omega (arith, ack_length a)

  ack_run : Run (client_rules limits []) (frame_octets (ack_frame a)) (ack_frame a ∷ []) [] Going
  ack_run = run_one (client_rules limits []) [] [] (ack_frame a) (run_nil (client_rules limits []) refl) (record {
    goes_on = refl;
    sized = omega (arith, ack_size);
    let_in = rw (ap client_gate received-nil) (record { kind = refl; flag = refl; largest = omega (arith, ack_size); least = omega (arith, ack_size) });
    accepted = rw ack_carried (ack_good (received []) (asked_before (end_of [] (ack_frame a)) []));
  }) refl

  reads_acknowledge : ClientAgrees limits (frame_octets (ack_frame a)) (event.Agreed a ∷ []) a
  reads_acknowledge =
      let known = (all_known limits [] (next_id (asked_in [])) (omega arith) none_below (ack_frame a ∷ []) ack_run.good).1 in
      record {
        frames = ack_frame a ∷ [];
        run = ack_run;
        told_is = events-push (client_rules limits []) [] (ack_frame a)
            ∙ (rw (no_events (client_rules limits [])) (ap (client_tells (received [])) ack_carried));
        received_is = ack_received;
        large = known.large a (rw ack_received);
        sized = known.sized a (rw ack_received);
      }

-- the ACK of a server to this client's HEL
pub reads_ack : (limits server : Limits) (url : Option (List ℕ)) → IsTrue (ack.encodable (ack_to (hello_to limits url) server))
    → ClientAgrees limits (frame_octets (ack_frame (ack_to (hello_to limits url) server))) (event.Agreed (ack_to (hello_to limits url) server) ∷ [])
    (ack_to (hello_to limits url) server)
reads_ack limits server url fits =
    reads_acknowledge limits (ack_to (hello_to limits url) server) fits
    (outside_none (ltb (min server.receive_buffer_size limits.send_buffer_size) 8192) (ltb (min server.send_buffer_size limits.receive_buffer_size) 8192)
    (ltb limits.send_buffer_size (min server.receive_buffer_size limits.send_buffer_size))
    (ltb limits.receive_buffer_size (min server.send_buffer_size limits.receive_buffer_size))
    (le-ltb (min server.receive_buffer_size limits.send_buffer_size) 8192 (omega (arith, server.receives, limits.sends)))
    (le-ltb (min server.send_buffer_size limits.receive_buffer_size) 8192 (omega (arith, server.sends, limits.receives)))
    (le-ltb limits.send_buffer_size (min server.receive_buffer_size limits.send_buffer_size) (omega arith))
    (le-ltb limits.receive_buffer_size (min server.send_buffer_size limits.receive_buffer_size) (omega arith)))

-- ---- OPN

answer_fits : IsTrue (node_id.encodable (standard 449))
unfolding node_id
answer_fits = refl

response_read : (m : OpenResponse) → IsTrue (open_response.encodable m) → answer_read ((message 449 open_response).canonical m) ≡ Some (Open m)
response_read m fits =
    (answer_read-is ((message 449 open_response).canonical m) (Open m)).1
    (body_reads_back (message 449 open_response) (lawful_message 449 lawful_open_response) m
    (and_from (node_id.encodable (standard 449)) (open_response.encodable m) answer_fits fits)).0

module _ (channel number id handle token lifetime : ℕ) (moment : DateTime) (is : IsAnswered channel number id handle token lifetime moment) where
  abbrev response : OpenResponse
  response = open_response_of moment handle channel token lifetime

  abbrev pub answer : Opening
  answer =
      record {
        security = Some (none_header channel);
        numbers = Some (number, id);
        body = (message 449 open_response).canonical (open_response_of moment handle channel token lifetime);
      }

  opened_carried : content (opened_frame channel number id handle token lifetime moment) ≡ Opens answer
  opened_carried =
      content_opn (opened_frame channel number id handle token lifetime moment) refl
      ∙ ap Opens (opening_carried channel number id ((message 449 open_response).canonical (open_response_of moment handle channel token lifetime))
      is.channel_small (omega (arith, is.number_small)) is.id_small)

  pub answer_is : answer_in answer ≡ Some (Open response)
  unfolding answer_in
  answer_is = response_read (open_response_of moment handle channel token lifetime)
      (open_response_fits moment handle channel token lifetime is.moment_fits is.handle_small is.channel_small is.token_small is.lifetime_small)

  pub opened_size : frame_size (opened_frame channel number id handle token lifetime moment) ≡ 135
  opened_size = omega (
    arith,
    opening_size channel number id ((message 449 open_response).canonical (open_response_of moment handle channel token lifetime)),
    open_response_length moment handle channel token lifetime,
  )

  -- the first answer
  first_good : (limits : Limits) (a : Ack) (asked : List Asking) → id ≡ 1
      → first_reason (client_reasons limits (record nothing_received { ack = Some a }) asked (Opens answer)) ≡ None
  unfolding held_tokens
  first_good limits a asked one = rw (answer_is, no_responses, no_tokens, eq-eqb id 1 one) refl

  first_tells : (a : Ack) → client_tells (record nothing_received { ack = Some a }) (Opens answer) ≡ event.Opened channel token ∷ []
  first_tells a = rw (answer_is, no_responses) refl

-- an OPN is let in behind an ACK
opn_by : (a : Ack) (rs : List OpenResponse) (f : Frame) → f.kind ≡ kind.Opn → f.flag ≡ 70 → frame_size f ≤ a.send_buffer_size → 32 ≤ frame_size f
    → LetsIn (gate_agreed a.send_buffer_size rs) f
opn_by a [] f kind flag fits least = lets_opn (answer_gate a.send_buffer_size) f refl kind flag fits least
opn_by a (r ∷ rs) f kind flag fits least = lets_opn (reply_gate a.send_buffer_size) f refl kind flag fits least

module _ (limits : Limits) (octets : List ℕ) (told : List ClientTold) (a : Ack) (channel number handle token lifetime : ℕ) (moment : DateTime)
    (r : ClientAgrees limits octets told a) (is : IsAnswered channel number 1 handle token lifetime moment) where
  abbrev o : Opening
  o = answer channel number 1 handle token lifetime moment is

  abbrev f : Frame
  f = opened_frame channel number 1 handle token lifetime moment

  abbrev before : Received
  before = record nothing_received { ack = Some a }

  o_carried : content f ≡ Opens o
  o_carried = opened_carried channel number 1 handle token lifetime moment is

  o_answers : answer_in o ≡ Some (Open (open_response_of moment handle channel token lifetime))
  o_answers = answer_is channel number 1 handle token lifetime moment is

  o_numbers : o.numbers ≡ Some (number, 1)
  o_numbers = refl

  now : received (r.frames ++ f ∷ []) ≡ after before (Opens o)
  now = received-push r.frames f ∙ (rw r.received_is (ap (after (record nothing_received { ack = Some a })) o_carried))

  one_response : open_responses (o ∷ []) ≡ open_response_of moment handle channel token lifetime ∷ []
  one_response = responses-push [] o (open_response_of moment handle channel token lifetime) o_answers
      ∙ rw no_responses

  one_token : held_tokens (after before (Opens o)) ≡ token ∷ []
  unfolding held_tokens
  one_token = ap tokens_of one_response
      ∙ (tokens_of-push [] (open_response_of moment handle channel token lifetime) ∙ rw no_tokens)

  f_size : frame_size f ≡ 135
  f_size = opened_size channel number 1 handle token lifetime moment is

  f_in : LetsIn ((client_rules limits []).gate r.frames) f
  f_in =
      rw (ap client_gate r.received_is) (opn_by a (open_responses []) f refl refl (omega (arith, f_size, r.large)) (omega (arith, f_size)))

  pub reads_opened : ClientReads limits [] (octets ++ frame_octets (opened_frame channel number 1 handle token lifetime moment))
      (told ++ event.Opened channel token ∷ [])
      (record { ack = a; channel = channel; tokens = token ∷ []; newest = token; pending = []; renewals = []; next = next_number number })
  reads_opened =
      reads_at (r.frames ++ f ∷ [])
      (run_one (client_rules limits []) octets r.frames f r.run (record {
        goes_on = refl;
        sized = omega (arith, f_size);
        let_in = f_in;
        accepted =
            rw r.received_is
            (ap (λ (k : Content). first_reason (client_reasons limits (record nothing_received { ack = Some a }) (asked_before (end_of r.frames f) []) k))
            o_carried
            ∙ first_good channel number 1 handle token lifetime moment is limits a (asked_before (end_of r.frames f) []) refl);
      }) refl) tt
      (events-push (client_rules limits []) r.frames f
      ∙ (ap (λ (ts : List ClientTold). ts ++ client_tells (received r.frames) (content f)) r.told_is
      ∙ ap (λ (ts : List ClientTold). told ++ ts)
      (rw r.received_is (ap (client_tells (record nothing_received { ack = Some a })) o_carried
      ∙ first_tells channel number 1 handle token lifetime moment is a))))
      (rw (now, one_response, one_token, no_asks, nothing_pending [], nothing_renewed (opened_ids (o ∷ []))) refl) none_below
      (rw now (ap (λ (n : Option (ℕ × ℕ)). may_follow (number_or None n) (next_number number)) o_numbers ∙ follows_next number))
      (next_small number is.number_small) (ap (λ (b : Received). open_ids b.messages) now)

-- ---- asks

module _ (limits : Limits) (asks : List Placed) (octets : List ℕ) (told : List ClientTold) (at : AtClient) (ask : Asking)
    (r : ClientReads limits asks octets told at) (id_is : id_of ask ≡ next_id (asked_in asks)) where
  abbrev more : List Placed
  more = asks ++ (length octets, ask) ∷ []

  run_asked : Run (client_rules limits more) octets r.frames [] Going
  run_asked = asked_later limits asks (length octets, ask) octets r.frames [] (omega arith) r.run

  -- an ask behind the octets, where these calls and renewals are then unanswered
  reads_asked : (pending waiting : List ℕ) → pending_calls (received r.frames).messages (asked_in asks ++ ask ∷ []) ≡ pending
      → pending_renewals (opened_ids (received r.frames).openings) (asked_in asks ++ ask ∷ []) ≡ waiting
      → ClientReads limits (asks ++ (length octets, ask) ∷ []) octets told (record at { pending = pending; renewals = waiting })
  reads_asked pending waiting calls_are answers_are =
      let more_asked = asked_in-push asks (length octets, ask) in
      let next : next_id (asked_in (asks ++ (length octets, ask) ∷ [])) ≡ next_id (asked_in asks) + 1 =
      omega (arith, next-append asks ((length octets, ask) ∷ [])) in
      reads_at r.frames run_asked (all-push (λ (p : Placed). p.0 ≤ length octets) asks (length octets, ask) r.placed (omega arith)) r.told_is
      (rw (r.tokens_are, r.newest_is, more_asked, calls_are, answers_are, r.channel_is, r.ack_is) refl)
      (rw (next, more_asked)
      (all-push (λ (x : Asking). id_of x < next_id (asked_in asks) + 1) (asked_in asks) ask
      (all-weaken (λ (x : Asking). id_of x < next_id (asked_in asks)) (λ (x : Asking). id_of x < next_id (asked_in asks) + 1) (asked_in asks)
      (λ x less. omega (arith, less)) r.asked_below) (omega (arith, id_is)))) r.follows r.next_small r.none_open

-- a call
pub reads_call : (limits : Limits) (asks : List Placed) (octets : List ℕ) (told : List ClientTold) (at : AtClient) → ClientReads limits asks octets told at
    → ClientReads limits (asks ++ (length octets, Call (next_id (asked_in asks))) ∷ []) octets told (with_call at (next_id (asked_in asks)))
reads_call limits asks octets told at r =
    let id = next_id (asked_in asks) in
    reads_asked limits asks octets told at (Call id) r refl (at.pending ++ id ∷ []) at.renewals
    (pending_calls-call (received r.frames).messages (asked_in asks) id r.sent_below ∙ rw r.pending_are)
    (pending_renewals-call (opened_ids (received r.frames).openings) (asked_in asks) id ∙ r.renewals_are)

-- a renewal
pub reads_renewal : (limits : Limits) (asks : List Placed) (octets : List ℕ) (told : List ClientTold) (at : AtClient) → ClientReads limits asks octets told at
    → ClientReads limits (asks ++ (length octets, Renewal (next_id (asked_in asks))) ∷ []) octets told (with_renewal at (next_id (asked_in asks)))
reads_renewal limits asks octets told at r =
    let id = next_id (asked_in asks) in
    reads_asked limits asks octets told at (Renewal id) r refl at.pending (at.renewals ++ id ∷ [])
    (pending_calls-renewal (received r.frames).messages (asked_in asks) id ∙ r.pending_are)
    (pending_renewals-renewal (opened_ids (received r.frames).openings) (asked_in asks) id r.opened_below
    ∙ rw r.renewals_are)

-- ---- replies

no_later : (calls (asked_in []) ≡ []) × (renewals (asked_in []) ≡ [])
unfolding calls renewals asked_in
no_later = (refl, refl)

all_stay : (ids : List ℕ) → filter (λ (i : ℕ). not (is_in i [])) ids ≡ ids
all_stay [] = refl
all_stay (id ∷ ids) = rw (all_stay ids)

in_front : (id : ℕ) (xs ys : List ℕ) → is_in id xs ≡ true → is_in id (xs ++ ys) ≡ true
in_front id xs ys e = list_any-append (λ (n : ℕ). eqb n id) xs ys ∙ or_left (is_in id xs) (is_in id ys) e

abort_length : (code : StatusCode) → length (abort_body.canonical (code, None)) ≡ 8
unfolding abort_body status_code text counted
abort_length code = omega (
  arith,
  length-append (number_octets 4 code.code) (number_octets 4 0xFFFF_FFFF),
  length-number_octets 4 code.code,
  length-number_octets 4 0xFFFF_FFFF,
)

told_sent : (size : ℕ) (lane : Lane) (id : ℕ) (ms : List Sent) (cs : List Chunk) → AreSentIn size lane id cs
    → told_merged_back ms (map frame_of cs) ≡ map told_item (outcomes ms cs)
told_sent size lane id ms [] s = refl
told_sent size lane id ms (c ∷ cs) s =
    rw (chunk_carried c s.0.numbers) (rw (told_sent size lane id ms cs s.1) (sym (map-append told_item (ended_by ms c) (outcomes ms cs))))

module _ (limits : Limits) (asks : List Placed) (octets : List ℕ) (told : List ClientTold) (at : AtClient) (r : ClientReads limits asks octets told at) where
  -- frames of a merge, where the client asks nothing on and these tokens, calls and renewals are left
  reads_frames : (ms : List Sent) (fs : List Frame) (next newest : ℕ) (tokens pending waiting : List ℕ) → ClientMerge limits at (asked_in asks) [] ms fs next
      → held_by (latest (used_tokens fs)) (at.tokens ++ tokens_of (open_responses (openings fs))) ≡ tokens
      → latest_or at.newest (tokens_of (open_responses (openings fs))) ≡ newest
      → filter (λ (i : ℕ). not (is_finished (messages fs) i)) at.pending ≡ pending → filter (λ (i : ℕ). not (is_in i (opened_ids (openings fs)))) at.renewals
      ≡ waiting
      → ClientReads limits asks (octets ++ frames_octets fs) (told ++ told_merged_back ms fs)
      (record at { tokens = tokens; newest = newest; pending = pending; renewals = waiting; next = next })
  reads_frames ms fs next newest tokens pending waiting m held last calls_are answers_are =
      let left : filter (λ (i : ℕ). not (is_finished (messages fs) i)) (at.pending ++ calls (asked_in [])) ≡ pending = rw (no_later.0, append-nil) calls_are in
      let waits : filter (λ (i : ℕ). not (is_in i (opened_ids (openings fs)))) (at.renewals ++ renewals (asked_in [])) ≡ waiting =
      rw (no_later.1, append-nil) answers_are in
      rw (← held, ← last, ← left, ← waits)
      (rw (← append-nil asks) (reads_merged limits asks [] octets told at at.next ms fs next r (record { frames = r.frames; run = r.run; follows = r.follows })
      m))

module _ (limits : Limits) (asks : List Placed) (octets : List ℕ) (told : List ClientTold) (at : AtClient) (lane : Lane) (id : ℕ)
    (r : ClientReads limits asks octets told at) (back : IsLaneBack limits at lane)
    (awaited : is_in id at.pending ≡ true) (few : id < 2 ^ 32) where
  abbrev size : ℕ
  size = at.ack.send_buffer_size

  -- where these frames were read, the token is held
  abbrev IsHeld : List ℕ → List Opening → Type 0
  IsHeld ts os = is_in lane.token (held_by (latest ts) (at.tokens ++ tokens_of (open_responses os))) ≡ true

  held_on : (ts : List ℕ) (os : List Opening) (token : ℕ) → token ≡ lane.token → IsHeld ts os → IsHeld (ts ++ token ∷ []) os
  held_on ts os token is held =
      let tokens : List ℕ = at.tokens ++ tokens_of (open_responses os) in
      rw (latest-push ts token) (ap (is_in lane.token) (held_by-used (latest ts) token tokens (rw is held))
      ∙ (rw is (stays_in lane.token (held_by (latest ts) tokens) held)))

  carries_from : (us : List Frame) (cs : List Chunk) → AreSentIn size lane id cs → IsHeld (used_tokens us) (openings us)
      → AllFrom (λ vs f. MayComeDown (with_merged_back at (asked_before (end_of vs f) []) vs at.next) (at.pending ++ calls (asked_before (end_of vs f) []))
      (content f)) us (map frame_of cs)
  carries_from us [] s held = tt
  carries_from us (c ∷ cs) s held =
      let f : Frame = frame_of c in
      let tokens : used_tokens (us ++ f ∷ []) ≡ used_tokens us ++ c.token ∷ [] = tokens-more us f
      ∙ rw (chunk_carried c s.0.numbers) in
      let opens : openings (us ++ f ∷ []) ≡ openings us = openings-more us f
      ∙ (rw (chunk_carried c s.0.numbers) (append-nil (openings us))) in (
        rw (chunk_carried c s.0.numbers) (record {
          on = ap not (eq-eqb c.channel at.channel (s.0.channel_is ∙ back.on));
          held = rw s.0.token_is held;
          awaited =
              ap (λ (i : ℕ). is_in i (at.pending ++ calls (asked_before (end_of us f) []))) s.0.request_is
              ∙ in_front id at.pending (calls (asked_before (end_of us f) [])) awaited;
        }),
        carries_from (us ++ f ∷ []) cs s.1 (rw (tokens, opens) (held_on (used_tokens us) (openings us) c.token s.0.token_is held)),
      )

  -- chunks of a message alone, which is delivered so, behind which this comes next
  reads_sent : (c : Chunk) (cs : List Chunk) (next : ℕ) (m : Sent) (items : List Item) → AreSentIn size lane id (c ∷ cs) → AreMerged limits (m ∷ []) (c ∷ cs)
      → NumbersGoOn at.next (map (λ (d : Chunk). d.sequence) (c ∷ cs)) next → ((i : ℕ) → is_finished (c ∷ cs) i ≡ eqb i id) → delivered (c ∷ cs) ≡ items
      → ClientReads limits asks (octets ++ chunks_octets (c ∷ cs)) (told ++ map told_item items) (with_reply at lane.token id next)
  reads_sent c cs next m items sent merged goes finished delivers =
      let fs : List Frame = map frame_of (c ∷ cs) in
      let none : openings fs ≡ [] = frames_openings size lane id (c ∷ cs) sent in
      let no_more : tokens_of (open_responses (openings fs)) ≡ [] = rw none nothing_opened in
      rw (← told_sent size lane id (m ∷ []) (c ∷ cs) sent ∙ ap (map told_item) (sym (comes limits (m ∷ []) (c ∷ cs) merged).all ∙ delivers))
      (reads_frames limits asks octets told at r (m ∷ []) fs next at.newest (from_last lane.token at.tokens) (without_id id at.pending) at.renewals
      (record {
        counted = ap (map id_of) no_asks;
        placed = tt;
        framed = frames_framed size lane id (c ∷ cs) r.sized sent;
        fits = frames_fit size lane id (c ∷ cs) sent;
        carries =
            carries_from [] (c ∷ cs) sent
            (nothing_yet (λ ts os us. IsHeld ts os) (rw nothing_opened (ap (is_in lane.token) (append-nil at.tokens) ∙ back.held)));
        numbered = rw (frames_numbers size lane id (c ∷ cs) sent) goes;
        merged = rw (frames_messages size lane id (c ∷ cs) sent) merged;
      })
      (rw (frames_tokens size lane id (c ∷ cs) sent)
      (rw (latest_token lane.token None c cs) (ap (from_last lane.token) (rw no_more (append-nil at.tokens)))))
      (ap (latest_or at.newest) no_more)
      (rw (frames_messages size lane id (c ∷ cs) sent) (filter_same (λ (i : ℕ). not (is_finished (c ∷ cs) i)) (λ (i : ℕ). not (eqb i id)) at.pending
      (λ i. ap not (finished i))))
      (rw (ap opened_ids none ∙ no_ids) (all_stay at.renewals)))

  -- a reply
  reads_reply : (body : List ℕ) → IsBodyFor limits lane.room body
      → ClientReads limits asks (octets ++ chunks_octets (chunks_of lane body at.next id)) (told ++ event.Answered id body ∷ [])
      (with_reply at lane.token id (number_after at.next (pieces lane.room body)))
  reads_reply body w =
      let ps = some_pieces lane.room body w.some in
      let alone = cut_alone limits lane body at.next id back.some w in
      let sent : AreSentIn size lane id (chunks_of lane body at.next id) =
      all-weaken (IsOf lane id) (IsSentIn size lane id) (chunks_of lane body at.next id) (sent_in size lane id back.on_small back.token_small few back.fits)
      (chunks_are lane body at.next id r.next_small back.some w.some) in
      rw ps.are (reads_sent (chunk_of lane (flag_before ps.others) at.next id ps.first) (numbered lane (next_number at.next) id ps.others)
      (number_after at.next (ps.first ∷ ps.others)) alone.message (Whole id body ∷ [])
      (subst (λ (t : List (List ℕ)). AreSentIn size lane id (numbered lane at.next id t)) ps.are sent)
      (subst (λ (t : List (List ℕ)). AreMerged limits (alone.message ∷ []) (numbered lane at.next id t)) ps.are alone.merged)
      (cut_goes lane at.next id ps.first ps.others r.next_small) (λ i. cut_finished lane at.next id i ps.first ps.others)
      (ap (λ (t : List (List ℕ)). delivered (numbered lane at.next id t)) (sym ps.are) ∙ cut_delivered lane body at.next id back.some w.some))

  -- a reply that is given up
  reads_abort : (code : StatusCode) → code.code < 2 ^ 32
      → ClientReads limits asks (octets ++ frame_octets (frame_of (abort_chunk lane at.next id code))) (told ++ event.GaveUp id code ∷ [])
      (with_reply at lane.token id (next_number at.next))
  reads_abort code small =
      let c : Chunk = abort_chunk lane at.next id code in
      let body : List ℕ = abort_body.canonical (code, None) in
      let sent : Sent = record { request = id; pieces = []; end = A; last = body } in
      rw (← one_octets (frame_of c)) (reads_sent c [] (next_number at.next) sent (Aborted id code None ∷ []) (
        record {
          numbers = record { channel = back.on_small; token = back.token_small; sequence = omega (arith, r.next_small); request = few };
          channel_is = refl;
          token_is = refl;
          request_is = refl;
          fits = omega (arith, abort_length code, r.large);
        },
        tt,
      )
      (record {
        own_ids = (refl, tt);
        within =
            all_under (IsMessageWithin limits.max_message_size limits.max_chunk_count) (sent ∷ []) (
              record {
                ending = refl;
                readable = λ f. ap is_some (abort_written code small);
                octets_fit = none_within limits.max_message_size;
                chunks_fit = none_within limits.max_chunk_count;
              },
              tt,
            );
        merged = one_merge sent (map part_of (c ∷ [])) refl;
        few_open = (omega arith, tt);
      })
      (refl, tt, follows_next at.next, next_small at.next r.next_small) (λ i. ends_own id i)
      (delivered_from (c ∷ []) ∙ rw (abort_written code small)))

  -- ---- a reply, or its abort

  cut_octets : (body : List ℕ) → cut_refusal lane body ≡ None → passes lane.octets (length body) ≡ false
  cut_octets body e = first_unset TooManyOctets (passes lane.octets (length body)) ((TooManyChunks, passes lane.chunks (length (pieces lane.room body))) ∷ []) e

  cut_chunks : (body : List ℕ) → cut_refusal lane body ≡ None → passes lane.chunks (length (pieces lane.room body)) ≡ false
  cut_chunks body e = first_unset TooManyChunks (passes lane.chunks (length (pieces lane.room body))) []
      (first_tail TooManyOctets (passes lane.octets (length body)) ((TooManyChunks, passes lane.chunks (length (pieces lane.room body))) ∷ []) e)

  replied_so : (body : List ℕ) (o : Option CutFault) → 0 < length body → cut_refusal lane body ≡ o
      → ClientReads limits asks (octets ++ (replied_by o lane body at.next id).0) (told ++ told_reply o id body ∷ [])
      (with_reply at lane.token id (replied_by o lane body at.next id).1)
  replied_so body None some e =
      reads_reply body (record {
        some = some;
        octets_fit = back.octets (length body) (cut_octets body e);
        chunks_fit = rw (sym back.chunks) (cut_chunks body e);
      })
  replied_so body (Some fault) some e = reads_abort (of_code 0x80B9_0000) (omega arith)

  pub reads_replied : (body : List ℕ) → 0 < length body
      → ClientReads limits asks (octets ++ (replied lane body at.next id).0) (told ++ told_reply (cut_refusal lane body) id body ∷ [])
      (with_reply at lane.token id (replied lane body at.next id).1)
  reads_replied body some = replied_so body (cut_refusal lane body) some refl

-- ---- the answer to a renewal

one_in : (id : ℕ) (ids : List ℕ) → ids ≡ id ∷ [] → is_in id ids ≡ true
one_in id ids one = ap (is_in id) one ∙ rw (eq-eqb id id refl)

module _ (limits : Limits) (asks : List Placed) (octets : List ℕ) (told : List ClientTold) (at : AtClient) (id handle token lifetime : ℕ) (moment : DateTime)
    (r : ClientReads limits asks octets told at)
    (is : IsAnswered at.channel at.next id handle token lifetime moment) (one : at.renewals ≡ id ∷ []) (fresh : is_in token at.tokens ≡ false) where
  abbrev p : Opening
  p = answer at.channel at.next id handle token lifetime moment is

  abbrev g : Frame
  g = opened_frame at.channel at.next id handle token lifetime moment

  p_carried : content g ≡ Opens p
  p_carried = opened_carried at.channel at.next id handle token lifetime moment is

  p_answers : answer_in p ≡ Some (Open (open_response_of moment handle at.channel token lifetime))
  p_answers = answer_is at.channel at.next id handle token lifetime moment is

  p_numbers : p.numbers ≡ Some (at.next, id)
  p_numbers = refl

  -- what its frame brings
  brings : (openings (g ∷ []) ≡ p ∷ []) × (messages (g ∷ []) ≡ []) × (used_tokens (g ∷ []) ≡ []) × (numbers (g ∷ []) ≡ at.next ∷ [])
  unfolding openings messages used_tokens numbers
  brings = (
    rw p_carried,
    rw p_carried,
    rw p_carried,
    ap (λ (k : Content). numbers_in k ++ []) p_carried ∙ ap (λ (n : Option (ℕ × ℕ)). number_listed n ++ []) p_numbers,
  )

  p_tokens : tokens_of (open_responses (openings (g ∷ []))) ≡ token ∷ []
  p_tokens =
      rw brings.0 (ap tokens_of (responses-push [] p (open_response_of moment handle at.channel token lifetime) p_answers
      ∙ rw no_responses)
      ∙ (tokens_of-push [] (open_response_of moment handle at.channel token lifetime) ∙ rw no_tokens))

  p_ids : opened_ids (openings (g ∷ [])) ≡ id ∷ []
  p_ids = ap opened_ids brings.0 ∙ (opened_ids-push [] p (at.next, id) p_numbers ∙ rw no_ids)

  g_size : frame_size g ≡ 135
  g_size = opened_size at.channel at.next id handle token lifetime moment is

  good : IsGoodResponse (Some at.channel) at.tokens (λ (i : ℕ). is_in i at.renewals) p
  good = record {
    header = none_header at.channel;
    security_is = refl;
    policy = none_is;
    response = open_response_of moment handle at.channel token lifetime;
    answer_is = p_answers;
    good = refl;
    on = ap not (eq-eqb at.channel at.channel refl);
    fresh = fresh;
    numbered = (at.next, id);
    numbers_are = refl;
    awaited = one_in id at.renewals one;
  }

  -- and where it comes
  comes_here : (new : List Asking) → IsGoodResponse (Some at.channel) (with_merged_back at new [] at.next).tokens
      (λ (i : ℕ). is_in i (with_merged_back at new [] at.next).renewals) p
  comes_here new =
      response_as (Some at.channel) (Some at.channel) at.tokens (with_merged_back at new [] at.next).tokens (λ (i : ℕ). is_in i at.renewals)
      (λ (i : ℕ). is_in i (with_merged_back at new [] at.next).renewals) p refl
      (nothing_yet (λ ts os us. at.tokens ≡ held_by (latest ts) (at.tokens ++ tokens_of (open_responses os))) (sym (append-nil at.tokens)
      ∙ rw (sym nothing_opened)))
      (λ i e.
      nothing_yet (λ ts os us. is_in i (filter (λ (j : ℕ). not (is_in j (opened_ids os))) (at.renewals ++ renewals new)) ≡ true)
      (rw no_ids (ap (is_in i) (all_stay (at.renewals ++ renewals new)) ∙ in_front i at.renewals (renewals new) e))) good

  pub reads_renewed : ClientReads limits asks (octets ++ frame_octets (opened_frame at.channel at.next id handle token lifetime moment))
      (told ++ event.Renewed token ∷ []) (with_answer at token (next_number at.next))
  reads_renewed =
      rw (
        ← one_octets g,
        ← ap (λ (k : Content). told_back [] k ++ []) p_carried
            ∙ ap (λ (a : Option OpenAnswer). map told_renewed (response_listed a) ++ []) p_answers,
      )
      (reads_frames limits asks octets told at r [] (g ∷ []) (next_number at.next) token (at.tokens ++ token ∷ []) at.pending []
      (record {
        counted = ap (map id_of) no_asks;
        placed = tt;
        framed = (record { sized = omega (arith, g_size); flag = refl; least = omega (arith, g_size) }, tt);
        fits = (omega (arith, g_size, r.large), tt);
        carries = (
          rw p_carried (comes_here (asked_before (end_of [] g) [])),
          tt,
        );
        numbered = rw brings.3 (refl, tt, follows_next at.next, next_small at.next r.next_small);
        merged = rw brings.1 (record { own_ids = tt; within = λ i m e. absurd cc; merged = refl; few_open = tt });
      })
      (ap (λ (ts : List ℕ). held_by (latest ts) (at.tokens ++ tokens_of (open_responses (openings (g ∷ []))))) brings.2
      ∙ ap (λ (t : List ℕ). at.tokens ++ t) p_tokens)
      (ap (latest_or at.newest) p_tokens) (ap (λ (us : List Chunk). filter (λ (i : ℕ). not (is_finished us i)) at.pending) brings.1 ∙ all_stay at.pending)
      (rw p_ids (ap (filter (λ (i : ℕ). not (is_in i (id ∷ [])))) one ∙ ap (λ (b : Bool). if not b then id ∷ [] else []) (one_in id (id ∷ []) refl))))
